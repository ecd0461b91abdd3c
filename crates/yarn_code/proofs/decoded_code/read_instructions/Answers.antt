use Rattle.std.proofs.Common.{◌≡◌, ◌++◌, ◌∷◌, []}
use Rattle.std.proofs.lemmas.Result.{err_from_is_err_and}
use Rattle.yarn_code.specs.Format.{times}
use Rattle.yarn_code.specs.FormatReading.{read}
use Rattle.yarn_code.specs.Layout.{instructions}
use Rattle.yarn_code.proofs.ReadLoops.{ends, goes_on}
use Rattle.yarn_code.proofs.decoded_code.read_instructions.Goals as goal

pub returns-in_err-one : goal.returns-in_err-one
returns-in_err-one c =
    let p = err_from_is_err_and c.from_residual.result c.from_residual.ensures.1 in
    rw (p.1, p.2) (ends instructions c.loop.code.items c.args.count c.loop.counter c.loop.rest.now c.in_err-one.field-0.0 (read (times c.args.count instructions []) c.args.bytes.now) c.loop-test.true c.in_err-one.ensures c.loop.invariant)

pub loop-preserved : goal.loop-preserved
loop-preserved c =
    let one = c.in_ok-one.one in
    let more : c.push.new.self.items ≡ c.loop.code.items ++ one ∷ [] = c.in_ok-push.ensures.items in
    rw more (goes_on instructions c.loop.code.items c.args.count c.loop.counter c.loop.rest.now one c.in_ok-one.after.now (read (times c.args.count instructions []) c.args.bytes.now) c.loop-test.true c.in_ok-one.ensures c.loop.invariant)
