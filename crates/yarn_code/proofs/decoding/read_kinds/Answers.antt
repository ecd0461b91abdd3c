use Rattle.std.proofs.Common.{◌≡◌, ◌++◌, ◌∷◌, []}
use Rattle.std.proofs.lemmas.Result.{err_from_is_err_and}
use Rattle.yarn_code.specs.Format.{times}
use Rattle.yarn_code.specs.FormatReading.{read}
use Rattle.yarn_code.specs.Layout.{kinds}
use Rattle.yarn_code.proofs.ReadLoops.{ends, goes_on}
use Rattle.yarn_code.proofs.decoding.read_kinds.Goals as goal

pub returns-in_err-kind : goal.returns-in_err-kind
returns-in_err-kind c =
    let p = err_from_is_err_and c.from_residual.result c.from_residual.ensures.1 in
    rw (p.1, p.2) (ends kinds c.loop.all.items c.args.count c.loop.counter c.loop.rest.now c.in_err-kind.field-0.0 (read (times c.args.count kinds []) c.args.bytes.now) c.loop-test.true c.in_err-kind.ensures c.loop.invariant)

pub loop-preserved : goal.loop-preserved
loop-preserved c =
    let one = c.in_ok-kind.kind in
    let more : c.push.new.self.items ≡ c.loop.all.items ++ one ∷ [] = c.in_ok-push.ensures.items in
    rw more (goes_on kinds c.loop.all.items c.args.count c.loop.counter c.loop.rest.now one c.in_ok-kind.after.now (read (times c.args.count kinds []) c.args.bytes.now) c.loop-test.true c.in_ok-kind.ensures c.loop.invariant)
