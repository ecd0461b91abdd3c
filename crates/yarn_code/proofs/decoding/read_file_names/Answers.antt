use Rattle.std.proofs.Common.{◌≡◌, ◌++◌, ◌∷◌, []}
use Rattle.std.proofs.lemmas.Result.{err_from_is_err_and}
use Rattle.yarn_code.specs.Format.{times}
use Rattle.yarn_code.specs.FormatReading.{read}
use Rattle.yarn_code.specs.Layout.{file_name}
use Rattle.yarn_code.proofs.ReadLoops.{ends, goes_on, text_read, text_stops}
use Rattle.yarn_code.proofs.decoding.read_file_names.Goals as goal

pub returns-in_err-name : goal.returns-in_err-name
returns-in_err-name c =
    let p = err_from_is_err_and c.from_residual.result c.from_residual.ensures.1 in
    let stop = c.in_err-name.field-0.0 in
    rw (p.1, p.2) (ends file_name c.loop.files.items c.args.count c.loop.counter c.loop.rest.now stop (read (times c.args.count file_name []) c.args.bytes.now) c.loop-test.true (text_stops c.loop.rest.now stop c.in_err-name.ensures) c.loop.invariant)

pub loop-preserved : goal.loop-preserved
loop-preserved c =
    let one = c.in_ok-name.name in
    let more : c.push.new.self.items ≡ c.loop.files.items ++ one ∷ [] = c.in_ok-push.ensures.items in
    rw more (goes_on file_name c.loop.files.items c.args.count c.loop.counter c.loop.rest.now one c.in_ok-name.after.now (read (times c.args.count file_name []) c.args.bytes.now) c.loop-test.true (text_read c.loop.rest.now c.in_ok-name.name c.in_ok-name.after.now c.in_ok-name.ensures) c.loop.invariant)
