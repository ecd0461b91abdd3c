use Rattle.std.proofs.Common.{slice_get, subst, sym, ◌∙◌}
use Rattle.std.proofs.lemmas.Result.{err_from_is_err_and}
use Rattle.yarn_code.specs.Decoding.{Stopped}
use Rattle.yarn_code.specs.Layout.{operands_at}
use Rattle.yarn_code.specs.Opcodes.{opcodes}
use Rattle.yarn_code.proofs.BeginLemmas.{coded_begins, behind_operands}
use Rattle.yarn_code.proofs.ReadLoops.{then_ok, then_stops}
use Rattle.yarn_code.proofs.decoded_code.read_coded.Goals as goal

pub returns-in_err-instr : goal.returns-in_err-instr
returns-in_err-instr c =
    let stop = c.in_err-instr.field-0.0 in
    let p = err_from_is_err_and c.from_residual-in_err-instr.result c.from_residual-in_err-instr.ensures.1 in
    rw (p.1, p.2) (subst (Stopped stop) (sym (coded_begins c.args.bytes.now c.in_ok-number.number c.in_ok-number.rest.now c.in_ok-line.line c.in_ok-line.rest.now c.in_ok-number.ensures.value c.in_ok-line.ensures))
    (then_stops (operands_at (slice_get opcodes c.in_ok-number.number)) (behind_operands c.in_ok-line.line) c.in_ok-line.rest.now stop c.in_err-instr.ensures))

pub returns : goal.returns
returns c =
    coded_begins c.args.bytes.now c.in_ok-number.number c.in_ok-number.rest.now c.in_ok-line.line c.in_ok-line.rest.now c.in_ok-number.ensures.value c.in_ok-line.ensures
    ∙ then_ok (operands_at (slice_get opcodes c.in_ok-number.number)) (behind_operands c.in_ok-line.line) c.in_ok-line.rest.now c.in_ok-instr.instr c.in_ok-instr.rest.now c.in_ok-instr.ensures
