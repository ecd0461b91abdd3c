use Rattle.std.proofs.Common.{length, ap, arith}
use Rattle.std.proofs.lemmas.Grind.{common_steps}
use Rattle.std.proofs.lemmas.List.{nil_from_length}
use Rattle.std.proofs.lemmas.Result.{err_from_is_err_and}
use Rattle.yarn_code.proofs.DecodeLemmas.{whole_stops, whole_follows, whole_ends}
use Rattle.yarn_code.proofs.decoding.read_whole.Goals as goal

pub returns-in_err-program : goal.returns-in_err-program
returns-in_err-program c =
    let p = err_from_is_err_and c.from_residual.result c.from_residual.ensures.1 in
    rw (p.1, p.2) (whole_stops c.args.bytes.now c.in_err-program.field-0.0 (λ i. omega (arith, c.type_inv.bytes i)) c.in_err-program.ensures)

pub returns-then-not-is_empty : goal.returns-then-not-is_empty
returns-then-not-is_empty c =
    whole_follows c.args.bytes.now c.in_ok-program.program c.in_ok-program.rest.now (λ i. omega (arith, c.type_inv.bytes i)) (λ none. grind (arith, common_steps, ap length none)) c.in_ok-program.ensures

pub returns : goal.returns
returns c =
    whole_ends c.args.bytes.now c.in_ok-program.program c.in_ok-program.rest.now (λ i. omega (arith, c.type_inv.bytes i)) (nil_from_length c.in_ok-program.rest.now (grind (arith, common_steps))) c.in_ok-program.ensures
