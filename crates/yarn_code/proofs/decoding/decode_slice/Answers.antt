use Rattle.std.proofs.Common.{arith, true, false, ◌≡◌, sym, ◌∙◌}
use Rattle.yarn_code.proofs.DecodedLemmas.{newer_told, program_told, left_told}
use Rattle.yarn_code.proofs.SpelledLemmas.{spelled_holds}
use Rattle.yarn_code.proofs.decoding.decode_slice.Goals as goal

pub returns-then-is_newer-clause-value : goal.returns-then-is_newer-clause-value
returns-then-is_newer-clause-value c = newer_told c.args.bytes.now (c.is_newer.ensures.0 c.if-is_newer.true)

pub returns-in-Ok-clause-value : goal.returns-in-Ok-clause-value
returns-in-Ok-clause-value c = program_told c.args.bytes.now (λ i. omega (arith, c.type_inv.bytes i)) c.in-Ok.program c.in-Ok.ensures

pub returns-in-Err-Left-clause-value : goal.returns-in-Err-Left-clause-value
returns-in-Err-Left-clause-value c =
    left_told c.args.bytes.now (λ i. omega (arith, c.type_inv.bytes i)) c.in-Err-Left.left
    (λ newer. let h : false ≡ true = sym c.if-is_newer.false ∙ c.is_newer.ensures.1 newer in cc) (rw c.in-Err-Left.field-0-is at c.in-Err-Left.ensures)

pub returns-in-Ok-clause-fields : goal.returns-in-Ok-clause-fields
returns-in-Ok-clause-fields c = (spelled_holds c.args.bytes.now c.in-Ok.program c.in-Ok.ensures).0

pub returns-in-Ok-clause-words : goal.returns-in-Ok-clause-words
returns-in-Ok-clause-words c = (spelled_holds c.args.bytes.now c.in-Ok.program c.in-Ok.ensures).1
