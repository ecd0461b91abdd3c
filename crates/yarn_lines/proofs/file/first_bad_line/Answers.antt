use Rattle.std.proofs.Common.{◌≡◌, sym, ap, ◌∙◌, length}
use Rattle.std.proofs.lemmas.Bool.{eqb-true}
use Rattle.std.proofs.lemmas.List.{nil_from_length}
use Rattle.yarn_lines.specs.Lines.{pieces_of, first_from}
use Rattle.yarn_lines.specs.Fault.{is_bad}
use Rattle.yarn_lines.proofs.Utf8Lemmas.{first_bad-only}
use Rattle.yarn_lines.proofs.file.first_bad_line.Goals as goal

pub unreachable-requires : goal.unreachable-requires
unreachable-requires c =
    let rest = c.loop-rest.rest.now in
    let none : length rest ≡ 0 = eqb-true (length rest) 0 (sym c.is_empty.ensures ∙ c.loop-rest-test.false) in
    let over = ap (λ l. first_from is_bad c.loop-rest.number (pieces_of l)) (nil_from_length rest none) in
    c.requires.bad (first_bad-only c.args.bytes.now 1 (sym c.loop-rest.invariant.same ∙ over))
