use Rattle.std.proofs.Common.{◌≡◌, sym, ap, ◌∙◌, subst, length}
use mathlib.Core.Path.{ap₂}
use Rattle.std.specs.Prelude.{IfOk}
use Rattle.yarn_blocks.specs.declared.verdict.Verdict.{Verdict}
use Rattle.yarn_blocks.specs.Entries.{marks_of}
use Rattle.yarn_blocks.specs.Outline.{verdict_behind, verdict_in}
use Rattle.yarn_blocks.proofs.BodyLineLemmas.{lines_judged}
use Rattle.yarn_blocks.proofs.body_lines.BodyLines.verdict.Goals as goal

pub returns : goal.returns
returns c =
    let same : verdict_behind (length c.as_slice-2.result.now) c.as_slice-3.result.now ≡ verdict_in (marks_of c.args.self.now) =
    ap₂ verdict_behind (ap length c.as_slice-2.ensures.value) (c.as_slice-3.ensures ∙ c.in_ok-marks.ensures ∙ ap marks_of c.as_slice.ensures.value)
    ∙ sym (lines_judged c.self.inside.stmts.items c.self.inside.spots.items c.self.inside.rest.items c.self.invariant)
    ∙ ap (λ l. verdict_in (marks_of l)) c.self.view_is in
    subst (λ (w : Verdict). IfOk c.judged_behind.result (λ verdict. verdict ≡ w)) same c.judged_behind.ensures
