use Rattle.std.proofs.Common.{sym, ap, ◌∙◌, ◌+◌, length}
use mathlib.Core.Path.{ap₂}
use Rattle.yarn_blocks.proofs.BodyLineLemmas.{lines_length}
use Rattle.yarn_blocks.proofs.body_lines.BodyLines.len.Goals as goal

pub returns : goal.returns
returns c =
    ap₂ (λ m n. m + n) (ap length c.as_slice.ensures.value) (ap length c.as_slice-2.ensures.value)
    ∙ sym (lines_length c.self.inside.stmts.items c.self.inside.spots.items c.self.inside.rest.items c.self.invariant.as_many)
    ∙ ap length c.self.view_is
