use Rattle.std.proofs.Common.{sym, ap, ◌∙◌}
use Rattle.yarn_blocks.specs.Reading.{read}
use Rattle.yarn_blocks.specs.Building.{read_behind}
use Rattle.yarn_blocks.specs.View.{stmts_of}
use Rattle.yarn_blocks.proofs.BodyLineLemmas.{lines_read}
use Rattle.yarn_blocks.proofs.body_lines.BodyLines.into_parts.Goals as goal

pub returns : goal.returns
returns c =
    ap read (sym c.self.view_is)
    ∙ lines_read c.self.inside.stmts.items c.self.inside.spots.items c.self.inside.rest.items c.self.invariant
    ∙ ap (λ l. read_behind (stmts_of l) c.self.inside.rest.items) (sym c.from_vec.ensures)
