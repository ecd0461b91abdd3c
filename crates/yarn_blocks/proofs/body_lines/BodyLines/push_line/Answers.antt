use Rattle.std.proofs.Common.{◌≡◌, [], refl, arith}
use Rattle.std.proofs.lemmas.Grind.{common_steps}
use Rattle.yarn_blocks.specs.declared.body_line.Spot.{Spot}
use Rattle.yarn_blocks.specs.declared.entry.Simple.TheVariants as simple
use Rattle.yarn_blocks.specs.declared.tree.Stmt.{Line}
use Rattle.yarn_blocks.proofs.BodyLineLemmas.{line_more, lines_more}
use Rattle.yarn_blocks.proofs.body_lines.BodyLines.push_line.Goals as goal

pub returns : goal.returns
returns c =
    let none : c.self.inside.rest.items ≡ [] = grind (arith, common_steps) in
    let spot : Spot = record { line = c.args.line; indent = c.args.indent; is_bare = c.is_bare_text.result } in
    line_more c.self.inside.stmts.items c.put.new.stmts.items c.self.inside.spots.items c.put.new.spots.items (Line c.args.text) spot (simple.Line c.args.text) c.self.inside.rest.items c.args.self.now
    c.self.invariant none c.in_ok-put.ensures.stmts c.in_ok-put.ensures.spots refl c.self.view_is

pub invariant_of-self-2 : goal.invariant_of-self-2
invariant_of-self-2 c =
    let spot : Spot = record { line = c.args.line; indent = c.args.indent; is_bare = c.is_bare_text.result } in
    rw (c.in_ok-put.ensures.stmts, c.in_ok-put.ensures.spots)
    (lines_more c.self.inside.stmts.items c.self.inside.spots.items (Line c.args.text) spot c.self.invariant refl c.is_bare_text.ensures)
