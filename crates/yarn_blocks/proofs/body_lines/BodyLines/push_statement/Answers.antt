use Rattle.std.proofs.Common.{◌≡◌, [], false, arith}
use Rattle.std.proofs.lemmas.Grind.{common_steps}
use Rattle.yarn_blocks.specs.declared.body_line.Spot.{Spot}
use Rattle.yarn_blocks.proofs.BodyLineLemmas.{line_more, lines_more}
use Rattle.yarn_blocks.proofs.body_lines.BodyLines.push_statement.Goals as goal

pub returns : goal.returns
returns c =
    let none : c.self.inside.rest.items ≡ [] = grind (arith, common_steps) in
    let spot : Spot = record { line = c.args.line; indent = c.args.indent; is_bare = false } in
    line_more c.self.inside.stmts.items c.put.new.stmts.items c.self.inside.spots.items c.put.new.spots.items c.leaf.result spot c.args.statement c.self.inside.rest.items c.args.self.now
    c.self.invariant none c.in_ok-put.ensures.stmts c.in_ok-put.ensures.spots c.leaf.ensures.same c.self.view_is

pub invariant_of-self-2 : goal.invariant_of-self-2
invariant_of-self-2 c =
    let spot : Spot = record { line = c.args.line; indent = c.args.indent; is_bare = false } in
    rw (c.in_ok-put.ensures.stmts, c.in_ok-put.ensures.spots)
    (lines_more c.self.inside.stmts.items c.self.inside.spots.items c.leaf.result spot c.self.invariant c.leaf.ensures.one_line (λ e. absurd cc))
