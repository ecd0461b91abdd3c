use Rattle.std.proofs.Common.{◌∙◌, sym}
use Rattle.yarn_blocks.specs.BodyLine.{entry_of}
use Rattle.yarn_tree.proofs.NotableLemmas.{uses-more, uses-end}
use Rattle.yarn_tree.proofs.uses.Uses.add_body.Goals as goal

pub loop-found-preserved : goal.loop-found-preserved
loop-found-preserved c =
    uses-more c.args.file c.loop-found.self c.add_line.new.self c.loop-found.left c.take_notable.new.self (entry_of c.in-Some.found) c.in-Some.ensures
    c.in_ok-add_line.ensures
    ∙ c.loop-found.invariant

pub returns : goal.returns
returns c = uses-end c.args.file c.loop-found.self c.loop-found.left c.in_default.ensures ∙ c.loop-found.invariant
