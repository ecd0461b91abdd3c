use Rattle.std.proofs.Common.{◌∙◌, sym}
use Rattle.yarn_blocks.specs.BodyLine.{entry_of}
use Rattle.yarn_tree.proofs.NotableLemmas.{own-here, own-later, own-nowhere}
use Rattle.yarn_tree.proofs.checks.has_own_in.Goals as goal

pub returns-then-is_named : goal.returns-then-is_named
returns-then-is_named c =
    own-here c.loop-found.left c.take_notable.new.self (entry_of c.in-Some.found) c.in-Some.ensures (sym c.is_named.ensures ∙ c.if-is_named.true)
    ∙ c.loop-found.invariant

pub loop-found-preserved : goal.loop-found-preserved
loop-found-preserved c =
    own-later c.loop-found.left c.take_notable.new.self (entry_of c.in-Some.found) c.in-Some.ensures (sym c.is_named.ensures ∙ c.if-is_named.false)
    ∙ c.loop-found.invariant

pub returns : goal.returns
returns c = own-nowhere c.loop-found.left c.in_default.ensures ∙ c.loop-found.invariant
