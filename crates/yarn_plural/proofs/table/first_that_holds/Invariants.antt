use Rattle.std.proofs.Common.{◌≡◌, drop}
use Rattle.yarn_plural.specs.Category.{first_category}
use Rattle.yarn_plural.proofs.table.first_that_holds.Given as goal

abbrev pub invariant-loop-rule : goal.invariant-loop-rule
invariant-loop-rule l = first_category l.absolute (drop l.rule-index l.rules) ≡ first_category l.absolute l.rules
