use Rattle.std.proofs.Common.{◌≡◌, ◌+◌, drop}
use Rattle.yarn_items.specs.Heading.{length_to_colon}
use Rattle.yarn_items.proofs.heading.first_colon.Given as goal

abbrev pub invariant-loop-at : goal.invariant-loop-at
invariant-loop-at l = length_to_colon l.text ≡ l.at + length_to_colon (drop l.at l.text)
