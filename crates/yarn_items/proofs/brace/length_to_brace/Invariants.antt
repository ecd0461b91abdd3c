use Rattle.std.proofs.Common.{◌≡◌, take, drop}
use Rattle.yarn_items.specs.declared.brace.Place.TheVariants.{Outside}
use Rattle.yarn_items.specs.Brace.{to_brace}
use Rattle.yarn_items.proofs.BraceLemmas.{before}
use Rattle.yarn_items.proofs.brace.length_to_brace.Given as goal

abbrev pub invariant-loop-at : goal.invariant-loop-at
invariant-loop-at l = to_brace Outside l.bytes ≡ before (take l.at l.bytes) (to_brace l.place (drop l.at l.bytes))
