use Rattle.std.proofs.Common.{◌≡◌, [], map, take}
use Rattle.yarn_table.specs.Gathering.{held_for}
use Rattle.yarn_table.proofs.gathered.nothing_held.Given as goal

abbrev pub invariant-loop-line : goal.invariant-loop-line
invariant-loop-line l = l.held.items ≡ map (held_for []) (take l.line-index l.base)
