use Rattle.std.proofs.Common.{◌≡◌, map, take}
use Rattle.yarn_table.proofs.table.ids_of.Given as goal

abbrev pub invariant-loop-line : goal.invariant-loop-line
invariant-loop-line l = l.ids.keys ≡ map (λ line. line.id) (take l.line-index l.base)
