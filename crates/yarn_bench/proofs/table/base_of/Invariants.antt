use Rattle.std.proofs.Common.{◌≡◌, map}
use Rattle.yarn_table.specs.Tables.{AreDistinct}
use Rattle.yarn_bench.proofs.table.base_of.Given as goal

-- the rows so far have distinct ids, which are those that were put
abbrev pub invariant-loop-row : goal.invariant-loop-row
invariant-loop-row l = AreDistinct l.base × (l.ids.keys ≡ map (λ line. line.id) l.base)
