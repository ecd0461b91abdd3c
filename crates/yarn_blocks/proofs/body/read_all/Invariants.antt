use Rattle.std.proofs.Common.{◌≡◌}
use Rattle.std.specs.Prelude.{option_and_then}
use Rattle.std.specs.Vec.Iter.{into_iter_items}
use Rattle.yarn_blocks.specs.Reading.{go, finish}
use Rattle.yarn_blocks.specs.Building.{state_of, read_behind}
use Rattle.yarn_blocks.specs.View.{stmts_of}
use Rattle.yarn_blocks.proofs.body.read_all.Given as goal

abbrev pub invariant-loop-entry : goal.invariant-loop-entry
invariant-loop-entry l = option_and_then finish (go (state_of l.reading) (into_iter_items l.entry-iterator)) ≡ read_behind (stmts_of l.fn.stmts) l.fn.entries.items
