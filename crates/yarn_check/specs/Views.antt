-- What the checker's values stand for (docs/instructions.md, Shapes).
use Rattle.std.specs.Prelude.{ℕ, List, [], drop, map, reverse, Option, Some, None, Bool, true, false}
use Rattle.std.specs.Global.{Vec}
use Rattle.yarn_value.specs.declared.value.Kind.{Kind}
use Rattle.yarn_value.specs.declared.value.Kind.TheVariants as kind
use Rattle.yarn_check.specs.Shapes as spec
use Rattle.yarn_check.specs.Faults as faults
use Rattle.yarn_check.specs.Pass as pass
use Rattle.yarn_check.specs.declared.entry.ShapeEntry.{ShapeEntry}
use Rattle.yarn_check.specs.declared.entry.ShapeEntry.TheVariants as entry
use Rattle.yarn_check.specs.declared.stack.Stack.{Stack}
use Rattle.yarn_check.specs.declared.flow.Goal.{Goal}
use Rattle.yarn_check.specs.declared.node_walk.NodeFault.{NodeFault}
use Rattle.yarn_check.specs.declared.node_walk.NodeFault.TheVariants as fault
use Rattle.yarn_check.specs.declared.node_walk.Walked.{Walked}
use Rattle.yarn_check.specs.declared.node_walk.Walked.TheVariants as walked
use Rattle.yarn_check.specs.declared.coming.Coming.{Coming}
use Rattle.yarn_check.specs.declared.coming.Coming.TheVariants as coming

abbrev pub entry_of : ShapeEntry → spec.ShapeEntry
entry_of entry.Number = spec.Of kind.Number
entry_of entry.Str = spec.Of kind.Str
entry_of entry.Truth = spec.Of kind.Truth
entry_of entry.Null = spec.Null
entry_of (entry.Destination labels) = spec.Destination labels

-- the kind of an entry that is a value
abbrev pub kind_in : spec.ShapeEntry → Option Kind
kind_in (spec.Of k) = Some k
kind_in spec.Null = None
kind_in (spec.Destination labels) = None

-- the top is the last in the code
abbrev pub stack_of : Stack → spec.Shape
stack_of s = spec.shape (reverse (map entry_of s.entries.items)) s.pending

abbrev pub coming_of : Coming → pass.Coming
coming_of coming.Nothing = pass.Nothing
coming_of (coming.Alone s) = pass.Alone (stack_of s.value)
coming_of coming.Several = pass.Several

abbrev pub cells_of : List Coming → List pass.Coming
cells_of cells = map coming_of cells

abbrev pub goal_of : Goal → spec.Goal
goal_of g = spec.goal g.place (stack_of g.stack.value)

abbrev pub goals_of : Option (Vec Goal) → spec.Flow
goals_of None = None
goals_of (Some goals) = Some (map goal_of goals.items)

abbrev pub node_fault : NodeFault → faults.NodeFault
node_fault fault.Shapeless = faults.Shapeless
node_fault fault.Deep = faults.Deep

abbrev pub if_put : Bool → List Coming → Option (List pass.Coming)
if_put true cells = Some (cells_of cells)
if_put false cells = None

abbrev pub stepped_of : Option NodeFault → List Coming → pass.Stepped
stepped_of None cells = pass.Moved (cells_of cells)
stepped_of (Some f) cells = pass.Stopped (node_fault f)

abbrev pub walked_of : Walked → pass.Walked
walked_of (walked.Ended cells) = pass.Ended (cells_of cells.items)
walked_of (walked.Faulted f place) = pass.Faulted (node_fault f) place

-- the code keeps what came to places that are still to be walked: of the places before that one nothing is said
abbrev pub stepped_from : ℕ → pass.Stepped → pass.Stepped
stepped_from place (pass.Moved cells) = pass.Moved (drop place cells)
stepped_from place (pass.Stopped f) = pass.Stopped f

abbrev pub walked_from : ℕ → pass.Walked → pass.Walked
walked_from place (pass.Ended cells) = pass.Ended (drop place cells)
walked_from place (pass.Faulted f at) = pass.Faulted f at
