-- The shape of one instruction (docs/instructions.md, Shapes).
use Rattle.std.specs.Prelude.{◌≡◌, ℕ, List, map, reverse, Option, Some, None, slice_get}
use Rattle.yarn_code.specs.declared.program.CodeNode.{CodeNode}
use Rattle.yarn_code.specs.declared.program.Program.{Program}
use Rattle.yarn_check.specs.Shapes as spec
use Rattle.yarn_check.specs.Shapes.{Shapes, Agrees}
use Rattle.yarn_check.specs.Views.{entry_of}
use Rattle.yarn_check.specs.declared.shape.Shape.{Shape}

-- the top is the last in the code
abbrev pub shape_of : Shape → spec.Shape
shape_of s = spec.shape (reverse (map entry_of s.entries)) s.pending

abbrev pub if_there : Option (Option spec.Shape) → Option spec.Shape
if_there None = None
if_there (Some told) = told

-- it is what the node's list of shapes has there; there is none where the list is no longer than that, or the node isn't there
pub record IsShapeAt (p : Program) (node at : ℕ) (told : Option spec.Shape) : Type 0 where
  pub there : (n : CodeNode) (shapes : Shapes) → slice_get p.nodes node ≡ Some n → Agrees p n shapes → told ≡ if_there (slice_get shapes at)
  pub absent : slice_get p.nodes node ≡ None → told ≡ None
