-- The parts that a template keeps, and those of one that is being read.
use Rattle.std.specs.Prelude.{List, [], ◌∷◌, ◌++◌, map}
use Rattle.yarn_value.specs.Templates.{Part, Byte, Hole}
use Rattle.yarn_value.specs.declared.template.Piece.{Piece}
use Rattle.yarn_value.specs.declared.template.Piece.TheVariants as piece

abbrev pub part_list : Piece → List Part
part_list (piece.Run text) = map Byte text
part_list (piece.Hole k) = Hole k ∷ []

abbrev pub parts_of : List Piece → List Part
parts_of [] = []
parts_of (p ∷ ps) = part_list p ++ parts_of ps
