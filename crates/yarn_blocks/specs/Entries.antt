-- The lines of a body, and what the structure stands on. Source: docs/language.md, Structure of a body.
use Rattle.std.specs.Prelude.{◌≡◌, ℕ, List, [], ◌∷◌}
use Rattle.yarn_blocks.specs.declared.entry.Entry.{Entry}
use Rattle.yarn_blocks.specs.declared.entry.What.{What}
use Rattle.yarn_blocks.specs.declared.entry.What.TheVariants as what
use Rattle.yarn_blocks.specs.declared.entry.Simple.{Simple}
use Rattle.yarn_blocks.specs.declared.entry.Simple.TheVariants as simple
use Rattle.yarn_blocks.specs.declared.mark.Mark.{Mark}
use Rattle.yarn_blocks.specs.declared.mark.Shape.{Shape}
use Rattle.yarn_blocks.specs.declared.mark.Shape.TheVariants as shape

abbrev pub shape_of : What → Shape
shape_of (what.Statement s) = shape.Statement
shape_of (what.Offer text condition) = shape.Offer
shape_of (what.If head condition) = shape.If
shape_of (what.ElseIf head condition) = shape.ElseIf
shape_of (what.Else head) = shape.Else
shape_of (what.EndIf head) = shape.EndIf

-- an entry without its contents
abbrev pub mark_of : Entry → Mark
mark_of x = record { line = x.line; indent = x.indent; shape = shape_of x.what }

abbrev pub marks_of : List Entry → List Mark
marks_of [] = []
marks_of (x ∷ xs) = mark_of x ∷ marks_of xs

-- the line that contents bear
abbrev pub line_of : Simple → ℕ
line_of (simple.Line text) = text.line
line_of (simple.Set head name op e) = head.line
line_of (simple.Declare head name value kind) = head.line
line_of (simple.Jump head title) = head.line
line_of (simple.JumpTo head e) = head.line
line_of (simple.Stop head) = head.line
line_of (simple.Call head e) = head.line
line_of (simple.Command text) = text.line

abbrev pub line_in : What → ℕ
line_in (what.Statement s) = line_of s
line_in (what.Offer text condition) = text.line
line_in (what.If head condition) = head.line
line_in (what.ElseIf head condition) = head.line
line_in (what.Else head) = head.line
line_in (what.EndIf head) = head.line

-- the contents of each entry bear its line
abbrev pub HaveLines : List Entry → Type 0
HaveLines [] = Unit {0}
HaveLines (x ∷ xs) = (x.line ≡ line_in x.what) × HaveLines xs
