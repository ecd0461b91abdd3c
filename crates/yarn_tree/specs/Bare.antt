-- Statements that are lines which are said, with neither substitutions nor hashtags.
use Rattle.std.specs.Prelude.{⊤}
use Rattle.yarn_blocks.specs.declared.entry.What.TheVariants as what
use Rattle.yarn_blocks.specs.BodyLine.{IsBareWhat}
use Rattle.yarn_blocks.specs.Tree.{Stmts, Nil, Cons, Leaf, Group, Choice}

abbrev pub AreBare : Stmts → Type 0
AreBare Nil = ⊤
AreBare (Cons (Leaf n) b) = IsBareWhat (what.Statement n) × AreBare b
AreBare (Cons (Group os) b) = ⊥
AreBare (Cons (Choice cs last e) b) = ⊥
