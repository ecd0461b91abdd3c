-- A line of a body that is only looked at.
use Rattle.std.specs.Prelude.{◌≡◌, List, [], ◌∷◌, ◌++◌, All, Option, Some, None}
use Rattle.yarn_blocks.specs.declared.entry.Entry.{Entry}
use Rattle.yarn_blocks.specs.declared.entry.What.{What}
use Rattle.yarn_blocks.specs.declared.entry.What.TheVariants as what
use Rattle.yarn_blocks.specs.declared.entry.Simple.TheVariants as simple
use Rattle.yarn_blocks.specs.declared.body_line.BodyLine.{BodyLine}
use Rattle.yarn_blocks.specs.declared.body_line.BodyWhat.{BodyWhat}
use Rattle.yarn_blocks.specs.declared.body_line.BodyWhat.TheVariants.{Statement, Structure}
use Rattle.yarn_blocks.specs.BodyLines.{leaf_of, IsBareText}

abbrev pub what_of : BodyWhat → What
what_of (Statement s) = what.Statement (leaf_of s.now)
what_of (Structure w) = w.now

abbrev pub entry_of : BodyLine → Entry
entry_of x = record { line = x.line; indent = x.indent; what = what_of x.what }

-- the first of the lines is taken, and those behind it are left; nothing, where there is none
abbrev pub TakesFirst : List Entry → Option BodyLine → List Entry → Type 0
TakesFirst all None rest = all ≡ []
TakesFirst all (Some x) rest = all ≡ entry_of x ∷ rest

-- the line is one that is said, with neither substitutions nor hashtags
abbrev pub IsBareWhat : What → Type 0
IsBareWhat (what.Statement (simple.Line text)) = IsBareText text
IsBareWhat _ = ⊥

-- lines in front that are so are passed
pub record Passed (all rest : List Entry) : Type 0 where
  pub bare : List Entry
  pub split : all ≡ bare ++ rest
  pub are_bare : All (λ (x : Entry). IsBareWhat x.what) bare

-- the first of the lines behind some that are bare is taken, and those behind it are left; nothing, where all are bare
abbrev pub TakesNotable : List Entry → Option BodyLine → List Entry → Type 0
TakesNotable all None rest = Passed all []
TakesNotable all (Some x) rest = Passed all (entry_of x ∷ rest)
