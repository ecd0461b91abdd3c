-- The source files of a command, in the order of reading (docs/commands.md, Order of work).
use Rattle.std.specs.Prelude.{◌≡◌, ℕ, List, [], ◌∷◌, ◌++◌, Option, Some, None, IfSome, ⊤}
use Rattle.yarn_base.specs.declared.SourceFile.{SourceFile}
use Rattle.yarn_base.specs.Outside.{Named}

-- all files, or the first name under which there is none
pub data Sources : Type 0 where
  Found : List SourceFile → Sources
  Missing : List ℕ → Sources

abbrev pub source_of : List ℕ → List ℕ → SourceFile
source_of name bytes = record { name = name; bytes = bytes }

-- the file of that name in front of the others
abbrev pub with_source : List ℕ → Option (List ℕ) → Sources → Sources
with_source name None rest = Missing name
with_source name (Some bytes) (Missing other) = Missing other
with_source name (Some bytes) (Found files) = Found (source_of name bytes ∷ files)

abbrev pub sources_of : Named → List (List ℕ) → Sources
sources_of named [] = Found []
sources_of named (name ∷ names) = with_source name (named name) (sources_of named names)

abbrev pub IsFound : Sources → Type 0
IsFound (Found files) = ⊤
IsFound (Missing name) = ⊥

-- the file of that name can't be read: its read failed last, and each file named before it was there
pub record IsUnread (names : List (List ℕ)) (told : Option Named) (latest : Option (List ℕ)) (name : List ℕ) : Type 0 where
  pub before : List (List ℕ)
  pub after : List (List ℕ)
  pub split : names ≡ before ++ name ∷ after
  pub found : IfSome told (λ named. IsFound (sources_of named before))
  pub is_latest : latest ≡ Some name
