-- Files cut into lines (docs/language.md, Lines).
use Rattle.std.specs.Prelude.{◌≤◌, ℕ, ◌+◌, List, [], ◌∷◌, length, All, Option}
use Rattle.yarn_base.specs.declared.SourceFile.{SourceFile}
use Rattle.yarn_lines.specs.Lines.{lines_of}
use Rattle.yarn_lines.specs.Fault.{first_bad, first_long}
use Rattle.yarn_tree.specs.declared.stages.SplitFile.{SplitFile}

abbrev pub split_of : ℕ → SourceFile → SplitFile
split_of number source = record { number = number; name = source.name; lines = lines_of source.bytes }

abbrev pub splits_from : ℕ → List SourceFile → List SplitFile
splits_from number [] = []
splits_from number (source ∷ sources) = split_of number source ∷ splits_from (number + 1) sources

abbrev pub bad_in : SourceFile → Option ℕ
bad_in source = first_bad source.bytes

abbrev pub long_in : SourceFile → Option ℕ
long_in source = first_long source.bytes

abbrev pub IsSmall : SourceFile → Type 0
IsSmall source = length source.bytes ≤ 4194304

-- files that aren't too much
pub record AreFine (sources : List SourceFile) : Type 0 where
  pub few : length sources ≤ 256
  pub small : All IsSmall sources
