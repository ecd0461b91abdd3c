-- Which bytes spell a program, and where others are refused (docs/formats.md, Program files).
use Rattle.std.specs.Prelude.{◌≡◌, ◌≤◌, ℕ, List, ◌∷◌, ◌++◌, codes}
use Rattle.yarn_code.specs.declared.program.Program.{Program}
use Rattle.yarn_code.specs.Format.{IsSpelled, IsBadAt}
use Rattle.yarn_code.specs.Layout.{program_file}

-- all of the bytes are the fields of the program
abbrev pub Spells : List ℕ → Program → Type 0
Spells bytes p = IsSpelled program_file bytes p

-- the bytes begin with `YSP` and one of the digits 2 to 9
abbrev pub IsNewer : List ℕ → Type 0
IsNewer bytes = (digit : ℕ) × (rest : List ℕ) × (50 ≤ digit) × (digit ≤ 57) × (bytes ≡ codes "YSP" ++ digit ∷ rest)

-- the place of the first field that is cut off or isn't as the layout says, or of the first byte behind a program
abbrev pub BadProgramAt : List ℕ → ℕ → Type 0
BadProgramAt bytes at = (IsNewer bytes → ⊥) × IsBadAt program_file bytes at
