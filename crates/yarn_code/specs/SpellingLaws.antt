-- What holds of the spelling of programs (docs/formats.md, Program files).
use Rattle.std.specs.Prelude.{◌≡◌, ◌<◌, ℕ, List, get_or, ◌⊎◌}
use Rattle.yarn_code.specs.declared.program.Program.{Program}
use Rattle.yarn_code.specs.Format.{IsBadAt}
use Rattle.yarn_code.specs.Layout.{program_file}
use Rattle.yarn_code.specs.Spelling.{Spells, IsNewer}

-- numbers below 256
abbrev pub AreBytes : List ℕ → Type 0
AreBytes bytes = (i : ℕ) → get_or bytes i 0 < 256

-- bytes spell one program, or are refused at one place; no program is of a newer format
pub record OneSpelling : Type 0 where
  pub one_program : (bytes : List ℕ) (p q : Program) → Spells bytes p → Spells bytes q → p ≡ q
  pub one_place : (bytes : List ℕ) (a b : ℕ) → IsBadAt program_file bytes a → IsBadAt program_file bytes b → a ≡ b
  pub not_both : (bytes : List ℕ) (p : Program) (at : ℕ) → Spells bytes p → IsBadAt program_file bytes at → ⊥
  pub either : (bytes : List ℕ) → AreBytes bytes → ((p : Program) × Spells bytes p) ⊎ ((at : ℕ) × IsBadAt program_file bytes at)
  pub known : (bytes : List ℕ) (p : Program) → Spells bytes p → IsNewer bytes → ⊥
