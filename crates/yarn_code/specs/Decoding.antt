-- What readers answer, and the refusals of a file, words of `decode` (docs/formats.md, Program files).
use Rattle.std.specs.Prelude.{◌≡◌, ◌+◌, ℕ, List, length, Bool, true, not, ◌&&◌, is_some, Result, Ok, Err, ⊤}
use Rattle.std.specs.Str.{bytes_eq}
use Rattle.std.specs.BTreeMap.{get_by}
use Rattle.std.specs.Cmp.Lexicographic.{slice_cmp}
use Rattle.std.specs.Ordering.{nat_cmp}
use Rattle.yarn_code.specs.declared.fault.CodeFault.{CodeFault}
use Rattle.yarn_code.specs.declared.fault.CodeFault.TheVariants as faults
use Rattle.yarn_code.specs.declared.fault.Stop.{Stop}
use Rattle.yarn_code.specs.declared.fault.Stop.TheVariants as stops
use Rattle.yarn_code.specs.declared.names.Names.{Names}
use Rattle.yarn_code.specs.declared.program.Program.{Program}
use Rattle.yarn_code.specs.Format.{IsBadAt}
use Rattle.yarn_code.specs.FormatReading.{Read}
use Rattle.yarn_code.specs.Layout.{program_file}
use Rattle.yarn_code.specs.Spelling.{Spells, IsNewer, BadProgramAt}

-- ---- readers

-- a reader stopped as reading does, or for want of memory
abbrev pub Stopped : {A : Type 0} → Stop → Read A → Type 0
Stopped stops.Memory read = ⊤
Stopped (stops.Left left) read = read ≡ Err left

-- what a reader answers is what reading gives, unless memory runs out
abbrev pub Gives : {X A : Type 0} → (X → A × List ℕ) → Result X Stop → Read A → Type 0
Gives view (Ok x) read = read ≡ Ok (view x)
Gives view (Err stop) read = Stopped stop read

-- all of the bytes are a program; or so many of them are left from the place on where they are refused
abbrev pub IsWhole : List ℕ → Result Program Stop → Type 0
IsWhole bytes (Ok p) = Spells bytes p
IsWhole bytes (Err stops.Memory) = ⊤
IsWhole bytes (Err (stops.Left left)) = (at : ℕ) × (at + left ≡ length bytes) × IsBadAt program_file bytes at

-- ---- names

-- the set doesn't have the name
abbrev pub is_free : Names → List ℕ → Bool
is_free set name = not (is_some (get_by (λ key. slice_cmp nat_cmp name key.now) set.map))

abbrev pub all_free : List ℕ → Bool
all_free name = true

-- the same names are free, but for that one
abbrev pub without : List ℕ → (List ℕ → Bool) → List ℕ → Bool
without name free other = not (bytes_eq name other) && free other

-- ---- faults

-- the bytes are refused so
abbrev pub IsRefused : List ℕ → CodeFault → Type 0
IsRefused bytes faults.NewerFormat = IsNewer bytes
IsRefused bytes (faults.BadProgram at) = BadProgramAt bytes at
IsRefused bytes faults.Memory = ⊤
