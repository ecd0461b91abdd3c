-- What a call puts behind the text that is there, for whatever words tell the instructions.
use Rattle.std.specs.Prelude.{◌≡◌, ℕ, List, ◌++◌}
use Rattle.yarn_code.specs.declared.program.Instr.{Instr}
use Rattle.yarn_code.specs.Listing.{Words, spaced, Tells}

-- the words of an instruction, each behind a space
abbrev pub AddsWords : Instr → List ℕ → List ℕ → Type 0
AddsWords instr old new = (words : Words) → Tells instr words → new ≡ old ++ spaced words

-- what is told by the words of the instructions
abbrev pub AddsTold : ((Instr → Words) → List ℕ) → List ℕ → List ℕ → Type 0
AddsTold part old new = (words : Instr → Words) → ((i : Instr) → Tells i (words i)) → new ≡ old ++ part words
