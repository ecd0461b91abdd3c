-- What is proved of the code of a project (docs/meaning.md, What is proved).
use Rattle.std.specs.Prelude.{◌≡◌, ℕ, suc, List, map, Some}
use Rattle.yarn_base.specs.declared.SourceFile.{SourceFile}
use Rattle.yarn_value.specs.declared.signature.Signature.{Signature}
use Rattle.yarn_nodes.specs.declared.node.FileLines.{FileLines}
use Rattle.yarn_tree.specs.Trees.{FileTree, grown}
use Rattle.yarn_types.specs.declared.typed.TypedName.{TypedName}
use Rattle.yarn_code.specs.declared.program.Program.{Program}
use Rattle.yarn_code.specs.Kinds.{KeepsKinds}
use Rattle.yarn_code.specs.Fields.{HasFields}
use Rattle.yarn_code.specs.Moments.{State, Outcome}
use Rattle.yarn_code.specs.Parts.{pairs_of}
use Rattle.yarn_code.specs.MachineState.{entry}
use Rattle.yarn_code.specs.Runs.{Course, outcome_of, MFirst}
use Rattle.yarn_check.specs.Shapes.{IsValid}
use Rattle.yarn_meaning.specs.First.{Placed, find, first_of}
use Rattle.yarn_kinds.specs.Typed.{AreAccepted}
use Rattle.yarn_kinds.specs.Kept.{beginning}
use Rattle.yarn_compile.specs.Code.{code_of}

-- ---- the program is valid

-- the code of an accepted project is a valid program
abbrev pub Valid : Type 0
Valid = (signatures : List Signature) (sources : List SourceFile) (lines : List FileLines) (entries : List TypedName) →
    AreAccepted signatures sources lines entries → IsValid (code_of signatures entries (map grown lines))

-- each of its fields is as it may be
abbrev pub Fielded : Type 0
Fielded = (signatures : List Signature) (sources : List SourceFile) (lines : List FileLines) (entries : List TypedName) →
    AreAccepted signatures sources lines entries → HasFields (code_of signatures entries (map grown lines))

-- ---- the same moments

-- the machine comes to that outcome with its first k events, for k at least 1
pub record Gives (p : Program) (start : List ℕ) (st : State) (k : ℕ) (o : Outcome) : Type 0 where
  pub came : Course
  pub first : MFirst p (entry p start st) k came
  pub is : outcome_of came ≡ o

-- from each node, for each store in which each variable that is there has its kind, all answers, each tape and each number of
-- events, the program gives the moments that the files mean and stands where they stand, and comes to nothing else
pub record Means (signatures : List Signature) (entries : List TypedName) (files : List FileTree) (p : Program) : Type 0 where
  pub shows : (start : List ℕ) (node : Placed) (st : State) (k : ℕ) → find start files ≡ Some node → KeepsKinds (pairs_of p.variables) st.store →
      Gives p start st (suc k) (first_of signatures files start (beginning entries files st) (suc k))
  pub alone : (start : List ℕ) (node : Placed) (st : State) (k : ℕ) (r : Course) → find start files ≡ Some node → KeepsKinds (pairs_of p.variables) st.store →
      MFirst p (entry p start st) k r → outcome_of r ≡ first_of signatures files start (beginning entries files st) k

-- the code of an accepted project means what the project means
abbrev pub SameMoments : Type 0
SameMoments = (signatures : List Signature) (sources : List SourceFile) (lines : List FileLines) (entries : List TypedName) →
    AreAccepted signatures sources lines entries → Means signatures entries (map grown lines) (code_of signatures entries (map grown lines))
