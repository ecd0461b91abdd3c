-- Maps from the names in a program to what they name, a word of private values (docs/instructions.md, Programs).
use Rattle.std.specs.Prelude.{◌≡◌, ℕ, List, [], ◌∷◌, nat_eq, if◌then◌else◌, Option, Some, None}
use Rattle.std.specs.Borrow.{Bor}
use Rattle.std.specs.BTreeMap.{BTreeMap, get_by}
use Rattle.std.specs.Cmp.Lexicographic.{slice_cmp, pointwise}
use Rattle.std.specs.Option.{option_copied}
use Rattle.std.specs.Ordering.{nat_cmp}
use Rattle.yarn_value.specs.declared.base.BaseLine.{BaseLine}
use Rattle.yarn_value.specs.declared.signature.Signature.{Signature}
use Rattle.yarn_value.specs.declared.value.Kind.{Kind}
use Rattle.yarn_value.specs.Calls.{same_kinds}
use Rattle.yarn_code.specs.declared.program.Variable.{Variable}
use Rattle.yarn_code.specs.declared.program.Program.{Program}

-- the first item of that name
abbrev pub first_named : {X : Type 0} → (X → List ℕ) → List X → List ℕ → Option X
first_named name [] q = None
first_named name (x ∷ xs) q = if pointwise nat_eq (name x) q then Some x else first_named name xs q

-- the map has the first item of each name
abbrev pub Finds : {X : Type 0} → (X → List ℕ) → BTreeMap (Bor (List ℕ)) (Bor X) → List X → Type 0
Finds name map items = (q : List ℕ) → option_copied (get_by (λ key. slice_cmp nat_cmp q key.now) map) ≡ first_named name items q

abbrev pub variable_name : Variable → List ℕ
variable_name v = v.name

abbrev pub function_name : Signature → List ℕ
function_name s = s.name

abbrev pub line_name : BaseLine → List ℕ
line_name l = l.id

-- the maps have what the program names
pub record HasNames (variables : BTreeMap (Bor (List ℕ)) (Bor Variable)) (functions : BTreeMap (Bor (List ℕ)) (Bor Signature)) (lines : BTreeMap (Bor (List ℕ)) (Bor BaseLine)) (p : Program) : Type 0 where
  pub of_variables : Finds variable_name variables p.variables
  pub of_functions : Finds function_name functions p.functions
  pub of_lines : Finds line_name lines p.lines

-- the kind of a call of the host function on arguments of these kinds
abbrev pub host_kind : Option Signature → List Kind → Option Kind
host_kind None kinds = None
host_kind (Some s) kinds = if same_kinds s.params kinds then Some s.result else None
