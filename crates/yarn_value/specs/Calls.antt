-- What a call of a builtin gives, and the kind that a call has (docs/language.md, Operators and builtins).
use Rattle.std.specs.Prelude.{ℕ, List, [], ◌∷◌, Bool, true, false, ◌&&◌, if◌then◌else◌, Option, Some, None, Result, Ok}
use Rattle.yarn_value.specs.declared.value.Value.{Value}
use Rattle.yarn_value.specs.declared.value.Value.TheVariants.{Str}
use Rattle.yarn_value.specs.declared.value.Kind.{Kind}
use Rattle.yarn_value.specs.declared.value.Kind.TheVariants as kind
use Rattle.yarn_value.specs.declared.fault.RunFault.{RunFault}
use Rattle.yarn_value.specs.declared.operation.Op.{Op}
use Rattle.yarn_value.specs.declared.signature.Signature.{Signature}
use Rattle.yarn_value.specs.Rows.{same_kind, takes}
use Rattle.yarn_value.specs.Operations.{operation}
use Rattle.yarn_value.specs.Builtins.{Row}
use Rattle.yarn_value.specs.Pairs.{Pairs}
use Rattle.yarn_value.specs.Evaluation.{Scope}
use Rattle.yarn_value.specs.Visits.{visits, of_visits}

-- ---- values

-- a builtin that isn't an operation: `visited` and `visited_count` of a title; None where there is no title
abbrev pub known_result : Scope → Pairs → Kind → List Value → Option (Result Value RunFault)
known_result scope store kind.Truth (Str title ∷ []) = Some (Ok (of_visits kind.Truth (visits store title)))
known_result scope store kind.Number (Str title ∷ []) = Some (Ok (of_visits kind.Number (visits store title)))
known_result scope store _ _ = None

abbrev pub row_result : Scope → Pairs → Option Op → Kind → List Value → Option (Result Value RunFault)
row_result scope store None result args = known_result scope store result args
row_result scope store (Some op) result args = operation op args

-- the value or the fault that a builtin gives; None where the arguments haven't the kinds of its row
abbrev pub builtin_result : Scope → Pairs → Row → List Value → Option (Result Value RunFault)
builtin_result scope store row args = row_result scope store row.op row.result args

-- ---- kinds

-- the kinds of arguments are those of the parameters
abbrev pub same_kinds : List Kind → List Kind → Bool
same_kinds [] [] = true
same_kinds (k ∷ ks) (l ∷ ls) = same_kind k l && same_kinds ks ls
same_kinds _ _ = false

-- the kind of a call on arguments of these kinds: of a builtin, or of a host function that is none
abbrev pub kind_of_call : Option Row → Option Signature → List Kind → Option Kind
kind_of_call (Some row) signature kinds = if takes row.first row.second kinds then Some row.result else None
kind_of_call None (Some signature) kinds = if same_kinds signature.params kinds then Some signature.result else None
kind_of_call None None kinds = None
