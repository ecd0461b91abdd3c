-- The functions of a program that signatures lack (docs/instructions.md, Programs).
use Rattle.std.specs.Prelude.{List, [], ◌∷◌, nat_eq, Bool, true, false, ◌&&◌, ◌||◌, if◌then◌else◌, Option, Some, None}
use Rattle.std.specs.Cmp.Lexicographic.{pointwise}
use Rattle.yarn_value.specs.declared.signature.Signature.{Signature}
use Rattle.yarn_value.specs.Calls.{same_kinds}
use Rattle.yarn_value.specs.Rows.{same_kind}

-- the same name, parameters and result
abbrev pub same_signature : Signature → Signature → Bool
same_signature s t = pointwise nat_eq s.name t.name && (same_kinds s.params t.params && same_kind s.result t.result)

-- one of the signatures is the same
abbrev pub is_given : Signature → List Signature → Bool
is_given s [] = false
is_given s (t ∷ given) = same_signature s t || is_given s given

-- the first function that isn't given
abbrev pub first_lacking : List Signature → List Signature → Option Signature
first_lacking [] given = None
first_lacking (s ∷ functions) given = if is_given s given then first_lacking functions given else Some s
