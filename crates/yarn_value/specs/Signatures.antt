-- The signature of a function, and how many arguments it takes (docs/language.md, Typing, and Operators and builtins).
use Rattle.std.specs.Prelude.{ℕ, ◌+◌, List, [], ◌∷◌, length, nat_eq, Bool, if◌then◌else◌, Option, Some, None, is_some}
use Rattle.std.specs.Cmp.Lexicographic.{pointwise}
use Rattle.std.specs.Str.{bytes_eq}
use Rattle.yarn_value.specs.declared.signature.Signature.{Signature}
use Rattle.yarn_value.specs.Builtins.{Row, row_named, builtin_rows}

-- the first signature of that name
abbrev pub signature_named : List Signature → List ℕ → Option Signature
signature_named [] name = None
signature_named (one ∷ more) name = if pointwise nat_eq one.name name then Some one else signature_named more name

-- how many arguments a builtin has
abbrev pub one_if : Bool → ℕ
one_if there = if there then 1 else 0

abbrev pub row_arity : Row → ℕ
row_arity row = one_if (is_some row.first) + one_if (is_some row.second)

abbrev pub declared_arity : List Signature → List ℕ → Option ℕ
declared_arity [] name = None
declared_arity (s ∷ signatures) name = if bytes_eq s.name name then Some (length s.params) else declared_arity signatures name

abbrev pub builtin_or : Option Row → Option ℕ → Option ℕ
builtin_or (Some row) declared = Some (row_arity row)
builtin_or None declared = declared

-- how many arguments the function of that name has: a builtin, or one of the signatures
unfoldable pub arity_of : List Signature → List ℕ → Option ℕ
arity_of signatures name = builtin_or (row_named builtin_rows name) (declared_arity signatures name)
