-- The kind of a name in a list of names with kinds. Source: docs/language.md, Typing.
use Rattle.std.specs.Prelude.{ℕ, List, [], ◌∷◌, nat_eq, if◌then◌else◌, Option, Some, None}
use Rattle.std.specs.Cmp.Lexicographic.{pointwise}
use Rattle.yarn_value.specs.declared.value.Kind.{Kind}
use Rattle.yarn_types.specs.declared.typed.TypedName.{TypedName}

-- the kind that stands first under the name
abbrev pub kind_named : List TypedName → List ℕ → Option Kind
kind_named [] name = None
kind_named (entry ∷ entries) name = if pointwise nat_eq entry.name name then Some entry.kind else kind_named entries name
