-- The kinds of the values in a store (docs/meaning.md, Kinds).
use Rattle.std.specs.Prelude.{◌≡◌, ℕ, List, All, Some}
use Rattle.std.specs.Option.{option_map}
use Rattle.yarn_value.specs.declared.value.Value.{Value}
use Rattle.yarn_value.specs.declared.value.Kind.{Kind}
use Rattle.yarn_value.specs.Values.{kind_of}
use Rattle.yarn_value.specs.Pairs.{Pairs, value_under}

-- the store has a value of that kind under the name
abbrev pub HasKind : Pairs → List ℕ → Kind → Type 0
HasKind store name kind = option_map kind_of (value_under store name) ≡ Some kind

-- the store has a value for each of these variables, of the kind of its first value
abbrev pub Holds : Pairs → Pairs → Type 0
Holds variables store = All (λ v. HasKind store v.0 (kind_of v.1)) variables

-- each of these variables that is there has the kind of its first value
abbrev pub KeepsKinds : Pairs → Pairs → Type 0
KeepsKinds variables store = All (λ v. (found : Value) → value_under store v.0 ≡ Some found → kind_of found ≡ kind_of v.1) variables
