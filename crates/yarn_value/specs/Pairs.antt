-- Variables with their values, in order (docs/language.md, The meaning).
use Rattle.std.specs.Prelude.{◌≡◌, ℕ, List, [], ◌∷◌, ◌++◌, nat_eq, Bool, if◌then◌else◌, Option, Some, None, ⊤}
use Rattle.std.specs.Cmp.Lexicographic.{pointwise}
use Rattle.yarn_value.specs.declared.value.Value.{Value}

abbrev pub Pair : Type 0
Pair = List ℕ × Value

abbrev pub Pairs : Type 0
Pairs = List Pair

abbrev pub same_name : List ℕ → List ℕ → Bool
same_name = pointwise nat_eq

-- the value of the pair of that name
abbrev pub value_under : Pairs → List ℕ → Option Value
value_under [] name = None
value_under (p ∷ ps) name = if same_name name p.0 then Some p.1 else value_under ps name

-- the value is that of the name: a name that is there keeps its place, and a new one stands last
abbrev pub put : Pairs → List ℕ → Value → Pairs
put [] name value = (name, value) ∷ []
put (p ∷ ps) name value = if same_name name p.0 then (p.0, value) ∷ ps else p ∷ put ps name value

-- no name stands twice
abbrev pub AreDistinct : Pairs → Type 0
AreDistinct [] = ⊤
AreDistinct (p ∷ ps) = (value_under ps p.0 ≡ None) × AreDistinct ps

-- a pair is put last, where none has its name
abbrev pub with_missing_one : Pairs → List ℕ → Value → Option Value → Pairs
with_missing_one store name value (Some there) = store
with_missing_one store name value None = store ++ (name, value) ∷ []

-- the pairs of a store, and then those of others whose names it lacks
abbrev pub with_missing : Pairs → Pairs → Pairs
with_missing store [] = store
with_missing store (p ∷ ps) = with_missing (with_missing_one store p.0 p.1 (value_under store p.0)) ps
