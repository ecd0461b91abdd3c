-- What the code's variables stand for, and a map from their names, words of private functions.
use Rattle.std.specs.Prelude.{◌≡◌, ℕ, List}
use Rattle.std.specs.Borrow.{Bor}
use Rattle.std.specs.BTreeMap.{BTreeMap, get_by}
use Rattle.std.specs.Cmp.Lexicographic.{slice_cmp}
use Rattle.std.specs.Ordering.{nat_cmp}
use Rattle.yarn_types.specs.declared.name.First.{First}
use Rattle.yarn_types.specs.Names.{Appearance, place_of}

abbrev pub appearance_of : First → Appearance
appearance_of first = record { name = first.name.now; place = first.place }

-- the map has the place of each name
abbrev pub Places : BTreeMap (Bor (List ℕ)) ℕ → List Appearance → Type 0
Places map variables = (q : List ℕ) → get_by (λ key. slice_cmp nat_cmp q key.now) map ≡ place_of variables q
