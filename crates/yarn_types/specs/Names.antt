-- The variables of a project by first appearance. Source: docs/language.md, Typing.
use Rattle.std.specs.Prelude.{ℕ, suc, List, [], ◌∷◌, ◌++◌, nat_eq, if◌then◌else◌, Option, Some, None, is_some}
use Rattle.std.specs.Cmp.Lexicographic.{pointwise}
use Rattle.std.specs.Option.{option_map}
use Rattle.yarn_base.specs.declared.Place.{Place}

-- a variable at a place
pub record Appearance : Type 0 where
  pub name : List ℕ
  pub place : Place

abbrev pub appearance : List ℕ → Place → Appearance
appearance name place = record { name = name; place = place }

-- where a name stands among variables, from 0
abbrev pub place_of : List Appearance → List ℕ → Option ℕ
place_of [] name = None
place_of (one ∷ more) name = if pointwise nat_eq one.name name then Some 0 else option_map suc (place_of more name)

-- variables with one more appearance, which adds one where its name is new
abbrev pub with_one : List Appearance → Appearance → List Appearance
with_one known one = if is_some (place_of known one.name) then known else known ++ one ∷ []

-- the same with appearances in their order
abbrev pub with_all : List Appearance → List Appearance → List Appearance
with_all known [] = known
with_all known (one ∷ more) = with_all (with_one known one) more
