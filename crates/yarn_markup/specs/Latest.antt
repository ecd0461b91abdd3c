-- Where the latest open attribute of each name stands, and how attributes and a map know it.
use Rattle.std.specs.Prelude.{◌≡◌, ℕ, ◌+◌, nat_eq, List, [], ◌∷◌, if◌then◌else◌, Option, Some, None, ⊤}
use Rattle.std.specs.BTreeMap.{BTreeMap, get}
use Rattle.std.specs.Cmp.Lexicographic.{slice_cmp}
use Rattle.std.specs.Ordering.{nat_cmp}
use Rattle.yarn_value.specs.Operations.{same_text}
use Rattle.yarn_markup.specs.declared.slot.Slot.{Slot}
use Rattle.yarn_markup.specs.Slots.{counts}

-- a place for each name, or none
abbrev pub Places : Type 0
Places = List ℕ → Option ℕ

abbrev pub nowhere : Places
nowhere name = None

abbrev pub place_in : BTreeMap (List ℕ) ℕ → Places
place_in map name = get (slice_cmp nat_cmp) map name

-- the same places but that of one name
abbrev pub IsSet : Places → List ℕ → Option ℕ → Places → Type 0
IsSet old name place new = (other : List ℕ) → new other ≡ (if same_text name other then place else old other)

-- the places with the attribute that stands behind so many others
abbrev pub with_slot : Places → ℕ → Slot → Places
with_slot places at s name = if nat_eq (counts name s) 0 then places name else Some at

-- an open attribute knows the place of its name before it
abbrev pub Knows : Places → Slot → Option ℕ → Type 0
Knows places s None = s.outer ≡ places s.name
Knows places s (Some n) = ⊤

-- from the places before the attributes to those with all of them; the first stands behind so many others
abbrev pub Tracks : Places → ℕ → List Slot → Places → Type 0
Tracks before at [] after = (name : List ℕ) → after name ≡ before name
Tracks before at (s ∷ ss) after = Knows before s s.length × Tracks (with_slot before at s) (at + 1) ss after

abbrev pub IsTracked : BTreeMap (List ℕ) ℕ → List Slot → Type 0
IsTracked latest ss = Tracks nowhere 0 ss (place_in latest)
