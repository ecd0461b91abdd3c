-- The names that a set holds, and the first that comes again.
use Rattle.std.specs.Prelude.{ℕ, List, [], ◌∷◌, Bool, false, ◌||◌, is_some, if◌then◌else◌, Option, Some, None}
use Rattle.std.specs.Str.{bytes_eq}
use Rattle.std.specs.BTreeMap.{get_by}
use Rattle.std.specs.Cmp.Lexicographic.{slice_cmp}
use Rattle.std.specs.Ordering.{nat_cmp}
use Rattle.yarn_base.specs.declared.Place.{Place}
use Rattle.yarn_tree.specs.declared.names.Names.{Names}
use Rattle.yarn_tree.specs.declared.names.Seen.{Seen}
use Rattle.yarn_nodes.specs.Places.{or_later}

abbrev pub no_name : List ℕ → Bool
no_name name = false

-- one more name
abbrev pub and_name : List ℕ → (List ℕ → Bool) → List ℕ → Bool
and_name name names other = bytes_eq name other || names other

abbrev pub has : Names → List ℕ → Bool
has names name = is_some (get_by (λ key. slice_cmp nat_cmp name key.now) names.map)

-- a name and where it stands
abbrev pub NameAt : Type 0
NameAt = List ℕ × Place

-- the names that were seen, and where one was seen again
pub record Sight : Type 0 where
  pub names : List ℕ → Bool
  pub again : Option Place

abbrev pub no_sight : Sight
no_sight = record { names = no_name; again = None }

abbrev pub sees : Sight → NameAt → Sight
sees sight x = record {
  names = and_name x.0 sight.names;
  again = or_later sight.again (if sight.names x.0 then Some x.1 else None);
}

abbrev pub sees_all : Sight → List NameAt → Sight
sees_all sight [] = sight
sees_all sight (x ∷ xs) = sees_all (sees sight x) xs

abbrev pub sight_of : Seen → Sight
sight_of seen = record { names = has seen.names; again = seen.again }
