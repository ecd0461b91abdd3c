-- A set after one more name.
use Rattle.std.proofs.Common.{◌≡◌, List, [], ◌∷◌, ◌++◌, Bool, true, false, ◌||◌, cond, Option, Some, is_some, refl}
use Rattle.yarn_tree.specs.Names.{NameAt, Sight, sees, sees_all}

-- a look-up that finds a value where the test holds, and else what it found before
pub is_some-cond : {X : Type 0} (test : Bool) (x : X) (o : Option X) → is_some (cond test (Some x) o) ≡ (test || is_some o)
is_some-cond true x o = refl
is_some-cond false x o = refl

pub sees_all_append : (sight : Sight) (a b : List NameAt) → sees_all sight (a ++ b) ≡ sees_all (sees_all sight a) b
sees_all_append sight [] b = refl
sees_all_append sight (x ∷ a) b = sees_all_append (sees sight x) a b
