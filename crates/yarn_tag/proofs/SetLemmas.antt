-- Sets after one more.
use Rattle.std.proofs.Common.{◌≡◌, Bool, true, false, ◌||◌, cond, Option, Some, is_some, refl}

-- a look-up that finds a value where the test holds, and else what it found before
pub is_some-cond : {X : Type 0} (test : Bool) (x : X) (o : Option X) → is_some (cond test (Some x) o) ≡ (test || is_some o)
is_some-cond true x o = refl
is_some-cond false x o = refl
