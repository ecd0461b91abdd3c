-- Runs of bytes, and the number that digits write.
use Rattle.std.proofs.Common.{◌≡◌, ℕ, suc, ◌+◌, ◌-◌, ◌*◌, ◌^◌, ◌<◌, ◌≤◌, List, [], ◌∷◌, length, take, drop, get_or, Bool, true, false, ◌&&◌, refl, ap, arith, drop-cons, add-one}
use Rattle.std.specs.List.{list_all}
use Rattle.std.proofs.Math.Nat.{pow-le-pow_right, pow-suc}
use Rattle.std.proofs.lemmas.Bool.Decides.{nat_tests}
use Rattle.yarn_plural.specs.Tokens.{is_digit, front, past, number_after}

pub front-take : (p : ℕ → Bool) (text : List ℕ) → take (length (front p text)) text ≡ front p text
front-take p [] = refl
front-take p (b ∷ text) = by_test (front-take p text) (p b) refl
  where
    by_test : take (length (front p text)) text ≡ front p text → (t : Bool) → p b ≡ t → take (length (front p (b ∷ text))) (b ∷ text) ≡ front p (b ∷ text)
    by_test later true t = rw t (ap (λ l. b ∷ l) later)
    by_test later false t = rw t refl

pub past-drop : (p : ℕ → Bool) (text : List ℕ) → drop (length (front p text)) text ≡ past p text
past-drop p [] = refl
past-drop p (b ∷ text) = by_test (past-drop p text) (p b) refl
  where
    by_test : drop (length (front p text)) text ≡ past p text → (t : Bool) → p b ≡ t → drop (length (front p (b ∷ text))) (b ∷ text) ≡ past p (b ∷ text)
    by_test later true t = rw t later
    by_test later false t = rw t refl

pub front-all : (p : ℕ → Bool) (text : List ℕ) → list_all p (front p text) ≡ true
front-all p [] = refl
front-all p (b ∷ text) = by_test (front-all p text) (p b) refl
  where
    by_test : list_all p (front p text) ≡ true → (t : Bool) → p b ≡ t → list_all p (front p (b ∷ text)) ≡ true
    by_test later true t = rw (t, t) later
    by_test later false t = rw t refl

-- the digits before this place are read, and those from it on are digits
pub record IsReading (ds : List ℕ) (at number : ℕ) : Type 0 where
  pub so_far : number_after number (drop at ds) ≡ number_after 0 ds
  pub small : number < 10 ^ at
  pub rest : list_all is_digit (drop at ds) ≡ true

both : (a b : Bool) → (a && b) ≡ true → a ≡ true
both true b h = refl
both false b h = absurd cc

rest_of : (a b : Bool) → (a && b) ≡ true → b ≡ true
rest_of true b h = h
rest_of false b h = absurd cc

pub reading-digit : (ds : List ℕ) (at number : ℕ) → at < length ds → IsReading ds at number → is_digit (get_or ds at 0) ≡ true
reading-digit ds at number lt so_far = both _ _ (rw (drop-cons ds at 0 lt) at so_far.rest)

pub digit-bounds : (d : ℕ) → is_digit d ≡ true → (48 ≤ d) × (d ≤ 57)
digit-bounds d is = (grind (arith, nat_tests), grind (arith, nat_tests))

-- fewer than 18 digits are read
pub number-small : (ds : List ℕ) (at number : ℕ) → at < length ds → length ds ≤ 18 → IsReading ds at number → number < 10 ^ 17
number-small ds at number lt le so_far =
    let within : at ≤ 17 = omega arith in
    let p : 10 ^ at ≤ 10 ^ 17 = pow-le-pow_right {n = 10} (omega arith) {i = at} {j = 17} within in
    omega (arith, so_far.small, p)

pub IsReading-step : (ds : List ℕ) (at number : ℕ) → at < length ds → IsReading ds at number → IsReading ds (at + 1) (number * 10 + (get_or ds at 0 - 48))
IsReading-step ds at number lt so_far =
    let d = get_or ds at 0 in
    let bounds = digit-bounds d (reading-digit ds at number lt so_far) in
    let more : 10 ^ suc at ≡ 10 ^ at * 10 = pow-suc 10 at in
    record {
      so_far = rw add-one (rw (drop-cons ds at 0 lt) at so_far.so_far);
      small = rw (add-one, more) (omega (arith, so_far.small, bounds));
      rest = rw add-one (rest_of _ _ (rw (drop-cons ds at 0 lt) at so_far.rest));
    }
