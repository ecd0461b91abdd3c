-- What is read by a format is what the bytes spell, and where reading stops they are refused.
use Rattle.std.proofs.Common.{◌≡◌, ◌≢◌, ℕ, ◌+◌, Bool, true, false, cond, List, [], ◌∷◌, ◌++◌, length, Result, Ok, Err, refl, sym, ap, subst, ◌∙◌, append_assoc, arith, ◌⊎◌, inl, inr}
use Rattle.std.proofs.lemmas.List.{length-append}
use Rattle.yarn_code.specs.Format.{Format, ◌>>=◌, Ends, Number, Text, Size, U32, number_bytes, text_bytes, IsNumber, IsText, NoNumber, NoText, IsSpelled, IsBadAt}
use Rattle.yarn_code.specs.FormatReading.{Read, and_then, number_at, text_at, read, passing, any_number, any_text, text_of}
use Rattle.yarn_code.proofs.FieldLemmas.{IsBytes, bind_ok, number_takes, number_again, text_takes, text_again}

abbrev done : {A : Type 0} → A → Result A ℕ
done x = Ok x

ok_is : {A : Type 0} (x y : A) → done x ≡ done y → x ≡ y
ok_is x y e = cc

abbrev failed : (A : Type 0) → ℕ → Result A ℕ
failed A left = Err left

err_is : (A : Type 0) (x y : ℕ) → failed A x ≡ failed A y → x ≡ y
err_is A x y e = cc

-- ---- a field is read in one way

number_once : (size : Size) (test : ℕ → Bool) (n m : ℕ) (rest more : List ℕ) → IsNumber size test n → IsNumber size test m
    → number_bytes size n ++ rest ≡ number_bytes size m ++ more → (n ≡ m) × (rest ≡ more)
number_once size test n m rest more is it e =
    let same : (n, rest) ≡ (m, more) = ok_is (n, rest) (m, more) (sym (number_again size test n rest is) ∙ ap (number_at size test) e ∙ number_again size test m more it) in
    (ap (λ (x : ℕ × List ℕ). x.0) same, ap (λ (x : ℕ × List ℕ). x.1) same)

text_once : (test : List ℕ → Bool) (t u rest more : List ℕ) → IsText test t → IsText test u
    → text_bytes t ++ rest ≡ text_bytes u ++ more → (t ≡ u) × (rest ≡ more)
text_once test t u rest more is it e =
    let same : (t, rest) ≡ (u, more) = ok_is (t, rest) (u, more) (sym (text_again test t rest is) ∙ ap (text_at test) e ∙ text_again test u more it) in
    (ap (λ (x : List ℕ × List ℕ). x.0) same, ap (λ (x : List ℕ × List ℕ). x.1) same)

-- bytes spell one value
pub spelled_once : {A : Type 0} (f : Format A) (bytes : List ℕ) (x y : A) → IsSpelled f bytes x → IsSpelled f bytes y → x ≡ y
spelled_once (Ends a) bytes x y p q = p.1 ∙ sym q.1
spelled_once (Number size test next) bytes x y (n, rest, is, at, p) (m, more, it, at', q) =
    let same = number_once size test n m rest more is it (sym at ∙ at') in
    spelled_once (next n) rest x y p (subst (λ (k : ℕ). IsSpelled (next k) rest y) (sym same.0) (subst (λ (l : List ℕ). IsSpelled (next m) l y) (sym same.1) q))
spelled_once (Text test next) bytes x y (n, rest, is, at, p) (m, more, it, at', q) =
    let same = text_once test n m rest more is it (sym at ∙ at') in
    spelled_once (next n) rest x y p (subst (λ (k : List ℕ). IsSpelled (next k) rest y) (sym same.0) (subst (λ (l : List ℕ). IsSpelled (next m) l y) (sym same.1) q))

-- bytes that spell a value are refused nowhere
pub spelled_not_bad : {A : Type 0} (f : Format A) (bytes : List ℕ) (x : A) (at : ℕ) → IsSpelled f bytes x → IsBadAt f bytes at → ⊥
spelled_not_bad (Ends a) bytes x at p q = q.1 p.0
spelled_not_bad (Number size test next) bytes x at (n, rest, is, e, p) (inl (z, none)) = none n rest is e
spelled_not_bad (Number size test next) bytes x at (n, rest, is, e, p) (inr (m, more, it, e', k, z, q)) =
    let same = number_once size test n m rest more is it (sym e ∙ e') in
    spelled_not_bad (next n) rest x k p (subst (λ (k' : ℕ). IsBadAt (next k') rest k) (sym same.0) (subst (λ (l : List ℕ). IsBadAt (next m) l k) (sym same.1) q))
spelled_not_bad (Text test next) bytes x at (n, rest, is, e, p) (inl (z, none)) = none n rest is e
spelled_not_bad (Text test next) bytes x at (n, rest, is, e, p) (inr (m, more, it, e', k, z, q)) =
    let same = text_once test n m rest more is it (sym e ∙ e') in
    spelled_not_bad (next n) rest x k p (subst (λ (k' : List ℕ). IsBadAt (next k') rest k) (sym same.0) (subst (λ (l : List ℕ). IsBadAt (next m) l k) (sym same.1) q))

-- bytes are refused at one place
pub bad_once : {A : Type 0} (f : Format A) (bytes : List ℕ) (a b : ℕ) → IsBadAt f bytes a → IsBadAt f bytes b → a ≡ b
bad_once (Ends x) bytes a b p q = p.0 ∙ sym q.0
bad_once (Number size test next) bytes a b (inl (z, none)) (inl (z', none')) = z ∙ sym z'
bad_once (Number size test next) bytes a b (inl (z, none)) (inr (m, more, it, e', k, z', q)) = absurd (none m more it e')
bad_once (Number size test next) bytes a b (inr (n, rest, is, e, j, z, p)) (inl (z', none)) = absurd (none n rest is e)
bad_once (Number size test next) bytes a b (inr (n, rest, is, e, j, z, p)) (inr (m, more, it, e', k, z', q)) =
    let same = number_once size test n m rest more is it (sym e ∙ e') in
    let later = bad_once (next n) rest j k p (subst (λ (k' : ℕ). IsBadAt (next k') rest k) (sym same.0) (subst (λ (l : List ℕ). IsBadAt (next m) l k) (sym same.1) q)) in
    z ∙ ap (λ (i : ℕ). length (number_bytes size n) + i) later ∙ ap (λ (i : ℕ). length (number_bytes size i) + k) same.0 ∙ sym z'
bad_once (Text test next) bytes a b (inl (z, none)) (inl (z', none')) = z ∙ sym z'
bad_once (Text test next) bytes a b (inl (z, none)) (inr (m, more, it, e', k, z', q)) = absurd (none m more it e')
bad_once (Text test next) bytes a b (inr (n, rest, is, e, j, z, p)) (inl (z', none)) = absurd (none n rest is e)
bad_once (Text test next) bytes a b (inr (n, rest, is, e, j, z, p)) (inr (m, more, it, e', k, z', q)) =
    let same = text_once test n m rest more is it (sym e ∙ e') in
    let later = bad_once (next n) rest j k p (subst (λ (k' : List ℕ). IsBadAt (next k') rest k) (sym same.0) (subst (λ (l : List ℕ). IsBadAt (next m) l k) (sym same.1) q)) in
    z ∙ ap (λ (i : ℕ). length (text_bytes n) + i) later ∙ ap (λ (i : List ℕ). length (text_bytes i) + k) same.0 ∙ sym z'

-- ---- what is read is spelled

pub read_spells : {A : Type 0} (f : Format A) (bytes : List ℕ) (x : A) → IsBytes bytes → read f bytes ≡ Ok (x, []) → IsSpelled f bytes x
read_spells {A = A} (Ends a) bytes x fits e =
    let same = ok_is (a, bytes) (x, []) e in
    (ap (λ (p : A × List ℕ). p.1) same, sym (ap (λ (p : A × List ℕ). p.0) same))
read_spells (Number size test next) bytes x fits e =
    let b = bind_ok (number_at size test bytes) (λ y. read (next y.0) y.1) (x, []) e in
    let t = number_takes size test bytes b.0.0 b.0.1 fits b.1 in
    (b.0.0, b.0.1, t.1, t.0.parts, read_spells (next b.0.0) b.0.1 x t.0.rest_fits b.2)
read_spells (Text test next) bytes x fits e =
    let b = bind_ok (text_at test bytes) (λ y. read (next y.0) y.1) (x, []) e in
    let t = text_takes test bytes b.0.0 b.0.1 fits b.1 in
    (b.0.0, b.0.1, t.1, t.0.parts, read_spells (next b.0.0) b.0.1 x t.0.rest_fits b.2)

-- where a step was refused
bind_err : {A B : Type 0} (r : Result A ℕ) (f : A → Result B ℕ) (left : ℕ) → and_then r f ≡ Err left
    → (r ≡ Err left) ⊎ ((x : A) × (r ≡ Ok x) × (f x ≡ Err left))
bind_err (Ok x) f left e = inr (x, refl, e)
bind_err {A = A} (Err l) f left e = inl (ap (failed A) (err_is _ l left e))

pass_left : {A : Type 0} (b : Bool) (left l : ℕ) (x : A) → cond b (Ok x) (Err left) ≡ Err l → l ≡ left
pass_left true left l x e = absurd cc
pass_left false left l x e = sym (err_is _ left l e)

guard_left : {A : Type 0} (b : Bool) (left l : ℕ) (x : A) → cond b (Err left) (Ok x) ≡ Err l → l ≡ left
guard_left true left l x e = sym (err_is _ left l e)
guard_left false left l x e = absurd cc

any_number_left : (size : Size) (bytes : List ℕ) (left : ℕ) → any_number size bytes ≡ Err left → left ≡ length bytes
unfolding any_number
any_number_left size bytes left e = guard_left _ (length bytes) left _ e

number_left : (size : Size) (test : ℕ → Bool) (bytes : List ℕ) (left : ℕ) → number_at size test bytes ≡ Err left → left ≡ length bytes
number_left size test bytes left e =
    elim (bind_err (any_number size bytes) (λ x. passing bytes test x) left e) [
      | inl first ↦ any_number_left size bytes left first
      | inr second ↦ pass_left _ (length bytes) left second.0 second.2
    ]

any_text_left : (bytes : List ℕ) (left : ℕ) → any_text bytes ≡ Err left → left ≡ length bytes
unfolding any_text
any_text_left bytes left e =
    elim (bind_err (any_number U32 bytes) (λ n. text_of bytes n) left e) [
      | inl first ↦ any_number_left U32 bytes left first
      | inr second ↦ guard_left _ (length bytes) left _ second.2
    ]

text_left : (test : List ℕ → Bool) (bytes : List ℕ) (left : ℕ) → text_at test bytes ≡ Err left → left ≡ length bytes
text_left test bytes left e =
    elim (bind_err (any_text bytes) (λ x. passing bytes test x) left e) [
      | inl first ↦ any_text_left bytes left first
      | inr second ↦ pass_left _ (length bytes) left second.0 second.2
    ]

apart : {A : Type 0} (x : A) (left : ℕ) → done x ≡ failed A left → ⊥
apart x left e = absurd cc

no_number : (size : Size) (test : ℕ → Bool) (bytes : List ℕ) (left : ℕ) → number_at size test bytes ≡ Err left → NoNumber size test bytes
no_number size test bytes left e n rest is at =
    apart (n, rest) left (sym (number_again size test n rest is) ∙ ap (number_at size test) (sym at) ∙ e)

no_text : (test : List ℕ → Bool) (bytes : List ℕ) (left : ℕ) → text_at test bytes ≡ Err left → NoText test bytes
no_text test bytes left e t rest is at =
    apart (t, rest) left (sym (text_again test t rest is) ∙ ap (text_at test) (sym at) ∙ e)

-- what reading tells of a place with so many bytes left
pub record Refuses {A : Type 0} (f : Format A) (bytes : List ℕ) (left : ℕ) : Type 0 where
  pub at : ℕ
  pub place : at + left ≡ length bytes
  pub bad : IsBadAt f bytes at

-- reading stopped at a field, or at the end where bytes follow
pub data Stops {A : Type 0} (f : Format A) (bytes : List ℕ) (left : ℕ) : Type 0 where
  Refused : read f bytes ≡ Err left → Stops f bytes left
  Follows : (x : A) (rest : List ℕ) → rest ≢ [] → left ≡ length rest → read f bytes ≡ Ok (x, rest) → Stops f bytes left

pub stop_refuses : {A : Type 0} (f : Format A) (bytes : List ℕ) (left : ℕ) → IsBytes bytes → Stops f bytes left → Refuses f bytes left
stop_refuses (Ends a) bytes left fits (Refused e) = absurd cc
stop_refuses {A = A} (Ends a) bytes left fits (Follows x rest some l e) =
    let same : bytes ≡ rest = ap (λ (p : A × List ℕ). p.1) (ok_is (a, bytes) (x, rest) e) in
    record { at = 0; place = omega (arith, l, ap length same); bad = (refl, λ none. some (sym same ∙ none)) }
stop_refuses (Number size test next) bytes left fits (Refused e) =
    elim (bind_err (number_at size test bytes) (λ y. read (next y.0) y.1) left e) [
      | inl first ↦ record { at = 0; place = omega (arith, number_left size test bytes left first); bad = inl (refl, no_number size test bytes left first) }
      | inr second ↦
          let t = number_takes size test bytes second.0.0 second.0.1 fits second.1 in
          let later = stop_refuses (next second.0.0) second.0.1 left t.0.rest_fits (Refused second.2) in
          record {
            at = length (number_bytes size second.0.0) + later.at;
            place = omega (arith, later.place, ap length t.0.parts, length-append (number_bytes size second.0.0) second.0.1);
            bad = inr (second.0.0, second.0.1, t.1, t.0.parts, later.at, refl, later.bad);
          }
    ]
stop_refuses (Number size test next) bytes left fits (Follows x rest some l e) =
    let b = bind_ok (number_at size test bytes) (λ y. read (next y.0) y.1) (x, rest) e in
    let t = number_takes size test bytes b.0.0 b.0.1 fits b.1 in
    let later = stop_refuses (next b.0.0) b.0.1 left t.0.rest_fits (Follows x rest some l b.2) in
    record {
      at = length (number_bytes size b.0.0) + later.at;
      place = omega (arith, later.place, ap length t.0.parts, length-append (number_bytes size b.0.0) b.0.1);
      bad = inr (b.0.0, b.0.1, t.1, t.0.parts, later.at, refl, later.bad);
    }
stop_refuses (Text test next) bytes left fits (Refused e) =
    elim (bind_err (text_at test bytes) (λ y. read (next y.0) y.1) left e) [
      | inl first ↦ record { at = 0; place = omega (arith, text_left test bytes left first); bad = inl (refl, no_text test bytes left first) }
      | inr second ↦
          let t = text_takes test bytes second.0.0 second.0.1 fits second.1 in
          let later = stop_refuses (next second.0.0) second.0.1 left t.0.rest_fits (Refused second.2) in
          record {
            at = length (text_bytes second.0.0) + later.at;
            place = omega (arith, later.place, ap length t.0.parts, length-append (text_bytes second.0.0) second.0.1);
            bad = inr (second.0.0, second.0.1, t.1, t.0.parts, later.at, refl, later.bad);
          }
    ]
stop_refuses (Text test next) bytes left fits (Follows x rest some l e) =
    let b = bind_ok (text_at test bytes) (λ y. read (next y.0) y.1) (x, rest) e in
    let t = text_takes test bytes b.0.0 b.0.1 fits b.1 in
    let later = stop_refuses (next b.0.0) b.0.1 left t.0.rest_fits (Follows x rest some l b.2) in
    record {
      at = length (text_bytes b.0.0) + later.at;
      place = omega (arith, later.place, ap length t.0.parts, length-append (text_bytes b.0.0) b.0.1);
      bad = inr (b.0.0, b.0.1, t.1, t.0.parts, later.at, refl, later.bad);
    }

-- ---- one format behind another

pub read-then : {A B : Type 0} (f : Format A) (g : A → Format B) (bytes : List ℕ) → read (f >>= g) bytes ≡ and_then (read f bytes) (λ x. read (g x.0) x.1)
read-then (Ends a) g bytes = refl
read-then (Number size test next) g bytes = by_cases (λ n rest. read-then (next n) g rest) (number_at size test bytes)
  where
    by_cases : ((n : ℕ) (rest : List ℕ) → read (next n >>= g) rest ≡ and_then (read (next n) rest) (λ x. read (g x.0) x.1)) → (r : Read ℕ) → and_then r (λ x. read (next x.0 >>= g) x.1) ≡ and_then (and_then r (λ x. read (next x.0) x.1)) (λ x. read (g x.0) x.1)
    by_cases later (Ok x) = later x.0 x.1
    by_cases later (Err left) = refl
read-then (Text test next) g bytes = by_cases (λ t rest. read-then (next t) g rest) (text_at test bytes)
  where
    by_cases : ((t : List ℕ) (rest : List ℕ) → read (next t >>= g) rest ≡ and_then (read (next t) rest) (λ x. read (g x.0) x.1)) → (r : Read (List ℕ)) → and_then r (λ x. read (next x.0 >>= g) x.1) ≡ and_then (and_then r (λ x. read (next x.0) x.1)) (λ x. read (g x.0) x.1)
    by_cases later (Ok x) = later x.0 x.1
    by_cases later (Err left) = refl

pub spelled-then : {A B : Type 0} (f : Format A) (g : A → Format B) (a b : List ℕ) (x : A) (y : B) → IsSpelled f a x → IsSpelled (g x) b y → IsSpelled (f >>= g) (a ++ b) y
spelled-then {A = A} (Ends v) g a b x y (none, is) q = rw none (subst (λ (k : A). IsSpelled (g k) b y) is q)
spelled-then (Number size test next) g a b x y (n, rest, is, at, p) q =
    (n, rest ++ b, is, ap (λ (l : List ℕ). l ++ b) at ∙ append_assoc (number_bytes size n) rest b, spelled-then (next n) g rest b x y p q)
spelled-then (Text test next) g a b x y (t, rest, is, at, p) q =
    (t, rest ++ b, is, ap (λ (l : List ℕ). l ++ b) at ∙ append_assoc (text_bytes t) rest b, spelled-then (next t) g rest b x y p q)

-- each list of bytes spells a value or is refused
pub spelled_or_bad : {A : Type 0} (f : Format A) (bytes : List ℕ) → IsBytes bytes → ((x : A) × IsSpelled f bytes x) ⊎ ((at : ℕ) × IsBadAt f bytes at)
spelled_or_bad {A = A} f bytes fits = by_read (read f bytes) refl
  where
    refused : (left : ℕ) → Stops f bytes left → (at : ℕ) × IsBadAt f bytes at
    refused left stops = let r = stop_refuses f bytes left fits stops in (r.at, r.bad)

    by_rest : (x : A) (rest : List ℕ) → read f bytes ≡ Ok (x, rest) → ((y : A) × IsSpelled f bytes y) ⊎ ((at : ℕ) × IsBadAt f bytes at)
    by_rest x [] e = inl (x, read_spells f bytes x fits e)
    by_rest x (b ∷ rest) e = inr (refused (length (b ∷ rest)) (Follows x (b ∷ rest) (λ none. absurd cc) refl e))

    by_read : (r : Read A) → read f bytes ≡ r → ((y : A) × IsSpelled f bytes y) ⊎ ((at : ℕ) × IsBadAt f bytes at)
    by_read (Ok x) e = by_rest x.0 x.1 e
    by_read (Err left) e = inr (refused left (Refused e))
