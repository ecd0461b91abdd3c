-- A field that is read stands there, and what stands there is read.
use Rattle.std.proofs.Common.{◌≡◌, ℕ, ◌+◌, ◌%◌, ◌<◌, ◌≤◌, Bool, true, false, cond, ltb, List, [], ◌∷◌, ◌++◌, length, get_or, take, drop, Result, Ok, Err, refl, sym, ap, subst, ◌∙◌, append_assoc, arith, inl, inr, ◌||◌, not}
use Rattle.std.specs.Prelude.{nat_lt}
use Rattle.std.specs.Str.{is_utf8}
use Rattle.std.specs.Int.{Width, byte_len, from_be_bytes, to_be_bytes}
use Rattle.std.proofs.lemmas.Bool.{cases_lt, ltb-false, le-ltb}
use Rattle.std.proofs.lemmas.List.{take_at, drop_at, take-append-drop, length-append, length-take, get_or-drop, get_or-take, get_or_past}
use Rattle.std.proofs.lemmas.Nat.{be_bytes_4, be_bytes_8, from_be_bytes-to_be_bytes_4, from_be_bytes-to_be_bytes_8}
use Rattle.std.proofs.lemmas.Str.{IsUtf8-from_is_utf8, is_utf8-from_IsUtf8}
use Rattle.yarn_code.specs.Format.{Size, U8, U32, U64, width, limit, number_bytes, text_bytes, IsNumber, IsText}
use Rattle.yarn_code.specs.FormatReading.{and_then, passing, any_number, number_at, text_of, any_text, text_at}

abbrev pub IsBytes : List ℕ → Type 0
IsBytes bytes = (i : ℕ) → get_or bytes i 0 < 256

pub IsBytes-drop : (n : ℕ) (bytes : List ℕ) → IsBytes bytes → IsBytes (drop n bytes)
IsBytes-drop n bytes h i = rw get_or-drop (h (n + i))

pub IsBytes-take : (n : ℕ) (bytes : List ℕ) → IsBytes bytes → IsBytes (take n bytes)
IsBytes-take n bytes h i =
    elim (cases_lt i n) [
      | inl lt ↦ rw (get_or-take n bytes i 0 lt) (h i)
      | inr le ↦ rw (get_or_past (take n bytes) i 0 (omega (arith, length-take n bytes))) (omega arith)
    ]

-- the value of a step that wasn't refused
pub bind_ok : {A B : Type 0} (r : Result A ℕ) (f : A → Result B ℕ) (y : B) → and_then r f ≡ Ok y → (x : A) × (r ≡ Ok x) × (f x ≡ Ok y)
bind_ok (Ok x) f y e = (x, refl, e)
bind_ok (Err left) f y e = absurd cc

-- where a test chose
pub guard_ok : {A : Type 0} (b : Bool) (left : ℕ) (x y : A) → cond b (Err left) (Ok x) ≡ Ok y → (b ≡ false) × (x ≡ y)
guard_ok true left x y e = absurd cc
guard_ok false left x y e = (refl, cc)

pub pass_ok : {A : Type 0} (b : Bool) (left : ℕ) (x y : A) → cond b (Ok x) (Err left) ≡ Ok y → (b ≡ true) × (x ≡ y)
pass_ok true left x y e = (refl, cc)
pass_ok false left x y e = absurd cc

-- ---- numbers

pub record IsWide (w : Width) (limit : ℕ) : Type 0 where
  pub len : (n : ℕ) → length (to_be_bytes w n) ≡ byte_len w
  pub back : (bytes : List ℕ) → length bytes ≡ byte_len w → IsBytes bytes → to_be_bytes w (from_be_bytes w bytes) ≡ bytes
  pub again : (n : ℕ) → n < limit → from_be_bytes w (to_be_bytes w n) ≡ n
  pub below : (bytes : List ℕ) → IsBytes bytes → from_be_bytes w bytes < limit

one_byte : (bytes : List ℕ) → length bytes ≡ 1 → IsBytes bytes → to_be_bytes (width U8) (from_be_bytes (width U8) bytes) ≡ bytes
one_byte [] len fits = absurd (omega (arith, len))
one_byte (b ∷ []) len fits = let e : b % 256 ≡ b = omega (arith, fits 0) in rw e refl
one_byte (b ∷ c ∷ bytes) len fits = absurd (omega (arith, len))

pub wide : (size : Size) → IsWide (width size) (limit size)
wide U8 = record {
  len = λ n. refl;
  back = one_byte;
  again = λ n lt. omega (arith, lt);
  below = λ bytes fits. omega (arith, fits 0);
}
wide U32 = record {
  len = λ n. refl;
  back = λ bytes len fits. be_bytes_4 bytes _ len fits refl;
  again = λ n lt. from_be_bytes-to_be_bytes_4 n lt;
  below = λ bytes fits. omega (arith, fits 0, fits 1, fits 2, fits 3);
}
wide U64 = record {
  len = λ n. refl;
  back = λ bytes len fits. be_bytes_8 bytes _ len fits refl;
  again = λ n lt. from_be_bytes-to_be_bytes_8 n lt;
  below = λ bytes fits. omega (arith, fits 0, fits 1, fits 2, fits 3, fits 4, fits 5, fits 6, fits 7);
}

-- what was taken from the front
pub record Takes (bytes front rest : List ℕ) : Type 0 where
  pub parts : bytes ≡ front ++ rest
  pub rest_fits : IsBytes rest

pub any_number_takes : (size : Size) (bytes : List ℕ) (n : ℕ) (rest : List ℕ) → IsBytes bytes → any_number size bytes ≡ Ok (n, rest) → Takes bytes (number_bytes size n) rest × (n < limit size)
unfolding any_number
any_number_takes size bytes n rest fits e =
    let w = width size in
    let all = wide size in
    let g = guard_ok (ltb (length bytes) (byte_len w)) (length bytes) (from_be_bytes w (take (byte_len w) bytes), drop (byte_len w) bytes) (n, rest) e in
    let long : byte_len w ≤ length bytes = ltb-false _ _ g.0 in
    let n-is : from_be_bytes w (take (byte_len w) bytes) ≡ n = ap (λ (p : ℕ × List ℕ). p.0) g.1 in
    let rest-is : drop (byte_len w) bytes ≡ rest = ap (λ (p : ℕ × List ℕ). p.1) g.1 in
    let front : to_be_bytes w n ≡ take (byte_len w) bytes = rw (← n-is) (all.back (take (byte_len w) bytes) (omega (arith, length-take (byte_len w) bytes)) (IsBytes-take (byte_len w) bytes fits)) in
    (record { parts = rw (front, ← rest-is) (sym (take-append-drop (byte_len w) bytes)); rest_fits = rw (← rest-is) (IsBytes-drop (byte_len w) bytes fits) }, rw (← n-is) (all.below (take (byte_len w) bytes) (IsBytes-take (byte_len w) bytes fits)))

pub any_number_again : (size : Size) (n : ℕ) (rest : List ℕ) → n < limit size → any_number size (number_bytes size n ++ rest) ≡ Ok (n, rest)
unfolding any_number
any_number_again size n rest lt =
    let w = width size in
    let all = wide size in
    let len = all.len n in
    let long : ltb (length (to_be_bytes w n ++ rest)) (byte_len w) ≡ false = le-ltb _ _ (omega (arith, length-append (to_be_bytes w n) rest)) in
    rw (long, take_at (to_be_bytes w n) rest (byte_len w) len, drop_at (to_be_bytes w n) rest (byte_len w) len, all.again n lt) refl

pub number_takes : (size : Size) (test : ℕ → Bool) (bytes : List ℕ) (n : ℕ) (rest : List ℕ) → IsBytes bytes → number_at size test bytes ≡ Ok (n, rest) → Takes bytes (number_bytes size n) rest × IsNumber size test n
number_takes size test bytes n rest fits e =
    let b = bind_ok (any_number size bytes) (λ x. passing bytes test x) (n, rest) e in
    let p = pass_ok (test b.0.0) (length bytes) b.0 (n, rest) b.2 in
    let t = any_number_takes size bytes b.0.0 b.0.1 fits b.1 in
    subst (λ (x : ℕ × List ℕ). Takes bytes (number_bytes size x.0) x.1 × IsNumber size test x.0) p.1 (t.0, record { small = t.1; passes = p.0 })

pub number_again : (size : Size) (test : ℕ → Bool) (n : ℕ) (rest : List ℕ) → IsNumber size test n → number_at size test (number_bytes size n ++ rest) ≡ Ok (n, rest)
number_again size test n rest is = rw (any_number_again size n rest is.small, is.passes) refl

-- ---- texts

either_false : (a b : Bool) → (a || b) ≡ false → (a ≡ false) × (b ≡ false)
either_false true b e = absurd cc
either_false false b e = (refl, e)

not_false : (b : Bool) → not b ≡ false → b ≡ true
not_false true e = refl
not_false false e = absurd cc

pub text_takes : (test : List ℕ → Bool) (bytes text rest : List ℕ) → IsBytes bytes → text_at test bytes ≡ Ok (text, rest) → Takes bytes (text_bytes text) rest × IsText test text
unfolding any_text
text_takes test bytes text rest fits e =
    let a = bind_ok (any_text bytes) (λ x. passing bytes test x) (text, rest) e in
    let p = pass_ok (test a.0.0) (length bytes) a.0 (text, rest) a.2 in
    let b = bind_ok (any_number U32 bytes) (λ n. text_of bytes n) a.0 a.1 in
    let n = b.0 in
    let t = any_number_takes U32 bytes n.0 n.1 fits b.1 in
    let g = guard_ok (nat_lt (length n.1) n.0 || not (is_utf8 (take n.0 n.1))) (length bytes) (take n.0 n.1, drop n.0 n.1) a.0 b.2 in
    let tests = either_false (nat_lt (length n.1) n.0) (not (is_utf8 (take n.0 n.1))) g.0 in
    let long : n.0 ≤ length n.1 = ltb-false _ _ tests.0 in
    let utf8 = IsUtf8-from_is_utf8 (take n.0 n.1) (not_false _ tests.1) in
    let len : length (take n.0 n.1) ≡ n.0 = omega (arith, length-take n.0 n.1) in
    let parts : bytes ≡ text_bytes (take n.0 n.1) ++ drop n.0 n.1 =
    rw len (t.0.parts ∙ ap (λ (x : List ℕ). number_bytes U32 n.0 ++ x) (sym (take-append-drop n.0 n.1)) ∙ sym (append_assoc (number_bytes U32 n.0) (take n.0 n.1) (drop n.0 n.1))) in
    let made : Takes bytes (text_bytes (take n.0 n.1)) (drop n.0 n.1) = record { parts = parts; rest_fits = IsBytes-drop n.0 n.1 t.0.rest_fits } in
    let whole : (x : List ℕ × List ℕ) → (take n.0 n.1, drop n.0 n.1) ≡ x → test x.0 ≡ true → Takes bytes (text_bytes x.0) x.1 × IsText test x.0 =
    λ x is passes. (
      subst (λ (y : List ℕ × List ℕ). Takes bytes (text_bytes y.0) y.1) is made,
      subst (λ (y : List ℕ × List ℕ). test y.0 ≡ true → IsText test y.0) is (λ h. record { short = omega (arith, len, t.1); utf8 = utf8; passes = h }) passes,
    ) in
    subst (λ (x : List ℕ × List ℕ). Takes bytes (text_bytes x.0) x.1 × IsText test x.0) p.1 (whole a.0 g.1 p.0)

pub text_again : (test : List ℕ → Bool) (text rest : List ℕ) → IsText test text → text_at test (text_bytes text ++ rest) ≡ Ok (text, rest)
unfolding any_text
text_again test text rest is =
    let regrouped : text_bytes text ++ rest ≡ number_bytes U32 (length text) ++ (text ++ rest) = append_assoc (number_bytes U32 (length text)) text rest in
    let long : nat_lt (length (text ++ rest)) (length text) ≡ false = le-ltb _ _ (omega (arith, length-append text rest)) in
    let utf8 = is_utf8-from_IsUtf8 text is.utf8 in
    ap (text_at test) regrouped ∙ rw (any_number_again U32 (length text) (text ++ rest) is.short, long, take_at text rest (length text) refl, utf8, is.passes, drop_at text rest (length text) refl) refl
