-- Writing one field or part after another.
use Rattle.std.proofs.Common.{◌≡◌, ℕ, zero, suc, ◌+◌, ◌-◌, ◌^◌, ◌<◌, ◌≤◌, Bool, true, List, [], ◌∷◌, ◌++◌, length, take, slice_get, get_or, Some, refl, sym, ap, subst, ◌∙◌, append_assoc, arith}
use Rattle.std.specs.Str.{IsUtf8}
use Rattle.std.proofs.lemmas.List.{append-nil}
use Rattle.yarn_code.specs.Format.{Format, ◌>>=◌, Ends, Number, Text, Size, U32, limit, number_bytes, text_bytes, IsSpelled, times}
use Rattle.yarn_code.specs.Layout.{any, many}
use Rattle.yarn_code.specs.Writing.{Writes, HasWritten}
use Rattle.yarn_code.proofs.FormatLemmas.{spelled-then}

pub Writes-end : {A : Type 0} (x : A) (old : List ℕ) → Writes (Ends x) x old old
Writes-end x old = record { bytes = []; split = sym (append-nil old); spelled = (refl, refl) }

pub Writes-then : {A B : Type 0} (f : Format A) (g : A → Format B) (x : A) (y : B) (a b c : List ℕ) → Writes f x a b → Writes (g x) y b c → Writes (f >>= g) y a c
Writes-then f g x y a b c p q = record {
  bytes = p.bytes ++ q.bytes;
  split = q.split ∙ ap (λ (l : List ℕ). l ++ q.bytes) p.split ∙ append_assoc a p.bytes q.bytes;
  spelled = spelled-then f g p.bytes q.bytes x y p.spelled q.spelled;
}

-- a number, and what its value leads to
pub number_written : {A : Type 0} (size : Size) (test : ℕ → Bool) (next : ℕ → Format A) (n : ℕ) (x : A) (a b c : List ℕ)
    → n < limit size → test n ≡ true → b ≡ a ++ number_bytes size n → Writes (next n) x b c → Writes (Number size test next) x a c
number_written size test next n x a b c small passes e q = record {
  bytes = number_bytes size n ++ q.bytes;
  split = q.split ∙ ap (λ (l : List ℕ). l ++ q.bytes) e ∙ append_assoc a (number_bytes size n) q.bytes;
  spelled = (n, q.bytes, record { small = small; passes = passes }, refl, q.spelled);
}

pub text_written : {A : Type 0} (test : List ℕ → Bool) (next : List ℕ → Format A) (t : List ℕ) (x : A) (a b c : List ℕ)
    → length t < 2 ^ 32 → IsUtf8 t → test t ≡ true → b ≡ a ++ text_bytes t → Writes (next t) x b c → Writes (Text test next) x a c
text_written test next t x a b c short utf8 passes e q = record {
  bytes = text_bytes t ++ q.bytes;
  split = q.split ∙ ap (λ (l : List ℕ). l ++ q.bytes) e ∙ append_assoc a (text_bytes t) q.bytes;
  spelled = (t, q.bytes, record { short = short; utf8 = utf8; passes = passes }, refl, q.spelled);
}

-- ---- many parts

pub HasWritten-none : {A : Type 0} (part : List A → Format A) (xs : List A) (old : List ℕ) → HasWritten part xs 0 old old
HasWritten-none part xs old = record { front = []; split = sym (append-nil old); goes_on = λ more h. let k : length xs - 0 ≡ length xs = omega arith in subst (λ j. IsSpelled (times j part []) more xs) k h }

take_next : {A : Type 0} (xs : List A) (i : ℕ) (x : A) → slice_get xs i ≡ Some x → take (suc i) xs ≡ take i xs ++ x ∷ []
take_next [] i x at = absurd cc
take_next (y ∷ xs) zero x at = cc
take_next (y ∷ xs) (suc i) x at = ap (λ l. y ∷ l) (take_next xs i x at)

take_more : {A : Type 0} (xs : List A) (i : ℕ) (x : A) → slice_get xs i ≡ Some x → take (i + 1) xs ≡ take i xs ++ x ∷ []
take_more xs i x at = let e : i + 1 ≡ suc i = omega arith in rw e (take_next xs i x at)

pub HasWritten-more : {A : Type 0} (part : List A → Format A) (xs : List A) (i : ℕ) (x : A) (old mid new : List ℕ)
    → i < length xs → slice_get xs i ≡ Some x → HasWritten part xs i old mid → Writes (part (take i xs)) x mid new → HasWritten part xs (i + 1) old new
HasWritten-more part xs i x old mid new lt at so_far one = record {
  front = so_far.front ++ one.bytes;
  split = one.split ∙ ap (λ (l : List ℕ). l ++ one.bytes) so_far.split ∙ append_assoc old so_far.front one.bytes;
  goes_on = λ more h.
      let k : length xs - i ≡ suc (length xs - (i + 1)) = omega (arith, lt) in
      let later : IsSpelled (times (length xs - (i + 1)) part (take i xs ++ x ∷ [])) more xs = subst (λ l. IsSpelled (times (length xs - (i + 1)) part l) more xs) (take_more xs i x at) h in
      let both : IsSpelled (times (suc (length xs - (i + 1))) part (take i xs)) (one.bytes ++ more) xs =
      spelled-then (part (take i xs)) (λ y. times (length xs - (i + 1)) part (take i xs ++ y ∷ [])) one.bytes more x xs one.spelled later in
      subst (λ l. IsSpelled (times (length xs) part []) l xs) (sym (append_assoc so_far.front one.bytes more))
      (so_far.goes_on (one.bytes ++ more) (subst (λ j. IsSpelled (times j part (take i xs)) (one.bytes ++ more) xs) (sym k) both));
}

take_all : {A : Type 0} (xs : List A) (n : ℕ) → length xs ≤ n → take n xs ≡ xs
take_all [] zero le = refl
take_all [] (suc n) le = refl
take_all (x ∷ xs) zero le = absurd (omega (arith, le))
take_all (x ∷ xs) (suc n) le = ap (λ l. x ∷ l) (take_all xs n (omega (arith, le)))

pub HasWritten-all : {A : Type 0} (part : List A → Format A) (xs : List A) (i : ℕ) (old new : List ℕ)
    → length xs ≤ i → HasWritten part xs i old new → Writes (times (length xs) part []) xs old new
HasWritten-all part xs i old new le so_far = record {
  bytes = so_far.front;
  split = so_far.split;
  spelled =
      let k : length xs - i ≡ 0 = omega (arith, le) in
      subst (λ l. IsSpelled (times (length xs) part []) l xs) (append-nil so_far.front)
      (so_far.goes_on [] (subst (λ j. IsSpelled (times j part (take i xs)) [] xs) (sym k) (refl, sym (take_all xs i le))));
}

-- the count, and then the parts
pub many_written : {A : Type 0} (part : List A → Format A) (xs : List A) (a b c : List ℕ)
    → length xs < 2 ^ 32 → b ≡ a ++ number_bytes U32 (length xs) → Writes (times (length xs) part []) xs b c → Writes (many part) xs a c
many_written part xs a b c small e all = number_written U32 any (λ n. times n part []) (length xs) xs a b c small refl e all

get_here : {A : Type 0} (xs : List A) (i : ℕ) (x : A) → i < length xs → x ≡ get_or xs i x → slice_get xs i ≡ Some x
get_here [] i x lt is = absurd (omega (arith, lt))
get_here (y ∷ xs) zero x lt is = ap Some (sym is)
get_here (y ∷ xs) (suc i) x lt is = get_here xs i x (omega (arith, lt)) is

-- the item of a loop, where the items are gone over in another list that is equal
pub item_here : {A : Type 0} (xs items : List A) (i : ℕ) (x : A) → items ≡ xs → i < length items → x ≡ get_or items i x → slice_get xs i ≡ Some x
item_here xs items i x same lt is = subst (λ l. slice_get l i ≡ Some x) same (get_here items i x lt is)

pub HasWritten-next : {A : Type 0} (part : List A → Format A) (xs items : List A) (i : ℕ) (x : A) (old mid new : List ℕ)
    → items ≡ xs → i < length items → x ≡ get_or items i x → HasWritten part xs i old mid → Writes (part (take i xs)) x mid new → HasWritten part xs (i + 1) old new
HasWritten-next part xs items i x old mid new same lt is so_far one =
    HasWritten-more part xs i x old mid new (subst (λ l. i < length l) same lt) (item_here xs items i x same lt is) so_far one

pub HasWritten-end : {A : Type 0} (part : List A → Format A) (xs items : List A) (i : ℕ) (old new : List ℕ)
    → items ≡ xs → length items ≤ i → HasWritten part xs i old new → Writes (times (length xs) part []) xs old new
HasWritten-end part xs items i old new same le so_far = HasWritten-all part xs i old new (subst (λ l. length l ≤ i) same le) so_far
