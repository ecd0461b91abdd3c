-- What stands before a last `}`.
use denote.Ref.{Bor}
use Rattle.std.proofs.Common.{◌≡◌, ℕ, ◌+◌, ◌-◌, List, [], ◌∷◌, ◌++◌, length, take, Bool, true, false, ◌==◌, Option, Some, None, IsUtf8, encode_utf8_all, refl, sym, ap, ◌∙◌, subst, arith}
use Rattle.std.specs.Prelude.{MatchOption}
use Rattle.std.specs.Str.{chars}
use Rattle.std.specs.Str.Pattern.{FindsCharSuffix}
use Rattle.std.proofs.lemmas.Str.{chars-append, encodes-append, encodes-chars, IsUtf8-take}
use Rattle.std.proofs.lemmas.Str.Pattern.{strip_suffix_char}
use Rattle.std.proofs.lemmas.Bool.Decides.{nat_tests}
use Rattle.yarn_expr.specs.Reading.{◌>>=◌}
use Rattle.yarn_expr.proofs.Shown.{ascii-spelt}
use Rattle.yarn_expr.proofs.Steps.{bind_some}
use Rattle.yarn_commands.specs.Reading.{before_brace}

pub eq_is : (c d : ℕ) → (c == d) ≡ true → c ≡ d
eq_is c d e = grind (arith, nat_tests)

pub before_brace-some : (cs inner : List ℕ) → before_brace cs ≡ Some inner → cs ≡ inner ++ 125 ∷ []
before_brace-some [] inner e = cc
before_brace-some (c ∷ []) inner e = by_test (c == 125) refl
  where
    by_test : (b : Bool) → (c == 125) ≡ b → c ∷ [] ≡ inner ++ 125 ∷ []
    by_test true is = let f = rw is at e in let same : ◌≡◌ {A = List ℕ} [] inner = cc in ap (λ x. x ∷ []) (eq_is c 125 is) ∙ ap (λ l. l ++ 125 ∷ []) same
    by_test false is = let f = rw is at e in cc
before_brace-some (c ∷ d ∷ cs) inner e =
    let b = bind_some (before_brace (d ∷ cs)) (λ l. Some (c ∷ l)) inner e in
    let more = before_brace-some (d ∷ cs) b.0 b.1 in
    let same : c ∷ b.0 ≡ inner = (let s = b.2 in cc) in
    ap (λ l. c ∷ l) more ∙ ap (λ l. l ++ 125 ∷ []) same

pub before_brace-append : (inner : List ℕ) → before_brace (inner ++ 125 ∷ []) ≡ Some inner
before_brace-append [] = refl
before_brace-append (c ∷ []) = refl
before_brace-append (c ∷ d ∷ inner) = ap (λ o. o >>= λ l. Some (c ∷ l)) (before_brace-append (d ∷ inner))

-- the same of the bytes of a text
abbrev pub Strips : List ℕ → Option (Bor (List ℕ)) → Type 0
Strips bytes r = MatchOption r (FindsCharSuffix 125 bytes None) (λ x. (n : ℕ) × FindsCharSuffix 125 bytes (Some n) × (x.now ≡ take (length bytes - n) bytes) × (length x.now + n ≡ length bytes))

abbrev IsBefore : List ℕ → Option (Bor (List ℕ)) → Type 0
IsBefore bytes r = MatchOption r (before_brace (chars bytes) ≡ None) (λ x. before_brace (chars bytes) ≡ Some (chars x.now))

brace-chars : chars (125 ∷ []) ≡ 125 ∷ []
unfolding chars
brace-chars = refl

pub braced : (bytes : List ℕ) (r : Option (Bor (List ℕ))) → IsUtf8 bytes → Strips bytes r → IsBefore bytes r
braced bytes (Some x) utf8 h =
    let split = strip_suffix_char 125 bytes (Some x) h (omega arith) in
    let boundary = h.1.2 in
    let n = h.1.0 in
    let front : IsUtf8 x.now = subst IsUtf8 (ap (λ k. take (length bytes - k) bytes) (sym n) ∙ sym h.2) (IsUtf8-take bytes _ utf8 boundary) in
    ap before_brace (ap chars split ∙ chars-append x.now (125 ∷ []) front ∙ ap (λ l. chars x.now ++ l) brace-chars) ∙ before_brace-append (chars x.now)
braced bytes None utf8 h = at (before_brace (chars bytes)) refl
  where
    at : (o : Option (List ℕ)) → before_brace (chars bytes) ≡ o → o ≡ None
    at None is = refl
    at (Some inner) is =
        let whole : bytes ≡ encode_utf8_all (inner ++ 125 ∷ []) = sym (encodes-chars bytes utf8) ∙ ap encode_utf8_all (before_brace-some (chars bytes) inner is) in
        absurd (strip_suffix_char 125 bytes None h (omega arith) (encode_utf8_all inner) (whole ∙ encodes-append inner (125 ∷ []) ∙ ap (λ l. encode_utf8_all inner ++ l) (sym (ascii-spelt (125 ∷ []) refl))))

pub braced-utf8 : (bytes : List ℕ) (x : Bor (List ℕ)) → IsUtf8 bytes → Strips bytes (Some x) → IsUtf8 x.now
braced-utf8 bytes x utf8 h = subst IsUtf8 (ap (λ k. take (length bytes - k) bytes) (sym h.1.0) ∙ sym h.2) (IsUtf8-take bytes _ utf8 h.1.2)
