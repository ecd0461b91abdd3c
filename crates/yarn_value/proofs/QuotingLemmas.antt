-- Escapes: each byte has one spelling, and no spelling begins another or the last quote.
use Rattle.std.proofs.Common.{◌≡◌, ℕ, suc, ◌<◌, ◌≤◌, ◌⊎◌, inl, inr, List, [], ◌∷◌, ◌++◌, length, get_or, Option, Some, None, IsUtf8, encode_utf8, refl, sym, ap, ◌∙◌, subst, arith, append_assoc, append-nil}
use Rattle.std.proofs.lemmas.Str.{inside_one, char_from_byte, length-encode, len_utf8_bounds}
use Rattle.std.proofs.lemmas.Bool.Decides.{nat_tests}
use Rattle.yarn_value.specs.Quoting.{letter, spelled, escaped, escape, IsQuoted, IsBody, QuotedOnce}
use Rattle.yarn_value.specs.QuotingSteps.{IsCharPart}

pub escape-append : (a b : List ℕ) → escape (a ++ b) ≡ escape a ++ escape b
escape-append [] b = refl
escape-append (x ∷ a) b = ap (λ l. escaped x ++ l) (escape-append a b) ∙ sym (append_assoc (escaped x) (escape a) (escape b))

-- ---- bytes that stand for themselves

large_plain : (b : ℕ) → 128 ≤ b → letter b ≡ None
large_plain b h = grind (arith, nat_tests)

plain_all : (bytes : List ℕ) → ((k : ℕ) → k < length bytes → letter (get_or bytes k 0) ≡ None) → escape bytes ≡ bytes
plain_all [] plain = refl
plain_all (b ∷ bytes) plain =
    let first : letter b ≡ None = plain 0 (omega arith) in
    let rest : escape bytes ≡ bytes = plain_all bytes (λ k h. plain (suc k) (omega arith)) in
    rw first (ap (λ l. b ∷ l) rest)

plain_byte : (c k : ℕ) → letter c ≡ None → k < length (encode_utf8 c) → letter (get_or (encode_utf8 c) k 0) ≡ None
plain_byte c k plain h = by_size (get_or (encode_utf8 c) k 0) (λ small. inside_one c [] (encode_utf8 c) k (sym (append-nil (encode_utf8 c))) h small)
  where
    by_size : (b : ℕ) → (b < 128 → c ≡ b) → letter b ≡ None
    by_size b same = grind (arith, nat_tests, large_plain b)

pub escape-plain : (c : ℕ) → letter c ≡ None → escape (encode_utf8 c) ≡ encode_utf8 c
escape-plain c plain = plain_all (encode_utf8 c) (λ k h. plain_byte c k plain h)

pub ruleset escapes = (escape-plain)

pub is_plain : (c : ℕ) → ¬ (c ≡ 92) → ¬ (c ≡ 34) → ¬ (c ≡ 10) → ¬ (c ≡ 13) → letter c ≡ None
is_plain c a b d e = grind (arith, nat_tests)

-- ---- what a body begins with

pub data Begins (b : ℕ) (rest : List ℕ) : Type 0 where
  Ends : b ≡ 34 → rest ≡ [] → Begins b rest
  Plain : letter b ≡ None → IsBody rest → Begins b rest
  Pair : (t l : ℕ) (after : List ℕ) → b ≡ 92 → letter t ≡ Some l → rest ≡ l ∷ after → IsBody after → Begins b rest

begins_spelled : (b : ℕ) (rest : List ℕ) (t : ℕ) (ts : List ℕ) (o : Option ℕ) → letter t ≡ o → b ∷ rest ≡ (spelled t o ++ escape ts) ++ 34 ∷ [] → Begins b rest
begins_spelled b rest t ts None is e =
    let head : b ≡ t = cc in
    let tail : rest ≡ escape ts ++ 34 ∷ [] = cc in
    let plain : letter b ≡ None = ap letter head ∙ is in
    Plain plain (ts, tail)
begins_spelled b rest t ts (Some l) is e =
    let head : b ≡ 92 = cc in
    let tail : rest ≡ l ∷ (escape ts ++ 34 ∷ []) = cc in
    Pair t l (escape ts ++ 34 ∷ []) head is tail (ts, refl)

pub begins : (b : ℕ) (rest : List ℕ) → IsBody (b ∷ rest) → Begins b rest
begins b rest ([], e) =
    let head : b ≡ 34 = cc in
    let tail : rest ≡ [] = cc in
    Ends head tail
begins b rest (t ∷ ts, e) = begins_spelled b rest t ts (letter t) refl e

pub no_body-empty : IsBody [] → ⊥
no_body-empty ([], e) = absurd cc
no_body-empty (t ∷ ts, e) = by_letter (letter t) e
  where
    by_letter : (o : Option ℕ) → [] ≡ (spelled t o ++ escape ts) ++ 34 ∷ [] → ⊥
    by_letter None h = absurd cc
    by_letter (Some l) h = absurd cc

-- one byte's spelling is a front of the body
peel_spelled : (x : ℕ) (after : List ℕ) (o : Option ℕ) → letter x ≡ o → IsBody (spelled x o ++ after) → IsBody after
peel_spelled x after None is body = by_first (begins x after body)
  where
    by_first : Begins x after → IsBody after
    by_first (Ends b r) = let h : letter 34 ≡ None = ap letter (sym b) ∙ is in absurd cc
    by_first (Plain p r) = r
    by_first (Pair t l rest b p r i) = let h : letter 92 ≡ None = ap letter (sym b) ∙ is in absurd cc
peel_spelled x after (Some m) is body = by_first (begins 92 (m ∷ after) body)
  where
    by_first : Begins 92 (m ∷ after) → IsBody after
    by_first (Ends b r) = absurd cc
    by_first (Plain p r) = absurd cc
    by_first (Pair t l rest b p r i) = let same : rest ≡ after = cc in subst IsBody same i

pub peel : (xs after : List ℕ) → IsBody (escape xs ++ after) → IsBody after
peel [] after body = body
peel (x ∷ xs) after body = peel xs after (peel_spelled x (escape xs ++ after) (letter x) refl (subst IsBody (append_assoc (escaped x) (escape xs) after) body))

-- ---- what is no body

letter-quote : letter 34 ≡ None → ⊥
letter-quote h = absurd cc

letter-backslash : letter 92 ≡ None → ⊥
letter-backslash h = absurd cc

raw_begins : (b : ℕ) (rest : List ℕ) → (b ≡ 10) ⊎ (b ≡ 13) → Begins b rest → ⊥
raw_begins b rest is (Ends e r) = omega arith
raw_begins b rest is (Plain p r) = raw_letter b is p
  where
    raw_letter : (b : ℕ) → (b ≡ 10) ⊎ (b ≡ 13) → letter b ≡ None → ⊥
    raw_letter b (inl e) p = let h : letter 10 ≡ None = ap letter (sym e) ∙ p in absurd cc
    raw_letter b (inr e) p = let h : letter 13 ≡ None = ap letter (sym e) ∙ p in absurd cc
raw_begins b rest is (Pair t l after e p r i) = omega arith

pub no_body-raw : (b : ℕ) (rest : List ℕ) → (b ≡ 10) ⊎ (b ≡ 13) → IsBody (b ∷ rest) → ⊥
no_body-raw b rest is body = raw_begins b rest is (begins b rest body)

end_begins : (b : ℕ) (rest : List ℕ) → Begins 34 (b ∷ rest) → ⊥
end_begins b rest (Ends e r) = absurd cc
end_begins b rest (Plain p r) = letter-quote p
end_begins b rest (Pair t l after e p r i) = omega arith

pub no_body-behind_end : (rest : List ℕ) → 0 < length rest → IsBody (34 ∷ rest) → ⊥
no_body-behind_end [] some body = omega arith
no_body-behind_end (b ∷ rest) some body = end_begins b rest (begins 34 (b ∷ rest) body)

cut_begins : Begins 92 [] → ⊥
cut_begins (Ends e r) = omega arith
cut_begins (Plain p r) = letter-backslash p
cut_begins (Pair t l after e p r i) = absurd cc

pub no_body-cut : IsBody (92 ∷ []) → ⊥
no_body-cut body = cut_begins (begins 92 [] body)

letters : (t l : ℕ) → letter t ≡ Some l → ¬ (l ≡ 92) → ¬ (l ≡ 34) → ¬ (l ≡ 110) → ¬ (l ≡ 114) → ⊥
letters t l is a b c d = grind (arith, nat_tests)

letter_begins : (l : ℕ) (rest : List ℕ) → ¬ (l ≡ 92) → ¬ (l ≡ 34) → ¬ (l ≡ 110) → ¬ (l ≡ 114) → Begins 92 (l ∷ rest) → ⊥
letter_begins l rest n1 n2 n3 n4 (Ends e r) = omega arith
letter_begins l rest n1 n2 n3 n4 (Plain p r) = letter-backslash p
letter_begins l rest n1 n2 n3 n4 (Pair t m after e p r i) = let same : m ≡ l = cc in letters t l (p ∙ ap Some same) n1 n2 n3 n4

-- a backslash before a character that is no letter of an escape
pub no_body-letter : (l : ℕ) (rest : List ℕ) → ¬ (l ≡ 92) → ¬ (l ≡ 34) → ¬ (l ≡ 110) → ¬ (l ≡ 114) → IsBody (92 ∷ (encode_utf8 l ++ rest)) → ⊥
no_body-letter l rest n1 n2 n3 n4 body = by_bytes (encode_utf8 l) refl
  where
    by_bytes : (bytes : List ℕ) → encode_utf8 l ≡ bytes → ⊥
    by_bytes [] is = omega (arith, length-encode l, len_utf8_bounds l, ap length is)
    by_bytes (b ∷ bytes) is =
        let at : IsBody (92 ∷ b ∷ (bytes ++ rest)) = subst (λ x. IsBody (92 ∷ (x ++ rest))) is body in
        let same : b < 128 → l ≡ b = λ small. char_from_byte (b ∷ bytes) [] l (sym is ∙ sym (append-nil (encode_utf8 l))) small (omega arith) in
        letter_begins b (bytes ++ rest) (λ e. n1 (same (omega arith) ∙ e)) (λ e. n2 (same (omega arith) ∙ e)) (λ e. n3 (same (omega arith) ∙ e)) (λ e. n4 (same (omega arith) ∙ e)) (begins 92 (b ∷ (bytes ++ rest)) at)

-- ---- what is no quoted string

pub no_quoted-empty : IsQuoted [] → ⊥
no_quoted-empty (text, e) = absurd cc

pub no_quoted-other : (c : ℕ) (rest : List ℕ) → ¬ (c ≡ 34) → IsQuoted (encode_utf8 c ++ rest) → ⊥
no_quoted-other c rest n (text, e) =
    let byte : get_or (encode_utf8 c ++ rest) 0 0 ≡ 34 = ap (λ l. get_or l 0 0) e in
    let some : 0 < length (encode_utf8 c ++ rest) = omega (arith, ap length e) in
    n (char_from_byte (encode_utf8 c ++ rest) rest c refl (omega arith) some ∙ byte)

pub body_of_quoted : (body : List ℕ) → IsQuoted (34 ∷ body) → IsBody body
body_of_quoted body (text, e) = let rest : body ≡ escape text ++ 34 ∷ [] = cc in (text, rest)

-- ---- how far a body was read

pub record IsUnquoting (body value rest : List ℕ) : Type 0 where
  pub split : body ≡ escape value ++ rest
  pub only : IsBody body → IsBody rest
  pub utf8 : IsUtf8 rest

pub IsUnquoting-start : (body : List ℕ) → IsUtf8 body → IsUnquoting body [] body
IsUnquoting-start body utf8 = record { split = refl; only = λ h. h; utf8 = utf8 }

pub IsUnquoting-step : (body value rest after : List ℕ) (c : ℕ) → IsUnquoting body value rest → IsCharPart rest c after → IsUnquoting body (value ++ encode_utf8 c) after
IsUnquoting-step body value rest after c so_far part = record {
  split =
      so_far.split ∙ ap (λ l. escape value ++ l) part.bytes ∙ sym (append_assoc (escape value) (escape (encode_utf8 c)) after)
      ∙ ap (λ l. l ++ after) (sym (escape-append value (encode_utf8 c)));
  only = λ h. peel (encode_utf8 c) after (subst IsBody part.bytes (so_far.only h));
  utf8 = part.utf8;
}

-- ---- how far a text was quoted

pub pushed : (out new rest after whole : List ℕ) (c : ℕ) → out ++ escape rest ≡ whole → rest ≡ encode_utf8 c ++ after → new ≡ out ++ escape (encode_utf8 c) → new ++ escape after ≡ whole
pushed out new rest after whole c so_far is grown =
    ap (λ l. l ++ escape after) grown ∙ append_assoc out (escape (encode_utf8 c)) (escape after)
    ∙ ap (λ l. out ++ l) (sym (escape-append (encode_utf8 c) after) ∙ ap escape (sym is)) ∙ so_far

-- ---- one text for one quoted string

same_letter : (x y : ℕ) → letter x ≡ letter y → ¬ (letter x ≡ None) → x ≡ y
same_letter x y is some = grind (arith, nat_tests)

same_first : (x y : ℕ) (a b : List ℕ) (o p : Option ℕ) → letter x ≡ o → letter y ≡ p → (spelled x o ++ escape a) ++ 34 ∷ [] ≡ (spelled y p ++ escape b) ++ 34 ∷ [] → (x ≡ y) × (escape a ++ 34 ∷ [] ≡ escape b ++ 34 ∷ [])
same_first x y a b None None is ip e = let one : x ≡ y = cc in let rest : escape a ++ 34 ∷ [] ≡ escape b ++ 34 ∷ [] = cc in (one, rest)
same_first x y a b None (Some m) is ip e = let one : x ≡ 92 = cc in absurd (letter-backslash (sym (ap letter one) ∙ is))
same_first x y a b (Some l) None is ip e = let one : y ≡ 92 = cc in absurd (letter-backslash (sym (ap letter one) ∙ ip))
same_first x y a b (Some l) (Some m) is ip e =
    let one : l ≡ m = cc in
    let rest : escape a ++ 34 ∷ [] ≡ escape b ++ 34 ∷ [] = cc in
    (same_letter x y (is ∙ ap Some one ∙ sym ip) (λ h. some_is_not l (sym is ∙ h)), rest)
  where
    some_is_not : (l : ℕ) → Some l ≡ None → ⊥
    some_is_not l h = absurd cc

ends_first : (y : ℕ) (b : List ℕ) (o : Option ℕ) → letter y ≡ o → 34 ∷ [] ≡ (spelled y o ++ escape b) ++ 34 ∷ [] → ⊥
ends_first y b None is e = let one : y ≡ 34 = cc in letter-quote (sym (ap letter one) ∙ is)
ends_first y b (Some m) is e = let one : ◌≡◌ {A = ℕ} 34 92 = cc in omega (arith, one)

same_body : (a b : List ℕ) → escape a ++ 34 ∷ [] ≡ escape b ++ 34 ∷ [] → a ≡ b
same_body [] [] e = refl
same_body [] (y ∷ b) e = absurd (ends_first y b (letter y) refl e)
same_body (x ∷ a) [] e = absurd (ends_first x a (letter x) refl (sym e))
same_body (x ∷ a) (y ∷ b) e =
    let parts = same_first x y a b (letter x) (letter y) refl refl e in
    let rest : a ≡ b = same_body a b parts.1 in
    let first : x ≡ y = parts.0 in
    cc

pub quoted_once : QuotedOnce
quoted_once a b e = let rest : escape a ++ 34 ∷ [] ≡ escape b ++ 34 ∷ [] = cc in same_body a b rest
