-- What stands behind two characters of ASCII is UTF-8, and so are a content and what follows it.
use Rattle.std.proofs.Common.{◌≡◌, ℕ, ◌<◌, List, [], ◌∷◌, take, drop, Bool, true, false, nat_eq, Some, codes, sym, ap, subst, ◌∙◌, arith, IsUtf8}
use Rattle.std.proofs.lemmas.Bool.{and_parts}
use Rattle.yarn_lines.specs.Lines.{begins_with}
use Rattle.yarn_items.specs.declared.content.ContentRead.{ContentRead}
use Rattle.yarn_items.specs.Text.{trimmed}
use Rattle.yarn_items.specs.ContentForm.{in_content, content_length, content_found, IsContentAnswer}
use Rattle.yarn_items.proofs.Utf8Lemmas.{BeginsAscii, begins-first, behind-utf8, front-utf8, rest-utf8, trimmed-utf8}

abbrev BeginsTwo : List ℕ → Type 0
BeginsTwo bytes = BeginsAscii bytes × (IsUtf8 bytes → IsUtf8 (drop 2 bytes))

two-ascii : (k l : ℕ) → k < 128 → l < 128 → (bytes : List ℕ) → begins_with (k ∷ l ∷ []) bytes ≡ true → BeginsTwo bytes
two-ascii k l small smaller [] is = absurd cc
two-ascii k l small smaller (b ∷ []) is = let h = and_parts (nat_eq b k) false is in absurd cc
two-ascii k l small smaller (b ∷ c ∷ bytes) is =
    let first : b ≡ k = begins-first k b (l ∷ []) (c ∷ bytes) is in
    let second : c ≡ l = begins-first l c [] bytes (and_parts (nat_eq b k) (begins_with (l ∷ []) (c ∷ bytes)) is).1 in
    let low : b < 128 = omega (arith, small, first) in
    (low, λ utf8. behind-utf8 c bytes (omega (arith, smaller, second)) (behind-utf8 b (c ∷ bytes) low utf8))

pub command-utf8 : (text : List ℕ) → begins_with (codes "<<") text ≡ true → IsUtf8 text → IsUtf8 (drop 2 text)
command-utf8 text is utf8 = (two-ascii 60 60 (omega arith) (omega arith) text is).1 utf8

pub option-utf8 : (text : List ℕ) → begins_with (codes "->") text ≡ true → IsUtf8 text → IsUtf8 (drop 2 text)
option-utf8 text is utf8 = (two-ascii 45 62 (omega arith) (omega arith) text is).1 utf8

-- the parts of what the code cut at that place
pub content-answer : (games : Bool) (bytes inside behind : List ℕ) (n : ℕ) (read : ContentRead) → n ≡ content_length games (in_content false) bytes →
    inside ≡ take n bytes → behind ≡ drop n bytes → begins_with (codes ">>") behind ≡ true → read.rest.now ≡ drop 2 behind → read.own.now ≡ trimmed inside →
    IsUtf8 bytes → IsContentAnswer (content_found games bytes) (Some read)
content-answer games bytes inside behind n read at front back begins rest own utf8 =
    let told : begins_with (codes ">>") (drop n bytes) ≡ true = ap (begins_with (codes ">>")) (sym back) ∙ begins in
    let two = two-ascii 62 62 (omega arith) (omega arith) (drop n bytes) told in
    let front_utf8 : IsUtf8 (take n bytes) = front-utf8 bytes n two.0 utf8 in
    let rest_utf8 : IsUtf8 (drop 2 (drop n bytes)) = two.1 (rest-utf8 bytes n two.0 utf8) in
    let whole : begins_with (codes ">>") (drop (content_length games (in_content false) bytes) bytes) ≡ true = subst (λ k. begins_with (codes ">>") (drop k bytes) ≡ true) at told in
    rw (whole, ← at) (record {
      own = own ∙ ap trimmed front;
      rest = rest ∙ ap (drop 2) back;
      own_utf8 = trimmed-utf8 (take n bytes) front_utf8;
      rest_utf8 = rest_utf8;
    })
