-- Hashtags, one after the other.
use Rattle.std.proofs.Common.{◌≡◌, ℕ, zero, suc, ◌<◌, List, [], ◌∷◌, ◌++◌, length, take, drop, get_or, Bool, true, false, nat_eq, Option, Some, None, codes, bytes_eq, refl, sym, ap, ◌∙◌, arith, add-one, append_assoc}
use Rattle.std.proofs.lemmas.Bool.{or_parts, eqb-true, ne_eqb}
use Rattle.yarn_lines.specs.Lines.{is_blank, past_leading, begins_with}
use Rattle.yarn_items.specs.Text.{is_tag_byte}
use Rattle.yarn_items.specs.Hashtags.{tag_length, onto_first, with_tag, unless_empty, tags_from, tags_of}
use Rattle.yarn_items.specs.Step.{ends_line, IsStep}
use Rattle.yarn_items.specs.declared.hashtags.Step.{Step}
use Rattle.yarn_items.specs.declared.hashtags.Step.TheVariants.{Tag, End, Other}
use Rattle.yarn_items.proofs.Utf8Lemmas.{BeginsAscii, blank-ascii, begins-first, past_leading-length}

-- the hashtags behind others
abbrev pub joined : List (List ℕ) → Option (List (List ℕ)) → Option (List (List ℕ))
joined done (Some tags) = Some (done ++ tags)
joined done None = None

pub joined-tag : (done : List (List ℕ)) (own : List ℕ) (tags : Option (List (List ℕ))) → joined (done ++ own ∷ []) tags ≡ joined done (with_tag own tags)
joined-tag done own (Some tags) = ap Some (append_assoc done (own ∷ []) tags)
joined-tag done own None = refl

pub tags_of-leading : (bytes : List ℕ) → tags_of bytes ≡ tags_of (past_leading bytes)
tags_of-leading [] = refl
tags_of-leading (b ∷ bytes) = by_test (tags_of-leading bytes) (is_blank b) refl
  where
    by_test : tags_of bytes ≡ tags_of (past_leading bytes) → (t : Bool) → is_blank b ≡ t → tags_of (b ∷ bytes) ≡ tags_of (past_leading (b ∷ bytes))
    by_test later true t = rw t later
    by_test later false t = let e : past_leading (b ∷ bytes) ≡ b ∷ bytes = rw t refl in ap tags_of (sym e)

onto-with : (b : ℕ) (own : List ℕ) (tags : Option (List (List ℕ))) → onto_first b (with_tag own tags) ≡ with_tag (b ∷ own) tags
onto-with b own (Some tags) = refl
onto-with b own None = refl

hash-left : (b : ℕ) → is_tag_byte b ≡ false → is_blank b ≡ false → nat_eq b 35 ≡ true
hash-left b tag blank = by_test (nat_eq b 35) refl
  where
    by_test : (t : Bool) → nat_eq b 35 ≡ t → nat_eq b 35 ≡ true
    by_test true t = t
    by_test false t = let h = rw (blank, t) at tag in absurd cc

-- an open hashtag, and those behind it
pub tags_from-open : (bytes : List ℕ) → tags_from true bytes ≡ with_tag (take (tag_length bytes) bytes) (tags_of (drop (tag_length bytes) bytes))
tags_from-open [] = refl
tags_from-open (b ∷ bytes) = by_tag (tags_from-open bytes) (is_tag_byte b) (is_blank b) refl refl
  where
    by_tag : tags_from true bytes ≡ with_tag (take (tag_length bytes) bytes) (tags_of (drop (tag_length bytes) bytes)) →
        (t k : Bool) → is_tag_byte b ≡ t → is_blank b ≡ k →
        tags_from true (b ∷ bytes) ≡ with_tag (take (tag_length (b ∷ bytes)) (b ∷ bytes)) (tags_of (drop (tag_length (b ∷ bytes)) (b ∷ bytes)))
    by_tag later true k t e = rw (t, add-one (tag_length bytes), later)
        (onto-with b (take (tag_length bytes) bytes) (tags_of (drop (tag_length bytes) bytes)))
    by_tag later false true t e = rw (t, e) refl
    by_tag later false false t e = rw (t, e, hash-left b t e) refl

empty-none : (tags : Option (List (List ℕ))) → unless_empty (with_tag [] tags) ≡ None
empty-none (Some tags) = refl
empty-none None = refl

some-kept : (b : ℕ) (own : List ℕ) (tags : Option (List (List ℕ))) → unless_empty (with_tag (b ∷ own) tags) ≡ with_tag (b ∷ own) tags
some-kept b own (Some tags) = refl
some-kept b own None = refl

pub hashtag-none : (bytes : List ℕ) → tag_length bytes ≡ 0 → tags_of (35 ∷ bytes) ≡ None
hashtag-none bytes none =
    ap unless_empty (tags_from-open bytes) ∙ ap (λ n. unless_empty (with_tag (take n bytes) (tags_of (drop n bytes)))) none ∙ empty-none (tags_of bytes)

some-taken : (n : ℕ) (bytes : List ℕ) → 0 < n → 0 < length bytes → (tags : Option (List (List ℕ))) →
    unless_empty (with_tag (take n bytes) tags) ≡ with_tag (take n bytes) tags
some-taken zero bytes some long tags = absurd (omega arith)
some-taken (suc n) [] some long tags = absurd (omega arith)
some-taken (suc n) (b ∷ bytes) some long tags = some-kept b (take n bytes) tags

pub tag_length-within : (bytes : List ℕ) → 0 < tag_length bytes → 0 < length bytes
tag_length-within [] some = absurd (omega arith)
tag_length-within (b ∷ bytes) some = omega arith

pub hashtag-some : (bytes : List ℕ) (n : ℕ) → n ≡ tag_length bytes → 0 < n → tags_of (35 ∷ bytes) ≡ with_tag (take n bytes) (tags_of (drop n bytes))
hashtag-some bytes n is some =
    let tags = tags_of (drop n bytes) in
    ap unless_empty (tags_from-open bytes) ∙ ap (λ k. unless_empty (with_tag (take k bytes) (tags_of (drop k bytes)))) (sym is)
    ∙ some-taken n bytes some (tag_length-within bytes (omega (arith, is))) tags

-- what follows a hashtag is nothing, a blank or a `#`
pub hashtag-behind : (bytes : List ℕ) → BeginsAscii (drop (tag_length bytes) bytes)
hashtag-behind [] = tt
hashtag-behind (b ∷ bytes) = by_tag (hashtag-behind bytes) (is_tag_byte b) (is_blank b) refl refl
  where
    by_tag : BeginsAscii (drop (tag_length bytes) bytes) → (t k : Bool) → is_tag_byte b ≡ t → is_blank b ≡ k →
        BeginsAscii (drop (tag_length (b ∷ bytes)) (b ∷ bytes))
    by_tag later true k t e = rw (t, add-one (tag_length bytes)) later
    by_tag later false true t e = rw t (blank-ascii b e)
    by_tag later false false t e = rw t (omega (arith, eqb-true b 35 (hash-left b t e)))

-- Steps.

solid-head : (b : ℕ) (bytes : List ℕ) → past_leading (b ∷ bytes) ≡ b ∷ bytes → is_blank b ≡ false
solid-head b bytes solid = by_test (is_blank b) refl
  where
    by_test : (t : Bool) → is_blank b ≡ t → is_blank b ≡ false
    by_test true t =
        let h : past_leading bytes ≡ b ∷ bytes = rw t at solid in
        absurd (omega (arith, ap length h, past_leading-length bytes))
    by_test false t = t

pub step-slashes : (bytes : List ℕ) → begins_with (codes "//") bytes ≡ true → tags_of bytes ≡ Some []
step-slashes [] is = absurd cc
step-slashes (b ∷ bytes) is =
    let first : b ≡ 47 = begins-first 47 b (codes "/") bytes is in
    let no_blank : is_blank b ≡ false = rw first refl in
    let no_hash : nat_eq b 35 ≡ false = rw first refl in
    rw (no_blank, no_hash, is) refl

pub step-other : (bytes : List ℕ) → past_leading bytes ≡ bytes → ends_line bytes ≡ false → (get_or bytes 0 0 ≡ 35 → ⊥) → tags_of bytes ≡ None
step-other [] solid goes_on no_hash = absurd cc
step-other (b ∷ bytes) solid goes_on no_hash =
    let parts = or_parts (bytes_eq (b ∷ bytes) []) (begins_with (codes "//") (b ∷ bytes)) goes_on in
    rw (solid-head b bytes solid, ne_eqb b 35 no_hash, parts.1) refl

pub step-leading : (bytes : List ℕ) (step : Step) → IsStep (past_leading bytes) step → IsStep bytes step
step-leading bytes (Tag own rest) is = (tags_of-leading bytes ∙ is.0, omega (arith, is.1, past_leading-length bytes), is.2, is.3)
step-leading bytes End is = tags_of-leading bytes ∙ is
step-leading bytes Other is = tags_of-leading bytes ∙ is
