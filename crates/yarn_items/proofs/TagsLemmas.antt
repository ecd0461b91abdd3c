-- The hashtags that are read are those that a line has.
use Rattle.std.proofs.Common.{◌≡◌, ℕ, zero, suc, ◌<◌, ◌≤◌, List, [], ◌∷◌, ◌++◌, length, take, drop, Bool, true, false, nat_eq, Option, Some, None, ◌⊎◌, inl, inr, codes, refl, sym, ap, subst, ◌∙◌, arith, add-one}
use Rattle.std.specs.List.{list_all}
use Rattle.std.proofs.lemmas.Bool.{eqb-true, and_parts, cases_lt}
use Rattle.std.proofs.lemmas.List.{take_at, drop_at, take-append-drop, length-drop}
use Rattle.yarn_lines.specs.Lines.{is_blank, begins_with}
use Rattle.yarn_items.specs.Text.{Tags, no_tag, comment, blank, tag, is_tag_byte, begins_tag_byte}
use Rattle.yarn_items.specs.Hashtags.{tag_length, with_tag, tags_of}
use Rattle.yarn_items.proofs.HashtagLemmas.{hashtag-none, hashtag-some, step-slashes}

-- Found.

pub tag_length-run : (own bytes : List ℕ) → list_all is_tag_byte own ≡ true → begins_tag_byte bytes ≡ false → tag_length (own ++ bytes) ≡ length own
tag_length-run [] [] is ends = refl
tag_length-run [] (b ∷ bytes) is ends = rw ends refl
tag_length-run (c ∷ own) bytes is ends =
    let both = and_parts (is_tag_byte c) (list_all is_tag_byte own) is in
    rw (both.0, tag_length-run own bytes both.1 ends) (omega arith)

tag-found : (c : ℕ) (own bytes : List ℕ) (tags : List (List ℕ)) → list_all is_tag_byte (c ∷ own) ≡ true → begins_tag_byte bytes ≡ false →
    tags_of bytes ≡ Some tags → tags_of (35 ∷ ((c ∷ own) ++ bytes)) ≡ Some ((c ∷ own) ∷ tags)
tag-found c own bytes tags is ends later =
    let whole = (c ∷ own) ++ bytes in
    let n = length (c ∷ own) in
    let run : n ≡ tag_length whole = sym (tag_length-run (c ∷ own) bytes is ends) in
    hashtag-some whole n run (omega arith)
    ∙ ap (λ own. with_tag own (tags_of (drop n whole))) (take_at (c ∷ own) bytes n refl)
    ∙ ap (λ rest. with_tag (c ∷ own) (tags_of rest)) (drop_at (c ∷ own) bytes n refl) ∙ ap (with_tag (c ∷ own)) later

pub tags-found : {bytes : List ℕ} {tags : List (List ℕ)} → Tags bytes tags → tags_of bytes ≡ Some tags
tags-found no_tag = refl
tags-found (comment {bytes = bytes} is) = step-slashes bytes is
tags-found (blank is later) = rw is (tags-found later)
tags-found (tag {c = c} {own = own} {bytes = bytes} {tags = tags} is ends later) = tag-found c own bytes tags is ends (tags-found later)

-- Only these.

own-tag : (bytes : List ℕ) → list_all is_tag_byte (take (tag_length bytes) bytes) ≡ true
own-tag [] = refl
own-tag (b ∷ bytes) = by_test (own-tag bytes) (is_tag_byte b) refl
  where
    by_test : list_all is_tag_byte (take (tag_length bytes) bytes) ≡ true → (t : Bool) → is_tag_byte b ≡ t →
        list_all is_tag_byte (take (tag_length (b ∷ bytes)) (b ∷ bytes)) ≡ true
    by_test later true t = rw (t, add-one (tag_length bytes)) (rw t later)
    by_test later false t = rw t refl

tag-ends : (bytes : List ℕ) → begins_tag_byte (drop (tag_length bytes) bytes) ≡ false
tag-ends [] = refl
tag-ends (b ∷ bytes) = by_test (tag-ends bytes) (is_tag_byte b) refl
  where
    by_test : begins_tag_byte (drop (tag_length bytes) bytes) ≡ false → (t : Bool) → is_tag_byte b ≡ t →
        begins_tag_byte (drop (tag_length (b ∷ bytes)) (b ∷ bytes)) ≡ false
    by_test later true t = rw (t, add-one (tag_length bytes)) later
    by_test later false t = rw t t

made-tag : (own bytes : List ℕ) (tags : List (List ℕ)) → 0 < length own → list_all is_tag_byte own ≡ true → begins_tag_byte bytes ≡ false →
    Tags bytes tags → Tags (35 ∷ (own ++ bytes)) (own ∷ tags)
made-tag [] bytes tags some is ends later = absurd (omega arith)
made-tag (c ∷ own) bytes tags some is ends later = tag is ends later

-- the tags behind the first one
behind-first : (own : List ℕ) (rest : Option (List (List ℕ))) (tags : List (List ℕ)) → with_tag own rest ≡ Some tags →
    (others : List (List ℕ)) × (rest ≡ Some others) × (tags ≡ own ∷ others)
behind-first own None tags is = absurd cc
behind-first own (Some others) tags is = (others, refl, (let same : own ∷ others ≡ tags = cc in sym same))

hash-only : (most : ℕ) (bytes : List ℕ) (tags : List (List ℕ)) → length bytes ≤ most →
    ((rest : List ℕ) (others : List (List ℕ)) → length rest ≤ most → tags_of rest ≡ Some others → Tags rest others) →
    tags_of (35 ∷ bytes) ≡ Some tags → Tags (35 ∷ bytes) tags
hash-only most bytes tags small later found = by_length (cases_lt 0 (tag_length bytes))
  where
    by_length : (0 < tag_length bytes) ⊎ (tag_length bytes ≤ 0) → Tags (35 ∷ bytes) tags
    by_length (inl some) =
        let n = tag_length bytes in
        let parts = behind-first (take n bytes) (tags_of (drop n bytes)) tags (sym (hashtag-some bytes n refl some) ∙ found) in
        let within : 0 < length (take n bytes) = taken-some bytes some in
        let rest = later (drop n bytes) parts.0 (omega (arith, length-drop n bytes)) parts.1 in
        let made = made-tag (take n bytes) (drop n bytes) parts.0 within (own-tag bytes) (tag-ends bytes) rest in
        subst (Tags (35 ∷ bytes)) (sym parts.2) (subst (λ l. Tags (35 ∷ l) (take n bytes ∷ parts.0)) (take-append-drop n bytes) made)
      where
        taken-some : (bytes : List ℕ) → 0 < tag_length bytes → 0 < length (take (tag_length bytes) bytes)
        taken-some [] some = absurd (omega arith)
        taken-some (b ∷ bytes) some = by_test (is_tag_byte b) refl
          where
            by_test : (t : Bool) → is_tag_byte b ≡ t → 0 < length (take (tag_length (b ∷ bytes)) (b ∷ bytes))
            by_test true t = rw (t, add-one (tag_length bytes)) (omega arith)
            by_test false t = let h = rw t at some in absurd (omega arith)
    by_length (inr none) = let h : None ≡ Some tags = sym (hashtag-none bytes (omega (arith, none))) ∙ found in absurd cc

tags-within : (most : ℕ) (bytes : List ℕ) (tags : List (List ℕ)) → length bytes ≤ most → tags_of bytes ≡ Some tags → Tags bytes tags
tags-within most [] tags small found = let same : [] ≡ tags = cc in subst (Tags []) same no_tag
tags-within zero (b ∷ bytes) tags small found = absurd (omega arith)
tags-within (suc most) (b ∷ bytes) tags small found =
    by_first (tags-within most bytes) (λ rest. tags-within most rest) (is_blank b) (nat_eq b 35) (begins_with (codes "//") (b ∷ bytes)) refl refl refl
  where
    by_first : ((others : List (List ℕ)) → length bytes ≤ most → tags_of bytes ≡ Some others → Tags bytes others) →
        ((rest : List ℕ) (others : List (List ℕ)) → length rest ≤ most → tags_of rest ≡ Some others → Tags rest others) →
        (k h s : Bool) → is_blank b ≡ k → nat_eq b 35 ≡ h → begins_with (codes "//") (b ∷ bytes) ≡ s → Tags (b ∷ bytes) tags
    by_first next later true h s i j e = blank i (next tags (omega arith) (rw i at found))
    by_first next later false true s i j e =
        let is : b ≡ 35 = eqb-true b 35 j in
        let told : tags_of (35 ∷ bytes) ≡ Some tags = subst (λ x. tags_of (x ∷ bytes) ≡ Some tags) is found in
        subst (λ x. Tags (x ∷ bytes) tags) (sym is) (hash-only most bytes tags (omega arith) later told)
    by_first next later false false true i j e =
        let told : Some [] ≡ Some tags = rw (i, j, e) at found in
        let same : [] ≡ tags = cc in
        subst (Tags (b ∷ bytes)) same (comment e)
    by_first next later false false false i j e = let told = rw (i, j, e) at found in absurd cc

pub tags-only : (bytes : List ℕ) (tags : List (List ℕ)) → tags_of bytes ≡ Some tags → Tags bytes tags
tags-only bytes tags found = tags-within (length bytes) bytes tags (omega arith) found
