-- Hashtags that are printed: they are read as they were.
use Rattle.std.proofs.Common.{◌≡◌, ℕ, ◌<◌, List, [], ◌∷◌, ◌++◌, Bool, true, false, ◌||◌, nat_eq, refl, arith, append-nil}
use Rattle.std.specs.List.{list_all}
use Rattle.std.proofs.lemmas.Bool.{not-true, not-false, not_from_false, or_parts, and_parts, eqb-true}
use Rattle.yarn_lines.specs.Lines.{is_blank, begins_with}
use Rattle.yarn_items.specs.Text.{Tags, is_tag_byte, begins_tag_byte}
use Rattle.yarn_items.specs.Text as text
use Rattle.yarn_print.specs.Print.{tags_text}
use Rattle.yarn_print.proofs.Quiet.{OnlyBreaks, Fits, fits-nil, fits-append}
use Rattle.yarn_print.proofs.Tight.{ends_solid, ends_solid-behind, begins-front, Solid}
use Rattle.yarn_print.proofs.Cuts.{fits-behind, fits-cons, blank_ascii, BeginsLow, low_front}
use Rattle.yarn_print.proofs.PrintText.{begins_escaped, begins_marked}

-- each of the hashtags has characters, and only such as a hashtag has
pub data AreFine : List (List ℕ) → Type 0 where
  no_tag : AreFine []
  one_more : {c : ℕ} {own : List ℕ} {tags : List (List ℕ)} → list_all is_tag_byte (c ∷ own) ≡ true → AreFine tags → AreFine ((c ∷ own) ∷ tags)

pub fine-tags : {rest : List ℕ} {tags : List (List ℕ)} → Tags rest tags → AreFine tags
fine-tags text.no_tag = no_tag
fine-tags (text.comment is) = no_tag
fine-tags (text.blank is later) = fine-tags later
fine-tags (text.tag all ended later) = one_more all (fine-tags later)

tag_ends : (tags : List (List ℕ)) → begins_tag_byte (tags_text tags) ≡ false
tag_ends [] = refl
tag_ends (tag ∷ tags) = refl

pub free_tags : (tags : List (List ℕ)) → begins_escaped (tags_text tags) ≡ false
free_tags [] = refl
free_tags (tag ∷ tags) = refl

pub unmarked_tags : (tags : List (List ℕ)) → begins_marked (tags_text tags) ≡ false
unmarked_tags [] = refl
unmarked_tags (tag ∷ tags) = refl

pub printed_tags : {tags : List (List ℕ)} → AreFine tags → Tags (tags_text tags) tags
printed_tags no_tag = text.no_tag
printed_tags (one_more {c} {own} {tags} all later) = text.blank refl (text.tag all (tag_ends tags) (printed_tags later))

solid_tag : (c : ℕ) (own : List ℕ) → list_all is_tag_byte (c ∷ own) ≡ true → ends_solid (c ∷ own) ≡ true
solid_tag c [] all =
    let first = and_parts (is_tag_byte c) true all in
    let plain = or_parts (is_blank c) (nat_eq c 35) (not-true (is_blank c || nat_eq c 35) first.0) in
    not_from_false (is_blank c) plain.0
solid_tag c (d ∷ own) all = solid_tag d own (and_parts (is_tag_byte c) (list_all is_tag_byte (d ∷ own)) all).1

tags_end : (c : ℕ) (own : List ℕ) (tags : List (List ℕ)) → list_all is_tag_byte (c ∷ own) ≡ true → AreFine tags → ends_solid ((c ∷ own) ++ tags_text tags) ≡ true
tags_end c own [] all later = rw (append-nil own) (solid_tag c own all)
tags_end c own ([] ∷ tags) all later = elim later [ ]
tags_end c own ((d ∷ tag) ∷ tags) all (one_more next later) = ends_solid-behind (c ∷ own) (tags_text ((d ∷ tag) ∷ tags)) (tags_end d tag tags next later)

pub ends_with_tags : {tags : List (List ℕ)} → (front : List ℕ) → ends_solid front ≡ true → AreFine tags → ends_solid (front ++ tags_text tags) ≡ true
ends_with_tags front is no_tag = rw (append-nil front) is
ends_with_tags front is (one_more {c} {own} {tags} all later) =
    ends_solid-behind front (tags_text ((c ∷ own) ∷ tags)) (tags_end c own tags all later)

pub solid_with_tags : {tags : List (List ℕ)} → (front : List ℕ) → Solid front → AreFine tags → Solid (front ++ tags_text tags)
solid_with_tags {tags} front s fine = record { begins = begins-front front (tags_text tags) s.begins; ends = ends_with_tags front s.ends fine }

-- the bytes

two_low : (c d : ℕ) (bytes : List ℕ) → c < 128 → begins_with (c ∷ d ∷ []) bytes ≡ true → BeginsLow bytes
two_low c d [] low is = omega arith
two_low c d (b ∷ bytes) low is = let e = eqb-true b c (and_parts (nat_eq b c) _ is).0 in omega arith

pub tags_low : {rest : List ℕ} {tags : List (List ℕ)} → Tags rest tags → BeginsLow rest
tags_low text.no_tag = omega arith
tags_low (text.comment {bytes} is) = two_low 47 47 bytes (omega arith) is
tags_low (text.blank {b} is later) = blank_ascii b is
tags_low (text.tag all ended later) = omega arith

behind_tag : (bytes : List ℕ) → begins_tag_byte bytes ≡ false → BeginsLow bytes
behind_tag [] ended = omega arith
behind_tag (b ∷ bytes) ended = by_test (is_blank b) refl
  where
    by_test : (t : Bool) → is_blank b ≡ t → b < 128
    by_test true t = blank_ascii b t
    by_test false t =
        let either : (is_blank b || nat_eq b 35) ≡ true = not-false (is_blank b || nat_eq b 35) ended in
        let h : nat_eq b 35 ≡ true = rw t at either in
        let e = eqb-true b 35 h in
        omega arith

pub fits-tags : {rest : List ℕ} {tags : List (List ℕ)} → (test : ℕ → Bool) → OnlyBreaks test → Tags rest tags → Fits test rest → Fits test (tags_text tags)
fits-tags test only text.no_tag whole = fits-nil test
fits-tags test only (text.comment is) whole = fits-nil test
fits-tags test only (text.blank {b} {bytes} is later) whole = fits-tags test only later (fits-behind test b bytes (blank_ascii b is) whole)
fits-tags test only (text.tag {c} {own} {bytes} {tags} all ended later) whole =
    let parts = low_front test (c ∷ own) bytes (behind_tag bytes ended) (fits-behind test 35 ((c ∷ own) ++ bytes) (omega arith) whole) in
    let here = fits-append test (c ∷ own) (tags_text tags) parts.0 (fits-tags test only later parts.1) in
    fits-cons test 32 (35 ∷ ((c ∷ own) ++ tags_text tags)) (omega arith) (only.fails 32 refl) (fits-cons test 35 ((c ∷ own) ++ tags_text tags) (omega arith) (only.fails 35 refl) here)
