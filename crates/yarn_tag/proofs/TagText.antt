-- A text with an id behind its hashtags is read as the same text with one more hashtag.
use Rattle.std.proofs.Common.{◌≡◌, ℕ, List, [], ◌∷◌, ◌++◌, length, Bool, true, false, not, cond, ◌||◌, nat_eq, codes, ◌⊎◌, inl, inr, refl, sym, ap, ◌∙◌, subst, append_assoc, append-nil}
use Rattle.std.specs.List.{list_all}
use Rattle.std.proofs.lemmas.Bool.{true≢false, and_parts, not-true, and_right}
use Rattle.yarn_lines.specs.Lines.{is_blank, begins_with, without_trailing}
use Rattle.yarn_items.specs.Text.{Piece, Char, Pair, Hole, Pieces, no_piece, pair, hole, char, is_escaped, begins_pair, begins_other, is_tag_byte, begins_tag_byte, Tags, AreHoles, no_more, past_char, past_pair, at_hole, kept_from, pair_text, hole_text, table_text, trimmed}
use Rattle.yarn_items.specs.Text as text
use Rattle.yarn_items.proofs.TrailingLemmas.{without_trailing-more}
use Rattle.yarn_tree.specs.Scan.{end_of}
use Rattle.yarn_tag.proofs.TagEnds.{text_front, comment-stops, blank-step, own-passed, tag-over}

-- bytes that end with a byte that is no blank
abbrev pub ends_solid : List ℕ → Bool
ends_solid [] = false
ends_solid (b ∷ []) = not (is_blank b)
ends_solid (b ∷ c ∷ bytes) = ends_solid (c ∷ bytes)

pub ends_solid-behind : (front bytes : List ℕ) → ends_solid bytes ≡ true → ends_solid (front ++ bytes) ≡ true
ends_solid-behind [] bytes solid = solid
ends_solid-behind (a ∷ front) bytes solid = of (front ++ bytes) (ends_solid-behind front bytes solid)
  where
    of : (l : List ℕ) → ends_solid l ≡ true → ends_solid (a ∷ l) ≡ true
    of [] is = absurd (true≢false (sym is))
    of (b ∷ l) is = is

not_all_blank : (bytes : List ℕ) → ends_solid bytes ≡ true → list_all is_blank bytes ≡ false
not_all_blank [] solid = absurd (true≢false (sym solid))
not_all_blank (b ∷ []) solid = let h = not-true (is_blank b) solid in rw h refl
not_all_blank (b ∷ c ∷ bytes) solid = and_right (is_blank b) (list_all is_blank (c ∷ bytes)) (not_all_blank (c ∷ bytes) solid)

pub without_trailing-solid : (bytes : List ℕ) → ends_solid bytes ≡ true → without_trailing bytes ≡ bytes
without_trailing-solid [] solid = refl
without_trailing-solid (b ∷ []) solid = let h = not-true (is_blank b) solid in rw h refl
without_trailing-solid (b ∷ c ∷ bytes) solid =
    let some = not_all_blank (b ∷ c ∷ bytes) solid in
    rw some (ap (λ l. b ∷ l) (without_trailing-solid (c ∷ bytes) solid))

-- nothing, or bytes that end so
pub data IsShut : List ℕ → Type 0 where
  no_byte : IsShut []
  shut : {bytes : List ℕ} → ends_solid bytes ≡ true → IsShut bytes

pub without_trailing-shut : {bytes : List ℕ} → IsShut bytes → without_trailing bytes ≡ bytes
without_trailing-shut no_byte = refl
without_trailing-shut (shut {bytes} is) = without_trailing-solid bytes is

pub shut-behind : (front : List ℕ) {bytes : List ℕ} → ends_solid front ≡ true → IsShut bytes → IsShut (front ++ bytes)
shut-behind front is no_byte = shut (ap ends_solid (append-nil front) ∙ is)
shut-behind front is (shut {bytes} more) = shut (ends_solid-behind front bytes more)

-- ---- what stands behind the end of a text: blanks, and a comment or nothing

abbrev pub IsRest : List ℕ → Type 0
IsRest back = Tags back []

-- the space before a comment
abbrev pub gap : List ℕ → List ℕ
gap back = cond (begins_with (codes "//") back) (32 ∷ []) []

-- an id before that
abbrev pub put : List ℕ → List ℕ → List ℕ
put id back = 32 ∷ 35 ∷ (id ++ (gap back ++ back))

blank_no_tag : (b : ℕ) (bytes : List ℕ) → is_blank b ≡ true → begins_tag_byte (b ∷ bytes) ≡ false
blank_no_tag b bytes is = rw is refl

rest_no_tag : {back : List ℕ} {tags : List (List ℕ)} → Tags back tags → tags ≡ [] → begins_tag_byte (gap back ++ back) ≡ false
rest_no_tag text.no_tag e = refl
rest_no_tag (text.comment {bytes} is) e = ap (λ (t : Bool). begins_tag_byte (cond t (32 ∷ []) [] ++ bytes)) is
rest_no_tag (text.blank {b} {bytes} is later) e = of (begins_with (codes "//") (b ∷ bytes)) refl
  where
    of : (t : Bool) → begins_with (codes "//") (b ∷ bytes) ≡ t → begins_tag_byte (gap (b ∷ bytes) ++ (b ∷ bytes)) ≡ false
    of true t = ap (λ (t : Bool). begins_tag_byte (cond t (32 ∷ []) [] ++ (b ∷ bytes))) t
    of false t = ap (λ (t : Bool). begins_tag_byte (cond t (32 ∷ []) [] ++ (b ∷ bytes))) t ∙ blank_no_tag b bytes is
rest_no_tag (text.tag solid ended later) e = absurd cc

gap_rest : (back : List ℕ) → IsRest back → IsRest (gap back ++ back)
gap_rest back is = of (begins_with (codes "//") back)
  where
    of : (t : Bool) → IsRest (cond t (32 ∷ []) [] ++ back)
    of true = text.blank refl is
    of false = is

-- the bytes of an id
pub record IsSolid (id : List ℕ) : Type 0 where
  pub first : ℕ
  pub own : List ℕ
  pub is : id ≡ first ∷ own
  pub solid : list_all is_tag_byte id ≡ true

pub put_tags : (id back : List ℕ) → IsSolid id → IsRest back → Tags (put id back) (id ∷ [])
put_tags id back is rest =
    text.blank refl
    (subst (λ (i : List ℕ). Tags (35 ∷ (i ++ (gap back ++ back))) (i ∷ [])) (sym is.is)
    (text.tag (subst (λ (i : List ℕ). list_all is_tag_byte i ≡ true) is.is is.solid) (rest_no_tag rest refl) (gap_rest back rest)))

-- ---- hashtags

-- hashtags up to their end, and what they are with one more there
pub record TagSplit (bytes : List ℕ) (tags : List (List ℕ)) : Type 0 where
  pub front : List ℕ
  pub back : List ℕ
  pub cut : bytes ≡ front ++ back
  pub rest : IsRest back
  pub ends : ((front ≡ []) × (tags ≡ [])) ⊎ (ends_solid front ≡ true)
  pub more : (id : List ℕ) → IsSolid id → Tags (front ++ put id back) (tags ++ id ∷ [])
  pub passed : text_front bytes ≡ front ++ text_front back

pub tag_solid : (own : List ℕ) (c : ℕ) → list_all is_tag_byte (c ∷ own) ≡ true → ends_solid (c ∷ own) ≡ true
tag_solid [] c is = of (is_blank c) refl
  where
    of : (t : Bool) → is_blank c ≡ t → not (is_blank c) ≡ true
    of true t = absurd (true≢false (sym (and_parts (is_tag_byte c) true is).0 ∙ ap (λ (b : Bool). not (b || nat_eq c 35)) t))
    of false t = ap not t
tag_solid (d ∷ own) c is = tag_solid own d (and_parts (is_tag_byte c) (list_all is_tag_byte (d ∷ own)) is).1

ended_front : (front back id : List ℕ) → begins_tag_byte (front ++ back) ≡ false → begins_tag_byte (front ++ put id back) ≡ false
ended_front [] back id is = refl
ended_front (b ∷ front) back id is = is

pub front-empty : (front : List ℕ) → (front ≡ []) ⊎ (ends_solid front ≡ true) → IsShut front
front-empty front (inl e) = subst IsShut (sym e) no_byte
front-empty front (inr e) = shut e

pub split-tags : {bytes : List ℕ} {tags : List (List ℕ)} → Tags bytes tags → TagSplit bytes tags
split-tags text.no_tag = record { front = []; back = []; cut = refl; rest = text.no_tag; ends = inl (refl, refl); more = λ id is. put_tags id [] is text.no_tag; passed = refl }
split-tags (text.comment {bytes} is) = record {
  front = [];
  back = bytes;
  cut = refl;
  rest = text.comment is;
  ends = inl (refl, refl);
  more = λ id solid. put_tags id bytes solid (text.comment is);
  passed = refl;
}
split-tags (text.blank {b} {bytes} {tags} is later) = of (split-tags later)
  where
    of : TagSplit bytes tags → TagSplit (b ∷ bytes) tags
    of s = by_end s.ends
      where
        by_end : ((s.front ≡ []) × (tags ≡ [])) ⊎ (ends_solid s.front ≡ true) → TagSplit (b ∷ bytes) tags
        by_end (inl e) =
            let whole : IsRest (b ∷ bytes) = text.blank is (subst (λ (ts : List (List ℕ)). Tags bytes ts) e.1 later) in
            record {
              front = [];
              back = b ∷ bytes;
              cut = refl;
              rest = whole;
              ends = inl (refl, e.1);
              more = λ id solid. subst (λ (ts : List (List ℕ)). Tags (put id (b ∷ bytes)) (ts ++ id ∷ [])) (sym e.1) (put_tags id (b ∷ bytes) solid whole);
              passed = refl;
            }
        by_end (inr e) = record {
          front = b ∷ s.front;
          back = s.back;
          cut = ap (λ (l : List ℕ). b ∷ l) s.cut;
          rest = s.rest;
          ends = inr (ends_solid-behind (b ∷ []) s.front e);
          more = λ id solid. text.blank is (s.more id solid);
          passed =
              blank-step b bytes is ∙ ap (λ (l : List ℕ). b ∷ l) s.passed;
        }
split-tags (text.tag {c} {own} {bytes} {tags} solid ended later) = of (split-tags later)
  where
    of : TagSplit bytes tags → TagSplit (35 ∷ ((c ∷ own) ++ bytes)) ((c ∷ own) ∷ tags)
    of s = record {
      front = 35 ∷ ((c ∷ own) ++ s.front);
      back = s.back;
      cut = ap (λ (l : List ℕ). 35 ∷ ((c ∷ own) ++ l)) s.cut ∙ ap (λ (l : List ℕ). 35 ∷ l) (sym (append_assoc (c ∷ own) s.front s.back));
      rest = s.rest;
      ends = inr (by_end s.ends);
      more = λ id is.
          subst (λ (l : List ℕ). Tags (35 ∷ l) (((c ∷ own) ∷ tags) ++ id ∷ [])) (sym (append_assoc (c ∷ own) s.front (put id s.back)))
          (text.tag solid (ended_front s.front s.back id (subst (λ (l : List ℕ). begins_tag_byte l ≡ false) s.cut ended)) (s.more id is));
      passed =
          ap (λ (l : List ℕ). 35 ∷ l)
          (own-passed (c ∷ own) bytes solid
          ∙ ap (λ (l : List ℕ). (c ∷ own) ++ l) (tag-over bytes ended ∙ s.passed)
          ∙ sym (append_assoc (c ∷ own) s.front (text_front s.back)));
    }
      where
        by_end : ((s.front ≡ []) × (tags ≡ [])) ⊎ (ends_solid s.front ≡ true) → ends_solid (35 ∷ ((c ∷ own) ++ s.front)) ≡ true
        by_end (inl e) = ap (λ (l : List ℕ). ends_solid (c ∷ own ++ l)) e.0 ∙ ap (λ (l : List ℕ). ends_solid (c ∷ l)) (append-nil own) ∙ tag_solid own c solid
        by_end (inr e) = ends_solid-behind (35 ∷ c ∷ own) s.front e

-- ---- the end of a text

rest-blank : {back : List ℕ} {tags : List (List ℕ)} → Tags back tags → tags ≡ [] → list_all is_blank (text_front back) ≡ true
rest-blank text.no_tag e = refl
rest-blank (text.comment {bytes} is) e = ap (list_all is_blank) (comment-stops bytes is)
rest-blank (text.blank {b} {bytes} is later) e =
    ap (list_all is_blank) (blank-step b bytes is) ∙ of (rest-blank later e)
  where
    of : list_all is_blank (text_front bytes) ≡ true → list_all is_blank (b ∷ text_front bytes) ≡ true
    of more = rw is more
rest-blank (text.tag solid ended later) e = absurd cc

pub end-at : (text front back : List ℕ) → IsRest back → IsShut front → text_front text ≡ front ++ text_front back → end_of text ≡ length front
end-at text front back rest shut_front passed =
    ap (λ (l : List ℕ). length (without_trailing l)) passed
    ∙ ap length (without_trailing-more front (text_front back) (rest-blank rest refl) ∙ without_trailing-shut shut_front)
