-- How a line is gone over up to the end of its text, and that this end stands within the line.
use Rattle.std.proofs.Common.{◌≡◌, ℕ, ◌+◌, ◌≤◌, List, [], ◌∷◌, ◌++◌, length, Bool, true, false, not, cond, ◌&&◌, ◌||◌, nat_eq, Some, None, codes, ◌⊎◌, inl, inr, refl, sym, ap, ◌∙◌, subst, append_assoc, arith}
use Rattle.std.specs.List.{list_all}
use Rattle.std.proofs.lemmas.Bool.{eqb-true, or_cases, or_parts, and_parts, not-true}
use Rattle.std.proofs.lemmas.List.{length-append}
use Rattle.yarn_lines.specs.Lines.{is_blank, begins_with, without_cr, without_trailing, leading, content, text_of}
use Rattle.yarn_items.specs.Brace.{is_plain, ToBrace, closes, quote, skipped, plain}
use Rattle.yarn_items.specs.Content.{goes_on, ToEnd}
use Rattle.yarn_items.specs.Content as content
use Rattle.yarn_items.specs.Text.{Piece, Pieces, no_piece, pair, hole, char, is_escaped, begins_pair, begins_other, is_tag_byte, begins_tag_byte}
use Rattle.yarn_items.proofs.BlankLemmas.{leading-split}
use Rattle.yarn_items.proofs.BraceLemmas.{brace-split}
use Rattle.yarn_items.proofs.Utf8Lemmas.{trailing}
use Rattle.yarn_tree.specs.Scan.{within_text, hole_step, condition_step, part_step, and_front, front_of, end_of}

-- what stands before the comment, from within a text on, a substitution, a condition, and a hashtag

abbrev pub text_front : List ℕ → List ℕ
text_front bytes = front_of (within_text []) bytes

abbrev hole_front : Bool → List ℕ → List ℕ
hole_front true bytes = front_of (hole_step false 34) bytes
hole_front false bytes = front_of (hole_step true 34) bytes

abbrev condition_front : Bool → List ℕ → List ℕ
condition_front true bytes = front_of (condition_step false 34 []) bytes
condition_front false bytes = front_of (condition_step true 34 []) bytes

abbrev pub tag_front : List ℕ → List ℕ
tag_front bytes = front_of (within_text (35 ∷ [])) bytes

-- ---- substitutions

quote-step : (quoted : Bool) (bytes : List ℕ) → hole_front quoted (34 ∷ bytes) ≡ 34 ∷ hole_front (not quoted) bytes
quote-step true bytes = refl
quote-step false bytes = refl

plain-step : (quoted : Bool) (c : ℕ) (bytes : List ℕ) → is_plain quoted c ≡ true → hole_front quoted (c ∷ bytes) ≡ c ∷ hole_front quoted bytes
plain-step true c bytes is =
    let a = and_parts (not (nat_eq c 34)) (not (nat_eq c 92)) is in
    rw (not-true (nat_eq c 34) a.0, not-true (nat_eq c 92) a.1) refl
plain-step false c bytes is =
    let a = and_parts (not (nat_eq c 34)) (not (nat_eq c 125)) is in
    rw (not-true (nat_eq c 34) a.0, not-true (nat_eq c 125) a.1) refl

hole-passed : {quoted : Bool} {bytes inside rest : List ℕ} → ToBrace quoted bytes inside rest → hole_front quoted bytes ≡ inside ++ 125 ∷ text_front rest
hole-passed closes = refl
hole-passed (quote {quoted} {bytes} later) = quote-step quoted bytes ∙ ap (λ (l : List ℕ). 34 ∷ l) (hole-passed later)
hole-passed (skipped {c} later) = ap (λ (l : List ℕ). 92 ∷ c ∷ l) (hole-passed later)
hole-passed (plain {quoted} {c} {bytes} is later) = plain-step quoted c bytes is ∙ ap (λ (l : List ℕ). c ∷ l) (hole-passed later)

-- ---- text

char-step : (c : ℕ) (bytes : List ℕ) → begins_pair (c ∷ bytes) ≡ false → begins_other (c ∷ bytes) ≡ false → text_front (c ∷ bytes) ≡ c ∷ text_front bytes
char-step c bytes none other =
    let d = or_parts _ (begins_with (codes "<<") (c ∷ bytes)) other in
    let b = or_parts _ (begins_with (codes "//") (c ∷ bytes)) d.0 in
    let a = or_parts (begins_with (codes "{") (c ∷ bytes)) (begins_with (codes "#") (c ∷ bytes)) b.0 in
    let no_comment = b.1 in
    let no_hole = a.0 in
    let no_tag = a.1 in
    let no_condition = d.1 in
    rw (no_comment, no_hole, no_tag, no_condition, none) refl

-- pieces are passed
pub record Passed (bytes rest : List ℕ) : Type 0 where
  pub front : List ℕ
  pub cut : bytes ≡ front ++ rest
  pub passed : text_front bytes ≡ front ++ text_front rest

pub text-passed : {bytes rest : List ℕ} {pieces : List Piece} → Pieces bytes pieces rest → Passed bytes rest
text-passed no_piece = record { front = []; cut = refl; passed = refl }
text-passed (pair {c} {bytes} is later) =
    let p = text-passed later in
    let step : text_front (92 ∷ c ∷ bytes) ≡ 92 ∷ c ∷ text_front bytes = rw is refl in
    record { front = 92 ∷ c ∷ p.front; cut = ap (λ (l : List ℕ). 92 ∷ c ∷ l) p.cut; passed = step ∙ ap (λ (l : List ℕ). 92 ∷ c ∷ l) p.passed }
text-passed (hole {bytes} {inside} {more} {rest} to later) =
    let p = text-passed later in
    record {
      front = 123 ∷ (inside ++ 125 ∷ p.front);
      cut = ap (λ (l : List ℕ). 123 ∷ l) (brace-split to ∙ ap (λ (l : List ℕ). inside ++ 125 ∷ l) p.cut ∙ sym (append_assoc inside (125 ∷ p.front) rest));
      passed =
          ap (λ (l : List ℕ). 123 ∷ l)
          (hole-passed to ∙ ap (λ (l : List ℕ). inside ++ 125 ∷ l) p.passed ∙ sym (append_assoc inside (125 ∷ p.front) (text_front rest)));
    }
text-passed (char {c} {bytes} none other later) =
    let p = text-passed later in
    record { front = c ∷ p.front; cut = ap (λ (l : List ℕ). c ∷ l) p.cut; passed = char-step c bytes none other ∙ ap (λ (l : List ℕ). c ∷ l) p.passed }

not-pair : (b : ℕ) (bytes : List ℕ) → nat_eq b 92 ≡ false → begins_pair (b ∷ bytes) ≡ false
not-pair b [] is = refl
not-pair b (c ∷ bytes) is = ap (λ (t : Bool). t && is_escaped c) is

pub arrow-passed : (bytes : List ℕ) → text_front (codes "->" ++ bytes) ≡ codes "->" ++ text_front bytes
arrow-passed bytes = ap (λ (l : List ℕ). 45 ∷ l) (let none = not-pair 62 bytes refl in rw none refl)

-- ---- conditions

condition-quote : (quoted : Bool) (bytes : List ℕ) → condition_front quoted (34 ∷ bytes) ≡ 34 ∷ condition_front (not quoted) bytes
condition-quote true bytes = refl
condition-quote false bytes = refl

condition-skipped : (quoted : Bool) (c : ℕ) (bytes : List ℕ) → condition_front quoted (92 ∷ c ∷ bytes) ≡ 92 ∷ c ∷ condition_front quoted bytes
condition-skipped true c bytes = refl
condition-skipped false c bytes = refl

condition-other : (quoted : Bool) (c : ℕ) (bytes : List ℕ) → goes_on false quoted (c ∷ bytes) ≡ true → condition_front quoted (c ∷ bytes) ≡ c ∷ condition_front quoted bytes
condition-other true c bytes is =
    let d = and_parts _ (true || not (begins_with (codes ">>") (c ∷ bytes))) is in
    let b = and_parts _ (not (false && nat_eq c 123)) d.0 in
    let a = and_parts (not (nat_eq c 34)) (not (nat_eq c 92)) b.0 in
    rw (not-true (nat_eq c 34) a.0, not-true (nat_eq c 92) a.1) refl
condition-other false c bytes is =
    let d = and_parts _ (false || not (begins_with (codes ">>") (c ∷ bytes))) is in
    let b = and_parts _ (not (false && nat_eq c 123)) d.0 in
    let a = and_parts (not (nat_eq c 34)) (not (nat_eq c 92)) b.0 in
    rw (not-true (nat_eq c 34) a.0, not-true (nat_eq c 92) a.1, not-true (begins_with (codes ">>") (c ∷ bytes)) d.1) refl

inside-passed : {games quoted : Bool} {bytes inside rest : List ℕ} → games ≡ false → ToEnd games quoted bytes inside rest →
    condition_front quoted bytes ≡ inside ++ 62 ∷ 62 ∷ text_front rest
inside-passed is content.ends = refl
inside-passed is (content.quote {games} {quoted} {bytes} later) = condition-quote quoted bytes ∙ ap (λ (l : List ℕ). 34 ∷ l) (inside-passed is later)
inside-passed is (content.skipped {games} {quoted} {c} {bytes} later) = condition-skipped quoted c bytes ∙ ap (λ (l : List ℕ). 92 ∷ c ∷ l) (inside-passed is later)
inside-passed is (content.passed to later) = absurd cc
inside-passed is (content.other {games} {quoted} {c} {bytes} on later) =
    condition-other quoted c bytes (subst (λ (g : Bool). goes_on g quoted (c ∷ bytes) ≡ true) is on) ∙ ap (λ (l : List ℕ). c ∷ l) (inside-passed is later)

pub condition-passed : {bytes inside rest : List ℕ} → ToEnd false false bytes inside rest → text_front (codes "<<" ++ bytes) ≡ codes "<<" ++ (inside ++ 62 ∷ 62 ∷ text_front rest)
condition-passed to = ap (λ (l : List ℕ). 60 ∷ 60 ∷ l) (inside-passed refl to)

-- ---- hashtags

pub comment-stops : (bytes : List ℕ) → begins_with (codes "//") bytes ≡ true → text_front bytes ≡ []
comment-stops [] is = refl
comment-stops (b ∷ bytes) is = rw is refl

pub blank-step : (b : ℕ) (bytes : List ℕ) → is_blank b ≡ true → text_front (b ∷ bytes) ≡ b ∷ text_front bytes
blank-step b bytes is = of (or_cases (nat_eq b 32) (nat_eq b 9) is)
  where
    space : text_front (32 ∷ bytes) ≡ 32 ∷ text_front bytes
    space = let none = not-pair 32 bytes refl in rw none refl

    tab : text_front (9 ∷ bytes) ≡ 9 ∷ text_front bytes
    tab = let none = not-pair 9 bytes refl in rw none refl

    of : (nat_eq b 32 ≡ true) ⊎ (nat_eq b 9 ≡ true) → text_front (b ∷ bytes) ≡ b ∷ text_front bytes
    of (inl e) = subst (λ (n : ℕ). text_front (n ∷ bytes) ≡ n ∷ text_front bytes) (sym (eqb-true b 32 e)) space
    of (inr e) = subst (λ (n : ℕ). text_front (n ∷ bytes) ≡ n ∷ text_front bytes) (sym (eqb-true b 9 e)) tab

pub own-passed : (own bytes : List ℕ) → list_all is_tag_byte own ≡ true → tag_front (own ++ bytes) ≡ own ++ tag_front bytes
own-passed [] bytes is = refl
own-passed (c ∷ own) bytes is =
    let a = and_parts (is_tag_byte c) (list_all is_tag_byte own) is in
    let first = a.0 in
    rw first (ap (λ (l : List ℕ). c ∷ l) (own-passed own bytes a.1))

pub tag-over : (bytes : List ℕ) → begins_tag_byte bytes ≡ false → tag_front bytes ≡ text_front bytes
tag-over [] is = refl
tag-over (b ∷ bytes) is = rw is refl

-- ---- the end stands within the text

front-more : (b : ℕ) (bytes : List ℕ) (o : _) → ((next : _) → length (front_of next bytes) ≤ length bytes) →
    length (and_front o (λ next. front_of next bytes) b) ≤ length (b ∷ bytes)
front-more b bytes None later = omega arith
front-more b bytes (Some next) later = let h = later next in omega (arith, h)

front-within : (part : _) (bytes : List ℕ) → length (front_of part bytes) ≤ length bytes
front-within part [] = omega arith
front-within part (b ∷ bytes) = front-more b bytes (part_step part b (b ∷ bytes)) (λ next. front-within next bytes)

trailing-within : (bytes : List ℕ) → length (without_trailing bytes) ≤ length bytes
trailing-within bytes =
    let t = trailing bytes in
    let e : length bytes ≡ length (without_trailing bytes ++ t.blanks) = ap length t.split in
    let f = length-append (without_trailing bytes) t.blanks in
    omega (arith, e, f)

end-within : (text : List ℕ) → end_of text ≤ length text
end-within text = let a = front-within (within_text []) text in let b = trailing-within (text_front text) in omega (arith, a, b)

cr-within : (bytes : List ℕ) → length (without_cr bytes) ≤ length bytes
cr-within [] = omega arith
cr-within (b ∷ []) = of (nat_eq b 13)
  where
    of : (t : Bool) → length (cond t [] (b ∷ [])) ≤ length (b ∷ [])
    of true = omega arith
    of false = omega arith
cr-within (b ∷ c ∷ bytes) = let h = cr-within (c ∷ bytes) in omega (arith, h)

-- the place of a tag stands within its line
pub place-within : (piece : List ℕ) → length (leading (content piece)) + end_of (text_of piece) ≤ length piece
place-within piece =
    let a = end-within (text_of piece) in
    let b : length (content piece) ≡ length (leading (content piece) ++ text_of piece) = ap length (leading-split (content piece)) in
    let c = length-append (leading (content piece)) (text_of piece) in
    let d = trailing-within (without_cr piece) in
    let e = cr-within piece in
    omega (arith, a, b, c, d, e)
