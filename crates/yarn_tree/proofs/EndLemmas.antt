-- What stands before the comment of a line.
use Rattle.std.proofs.Common.{◌≡◌, ℕ, List, [], ◌∷◌, ◌++◌, length, Bool, true, false, not, cond, ◌&&◌, ◌||◌, nat_eq, Option, Some, None, codes, ◌⊎◌, inl, inr, refl, sym, ap, ◌∙◌, subst, append_assoc}
use Rattle.std.specs.List.{list_all}
use Rattle.std.proofs.lemmas.Bool.{eqb-true, or_cases}
use Rattle.yarn_lines.specs.Lines.{is_blank, begins_with, without_trailing}
use Rattle.yarn_expr.specs.declared.token.Token.{Token}
use Rattle.yarn_expr.specs.declared.tree.Expr.{Expr}
use Rattle.yarn_items.specs.declared.item.Said.{Said}
use Rattle.yarn_items.specs.Brace.{is_plain, ToBrace, closes, quote, skipped, plain}
use Rattle.yarn_items.specs.Content.{goes_on, ToEnd, HasCondition}
use Rattle.yarn_items.specs.Content as content
use Rattle.yarn_items.specs.Item.{IsCondition, no_condition, condition, IsLine, IsOffer}
use Rattle.yarn_items.specs.Text.{Piece, Pieces, no_piece, pair, hole, char, is_escaped, begins_pair, begins_other, is_tag_byte, begins_tag_byte, Tags}
use Rattle.yarn_items.specs.Text as text
use Rattle.yarn_tree.specs.declared.end.Part.{Part}
use Rattle.yarn_tree.specs.declared.end.Part.TheVariants.{InText, InPair, InHole, SkippedInHole, Opens, InCondition, SkippedInCondition, Closes, InTag}
use Rattle.yarn_tree.specs.End.{Leaves, nothing, comment, blank, tag, HasComment, of_line, of_option, EndsAt}
use Rattle.yarn_tree.specs.Scan.{within_text, text_step, hole_step, condition_step, part_step, and_front, front_of}

-- bytes are passed up to the rest
record Passes (s t : Part) (bytes rest : List ℕ) : Type 0 where
  pub front : List ℕ
  pub cut : bytes ≡ front ++ rest
  pub passed : front_of s bytes ≡ front ++ front_of t rest

here : (s : Part) (bytes : List ℕ) → Passes s s bytes bytes
here s bytes = record { front = []; cut = refl; passed = refl }

past : (s next t : Part) (b : ℕ) (bytes rest : List ℕ) → part_step s b (b ∷ bytes) ≡ Some next → Passes next t bytes rest → Passes s t (b ∷ bytes) rest
past s next t b bytes rest is more = record {
  front = b ∷ more.front;
  cut = ap (λ (l : List ℕ). b ∷ l) more.cut;
  passed = ap (λ (o : Option Part). and_front o (λ n. front_of n bytes) b) is ∙ ap (λ (l : List ℕ). b ∷ l) more.passed;
}

behind : (s t u : Part) (a b c : List ℕ) → Passes s t a b → Passes t u b c → Passes s u a c
behind s t u a b c first second = record {
  front = first.front ++ second.front;
  cut = first.cut ∙ ap (λ (l : List ℕ). first.front ++ l) second.cut ∙ sym (append_assoc first.front second.front c);
  passed = first.passed ∙ ap (λ (l : List ℕ). first.front ++ l) second.passed ∙ sym (append_assoc first.front second.front (front_of u c));
}

or-false : (a b : Bool) → (a || b) ≡ false → (a ≡ false) × (b ≡ false)
or-false true b is = absurd cc
or-false false b is = (refl, is)

and-true : (a b : Bool) → (a && b) ≡ true → (a ≡ true) × (b ≡ true)
and-true true b is = (refl, is)
and-true false b is = absurd cc

not-true : (b : Bool) → not b ≡ true → b ≡ false
not-true true is = absurd cc
not-true false is = refl

-- ---- substitutions

plain-step : (quoted : Bool) (c : ℕ) → is_plain quoted c ≡ true → hole_step quoted c ≡ InHole quoted
plain-step true c is =
    let a = and-true (not (nat_eq c 34)) (not (nat_eq c 92)) is in
    rw (not-true (nat_eq c 34) a.0, not-true (nat_eq c 92) a.1) refl
plain-step false c is =
    let a = and-true (not (nat_eq c 34)) (not (nat_eq c 125)) is in
    rw (not-true (nat_eq c 34) a.0, not-true (nat_eq c 125) a.1) refl

hole-passes : {quoted : Bool} {bytes inside rest : List ℕ} → ToBrace quoted bytes inside rest → Passes (InHole quoted) InText bytes rest
hole-passes (closes {rest}) = past (InHole false) InText InText 125 rest rest refl (here InText rest)
hole-passes (quote {quoted} {bytes} {inside} {rest} more) = past (InHole quoted) (InHole (not quoted)) InText 34 bytes rest refl (hole-passes more)
hole-passes (skipped {c} {bytes} {inside} {rest} more) =
    past (InHole true) SkippedInHole InText 92 (c ∷ bytes) rest refl (past SkippedInHole (InHole true) InText c bytes rest refl (hole-passes more))
hole-passes (plain {quoted} {c} {bytes} {inside} {rest} is more) =
    past (InHole quoted) (InHole quoted) InText c bytes rest (ap (λ (p : Part). Some p) (plain-step quoted c is)) (hole-passes more)

-- ---- text

pair-step : (c : ℕ) (bytes : List ℕ) → is_escaped c ≡ true → part_step InText 92 (92 ∷ c ∷ bytes) ≡ Some InPair
pair-step c bytes is = rw is refl

char-step : (c : ℕ) (bytes : List ℕ) → begins_pair (c ∷ bytes) ≡ false → begins_other (c ∷ bytes) ≡ false → part_step InText c (c ∷ bytes) ≡ Some InText
char-step c bytes none other =
    let d = or-false _ (begins_with (codes "<<") (c ∷ bytes)) other in
    let b = or-false _ (begins_with (codes "//") (c ∷ bytes)) d.0 in
    let a = or-false (begins_with (codes "{") (c ∷ bytes)) (begins_with (codes "#") (c ∷ bytes)) b.0 in
    ap (λ (t : Bool). cond t None (Some (within_text (c ∷ bytes)))) b.1
    ∙ ap (λ (t : Bool). Some (cond t (InHole false) (cond (begins_with (codes "#") (c ∷ bytes)) InTag (cond (begins_with (codes "<<") (c ∷ bytes)) Opens (cond (begins_pair (c ∷ bytes)) InPair InText))))) a.0
    ∙ ap (λ (t : Bool). Some (cond t InTag (cond (begins_with (codes "<<") (c ∷ bytes)) Opens (cond (begins_pair (c ∷ bytes)) InPair InText)))) a.1
    ∙ ap (λ (t : Bool). Some (cond t Opens (cond (begins_pair (c ∷ bytes)) InPair InText))) d.1
    ∙ ap (λ (t : Bool). Some (cond t InPair InText)) none

text-passes : {bytes rest : List ℕ} {pieces : List Piece} → Pieces bytes pieces rest → Passes InText InText bytes rest
text-passes (no_piece {rest}) = here InText rest
text-passes (pair {c} {bytes} {rest} {pieces} is more) =
    past InText InPair InText 92 (c ∷ bytes) rest (pair-step c bytes is) (past InPair InText InText c bytes rest refl (text-passes more))
text-passes (hole {bytes} {inside} {more} {rest} {pieces} to behind_it) =
    behind InText InText InText (123 ∷ bytes) more rest (past InText (InHole false) InText 123 bytes more refl (hole-passes to)) (text-passes behind_it)
text-passes (char {c} {bytes} {rest} {pieces} none other more) =
    past InText InText InText c bytes rest (char-step c bytes none other) (text-passes more)

-- ---- conditions

not-both : (quoted b : Bool) → (quoted || not b) ≡ true → (not quoted && b) ≡ false
not-both true b is = refl
not-both false b is = not-true b is

other-step : (quoted : Bool) (c : ℕ) (bytes : List ℕ) → goes_on false quoted (c ∷ bytes) ≡ true → condition_step quoted c (c ∷ bytes) ≡ InCondition quoted
other-step quoted c bytes is =
    let d = and-true _ (quoted || not (begins_with (codes ">>") (c ∷ bytes))) is in
    let b = and-true _ (not (false && nat_eq c 123)) d.0 in
    let a = and-true (not (nat_eq c 34)) (not (nat_eq c 92)) b.0 in
    rw (not-true (nat_eq c 34) a.0, not-true (nat_eq c 92) a.1, not-both quoted (begins_with (codes ">>") (c ∷ bytes)) d.1) refl

condition-passes : {games quoted : Bool} {bytes inside rest : List ℕ} → games ≡ false → ToEnd games quoted bytes inside rest → Passes (InCondition quoted) InText bytes rest
condition-passes is (content.ends {games} {rest}) =
    past (InCondition false) Closes InText 62 (62 ∷ rest) rest refl (past Closes InText InText 62 rest rest refl (here InText rest))
condition-passes is (content.quote {games} {quoted} {bytes} {inside} {rest} more) =
    past (InCondition quoted) (InCondition (not quoted)) InText 34 bytes rest refl (condition-passes is more)
condition-passes is (content.skipped {games} {quoted} {c} {bytes} {inside} {rest} more) =
    past (InCondition quoted) (SkippedInCondition quoted) InText 92 (c ∷ bytes) rest refl
    (past (SkippedInCondition quoted) (InCondition quoted) InText c bytes rest refl (condition-passes is more))
condition-passes is (content.passed {quoted} {bytes} {own} {more} {inside} {rest} to behind_it) = absurd cc
condition-passes is (content.other {games} {quoted} {c} {bytes} {inside} {rest} on more) =
    past (InCondition quoted) (InCondition quoted) InText c bytes rest
    (ap (λ (p : Part). Some p) (other-step quoted c bytes (subst (λ (g : Bool). goes_on g quoted (c ∷ bytes) ≡ true) is on))) (condition-passes is more)

opens-passes : (bytes rest : List ℕ) → Passes (InCondition false) InText bytes rest → Passes InText InText (codes "<<" ++ bytes) rest
opens-passes bytes rest more = past InText Opens InText 60 (60 ∷ bytes) rest refl (past Opens (InCondition false) InText 60 bytes rest refl more)

asked-passes : {bytes behind_it : List ℕ} {tokens : List Token} {asked : Option Expr} → IsCondition bytes tokens asked behind_it → Passes InText InText bytes behind_it
asked-passes (no_condition {rest}) = here InText rest
asked-passes (condition {bytes} {content = inside} {rest} has is) =
    subst (λ (l : List ℕ). Passes InText InText l rest) (sym has.split) (opens-passes has.bytes rest (condition-passes refl has.to_end))

-- ---- hashtags

record Left (bytes : List ℕ) : Type 0 where
  pub left : List ℕ
  pub leaves : Leaves bytes left
  pub front : List ℕ
  pub cut : bytes ≡ front ++ left
  pub stops : front_of InText bytes ≡ front

comment-stops : (bytes : List ℕ) → begins_with (codes "//") bytes ≡ true → front_of InText bytes ≡ []
comment-stops [] is = refl
comment-stops (b ∷ bytes) is =
    ap (λ (t : Bool). and_front (cond t None (Some (within_text (b ∷ bytes)))) (λ n. front_of n bytes) b) is

not-pair : (b : ℕ) (bytes : List ℕ) → nat_eq b 92 ≡ false → begins_pair (b ∷ bytes) ≡ false
not-pair b [] is = refl
not-pair b (c ∷ bytes) is = ap (λ (t : Bool). t && is_escaped c) is

space-step : (bytes : List ℕ) → part_step InText 32 (32 ∷ bytes) ≡ Some InText
space-step bytes = ap (λ (t : Bool). Some (cond t InPair InText)) (not-pair 32 bytes refl)

tab-step : (bytes : List ℕ) → part_step InText 9 (9 ∷ bytes) ≡ Some InText
tab-step bytes = ap (λ (t : Bool). Some (cond t InPair InText)) (not-pair 9 bytes refl)

blank-step : (b : ℕ) (bytes : List ℕ) → is_blank b ≡ true → part_step InText b (b ∷ bytes) ≡ Some InText
blank-step b bytes is = of (or_cases (nat_eq b 32) (nat_eq b 9) is)
  where
    of : (nat_eq b 32 ≡ true) ⊎ (nat_eq b 9 ≡ true) → part_step InText b (b ∷ bytes) ≡ Some InText
    of (inl e) = subst (λ (n : ℕ). part_step InText n (n ∷ bytes) ≡ Some InText) (sym (eqb-true b 32 e)) (space-step bytes)
    of (inr e) = subst (λ (n : ℕ). part_step InText n (n ∷ bytes) ≡ Some InText) (sym (eqb-true b 9 e)) (tab-step bytes)

own-passes : (own bytes : List ℕ) → list_all is_tag_byte own ≡ true → front_of InTag (own ++ bytes) ≡ own ++ front_of InTag bytes
own-passes [] bytes is = refl
own-passes (c ∷ own) bytes is =
    let a = and-true (is_tag_byte c) (list_all is_tag_byte own) is in
    ap (λ (t : Bool). and_front (cond t (Some InTag) (text_step (c ∷ (own ++ bytes)))) (λ n. front_of n (own ++ bytes)) c) a.0
    ∙ ap (λ (l : List ℕ). c ∷ l) (own-passes own bytes a.1)

tag-over : (bytes : List ℕ) → begins_tag_byte bytes ≡ false → front_of InTag bytes ≡ front_of InText bytes
tag-over [] is = refl
tag-over (b ∷ bytes) is = ap (λ (t : Bool). and_front (cond t (Some InTag) (text_step (b ∷ bytes))) (λ n. front_of n bytes) b) is

tags-left : {bytes : List ℕ} {tags : List (List ℕ)} → Tags bytes tags → Left bytes
tags-left text.no_tag = record { left = []; leaves = nothing; front = []; cut = refl; stops = refl }
tags-left (text.comment {bytes} is) = record { left = bytes; leaves = comment is; front = []; cut = refl; stops = comment-stops bytes is }
tags-left (text.blank {b} {bytes} {tags} is more) =
    let l = tags-left more in
    record {
      left = l.left;
      leaves = blank is l.leaves;
      front = b ∷ l.front;
      cut = ap (λ (x : List ℕ). b ∷ x) l.cut;
      stops = ap (λ (o : Option Part). and_front o (λ n. front_of n bytes) b) (blank-step b bytes is) ∙ ap (λ (x : List ℕ). b ∷ x) l.stops;
    }
tags-left (text.tag {c} {own} {bytes} {tags} solid over more) =
    let l = tags-left more in
    record {
      left = l.left;
      leaves = tag c own solid over l.leaves;
      front = 35 ∷ ((c ∷ own) ++ l.front);
      cut = ap (λ (x : List ℕ). 35 ∷ ((c ∷ own) ++ x)) l.cut ∙ ap (λ (x : List ℕ). 35 ∷ x) (sym (append_assoc (c ∷ own) l.front l.left));
      stops = ap (λ (x : List ℕ). 35 ∷ x) (own-passes (c ∷ own) bytes solid ∙ ap (λ (x : List ℕ). (c ∷ own) ++ x) (tag-over bytes over ∙ l.stops));
    }

-- ---- lines and options

pub line-ends : (line : List ℕ) (tokens : List Token) (said : Said) (n : ℕ) → n ≡ length (without_trailing (front_of InText line)) → IsLine line tokens said → EndsAt line n
line-ends line tokens said n is of =
    let p = text-passes of.read in
    let l = tags-left of.tagged in
    record {
      front = p.front ++ l.front;
      left = l.left;
      cut = p.cut ∙ ap (λ (x : List ℕ). p.front ++ x) l.cut ∙ sym (append_assoc p.front l.front l.left);
      commented = of_line of.read l.leaves;
      ends = is ∙ ap (λ (x : List ℕ). length (without_trailing x)) (p.passed ∙ ap (λ (x : List ℕ). p.front ++ x) l.stops);
    }

arrow-passes : (bytes rest : List ℕ) → Passes InText InText bytes rest → Passes InText InText (codes "->" ++ bytes) rest
arrow-passes bytes rest more =
    past InText InText InText 45 (62 ∷ bytes) rest refl
    (past InText InText InText 62 bytes rest (ap (λ (t : Bool). Some (cond t InPair InText)) (not-pair 62 bytes refl)) more)

pub offer-ends : (line : List ℕ) (tokens : List Token) (said : Said) (asked : Option Expr) (n : ℕ) → n ≡ length (without_trailing (front_of InText line)) →
    IsOffer line tokens said asked → EndsAt line n
offer-ends line tokens said asked n is of =
    let a = arrow-passes of.bytes of.rest (text-passes of.read) in
    let whole = behind InText InText InText (codes "->" ++ of.bytes) of.rest of.behind a (asked-passes of.conditioned) in
    let p = subst (λ (x : List ℕ). Passes InText InText x of.behind) (sym of.split) whole in
    let l = tags-left of.tagged in
    record {
      front = p.front ++ l.front;
      left = l.left;
      cut = p.cut ∙ ap (λ (x : List ℕ). p.front ++ x) l.cut ∙ sym (append_assoc p.front l.front l.left);
      commented = subst (λ (x : List ℕ). HasComment x l.left) (sym of.split) (of_option of.read of.conditioned l.leaves);
      ends = is ∙ ap (λ (x : List ℕ). length (without_trailing x)) (p.passed ∙ ap (λ (x : List ℕ). p.front ++ x) l.stops);
    }
