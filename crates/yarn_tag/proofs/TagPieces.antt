-- Pieces of a text, and a condition, before other bytes than those that stood behind them.
use Rattle.std.proofs.Common.{◌≡◌, ℕ, ◌+◌, List, [], ◌∷◌, ◌++◌, Bool, true, false, not, nat_eq, codes, refl, sym, ap, ◌∙◌, subst, append_assoc}
use Rattle.std.specs.List.{list_all, list_any}
use Rattle.std.proofs.lemmas.Bool.{true≢false, eqb-true, and_parts, or_parts, or_from, and_right, not_from_false}
use Rattle.yarn_lines.specs.Lines.{is_blank, begins_with}
use Rattle.yarn_expr.specs.declared.token.Token.{Token}
use Rattle.yarn_expr.specs.declared.tree.Expr.{Expr}
use Rattle.yarn_items.specs.Brace.{ToBrace, closes, quote, skipped, plain}
use Rattle.yarn_items.specs.Content.{goes_on, ToEnd, HasCondition}
use Rattle.yarn_items.specs.Content as content
use Rattle.yarn_items.specs.Text.{Piece, Char, Pair, Hole, Pieces, no_piece, pair, hole, char, is_escaped, begins_pair, begins_other, Tags, AreHoles, no_more, past_char, past_pair, at_hole, kept_from, pair_text, hole_text}
use Rattle.yarn_items.specs.Text as text
use Rattle.yarn_items.proofs.ContentLemmas.{end-split}
use Rattle.yarn_items.proofs.BraceLemmas.{brace-split}
use Rattle.yarn_tag.proofs.TagText.{ends_solid-behind, IsShut, no_byte, shut, shut-behind, IsRest}

brace-onto : {quoted : Bool} {bytes inside rest : List ℕ} → ToBrace quoted bytes inside rest → (other : List ℕ) → ToBrace quoted (inside ++ 125 ∷ other) inside other
brace-onto closes other = closes
brace-onto (quote later) other = quote (brace-onto later other)
brace-onto (skipped later) other = skipped (brace-onto later other)
brace-onto (plain is later) other = plain is (brace-onto later other)

on-goes : (games quoted : Bool) (c : ℕ) (bytes inside rest other : List ℕ) → bytes ≡ inside ++ 62 ∷ 62 ∷ rest → goes_on games quoted (c ∷ bytes) ≡ true →
    goes_on games quoted (c ∷ (inside ++ 62 ∷ 62 ∷ other)) ≡ true
on-goes games quoted c bytes [] rest other cut is = subst (λ (l : List ℕ). goes_on games quoted (c ∷ l) ≡ true) cut is
on-goes games quoted c bytes (b ∷ inside) rest other cut is = subst (λ (l : List ℕ). goes_on games quoted (c ∷ l) ≡ true) cut is

pub end-onto : {games quoted : Bool} {bytes inside rest : List ℕ} → ToEnd games quoted bytes inside rest → (other : List ℕ) →
    ToEnd games quoted (inside ++ 62 ∷ 62 ∷ other) inside other
end-onto content.ends other = content.ends
end-onto (content.quote later) other = content.quote (end-onto later other)
end-onto (content.skipped later) other = content.skipped (end-onto later other)
end-onto (content.passed {quoted} {bytes} {own} {more} {inside} {rest} to later) other =
    subst (λ (l : List ℕ). ToEnd true quoted (123 ∷ l) (123 ∷ (own ++ 125 ∷ inside)) other) (sym (append_assoc own (125 ∷ inside) (62 ∷ 62 ∷ other)))
    (content.passed (brace-onto to (inside ++ 62 ∷ 62 ∷ other)) (end-onto later other))
end-onto (content.other {games} {quoted} {c} {bytes} {inside} {rest} is later) other =
    content.other (on-goes games quoted c bytes inside rest other (end-split later) is) (end-onto later other)

-- no character joins what follows it to something else
abbrev pub Quiet : List ℕ → List ℕ → Type 0
Quiet rest other = (c : ℕ) → begins_pair (c ∷ rest) ≡ false → begins_other (c ∷ rest) ≡ false →
    (begins_pair (c ∷ other) ≡ false) × (begins_other (c ∷ other) ≡ false)

pub quiet-same : (b : ℕ) (rest other : List ℕ) → Quiet (b ∷ rest) (b ∷ other)
quiet-same b rest other c none is = (none, is)

pub quiet-space : (rest other : List ℕ) → Quiet rest (32 ∷ other)
quiet-space rest other c none is =
    let d = or_parts _ (begins_with (codes "<<") (c ∷ rest)) is in
    let b = or_parts _ (begins_with (codes "//") (c ∷ rest)) d.0 in (
      and_right (nat_eq c 92) false refl,
      or_from _ _ (or_from _ _ b.0 (and_right (nat_eq c 47) false refl)) (and_right (nat_eq c 60) false refl),
    )

-- the bytes of pieces, and the pieces before other bytes
pub record Onto (bytes rest other : List ℕ) (pieces : List Piece) : Type 0 where
  pub front : List ℕ
  pub cut : bytes ≡ front ++ rest
  pub read : Pieces (front ++ other) pieces other

pub pieces-onto : {bytes rest : List ℕ} {pieces : List Piece} → Pieces bytes pieces rest → (other : List ℕ) → Quiet rest other → Onto bytes rest other pieces
pieces-onto no_piece other quiet = record { front = []; cut = refl; read = no_piece }
pieces-onto (pair {c} {bytes} {rest} {pieces} is later) other quiet = of (pieces-onto later other quiet)
  where
    of : Onto bytes rest other pieces → Onto (92 ∷ c ∷ bytes) rest other (Pair c ∷ pieces)
    of o = record { front = 92 ∷ c ∷ o.front; cut = ap (λ (l : List ℕ). 92 ∷ c ∷ l) o.cut; read = pair is o.read }
pieces-onto (hole {bytes} {inside} {more} {rest} {pieces} to later) other quiet = of (pieces-onto later other quiet)
  where
    of : Onto more rest other pieces → Onto (123 ∷ bytes) rest other (Hole inside ∷ pieces)
    of o = record {
      front = 123 ∷ (inside ++ 125 ∷ o.front);
      cut =
          ap (λ (l : List ℕ). 123 ∷ l) (brace-split to)
          ∙ ap (λ (l : List ℕ). 123 ∷ (inside ++ 125 ∷ l)) o.cut
          ∙ ap (λ (l : List ℕ). 123 ∷ l) (sym (append_assoc inside (125 ∷ o.front) rest));
      read =
          subst (λ (l : List ℕ). Pieces (123 ∷ l) (Hole inside ∷ pieces) other) (sym (append_assoc inside (125 ∷ o.front) other))
          (hole (brace-onto to (o.front ++ other)) o.read);
    }
pieces-onto (char {c} {bytes} {rest} {pieces} none is later) other quiet = of (pieces-onto later other quiet)
  where
    fits : (front : List ℕ) → bytes ≡ front ++ rest → (begins_pair (c ∷ (front ++ other)) ≡ false) × (begins_other (c ∷ (front ++ other)) ≡ false)
    fits [] e = quiet c (subst (λ (l : List ℕ). begins_pair (c ∷ l) ≡ false) e none) (subst (λ (l : List ℕ). begins_other (c ∷ l) ≡ false) e is)
    fits (b ∷ front) e = (subst (λ (l : List ℕ). begins_pair (c ∷ l) ≡ false) e none, subst (λ (l : List ℕ). begins_other (c ∷ l) ≡ false) e is)

    of : Onto bytes rest other pieces → Onto (c ∷ bytes) rest other (Char c ∷ pieces)
    of o =
        let f = fits o.front o.cut in
        record { front = c ∷ o.front; cut = ap (λ (l : List ℕ). c ∷ l) o.cut; read = char f.0 f.1 o.read }

-- ---- blanks at the end of a text

-- what holds of each of some bytes holds of a byte among them
among : (test : ℕ → Bool) (bytes : List ℕ) (b : ℕ) → list_any (λ e. nat_eq e b) bytes ≡ true → list_all test bytes ≡ true → test b ≡ true
among test [] b one all = absurd (true≢false (sym one))
among test (c ∷ bytes) b one all = by_test (among test bytes b) (nat_eq c b) refl
  where
    parts : (test c ≡ true) × (list_all test bytes ≡ true)
    parts = and_parts (test c) (list_all test bytes) all

    by_test : (list_any (λ e. nat_eq e b) bytes ≡ true → list_all test bytes ≡ true → test b ≡ true) → (t : Bool) → nat_eq c b ≡ t → test b ≡ true
    by_test later true t = ap test (sym (eqb-true c b t)) ∙ parts.0
    by_test later false t = later (rw t at one) parts.1

escaped-solid : (c : ℕ) → is_escaped c ≡ true → not (is_blank c) ≡ true
escaped-solid c is = among (λ b. not (is_blank b)) (codes "\\{}[]#/<>") c is refl

-- the pieces before the blanks at the end
pub record Shortened (bytes : List ℕ) (pieces : List Piece) : Type 0 where
  pub own : List Piece
  pub front : List ℕ
  pub left : List ℕ
  pub cut : bytes ≡ front ++ left
  pub read : Pieces bytes own left
  pub rest : IsRest left
  pub ends : IsShut front
  pub none : front ≡ [] → own ≡ []
  pub blanks : List ℕ
  pub blank : list_all is_blank blanks ≡ true
  pub kept : (k : ℕ) → kept_from k pieces ≡ kept_from k own ++ blanks
  pub holes : (ts : List Token) (es : List Expr) → AreHoles pieces ts es → AreHoles own ts es

kept-more : (a b c blanks : List ℕ) → b ≡ c ++ blanks → a ++ b ≡ (a ++ c) ++ blanks
kept-more a b c blanks e = ap (λ (l : List ℕ). a ++ l) e ∙ sym (append_assoc a c blanks)

holes-pair : (c : ℕ) (pieces own : List Piece) → ((ts : List Token) (es : List Expr) → AreHoles pieces ts es → AreHoles own ts es) →
    (ts : List Token) (es : List Expr) → AreHoles (Pair c ∷ pieces) ts es → AreHoles (Pair c ∷ own) ts es
holes-pair c pieces own more ts es (past_pair h) = past_pair (more ts es h)

holes-char : (c : ℕ) (pieces own : List Piece) → ((ts : List Token) (es : List Expr) → AreHoles pieces ts es → AreHoles own ts es) →
    (ts : List Token) (es : List Expr) → AreHoles (Char c ∷ pieces) ts es → AreHoles (Char c ∷ own) ts es
holes-char c pieces own more ts es (past_char h) = past_char (more ts es h)

holes-none : (c : ℕ) (pieces own : List Piece) → ((ts : List Token) (es : List Expr) → AreHoles pieces ts es → AreHoles own ts es) → own ≡ [] →
    (ts : List Token) (es : List Expr) → AreHoles (Char c ∷ pieces) ts es → AreHoles [] ts es
holes-none c pieces own more e ts es (past_char h) = subst (λ (ps : List Piece). AreHoles ps ts es) e (more ts es h)

holes-hole : (inside : List ℕ) (pieces own : List Piece) → ((ts : List Token) (es : List Expr) → AreHoles pieces ts es → AreHoles own ts es) →
    (ts : List Token) (es : List Expr) → AreHoles (Hole inside ∷ pieces) ts es → AreHoles (Hole inside ∷ own) ts es
holes-hole inside pieces own more ts es (at_hole is h) = at_hole is (more _ _ h)

not_cons : (c : ℕ) (l : List ℕ) (X : Type 0) → c ∷ l ≡ [] → X
not_cons c l X e = absurd cc

pub shortened : {bytes rest : List ℕ} {pieces : List Piece} → Pieces bytes pieces rest → IsRest rest → Shortened bytes pieces
shortened (no_piece {rest}) is = record {
  own = [];
  front = [];
  left = rest;
  cut = refl;
  read = no_piece;
  rest = is;
  ends = no_byte;
  none = λ e. refl;
  blanks = [];
  blank = refl;
  kept = λ k. refl;
  holes = λ ts es h. h;
}
shortened (pair {c} {bytes} {rest} {pieces} escaped later) is = of (shortened later is)
  where
    of : Shortened bytes pieces → Shortened (92 ∷ c ∷ bytes) (Pair c ∷ pieces)
    of s = record {
      own = Pair c ∷ s.own;
      front = 92 ∷ c ∷ s.front;
      left = s.left;
      cut = ap (λ (l : List ℕ). 92 ∷ c ∷ l) s.cut;
      read = pair escaped s.read;
      rest = s.rest;
      ends = shut-behind (92 ∷ c ∷ []) (escaped-solid c escaped) s.ends;
      none = λ e. not_cons 92 (c ∷ s.front) _ e;
      blanks = s.blanks;
      blank = s.blank;
      kept = λ k. kept-more (pair_text c) (kept_from k pieces) (kept_from k s.own) s.blanks (s.kept k);
      holes = holes-pair c pieces s.own s.holes;
    }
shortened (hole {bytes} {inside} {more} {rest} {pieces} to later) is = of (shortened later is)
  where
    of : Shortened more pieces → Shortened (123 ∷ bytes) (Hole inside ∷ pieces)
    of s = record {
      own = Hole inside ∷ s.own;
      front = (123 ∷ (inside ++ 125 ∷ [])) ++ s.front;
      left = s.left;
      cut =
          ap (λ (l : List ℕ). 123 ∷ l) (brace-split to)
          ∙ ap (λ (l : List ℕ). 123 ∷ (inside ++ 125 ∷ l)) s.cut
          ∙ ap (λ (l : List ℕ). 123 ∷ l) (sym (append_assoc inside (125 ∷ []) (s.front ++ s.left)))
          ∙ sym (append_assoc (123 ∷ (inside ++ 125 ∷ [])) s.front s.left);
      read = hole to s.read;
      rest = s.rest;
      ends = shut-behind (123 ∷ (inside ++ 125 ∷ [])) (ends_solid-behind (123 ∷ inside) (125 ∷ []) refl) s.ends;
      none = λ e. not_cons 123 _ _ e;
      blanks = s.blanks;
      blank = s.blank;
      kept = λ k. kept-more (hole_text k) (kept_from (k + 1) pieces) (kept_from (k + 1) s.own) s.blanks (s.kept (k + 1));
      holes = holes-hole inside pieces s.own s.holes;
    }
shortened (char {c} {bytes} {rest} {pieces} plain_pair plain_other later) is = of (shortened later is)
  where
    longer : (s : Shortened bytes pieces) → IsShut (c ∷ s.front) → Shortened (c ∷ bytes) (Char c ∷ pieces)
    longer s ends = record {
      own = Char c ∷ s.own;
      front = c ∷ s.front;
      left = s.left;
      cut = ap (λ (l : List ℕ). c ∷ l) s.cut;
      read = char plain_pair plain_other s.read;
      rest = s.rest;
      ends = ends;
      none = λ e. not_cons c s.front _ e;
      blanks = s.blanks;
      blank = s.blank;
      kept = λ k. ap (λ (l : List ℕ). c ∷ l) (s.kept k);
      holes = holes-char c pieces s.own s.holes;
    }

    blank_more : (s : Shortened bytes pieces) → s.front ≡ [] → is_blank c ≡ true → Shortened (c ∷ bytes) (Char c ∷ pieces)
    blank_more s empty blank =
        let nothing = s.none empty in
        let all : bytes ≡ s.left = s.cut ∙ ap (λ (l : List ℕ). l ++ s.left) empty in
        record {
          own = [];
          front = [];
          left = c ∷ bytes;
          cut = refl;
          read = no_piece;
          rest = text.blank blank (subst IsRest (sym all) s.rest);
          ends = no_byte;
          none = λ e. refl;
          blanks = c ∷ s.blanks;
          blank = rw blank s.blank;
          kept = λ k. ap (λ (l : List ℕ). c ∷ l) (s.kept k ∙ ap (λ (ps : List Piece). kept_from k ps ++ s.blanks) nothing);
          holes = holes-none c pieces s.own s.holes nothing;
        }

    first : (s : Shortened bytes pieces) → s.front ≡ [] → (t : Bool) → is_blank c ≡ t → Shortened (c ∷ bytes) (Char c ∷ pieces)
    first s empty true t = blank_more s empty t
    first s empty false t = longer s (subst (λ (l : List ℕ). IsShut (c ∷ l)) (sym empty) (shut (not_from_false (is_blank c) t)))

    by_front : (s : Shortened bytes pieces) → (front : List ℕ) → s.front ≡ front → IsShut front → Shortened (c ∷ bytes) (Char c ∷ pieces)
    by_front s [] e ends = first s e (is_blank c) refl
    by_front s (b ∷ front) e (shut solid) = longer s (subst (λ (l : List ℕ). IsShut (c ∷ l)) (sym e) (shut solid))

    of : Shortened bytes pieces → Shortened (c ∷ bytes) (Char c ∷ pieces)
    of s = by_front s s.front refl s.ends
