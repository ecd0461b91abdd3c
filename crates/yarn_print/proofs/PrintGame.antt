-- The content of a command for the game that is printed: what is read of it is the same text with the same expressions.
use Rattle.std.proofs.Common.{◌≡◌, ℕ, ◌+◌, List, [], ◌∷◌, ◌++◌, Bool, true, false, not, ◌&&◌, ◌||◌, nat_eq, nat_le, codes, if◌then◌else◌, refl, sym, ap, subst, ◌∙◌, arith, append_assoc}
use Rattle.std.specs.List.{list_all}
use Rattle.std.specs.Str.{chars}
use Rattle.std.specs.Fmt.{decimal}
use Rattle.std.proofs.lemmas.Bool.{ne_eqb, true≢false, eqb-false, not-true, not_from_false, and_parts, and_from, both_ways, leb-true}
use Rattle.yarn_expr.specs.declared.token.Token.{Token}
use Rattle.yarn_expr.specs.declared.tree.Expr.{Expr}
use Rattle.yarn_expr.specs.Print.{canonical}
use Rattle.yarn_expr.specs.Tokens.{is_digit}
use Rattle.yarn_commands.specs.Command.{IsExpression}
use Rattle.yarn_lines.specs.Lines.{is_blank, without_trailing, begins_with}
use Rattle.yarn_items.specs.Brace.{ToBrace, is_plain}
use Rattle.yarn_items.specs.Brace as brace
use Rattle.yarn_items.specs.Content.{ToEnd, goes_on}
use Rattle.yarn_items.specs.Content as content
use Rattle.yarn_items.specs.Text.{Piece, Char, Pair, Hole, AreHoles, no_more, past_char, past_pair, at_hole, hole_text}
use Rattle.yarn_items.specs.Game.{GamePieces, is_char, game_text_from}
use Rattle.yarn_items.specs.Game as game
use Rattle.yarn_print.specs.Print.{hole_printed, game_printed, last_of}
use Rattle.yarn_print.proofs.Quiet.{OnlyBreaks, Fits, fits-append}
use Rattle.yarn_print.proofs.Tight.{begins_solid}
use Rattle.yarn_print.proofs.Decimals.{decimal-digits}
use Rattle.yarn_print.proofs.Cuts.{fits-cut, fits-behind, fits-onto, fits-off}
use Rattle.yarn_print.proofs.PrintText.{Fine, fine-piece, fits-hole, hole-brace, without_trailing-through, last-through, last-hole}
use Rattle.yarn_print.proofs.PrintCommand.{end-split}

-- ---- substitutions end at one place

brace-behind : {q : Bool} {bytes inside more : List ℕ} → (rest : List ℕ) → ToBrace q bytes inside more → ToBrace q (inside ++ 125 ∷ rest) inside rest
brace-behind rest brace.closes = brace.closes
brace-behind rest (brace.quote later) = brace.quote (brace-behind rest later)
brace-behind rest (brace.skipped later) = brace.skipped (brace-behind rest later)
brace-behind rest (brace.plain is later) = brace.plain is (brace-behind rest later)

brace-one : {q : Bool} {bytes a b x y : List ℕ} → ToBrace q bytes a x → ToBrace q bytes b y → (a ≡ b) × (x ≡ y)
brace-one brace.closes brace.closes = (refl, refl)
brace-one brace.closes (brace.plain is later) = absurd (true≢false (sym is))
brace-one (brace.quote one) (brace.quote two) = let both = brace-one one two in (ap (λ l. 34 ∷ l) both.0, both.1)
brace-one (brace.quote {quoted = true} one) (brace.plain is later) = absurd (true≢false (sym is))
brace-one (brace.quote {quoted = false} one) (brace.plain is later) = absurd (true≢false (sym is))
brace-one (brace.skipped {c} one) (brace.skipped two) = let both = brace-one one two in (ap (λ l. 92 ∷ c ∷ l) both.0, both.1)
brace-one (brace.skipped one) (brace.plain is later) = absurd (true≢false (sym is))
brace-one (brace.plain is one) brace.closes = absurd (true≢false (sym is))
brace-one (brace.plain {quoted = true} is one) (brace.quote two) = absurd (true≢false (sym is))
brace-one (brace.plain {quoted = false} is one) (brace.quote two) = absurd (true≢false (sym is))
brace-one (brace.plain is one) (brace.skipped two) = absurd (true≢false (sym is))
brace-one (brace.plain {quoted} {c} is one) (brace.plain other two) = let both = brace-one one two in (ap (λ l. c ∷ l) both.0, both.1)

-- ---- the parts of a content

-- a content with its text and its expressions, in a quoted string or outside
pub data IsGame (test : ℕ → Bool) : Bool → ℕ → List ℕ → List ℕ → List Expr → Type 0 where
  ended : {k : ℕ} → IsGame test false k [] [] []
  last_back : {k : ℕ} → IsGame test false k (92 ∷ []) (92 ∷ []) []
  paired : {q : Bool} {k c : ℕ} {raw text : List ℕ} {es : List Expr} → IsGame test q k raw text es → IsGame test q k (92 ∷ c ∷ raw) (92 ∷ c ∷ text) es
  quoted : {q : Bool} {k : ℕ} {raw text : List ℕ} {es : List Expr} → IsGame test (not q) k raw text es → IsGame test q k (34 ∷ raw) (34 ∷ text) es
  put : {q : Bool} {k : ℕ} {raw text : List ℕ} {e : Expr} {es : List Expr} → (inside : List ℕ) → Fine test e → IsGame test q (k + 1) raw text es → IsGame test q k (123 ∷ (inside ++ 125 ∷ raw)) (hole_text k ++ text) (e ∷ es)
  plain : {q : Bool} {k c : ℕ} {raw text : List ℕ} {es : List Expr} → nat_eq c 34 ≡ false → nat_eq c 92 ≡ false → nat_eq c 123 ≡ false →
      (q ≡ false → nat_eq c 62 ≡ true → begins_with (codes ">") raw ≡ false) → IsGame test q k raw text es → IsGame test q k (c ∷ raw) (c ∷ text) es

record CharStep (c : ℕ) (raw : List ℕ) (pieces : List Piece) (tokens : List Token) (es : List Expr) : Type 0 where
  others : List Piece
  is : pieces ≡ Char c ∷ others
  read : GamePieces raw others
  held : AreHoles others tokens es

record PairStep (c : ℕ) (raw : List ℕ) (pieces : List Piece) (tokens : List Token) (es : List Expr) : Type 0 where
  others : List Piece
  is : pieces ≡ Pair c ∷ others
  read : GamePieces raw others
  held : AreHoles others tokens es

record HoleStep (raw : List ℕ) (pieces : List Piece) (es : List Expr) : Type 0 where
  inside : List ℕ
  more : List ℕ
  others : List Piece
  own : List Token
  tokens : List Token
  e : Expr
  later : List Expr
  is : pieces ≡ Hole inside ∷ others
  same : es ≡ e ∷ later
  to : ToBrace false raw inside more
  read : GamePieces more others
  expression : IsExpression (chars inside) own e
  held : AreHoles others tokens later

record NoStep (text : List ℕ) (pieces : List Piece) (es : List Expr) : Type 0 where
  own : (k : ℕ) → game_text_from k pieces ≡ text
  none : es ≡ []

heads_differ : (b c : ℕ) (l m : List ℕ) → nat_eq b c ≡ false → b ∷ l ≡ c ∷ m → ⊥
heads_differ b c l m unmet same = eqb-false b c unmet cc

no_step : {w : List ℕ} {pieces : List Piece} {tokens : List Token} {es : List Expr} → w ≡ [] → GamePieces w pieces → AreHoles pieces tokens es → NoStep [] pieces es
no_step is game.no_piece no_more = record { own = λ k. refl; none = refl }
no_step is game.last held = absurd cc
no_step is (game.pair later) held = absurd cc
no_step is (game.hole to later) held = absurd cc
no_step is (game.char e later) held = absurd cc

last_step : {w : List ℕ} {pieces : List Piece} {tokens : List Token} {es : List Expr} → w ≡ 92 ∷ [] → GamePieces w pieces → AreHoles pieces tokens es → NoStep (92 ∷ []) pieces es
last_step is game.no_piece held = absurd cc
last_step is game.last (past_char no_more) = record { own = λ k. refl; none = refl }
last_step is (game.pair later) held = absurd cc
last_step is (game.hole to later) held = absurd (heads_differ 123 92 _ _ refl is)
last_step is (game.char {c} e later) held =
    let same : c ≡ 92 = cc in
    absurd (true≢false (sym (subst (λ x. is_char x ≡ true) same e)))

char_step : {w : List ℕ} {pieces : List Piece} {tokens : List Token} {es : List Expr} → (c : ℕ) (raw : List ℕ) → nat_eq c 92 ≡ false → nat_eq c 123 ≡ false → w ≡ c ∷ raw → GamePieces w pieces → AreHoles pieces tokens es → CharStep c raw pieces tokens es
char_step c raw back brace_free is game.no_piece held = absurd cc
char_step c raw back brace_free is game.last held = absurd (heads_differ c 92 _ _ back (sym is))
char_step c raw back brace_free is (game.pair later) held = absurd (heads_differ c 92 _ _ back (sym is))
char_step c raw back brace_free is (game.hole to later) held = absurd (heads_differ c 123 _ _ brace_free (sym is))
char_step {tokens = tokens} {es = es} c raw back brace_free is (game.char {c = d} {bytes = bytes} {pieces = others} e later) (past_char held) =
    let first : d ≡ c = cc in
    let behind : bytes ≡ raw = cc in
    record { others = others; is = ap (λ x. Char x ∷ others) first; read = subst (λ l. GamePieces l others) behind later; held = held }

pair_step : {w : List ℕ} {pieces : List Piece} {tokens : List Token} {es : List Expr} → (c : ℕ) (raw : List ℕ) → w ≡ 92 ∷ c ∷ raw → GamePieces w pieces → AreHoles pieces tokens es → PairStep c raw pieces tokens es
pair_step c raw is game.no_piece held = absurd cc
pair_step c raw is game.last held = absurd cc
pair_step c raw is (game.pair {c = d} {bytes = bytes} {pieces = others} later) (past_pair held) =
    let first : d ≡ c = cc in
    let behind : bytes ≡ raw = cc in
    record { others = others; is = ap (λ x. Pair x ∷ others) first; read = subst (λ l. GamePieces l others) behind later; held = held }
pair_step c raw is (game.hole to later) held = absurd (heads_differ 123 92 _ _ refl is)
pair_step c raw is (game.char {c = d} e later) held =
    let same : d ≡ 92 = cc in
    absurd (true≢false (sym (subst (λ x. is_char x ≡ true) same e)))

hole_step : {w : List ℕ} {pieces : List Piece} {tokens : List Token} {es : List Expr} → (raw : List ℕ) → w ≡ 123 ∷ raw → GamePieces w pieces → AreHoles pieces tokens es → HoleStep raw pieces es
hole_step raw is game.no_piece held = absurd cc
hole_step raw is game.last held = absurd (heads_differ 92 123 _ _ refl is)
hole_step raw is (game.pair later) held = absurd (heads_differ 92 123 _ _ refl is)
hole_step raw is (game.hole {bytes = bytes} {inside = inside} {more = more} {pieces = others} to later) (at_hole {own = own} {ts = ts} {e = e} {es = es} x held) =
    let behind : bytes ≡ raw = cc in
    record {
      inside = inside;
      more = more;
      others = others;
      own = own;
      tokens = ts;
      e = e;
      later = es;
      is = refl;
      same = refl;
      to = subst (λ l. ToBrace false l inside more) behind to;
      read = later;
      expression = x;
      held = held;
    }
hole_step raw is (game.char {c = d} e later) held =
    let same : d ≡ 123 = cc in
    absurd (true≢false (sym (subst (λ x. is_char x ≡ true) same e)))

-- what is nothing but blanks leaves no string open
blanks-shut : {games q : Bool} {bytes inside rest : List ℕ} → ToEnd games q bytes inside rest → list_all is_blank inside ≡ true → q ≡ false
blanks-shut content.ends all = refl
blanks-shut (content.quote later) all = absurd (true≢false (sym all))
blanks-shut (content.skipped later) all = absurd (true≢false (sym all))
blanks-shut (content.passed to later) all = absurd (true≢false (sym all))
blanks-shut (content.other {c = c} {inside = inside} is later) all = blanks-shut later (and_parts (is_blank c) (list_all is_blank inside) all).1

-- ---- one byte

record Goes (q : Bool) (c : ℕ) (bytes : List ℕ) : Type 0 where
  quote : nat_eq c 34 ≡ false
  back : nat_eq c 92 ≡ false
  opens : nat_eq c 123 ≡ false
  ends : q ≡ false → nat_eq c 62 ≡ true → begins_with (codes ">") bytes ≡ false

goes : (q : Bool) (c : ℕ) (bytes : List ℕ) → goes_on true q (c ∷ bytes) ≡ true → Goes q c bytes
goes q c bytes is =
    let three = and_parts (not (nat_eq c 34) && not (nat_eq c 92) && not (nat_eq c 123)) (q || not (begins_with (codes ">>") (c ∷ bytes))) is in
    let two = and_parts (not (nat_eq c 34) && not (nat_eq c 92)) (not (nat_eq c 123)) three.0 in
    let one = and_parts (not (nat_eq c 34)) (not (nat_eq c 92)) two.0 in
    record { quote = not-true _ one.0; back = not-true _ one.1; opens = not-true _ two.1; ends = λ out more. closed out more three.1 }
  where
    closed : q ≡ false → nat_eq c 62 ≡ true → (q || not (begins_with (codes ">>") (c ∷ bytes))) ≡ true → begins_with (codes ">") bytes ≡ false
    closed out more h =
        let told : not (begins_with (codes ">>") (c ∷ bytes)) ≡ true = rw out at h in
        let unmet : begins_with (codes ">>") (c ∷ bytes) ≡ false = not-true _ told in
        rw more at unmet

-- what stands in front keeps its first byte
front-more : (inside : List ℕ) (rest : List ℕ) → begins_with (codes ">") (inside ++ 62 ∷ 62 ∷ rest) ≡ false → begins_with (codes ">") (without_trailing inside) ≡ false
front-more [] rest unmet = refl
front-more (b ∷ inside) rest unmet = by_test (list_all is_blank (b ∷ inside)) refl
  where
    by_test : (t : Bool) → list_all is_blank (b ∷ inside) ≡ t → begins_with (codes ">") (without_trailing (b ∷ inside)) ≡ false
    by_test true t = rw t refl
    by_test false t = rw t unmet

moved : {test : ℕ → Bool} {q : Bool} {k : ℕ} (raw raw' text text' : List ℕ) (es es' : List Expr) → raw ≡ raw' → text ≡ text' → es ≡ es' → IsGame test q k raw' text' es' → IsGame test q k raw text es
moved {test} {q} {k} raw raw' text text' es es' one two three is =
    subst (λ l. IsGame test q k l text es) (sym one) (subst (λ l. IsGame test q k raw' l es) (sym two) (subst (λ (l : List Expr). IsGame test q k raw' text' l) (sym three) is))

-- the parts of what stands before an end
pub from_game : {q : Bool} {bytes inside rest : List ℕ} → (test : ℕ → Bool) → OnlyBreaks test → (front : List ℕ) (k : ℕ) (raw : List ℕ) (pieces : List Piece) (tokens : List Token) (es : List Expr) →
    ToEnd true q bytes inside rest → raw ≡ without_trailing inside → GamePieces raw pieces → AreHoles pieces tokens es → Fits test (front ++ raw) → IsGame test q k raw (game_text_from k pieces) es
from_game test only front k raw pieces tokens es content.ends is read held whole =
    let s = no_step is read held in
    moved raw [] (game_text_from k pieces) [] es [] is (s.own k) s.none ended
from_game test only front k raw pieces tokens es (content.quote {inside = inside} later) is read held whole =
    let s = char_step 34 (without_trailing inside) refl refl is read held in
    let fits = fits-onto test front 34 (without_trailing inside) (subst (λ l. Fits test (front ++ l)) is whole) in
    let on = from_game test only (front ++ 34 ∷ []) k (without_trailing inside) s.others tokens es later refl s.read s.held fits in
    moved raw (34 ∷ without_trailing inside) (game_text_from k pieces) (34 ∷ game_text_from k s.others) es es is (ap (game_text_from k) s.is) refl (quoted on)
from_game {q} test only front k raw pieces tokens es (content.skipped {c = c} {inside = inside} later) is read held whole =
    by_test (λ others read' held' fits. from_game test only ((front ++ 92 ∷ []) ++ c ∷ []) k (without_trailing inside) others tokens es later refl read' held' fits) (list_all is_blank (c ∷ inside)) refl
  where
    by_test : ((others : List Piece) → GamePieces (without_trailing inside) others → AreHoles others tokens es → Fits test (((front ++ 92 ∷ []) ++ c ∷ []) ++ without_trailing inside) →
        IsGame test q k (without_trailing inside) (game_text_from k others) es) → (t : Bool) → list_all is_blank (c ∷ inside) ≡ t → IsGame test q k raw (game_text_from k pieces) es
    by_test more true t =
        let alone : raw ≡ 92 ∷ [] = rw t at is in
        let s = last_step alone read held in
        let shut = blanks-shut later (and_parts (is_blank c) (list_all is_blank inside) t).1 in
        subst (λ (x : Bool). IsGame test x k raw (game_text_from k pieces) es) (sym shut) (moved raw (92 ∷ []) (game_text_from k pieces) (92 ∷ []) es [] alone (s.own k) s.none last_back)
    by_test more false t =
        let two : raw ≡ 92 ∷ c ∷ without_trailing inside = rw t at is in
        let s = pair_step c (without_trailing inside) two read held in
        let fits = fits-onto test (front ++ 92 ∷ []) c (without_trailing inside) (fits-onto test front 92 (c ∷ without_trailing inside) (subst (λ l. Fits test (front ++ l)) two whole)) in
        moved raw (92 ∷ c ∷ without_trailing inside) (game_text_from k pieces) (92 ∷ c ∷ game_text_from k s.others) es es two (ap (game_text_from k) s.is) refl (paired (more s.others s.read s.held fits))
from_game test only front k raw pieces tokens es (content.passed {own = own} {inside = inside} to later) is read held whole =
    let wt = without_trailing inside in
    let split : raw ≡ 123 ∷ (own ++ 125 ∷ wt) = is ∙ without_trailing-through (123 ∷ own) 125 inside refl in
    let s = hole_step (own ++ 125 ∷ wt) split read held in
    let one = brace-one (brace-behind wt to) s.to in
    let cut = fits-cut test front 123 (own ++ 125 ∷ wt) (omega arith) (subst (λ l. Fits test (front ++ l)) split whole) in
    let parts = fits-cut test own 125 wt (omega arith) (fits-behind test 123 (own ++ 125 ∷ wt) (omega arith) cut.1) in
    let fine = fine-piece test only s.inside s.own s.e (subst (Fits test) one.0 parts.0) s.expression in
    let on = from_game test only [] (k + 1) s.more s.others s.tokens s.later later (sym one.1) s.read s.held (subst (Fits test) one.1 (fits-behind test 125 wt (omega arith) parts.1)) in
    let same : raw ≡ 123 ∷ (s.inside ++ 125 ∷ s.more) = split ∙ ap (λ l. 123 ∷ (l ++ 125 ∷ wt)) one.0 ∙ ap (λ l. 123 ∷ (s.inside ++ 125 ∷ l)) one.1 in
    moved raw (123 ∷ (s.inside ++ 125 ∷ s.more)) (game_text_from k pieces) (hole_text k ++ game_text_from (k + 1) s.others) es (s.e ∷ s.later) same (ap (game_text_from k) s.is) s.same (put s.inside fine on)
from_game {q} test only front k raw pieces tokens es (content.other {c = c} {bytes = bytes} {inside = inside} {rest = rest} on later) is read held whole =
    by_test (λ others read' held' fits. from_game test only (front ++ c ∷ []) k (without_trailing inside) others tokens es later refl read' held' fits) (list_all is_blank (c ∷ inside)) refl
  where
    g : Goes q c bytes
    g = goes q c bytes on

    by_test : ((others : List Piece) → GamePieces (without_trailing inside) others → AreHoles others tokens es → Fits test ((front ++ c ∷ []) ++ without_trailing inside) →
        IsGame test q k (without_trailing inside) (game_text_from k others) es) → (t : Bool) → list_all is_blank (c ∷ inside) ≡ t → IsGame test q k raw (game_text_from k pieces) es
    by_test more true t =
        let none : raw ≡ [] = rw t at is in
        let s = no_step none read held in
        let shut = blanks-shut later (and_parts (is_blank c) (list_all is_blank inside) t).1 in
        subst (λ (x : Bool). IsGame test x k raw (game_text_from k pieces) es) (sym shut) (moved raw [] (game_text_from k pieces) [] es [] none (s.own k) s.none ended)
    by_test more false t =
        let one : raw ≡ c ∷ without_trailing inside = rw t at is in
        let s = char_step c (without_trailing inside) g.back g.opens one read held in
        let fits = fits-onto test front c (without_trailing inside) (subst (λ l. Fits test (front ++ l)) one whole) in
        let ends : q ≡ false → nat_eq c 62 ≡ true → begins_with (codes ">") (without_trailing inside) ≡ false =
        λ out at. front-more inside rest (subst (λ l. begins_with (codes ">") l ≡ false) (end-split later) (g.ends out at)) in
        moved raw (c ∷ without_trailing inside) (game_text_from k pieces) (c ∷ game_text_from k s.others) es es one (ap (game_text_from k) s.is) refl (plain g.quote g.back g.opens ends (more s.others s.read s.held fits))

-- ---- what is printed, at each part

game-bare : (text : List ℕ) → game_printed false text [] ≡ text
game-bare [] = refl
game-bare (b ∷ []) = refl
game-bare (b ∷ c ∷ text) = ap (λ l. b ∷ l) (game-bare (c ∷ text))

pub game-pair : (c : ℕ) (text : List ℕ) (es : List Expr) → game_printed false (92 ∷ c ∷ text) es ≡ 92 ∷ c ∷ game_printed false text es
game-pair c text [] = game-bare (92 ∷ c ∷ text) ∙ ap (λ l. 92 ∷ c ∷ l) (sym (game-bare text))
game-pair c text (e ∷ es) = refl

pub game-char : (c : ℕ) (text : List ℕ) (es : List Expr) → nat_eq c 92 ≡ false → nat_eq c 123 ≡ false → game_printed false (c ∷ text) es ≡ c ∷ game_printed false text es
game-char c [] es back open_free = refl
game-char c (d ∷ text) [] back open_free = refl
game-char c (d ∷ text) (e ∷ es) back open_free = rw (back, open_free) refl

game-skipped : (digits text : List ℕ) (es : List Expr) → list_all is_digit digits ≡ true → game_printed true ((digits ++ 125 ∷ []) ++ text) es ≡ game_printed false text es
game-skipped [] text es all = refl
game-skipped (b ∷ digits) text es all =
    let parts = and_parts (is_digit b) (list_all is_digit digits) all in
    let high = leb-true b 57 (and_parts (nat_le 48 b) (nat_le b 57) parts.0).1 in
    let still : nat_eq b 125 ≡ false = ne_eqb b 125 (λ e. omega arith) in
    ap (λ (t : Bool). game_printed (if t then false else true) ((digits ++ 125 ∷ []) ++ text) es) still ∙ game-skipped digits text es parts.1

pub game-hole : (k : ℕ) (text : List ℕ) (e : Expr) (es : List Expr) → game_printed false (hole_text k ++ text) (e ∷ es) ≡ hole_printed e ++ game_printed false text es
game-hole k text e es = at ((decimal k ++ 125 ∷ []) ++ text) refl
  where
    some : (xs : List ℕ) → (xs ++ 125 ∷ []) ++ text ≡ [] → ⊥
    some [] is = absurd cc
    some (x ∷ xs) is = absurd cc

    at : (l : List ℕ) → (decimal k ++ 125 ∷ []) ++ text ≡ l → game_printed false (123 ∷ l) (e ∷ es) ≡ hole_printed e ++ game_printed false text es
    at [] is = absurd (some (decimal k) is)
    at (c ∷ l) is = ap (λ x. hole_printed e ++ game_printed true x es) (sym is) ∙ ap (λ x. hole_printed e ++ x) (game-skipped (decimal k) text es (decimal-digits k))

-- ---- what is read of it

pub record GameBack (k : ℕ) (text : List ℕ) (es : List Expr) : Type 0 where
  pub pieces : List Piece
  pub tokens : List Token
  pub read : GamePieces (game_printed false text es) pieces
  pub own : game_text_from k pieces ≡ text
  pub held : AreHoles pieces tokens es

pub game_back : {test : ℕ → Bool} {q : Bool} {k : ℕ} {raw text : List ℕ} {es : List Expr} → IsGame test q k raw text es → GameBack k text es
game_back ended = record { pieces = []; tokens = []; read = game.no_piece; own = refl; held = no_more }
game_back last_back = record { pieces = Char 92 ∷ []; tokens = []; read = game.last; own = refl; held = past_char no_more }
game_back (paired {c = c} {text = text} {es = es} later) =
    let r = game_back later in
    record {
      pieces = Pair c ∷ r.pieces;
      tokens = r.tokens;
      read = subst (λ l. GamePieces l (Pair c ∷ r.pieces)) (sym (game-pair c text es)) (game.pair r.read);
      own = ap (λ l. 92 ∷ c ∷ l) r.own;
      held = past_pair r.held;
    }
game_back (quoted {text = text} {es = es} later) =
    let r = game_back later in
    record {
      pieces = Char 34 ∷ r.pieces;
      tokens = r.tokens;
      read = subst (λ l. GamePieces l (Char 34 ∷ r.pieces)) (sym (game-char 34 text es refl refl)) (game.char refl r.read);
      own = ap (λ l. 34 ∷ l) r.own;
      held = past_char r.held;
    }
game_back {test} (put {k = k} {text = text} {e = e} {es = es} inside f later) =
    let r = game_back later in
    record {
      pieces = Hole (canonical e) ∷ r.pieces;
      tokens = f.tokens ++ r.tokens;
      read = subst (λ l. GamePieces l (Hole (canonical e) ∷ r.pieces)) (sym (game-hole k text e es)) (game.hole (hole-brace test e (game_printed false text es) f) r.read);
      own = ap (λ l. hole_text k ++ l) r.own;
      held = at_hole f.again r.held;
    }
game_back (plain {c = c} {text = text} {es = es} quote back opens ends later) =
    let r = game_back later in
    let is : is_char c ≡ true = and_from (not (nat_eq c 92)) (not (nat_eq c 123)) (not_from_false _ back) (not_from_false _ opens) in
    record {
      pieces = Char c ∷ r.pieces;
      tokens = r.tokens;
      read = subst (λ l. GamePieces l (Char c ∷ r.pieces)) (sym (game-char c text es back opens)) (game.char is r.read);
      own = ap (λ l. c ∷ l) r.own;
      held = past_char r.held;
    }

-- ---- its bytes

game_on : {test : ℕ → Bool} {q : Bool} {k : ℕ} {raw text : List ℕ} {es : List Expr} → OnlyBreaks test → (front : List ℕ) → IsGame test q k raw text es → Fits test (front ++ raw) → Fits test (front ++ game_printed false text es)
game_on only front ended whole = whole
game_on only front last_back whole = whole
game_on {test} only front (paired {c = c} {raw = raw} {text = text} {es = es} later) whole =
    let behind = fits-onto test (front ++ 92 ∷ []) c raw (fits-onto test front 92 (c ∷ raw) whole) in
    let on = game_on only ((front ++ 92 ∷ []) ++ c ∷ []) later behind in
    subst (λ l. Fits test (front ++ l)) (sym (game-pair c text es)) (fits-off test front 92 (c ∷ game_printed false text es) (fits-off test (front ++ 92 ∷ []) c (game_printed false text es) on))
game_on {test} only front (quoted {raw = raw} {text = text} {es = es} later) whole =
    let on = game_on only (front ++ 34 ∷ []) later (fits-onto test front 34 raw whole) in
    subst (λ l. Fits test (front ++ l)) (sym (game-char 34 text es refl refl)) (fits-off test front 34 (game_printed false text es) on)
game_on {test} only front (put {k = k} {raw = raw} {text = text} {e = e} {es = es} inside f later) whole =
    let cut = fits-cut test front 123 (inside ++ 125 ∷ raw) (omega arith) whole in
    let parts = fits-cut test inside 125 raw (omega arith) (fits-behind test 123 (inside ++ 125 ∷ raw) (omega arith) cut.1) in
    let on = game_on only [] later (fits-behind test 125 raw (omega arith) parts.1) in
    subst (λ l. Fits test (front ++ l)) (sym (game-hole k text e es))
    (fits-append test front (hole_printed e ++ game_printed false text es) cut.0 (fits-append test (hole_printed e) (game_printed false text es) (fits-hole test e only f) on))
game_on {test} only front (plain {c = c} {raw = raw} {text = text} {es = es} quote back opens ends later) whole =
    let on = game_on only (front ++ c ∷ []) later (fits-onto test front c raw whole) in
    subst (λ l. Fits test (front ++ l)) (sym (game-char c text es back opens)) (fits-off test front c (game_printed false text es) on)

pub fits-game : {test : ℕ → Bool} {q : Bool} {k : ℕ} {raw text : List ℕ} {es : List Expr} → OnlyBreaks test → IsGame test q k raw text es → Fits test raw → Fits test (game_printed false text es)
fits-game only is whole = game_on only [] is whole

pub last-game : {test : ℕ → Bool} {q : Bool} {k : ℕ} {raw text : List ℕ} {es : List Expr} → (p : ℕ) → IsGame test q k raw text es → last_of p (game_printed false text es) ≡ last_of p raw
last-game p ended = refl
last-game p last_back = refl
last-game p (paired {c = c} {text = text} {es = es} later) = ap (last_of p) (game-pair c text es) ∙ last-game c later
last-game p (quoted {text = text} {es = es} later) = ap (last_of p) (game-char 34 text es refl refl) ∙ last-game 34 later
last-game p (put {k = k} {raw = raw} {text = text} {e = e} {es = es} inside f later) =
    ap (last_of p) (game-hole k text e es) ∙ last-hole p e (game_printed false text es) ∙ last-game 125 later ∙ sym (last-through 123 inside 125 raw)
last-game p (plain {c = c} {text = text} {es = es} quote back opens ends later) = ap (last_of p) (game-char c text es back opens) ∙ last-game c later

pub begins-game : {test : ℕ → Bool} {q : Bool} {k : ℕ} {raw text : List ℕ} {es : List Expr} → IsGame test q k raw text es → begins_solid (game_printed false text es) ≡ begins_solid raw
begins-game ended = refl
begins-game last_back = refl
begins-game (paired {c = c} {text = text} {es = es} later) = ap begins_solid (game-pair c text es)
begins-game (quoted {text = text} {es = es} later) = ap begins_solid (game-char 34 text es refl refl)
begins-game (put {k = k} {text = text} {e = e} {es = es} inside f later) = ap begins_solid (game-hole k text e es)
begins-game (plain {c = c} {text = text} {es = es} quote back opens ends later) = ap begins_solid (game-char c text es back opens)

more-game : {test : ℕ → Bool} {q : Bool} {k : ℕ} {raw text : List ℕ} {es : List Expr} → IsGame test q k raw text es → begins_with (codes ">") (game_printed false text es) ≡ begins_with (codes ">") raw
more-game ended = refl
more-game last_back = refl
more-game (paired {c = c} {text = text} {es = es} later) = ap (begins_with (codes ">")) (game-pair c text es)
more-game (quoted {text = text} {es = es} later) = ap (begins_with (codes ">")) (game-char 34 text es refl refl)
more-game (put {k = k} {text = text} {e = e} {es = es} inside f later) = ap (begins_with (codes ">")) (game-hole k text e es)
more-game (plain {c = c} {text = text} {es = es} quote back opens ends later) = ap (begins_with (codes ">")) (game-char c text es back opens)

-- ---- its end

-- what closes a content that ends with that byte
pub data IsClosing : ℕ → List ℕ → List ℕ → List ℕ → Type 0 where
  behind_blank : {p : ℕ} {rest : List ℕ} → IsClosing p (32 ∷ 62 ∷ 62 ∷ rest) (32 ∷ []) rest
  bare : {p : ℕ} {rest : List ℕ} → nat_eq p 62 ≡ false → nat_eq p 92 ≡ false → IsClosing p (62 ∷ 62 ∷ rest) [] rest

closes-here : {p : ℕ} {tail inside rest : List ℕ} → IsClosing p tail inside rest → ToEnd true false tail inside rest
closes-here behind_blank = content.other refl content.ends
closes-here (bare more back) = content.ends

closes-back : {p : ℕ} {tail inside rest : List ℕ} → p ≡ 92 → IsClosing p tail inside rest → ToEnd true false (92 ∷ tail) (92 ∷ inside) rest
closes-back is behind_blank = content.skipped content.ends
closes-back is (bare more back) = absurd (true≢false (subst (λ x. nat_eq x 92 ≡ false) is back))

-- behind a `>` that isn't skipped no other one follows
closes-more : (c : ℕ) (printed tail inside rest : List ℕ) → nat_eq c 62 ≡ true → begins_with (codes ">") printed ≡ false → IsClosing (last_of c printed) tail inside rest → begins_with (codes ">") (printed ++ tail) ≡ false
closes-more c [] tail inside rest is unmet closing = at closing
  where
    at : {tail inside rest : List ℕ} → IsClosing c tail inside rest → begins_with (codes ">") tail ≡ false
    at behind_blank = refl
    at (bare more back) = absurd (both_ways (nat_eq c 62) more is)
closes-more c (b ∷ printed) tail inside rest is unmet closing = unmet

pub game-end : {test : ℕ → Bool} {q : Bool} {k : ℕ} {raw text : List ℕ} {es : List Expr} → (p : ℕ) (tail inside rest : List ℕ) → IsGame test q k raw text es →
    IsClosing (last_of p (game_printed false text es)) tail inside rest → ToEnd true q (game_printed false text es ++ tail) (game_printed false text es ++ inside) rest
game-end p tail inside rest ended closing = closes-here closing
game-end p tail inside rest last_back closing = closes-back refl closing
game-end p tail inside rest (paired {q = q} {c = c} {text = text} {es = es} later) closing =
    let same = game-pair c text es in
    subst (λ l. ToEnd true q (l ++ tail) (l ++ inside) rest) (sym same) (content.skipped (game-end c tail inside rest later (subst (λ l. IsClosing (last_of p l) tail inside rest) same closing)))
game-end p tail inside rest (quoted {q = q} {text = text} {es = es} later) closing =
    let same = game-char 34 text es refl refl in
    subst (λ l. ToEnd true q (l ++ tail) (l ++ inside) rest) (sym same) (content.quote (game-end 34 tail inside rest later (subst (λ l. IsClosing (last_of p l) tail inside rest) same closing)))
game-end {test} p tail inside rest (put {q = q} {k = k} {text = text} {e = e} {es = es} own f later) closing =
    let printed = game_printed false text es in
    let same = game-hole k text e es in
    let last : last_of p (game_printed false (hole_text k ++ text) (e ∷ es)) ≡ last_of 125 printed = ap (last_of p) same ∙ last-hole p e printed in
    let on = game-end 125 tail inside rest later (subst (λ (x : ℕ). IsClosing x tail inside rest) last closing) in
    let whole : ToEnd true q (hole_printed e ++ (printed ++ tail)) (123 ∷ (canonical e ++ 125 ∷ (printed ++ inside))) rest = content.passed (hole-brace test e (printed ++ tail) f) on in
    let ahead : 123 ∷ (canonical e ++ 125 ∷ (printed ++ inside)) ≡ (hole_printed e ++ printed) ++ inside =
    ap (λ l. 123 ∷ l) (sym (append_assoc (canonical e) (125 ∷ []) (printed ++ inside))) ∙ sym (append_assoc (hole_printed e) printed inside) in
    subst (λ l. ToEnd true q (l ++ tail) (l ++ inside) rest) (sym same)
    (subst (λ l. ToEnd true q ((hole_printed e ++ printed) ++ tail) l rest) ahead
    (subst (λ l. ToEnd true q l (123 ∷ (canonical e ++ 125 ∷ (printed ++ inside))) rest) (sym (append_assoc (hole_printed e) printed tail)) whole))
game-end p tail inside rest (plain {q = q} {c = c} {text = text} {es = es} quote back opens ends later) closing =
    let printed = game_printed false text es in
    let same = game-char c text es back opens in
    let closing' = subst (λ l. IsClosing (last_of p l) tail inside rest) same closing in
    subst (λ l. ToEnd true q (l ++ tail) (l ++ inside) rest) (sym same) (content.other (on q refl (nat_eq c 62) refl closing') (game-end c tail inside rest later closing'))
  where
    on : (b : Bool) → q ≡ b → (t : Bool) → nat_eq c 62 ≡ t → IsClosing (last_of c (game_printed false text es)) tail inside rest → goes_on true q (c ∷ (game_printed false text es ++ tail)) ≡ true
    on true out t is closing = rw (quote, back, opens, out) refl
    on false out false is closing = rw (quote, back, opens, out, is) refl
    on false out true is closing =
        let unmet : begins_with (codes ">") (game_printed false text es ++ tail) ≡ false =
        closes-more c (game_printed false text es) tail inside rest is (more-game later ∙ ends out is) closing in
        rw (quote, back, opens, out, is, unmet) refl
