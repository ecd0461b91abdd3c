-- The pieces of a line and of a command for the game make templates (docs/language.md, Texts and commands).
use Rattle.std.proofs.Common.{◌≡◌, ℕ, ◌+◌, ◌≤◌, List, [], ◌∷◌, ◌++◌, length, Bool, true, false, nat_eq, refl, sym, ap, subst, arith}
use Rattle.std.specs.Prelude.{not}
use Rattle.std.specs.Str.{chars}
use Rattle.std.proofs.lemmas.Bool.{eqb-true, ne_eqb}
use Rattle.std.proofs.lemmas.Option.{same_Some}
use Rattle.yarn_expr.specs.declared.token.Token.{Token}
use Rattle.yarn_expr.specs.declared.tree.Expr.{Expr}
use Rattle.yarn_expr.specs.Plain.{Tree, Leaf, Group, Call, Unary, Binary}
use Rattle.yarn_expr.specs.Expression.{Spells}
use Rattle.yarn_expr.specs.Tokens as X
use Rattle.yarn_expr.specs.Tokens.{tokens_of}
use Rattle.yarn_commands.specs.Command.{IsExpression}
use Rattle.yarn_items.specs.Brace.{ToBrace, closes, quote, skipped, plain}
use Rattle.yarn_items.specs.Text.{Piece, Char, Pair, Hole, Pieces, no_piece, pair, hole, char, begins_pair, begins_other, is_escaped, is_kept, pair_text, hole_text, kept_from, table_text, AreHoles, no_more, past_char, past_pair, at_hole}
use Rattle.yarn_items.specs.Game.{GamePieces, is_char, game_text_from, game_text}
use Rattle.yarn_items.specs.Game as G
use Rattle.yarn_value.specs.Templates.{Stands, Plain as AtPlain, Behind, is_brace}
use Rattle.yarn_code.specs.Fields.{IsText}
use Rattle.yarn_ids.proofs.Templates.{IsRead, none_read, weaker, moved, stands_read, pair_read, behind_read, placeholder_read, trimmed_read, text_read}

-- ---- substitutions

-- how many there are
abbrev pub hole_count : List Piece → ℕ
hole_count [] = 0
hole_count (Char c ∷ pieces) = hole_count pieces
hole_count (Pair c ∷ pieces) = hole_count pieces
hole_count (Hole inside ∷ pieces) = 1 + hole_count pieces

-- none is empty
abbrev pub AreFilled : List Piece → Type 0
AreFilled [] = Unit {0}
AreFilled (Char c ∷ pieces) = AreFilled pieces
AreFilled (Pair c ∷ pieces) = AreFilled pieces
AreFilled (Hole inside ∷ pieces) = (1 ≤ length inside) × AreFilled pieces

no_join : (left : List Token) (t : Token) (right : List Token) → [] ≡ left ++ t ∷ right → ⊥
no_join [] t right s = cc
no_join (x ∷ left) t right s = cc

no_tokens : (tree : Tree) → Spells tree [] → ⊥
no_tokens (Leaf t) h = let e = h.alone in absurd cc
no_tokens (Group e) h = let s = h.split in absurd cc
no_tokens (Call name es) h = let s = h.split in absurd cc
no_tokens (Unary op e) h = let s = h.1.split in absurd cc
no_tokens (Binary op l r) h = no_join h.2.left h.2.middle h.2.right h.2.split

-- an expression has a character
some_inside : (inside : List ℕ) (tokens : List Token) (e : Expr) → IsExpression (chars inside) tokens e → 1 ≤ length inside
unfolding tokens_of X.tokens chars
some_inside [] tokens e h =
    let none : [] ≡ tokens = same_Some {A = List Token} [] tokens h.has.lexed in
    absurd (no_tokens h.tree (subst (Spells h.tree) (sym none) h.has.expression.spelled))
some_inside (b ∷ inside) tokens e h = omega arith

pub holes_counted : {pieces : List Piece} {tokens : List Token} {es : List Expr} → AreHoles pieces tokens es → hole_count pieces ≡ length es
holes_counted no_more = refl
holes_counted (past_char more) = holes_counted more
holes_counted (past_pair more) = holes_counted more
holes_counted (at_hole h more) = let n = holes_counted more in omega arith

pub holes_filled : {pieces : List Piece} {tokens : List Token} {es : List Expr} → AreHoles pieces tokens es → AreFilled pieces
holes_filled no_more = tt
holes_filled (past_char more) = holes_filled more
holes_filled (past_pair more) = holes_filled more
holes_filled (at_hole {inside = inside} {own = own} {e = e} h more) = (some_inside inside own e h, holes_filled more)

-- what stands before a `}`, the `}`, and what follows it
pub brace_bytes : {quoted : Bool} {bytes inside rest : List ℕ} → ToBrace quoted bytes inside rest → length bytes ≡ length inside + 1 + length rest
brace_bytes (closes {rest = rest}) = omega arith
brace_bytes (quote h) = let n = brace_bytes h in omega arith
brace_bytes (skipped h) = let n = brace_bytes h in omega arith
brace_bytes (plain is h) = let n = brace_bytes h in omega arith

-- ---- the text of a line

-- the text of pieces is a template, also behind a backslash that begins no pair
record IsKeptRead (n k : ℕ) (pieces : List Piece) (bytes : List ℕ) : Type 0 where
  pub own : IsRead n AtPlain (kept_from k pieces) (hole_count pieces) (length bytes)
  pub behind : begins_pair (92 ∷ bytes) ≡ false → IsRead n Behind (kept_from k pieces) (hole_count pieces) (1 + length bytes)

-- a byte is not one of which the test says otherwise
unlike : (k c : ℕ) (test : ℕ → Bool) → test k ≡ true → test c ≡ false → nat_eq c k ≡ false
unlike k c test on off = ne_eqb c k (λ e. let h : test k ≡ false = subst (λ x. test x ≡ false) e off in absurd cc)

no_brace : (c : ℕ) → is_escaped c ≡ false → is_brace c ≡ false
no_brace c is = rw (unlike 123 c is_escaped refl is, unlike 125 c is_escaped refl is) refl

pair_kept : (n c : ℕ) (text : List ℕ) (few most : ℕ) → IsRead n AtPlain text few most → IsRead n AtPlain (pair_text c ++ text) few (2 + most)
pair_kept n c text few most r = by_test (is_kept c) refl
  where
    by_test : (t : Bool) → is_kept c ≡ t → IsRead n AtPlain (pair_text c ++ text) few (2 + most)
    by_test true t = rw t (pair_read n c text few most r)
    by_test false t =
        let alone = stands_read n c text few most (unlike 92 c is_kept refl t) (unlike 123 c is_kept refl t) r in
        rw t (weaker n AtPlain (c ∷ text) few (1 + most) few (2 + most) (omega arith) (omega arith) alone)

-- a character that begins no pair
char_kept : (n k c : ℕ) (bytes : List ℕ) (pieces : List Piece) →
    begins_pair (c ∷ bytes) ≡ false → begins_other (c ∷ bytes) ≡ false → IsKeptRead n k pieces bytes →
    IsRead n AtPlain (c ∷ kept_from k pieces) (hole_count pieces) (1 + length bytes)
char_kept n k c bytes pieces no_pair no_other r = by_test (nat_eq c 92) refl
  where
    by_test : (t : Bool) → nat_eq c 92 ≡ t → IsRead n AtPlain (c ∷ kept_from k pieces) (hole_count pieces) (1 + length bytes)
    by_test true t =
        moved n AtPlain Behind (c ∷ kept_from k pieces) (kept_from k pieces) (hole_count pieces) (1 + length bytes) (rw t refl)
        (r.behind (subst (λ x. begins_pair (x ∷ bytes) ≡ false) (eqb-true c 92 t) no_pair))
    by_test false t =
        let no_hole = unlike 123 c (λ x. begins_other (x ∷ bytes)) refl no_other in
        stands_read n c (kept_from k pieces) (hole_count pieces) (length bytes) t no_hole r.own

kept_read : {bytes rest : List ℕ} {pieces : List Piece} → Pieces bytes pieces rest →
    (n k : ℕ) → n ≤ 16 → k + hole_count pieces ≤ n → AreFilled pieces → IsKeptRead n k pieces bytes
kept_read (no_piece {rest = rest}) n k small fit filled = record {
  own = none_read n 0 (length rest);
  behind = λ no_pair. record { own = Stands 92 ∷ []; is = refl; few = omega arith; small = omega arith };
}
kept_read (pair {c = c} {bytes = bytes} {pieces = pieces} is read) n k small fit filled = record {
  own =
      let later = kept_read read n k small fit filled in
      weaker n AtPlain (pair_text c ++ kept_from k pieces) (hole_count pieces) (2 + length bytes)
      (hole_count pieces) (length (92 ∷ c ∷ bytes)) (omega arith) (omega arith)
      (pair_kept n c (kept_from k pieces) (hole_count pieces) (length bytes) later.own);
  behind = λ no_pair. absurd cc;
}
kept_read (hole {bytes = bytes} {inside = inside} {more = more} {pieces = pieces} is read) n k small fit filled = record {
  own =
      let all = brace_bytes is in
      let later = kept_read read n (k + 1) small (omega (arith, fit)) filled.1 in
      weaker n AtPlain (hole_text k ++ kept_from (k + 1) pieces) (1 + hole_count pieces) (3 + length more)
      (1 + hole_count pieces) (length (123 ∷ bytes)) (omega arith) (omega (arith, all, filled.0))
      (placeholder_read n k (kept_from (k + 1) pieces) (hole_count pieces) (length more) (omega (arith, fit)) small later.own);
  behind = λ no_pair. absurd cc;
}
kept_read (char {c = c} {bytes = bytes} {pieces = pieces} no_pair no_other read) n k small fit filled =
    let later = kept_read read n k small fit filled in record {
      own =
          weaker n AtPlain (c ∷ kept_from k pieces) (hole_count pieces) (1 + length bytes)
          (hole_count pieces) (length (c ∷ bytes)) (omega arith) (omega arith)
          (char_kept n k c bytes pieces no_pair no_other later);
      behind = λ alone.
          weaker n Behind (c ∷ kept_from k pieces) (hole_count pieces) (2 + length bytes)
          (hole_count pieces) (1 + length (c ∷ bytes)) (omega arith) (omega arith)
          (behind_read n c (kept_from k pieces) (hole_count pieces) (length bytes) (no_brace c alone) later.own);
    }

-- the text of a line with at most 16 substitutions is a template
pub table_template : (bytes rest : List ℕ) (pieces : List Piece) (tokens : List Token) (es : List Expr) →
    Pieces bytes pieces rest → AreHoles pieces tokens es → length bytes ≤ 65536 → length es ≤ 16 → IsText (table_text pieces) (length es)
table_template bytes rest pieces tokens es read held short few =
    let n = holes_counted held in
    let own = (kept_read read (length es) 0 few (omega (arith, n)) (holes_filled held)).own in
    let whole = weaker (length es) AtPlain (kept_from 0 pieces) (hole_count pieces) (length bytes) (length es) 65536 (omega (arith, n)) short own in
    text_read (length es) (table_text pieces) (length es) few (omega (arith, few)) (trimmed_read (length es) (kept_from 0 pieces) (length es) 65536 whole)

-- ---- the text of a command for the game

game_read : {bytes : List ℕ} {pieces : List Piece} → GamePieces bytes pieces →
    (n k : ℕ) → n ≤ 16 → k + hole_count pieces ≤ n → AreFilled pieces →
    IsRead n AtPlain (game_text_from k pieces) (hole_count pieces) (length bytes)
game_read G.no_piece n k small fit filled = none_read n 0 0
game_read G.last n k small fit filled = record { own = Stands 92 ∷ []; is = refl; few = omega arith; small = omega arith }
game_read (G.pair {c = c} {bytes = bytes} {pieces = pieces} read) n k small fit filled =
    weaker n AtPlain (92 ∷ c ∷ game_text_from k pieces) (hole_count pieces) (2 + length bytes)
    (hole_count pieces) (length (92 ∷ c ∷ bytes)) (omega arith) (omega arith)
    (pair_read n c (game_text_from k pieces) (hole_count pieces) (length bytes) (game_read read n k small fit filled))
game_read (G.hole {bytes = bytes} {inside = inside} {more = more} {pieces = pieces} is read) n k small fit filled =
    let all = brace_bytes is in
    let later = game_read read n (k + 1) small (omega (arith, fit)) filled.1 in
    weaker n AtPlain (hole_text k ++ game_text_from (k + 1) pieces) (1 + hole_count pieces) (3 + length more)
    (1 + hole_count pieces) (length (123 ∷ bytes)) (omega arith) (omega (arith, all, filled.0))
    (placeholder_read n k (game_text_from (k + 1) pieces) (hole_count pieces) (length more) (omega (arith, fit)) small later)
game_read (G.char {c = c} {bytes = bytes} {pieces = pieces} is read) n k small fit filled =
    let later = game_read read n k small fit filled in
    weaker n AtPlain (c ∷ game_text_from k pieces) (hole_count pieces) (1 + length bytes)
    (hole_count pieces) (length (c ∷ bytes)) (omega arith) (omega arith)
    (stands_read n c (game_text_from k pieces) (hole_count pieces) (length bytes)
    (unlike 92 c other refl is_other) (unlike 123 c other refl is_other) later)
  where
    other : ℕ → Bool
    other x = not (is_char x)

    is_other : other c ≡ false
    is_other = ap not is

-- the text of a command for the game with at most 16 substitutions is a template
pub game_template : (bytes : List ℕ) (pieces : List Piece) (tokens : List Token) (es : List Expr) →
    GamePieces bytes pieces → AreHoles pieces tokens es → length bytes ≤ 65536 → length es ≤ 16 → IsText (game_text pieces) (length es)
game_template bytes pieces tokens es read held short few =
    let n = holes_counted held in
    text_read (length es) (game_text pieces) (length es) few (omega (arith, few))
    (weaker (length es) AtPlain (game_text pieces) (hole_count pieces) (length bytes) (length es) 65536 (omega (arith, n)) short
    (game_read read (length es) 0 few (omega (arith, n)) (holes_filled held)))
