-- What is written of an expression stands for it, where any text does.
use Rattle.std.proofs.Common.{◌≡◌, ℕ, ◌<◌, ◌^◌, ◌≤◌, ◌==◌, List, [], ◌∷◌, ◌++◌, length, map, nat_le, Bool, true, false, pos, unwrap_or, Some, encode_utf8_all, IsUtf8, refl, sym, ap, ◌∙◌, subst, arith, append_assoc, append-nil}
use Rattle.std.specs.Prelude.{codes, Result, Ok, Err, IfOk}
use Rattle.std.specs.Fmt.{decimal}
use Rattle.std.specs.Str.{chars, all_scalars}
use Rattle.std.proofs.lemmas.Fmt.{IsAscii-decimal}
use Rattle.std.proofs.lemmas.Str.{chars-encodes, encodes-IsAscii, scalars-chars}
use Rattle.std.proofs.lemmas.Bool.{and_parts, and_from}
use Rattle.std.proofs.lemmas.Bool.Decides.{nat_tests}
use lib.Utf8.{low_scalar}
use Rattle.yarn_expr.specs.declared.token.Token.{Token}
use Rattle.yarn_expr.specs.declared.token.Token.TheVariants as token
use Rattle.yarn_expr.specs.declared.word.WordMeaning.{WordMeaning}
use Rattle.yarn_expr.specs.declared.word.WordMeaning.TheVariants as word
use Rattle.yarn_expr.specs.declared.tree.Expr.{Expr}
use Rattle.yarn_expr.specs.declared.tree.Expr.TheVariants as expr
use Rattle.yarn_expr.specs.Word.{meaning_of}
use Rattle.yarn_expr.specs.Plain.{Tree, Leaf, Group, Call, Unary, Binary, Trees, NoTrees, AndTree, number_of, word_leaf, leaf_of, expr_at, expr_of, exprs_of}
use Rattle.yarn_expr.specs.Expression.{Spells, SpellsAll}
use Rattle.yarn_expr.specs.Literal.{is_large}
use Rattle.yarn_expr.specs.Piece.{StandsFor, IsKept}
use Rattle.yarn_expr.specs.Print.{canonical, list_text, string_text, truth_text, escape, operator_text, prefix_text, text_step}
use Rattle.yarn_expr.specs.Tokens.{is_blank, is_digit, is_escaped, tokens, tokens_of}
use Rattle.yarn_expr.proofs.Layers.{at_number, at_string, at_truth, at_variable, at_group, at_unary, at_binary, at_call}
use Rattle.yarn_expr.proofs.Marks.{open-between, open-free, close-between, comma-between, operator-between, prefix-free, truth-shown, word-kept}
use Rattle.yarn_expr.proofs.NextTokens.{word-next, variable-next, number-next, string-next}
use Rattle.yarn_expr.proofs.Numerals.{decimal-facts}
use Rattle.yarn_expr.proofs.Only.{opening, closing, comma}
use Rattle.yarn_expr.proofs.Printed.{operator_token, prefix_token, written, written_all, printed, printed_all, printed_leaf, token_of, number_of-small, number_of-decimal, printed-expression, printed-same}
use Rattle.yarn_expr.proofs.Runs.{AllOf, stops-nil}
use Rattle.yarn_expr.proofs.Shown.{one, IsShown, free-then, between-then, shown-then, next-alone, nothing-shown, spelt-append, scalars-append, ascii-spelt}
use Rattle.yarn_expr.proofs.TextTokens.{IsWord, IsVariable, IsToken, AllTokens, AllTokens-append, tokens_of-read}
use Rattle.yarn_expr.proofs.Tokenizing.{ahead}

-- literals and names
pub word-shown : (bytes : List ℕ) → IsWord bytes → IsShown bytes (token.Word bytes ∷ [])
word-shown bytes w = record {
  letters = w.first ∷ w.others;
  scalar = w.scalar;
  spelt = w.spelt;
  kept = word-kept bytes;
  lexed = λ rest ends.
      one w.first (w.others ++ rest) (record { token = token.Word bytes; rest = rest }) w.word.blank
      (word-next w.first w.others rest w.word ends ∙ ap (λ l. Some (record { token = token.Word l; rest = rest })) (sym w.spelt));
}

variable-shown : (bytes : List ℕ) → IsVariable bytes → IsShown bytes (token.Variable bytes ∷ [])
variable-shown bytes v = record {
  letters = 36 ∷ v.others;
  scalar = v.scalar;
  spelt = v.spelt;
  kept = record { no_fraction = refl; no_large = refl };
  lexed = λ rest ends.
      one 36 (v.others ++ rest) (record { token = token.Variable bytes; rest = rest }) refl
      (variable-next v.others rest v.starts v.continues ends ∙ ap (λ l. Some (record { token = token.Variable l; rest = rest })) (sym v.spelt));
}

escape-scalars : (cs : List ℕ) → all_scalars cs ≡ true → all_scalars (escape cs) ≡ true
escape-scalars [] h = refl
escape-scalars (c ∷ cs) h = let both = and_parts _ (all_scalars cs) h in by_test (and_from _ _ both.0 (escape-scalars cs both.1)) (is_escaped c) refl
  where
    by_test : all_scalars (c ∷ escape cs) ≡ true → (b : Bool) → is_escaped c ≡ b → all_scalars (escape (c ∷ cs)) ≡ true
    by_test more true is = rw is more
    by_test more false is = rw is more

pub string-shown : (text : List ℕ) → IsUtf8 text → IsShown (string_text text) (token.Str text ∷ [])
string-shown text utf8 =
    let inner = escape (chars text) in
    let quote : codes "\"" ≡ encode_utf8_all (34 ∷ []) = ascii-spelt (34 ∷ []) refl in
    record {
      letters = 34 ∷ (inner ++ 34 ∷ []);
      scalar = scalars-append inner (34 ∷ []) (escape-scalars (chars text) (scalars-chars text utf8)) refl;
      spelt = spelt-append (codes "\"") (encode_utf8_all inner ++ codes "\"") (34 ∷ []) (inner ++ 34 ∷ []) quote (spelt-append (encode_utf8_all inner) (codes "\"") inner (34 ∷ []) refl quote);
      kept = record { no_fraction = refl; no_large = refl };
      lexed = λ rest ends.
          ap (λ l. tokens_of (34 ∷ l)) (append_assoc inner (34 ∷ []) rest)
          ∙ one 34 (inner ++ 34 ∷ rest) (record { token = token.Str text; rest = rest }) refl (string-next text rest utf8);
    }

digit-range : (c : ℕ) → is_digit c ≡ true → (48 ≤ c) × (c ≤ 57)
digit-range c is =
    let both = and_parts (nat_le 48 c) (nat_le c 57) is in
    let low = both.0 in
    let high = both.1 in
    (grind (arith, nat_tests), grind (arith, nat_tests))

digit-blank : (c : ℕ) → is_digit c ≡ true → is_blank c ≡ false
digit-blank c is =
    let range = digit-range c is in
    let space : (c == 32) ≡ false = grind (arith, nat_tests) in
    let tab : (c == 9) ≡ false = grind (arith, nat_tests) in
    rw (space, tab) refl

digits-scalar : (ds : List ℕ) → AllOf is_digit ds → all_scalars ds ≡ true
digits-scalar [] all = refl
digits-scalar (c ∷ ds) all = let range = digit-range c all.0 in and_from _ _ (low_scalar c (omega arith)) (digits-scalar ds all.1)

pub number-shown : (n : ℕ) → n < 2 ^ 63 → IsShown (decimal n) (token.Number (decimal n) ∷ [])
number-shown n lt = by_first (decimal n) refl
  where
    spelt-decimal : decimal n ≡ encode_utf8_all (decimal n)
    spelt-decimal = sym (encodes-IsAscii (decimal n) (IsAscii-decimal n (omega arith)))

    large : is_large (token.Number (decimal n)) ≡ false
    large = let some = number_of-decimal n lt in rw some refl

    by_first : (ds : List ℕ) → decimal n ≡ ds → IsShown (decimal n) (token.Number (decimal n) ∷ [])
    by_first [] is = let facts = decimal-facts n (omega arith) in absurd (omega (arith, facts.2, ap length is))
    by_first (c ∷ ds) is =
        let facts = decimal-facts n (omega arith) in
        let digits = subst (λ l. AllOf is_digit l) is facts.0 in
        record {
          letters = c ∷ ds;
          scalar = digits-scalar (c ∷ ds) digits;
          spelt = spelt-decimal ∙ ap encode_utf8_all is;
          kept = record { no_fraction = refl; no_large = rw large refl };
          lexed = λ rest ends.
              one c (ds ++ rest) (record { token = token.Number (decimal n); rest = rest }) (digit-blank c digits.0)
              (number-next c ds rest digits ends ∙ ap (λ l. Some (record { token = token.Number l; rest = rest })) (ap encode_utf8_all (sym is) ∙ sym spelt-decimal));
        }

-- what is written of one kind of expression is shown as the expression
as_written : (e : Expr) (bytes : List ℕ) (ts : List Token) → canonical e ≡ bytes → IsShown bytes ts → IsShown (canonical e) ts
as_written e bytes ts same s = subst (λ l. IsShown l ts) (sym same) s

-- the leaves and names of a tree, which some text has
abbrev mutual
  pub Fits : Tree → Type 0
  Fits (Leaf t) = IsToken t × (leaf_of t ≡ Some (expr_at (leaf_of t)))
  Fits (Group e) = Fits e
  Fits (Call name es) = IsWord name × FitsAll es
  Fits (Unary op e) = Fits e
  Fits (Binary op l r) = Fits l × Fits r

  pub FitsAll : Trees → Type 0
  FitsAll NoTrees = Unit {0}
  FitsAll (AndTree e es) = Fits e × FitsAll es

all-as : (ts us : List Token) → ts ≡ us → AllTokens ts → AllTokens us
all-as ts us same all = subst AllTokens same all

in-brackets : (inner : List Token) → AllTokens (opening ∷ (inner ++ closing ∷ [])) → AllTokens inner
in-brackets inner all = (AllTokens-append inner (closing ∷ []) all.1).0

mutual
  pub fits : (t : Tree) (ts : List Token) → Spells t ts → AllTokens ts → Fits t
  fits (Leaf t) ts s all = ((all-as ts (t ∷ []) s.alone all).0, s.operand)
  fits (Group e) ts s all = fits e s.inner s.spelled (in-brackets s.inner (all-as ts _ s.split all))
  fits (Call name es) ts s all =
      let a = s.arguments in
      let parts = all-as ts _ s.split all in
      (parts.0, fits_all es a.inner a.spelled (in-brackets a.inner (all-as s.bracketed _ a.split parts.1)))
  fits (Unary op e) ts s all = fits e s.1.operand s.1.spelled (all-as ts (s.1.first ∷ s.1.operand) s.1.split all).1
  fits (Binary op l r) ts s all =
      let b = s.2 in
      let parts = AllTokens-append b.left (b.middle ∷ b.right) (all-as ts (b.left ++ b.middle ∷ b.right) b.split all) in
      (fits l b.left b.left_spelled parts.0, fits r b.right b.right_spelled parts.1.1)

  fits_all : (es : Trees) (ts : List Token) → SpellsAll es ts → AllTokens ts → FitsAll es
  fits_all NoTrees ts s all = tt
  fits_all (AndTree e NoTrees) ts s all = (fits e ts s all, tt)
  fits_all (AndTree e (AndTree f es)) ts s all =
      let parts = AllTokens-append s.first (comma ∷ s.others) (all-as ts (s.first ++ comma ∷ s.others) s.split all) in
      (fits e s.first s.first_spelled parts.0, fits_all (AndTree f es) s.others s.others_spelled parts.1.1)

leaf-shown : (t : Token) → IsToken t → leaf_of t ≡ Some (expr_at (leaf_of t)) → IsShown (canonical (expr_at (leaf_of t))) (printed_leaf t ∷ [])
leaf-shown (token.Number digits) is h =
    let n = unwrap_or (number_of digits) 0 in
    as_written (expr.Number (pos n)) (decimal n) (token.Number (decimal n) ∷ []) (at_number (List ℕ) text_step (pos n)) (number-shown n (number_of-small digits))
leaf-shown (token.Fraction digits) is h = as_written (expr.Number (pos 0)) (decimal 0) (token.Number (decimal 0) ∷ []) (at_number (List ℕ) text_step (pos 0)) (number-shown 0 (omega arith))
leaf-shown (token.Str text) is h = as_written (expr.Str text) (string_text text) (token.Str text ∷ []) (at_string (List ℕ) text_step text) (string-shown text is)
leaf-shown (token.Variable name) is h = as_written (expr.Variable name) name (token.Variable name ∷ []) (at_variable (List ℕ) text_step name) (variable-shown name is)
leaf-shown (token.Word w) is h = by_meaning (meaning_of w) refl h
  where
    by_meaning : (m : WordMeaning) → meaning_of w ≡ m → word_leaf m ≡ Some (expr_at (word_leaf m)) → IsShown (canonical (expr_at (word_leaf m))) (token_of (expr_at (word_leaf m)) ∷ [])
    by_meaning (word.Literal b) same h' = as_written (expr.Truth b) (truth_text b) (token.Word (truth_text b) ∷ []) (at_truth (List ℕ) text_step b) (truth-shown b)
    by_meaning (word.Operator op) same h' = cc
    by_meaning word.Negation same h' = cc
    by_meaning word.Name same h' = cc
leaf-shown (token.Sign s) is h = cc

group-shown : (bytes : List ℕ) (ts : List Token) → IsShown bytes ts → IsShown (codes "(" ++ (bytes ++ codes ")")) (opening ∷ (ts ++ closing ∷ []))
group-shown bytes ts s =
    free-then (codes "(") (bytes ++ codes ")") (opening ∷ []) (ts ++ closing ∷ []) open-free (shown-then bytes (codes ")") ts (closing ∷ []) s (next-alone (codes ")") (closing ∷ []) close-between))

call-shown : (name bytes : List ℕ) (ts : List Token) → IsWord name → IsShown bytes ts → IsShown (name ++ (codes "(" ++ (bytes ++ codes ")"))) (token.Word name ∷ opening ∷ (ts ++ closing ∷ []))
call-shown name bytes ts w s =
    let inside = shown-then bytes (codes ")") ts (closing ∷ []) s (next-alone (codes ")") (closing ∷ []) close-between) in
    shown-then name (codes "(" ++ (bytes ++ codes ")")) (token.Word name ∷ []) (opening ∷ (ts ++ closing ∷ [])) (word-shown name w)
    (between-then (codes "(") (bytes ++ codes ")") (opening ∷ []) (ts ++ closing ∷ []) open-between inside)

mutual
  pub shown : (t : Tree) → Fits t → IsShown (canonical (expr_of t)) (written (printed t))
  shown (Leaf t) f = leaf-shown t f.0 f.1
  shown (Group e) f =
      as_written (expr_of (Group e)) _ (written (printed (Group e))) (at_group (List ℕ) text_step (expr_of e)) (group-shown (canonical (expr_of e)) (written (printed e)) (shown e f))
  shown (Call name es) f =
      as_written (expr_of (Call name es)) _ (written (printed (Call name es))) (at_call (List ℕ) text_step name (exprs_of es))
      (call-shown name (list_text true (map canonical (exprs_of es))) (written_all (printed_all es)) f.0 (all-shown es f.1))
  shown (Unary op e) f =
      as_written (expr_of (Unary op e)) _ (written (printed (Unary op e))) (at_unary (List ℕ) text_step op (expr_of e))
      (free-then (prefix_text op) (canonical (expr_of e)) (prefix_token op ∷ []) (written (printed e)) (prefix-free op) (shown e f))
  shown (Binary op l r) f =
      as_written (expr_of (Binary op l r)) _ (written (printed (Binary op l r))) (at_binary (List ℕ) text_step op (expr_of l) (expr_of r))
      (shown-then (canonical (expr_of l)) (operator_text op ++ canonical (expr_of r)) (written (printed l)) (operator_token op ∷ written (printed r)) (shown l f.0)
      (between-then (operator_text op) (canonical (expr_of r)) (operator_token op ∷ []) (written (printed r)) (operator-between op) (shown r f.1)))

  all-shown : (es : Trees) → FitsAll es → IsShown (list_text true (map canonical (exprs_of es))) (written_all (printed_all es))
  all-shown NoTrees f = nothing-shown
  all-shown (AndTree e NoTrees) f = subst (λ l. IsShown l (written (printed e))) (sym (append-nil (canonical (expr_of e)))) (shown e f.0)
  all-shown (AndTree e (AndTree g es)) f =
      shown-then (canonical (expr_of e)) (codes ", " ++ list_text true (map canonical (exprs_of (AndTree g es)))) (written (printed e)) (comma ∷ written_all (printed_all (AndTree g es))) (shown e f.0)
      (between-then (codes ", ") (list_text true (map canonical (exprs_of (AndTree g es)))) (comma ∷ []) (written_all (printed_all (AndTree g es))) comma-between (all-shown (AndTree g es) f.1))

nothing-lexed : tokens_of [] ≡ Some []
unfolding tokens_of tokens
nothing-lexed = refl

pub written_law : (e : Expr) (text piece : List ℕ) → text ≡ canonical e → IsUtf8 piece → StandsFor (chars piece) e → IsKept (chars text) e
written_law e text piece is utf8 stands =
    let x = stands.has.expression in
    let t = stands.tree in
    let all = tokens_of-read (chars piece) stands.tokens (scalars-chars piece utf8) stands.has.lexed in
    let s = shown t (fits t stands.tokens x.spelled all) in
    let spelt : text ≡ encode_utf8_all s.letters = is ∙ ap canonical stands.is ∙ s.spelt in
    let letters : chars text ≡ s.letters = ap chars spelt ∙ chars-encodes s.letters s.scalar in
    let W = written (printed t) in
    let end : tokens_of (s.letters ++ []) ≡ ahead W (tokens_of []) = s.lexed [] stops-nil in
    let lexed : tokens_of (chars text) ≡ Some W = ap tokens_of (letters ∙ sym (append-nil s.letters)) ∙ end ∙ ap (ahead W) nothing-lexed ∙ ap Some (append-nil W) in
    record {
      tokens = W;
      tree = printed t;
      has = record { lexed = lexed; expression = printed-expression t stands.tokens x };
      is = stands.is ∙ printed-same t stands.tokens x;
      no_fraction = s.kept.no_fraction;
      no_large = s.kept.no_large;
    }

pub again_law : {E : Type 0} (e : Expr) (r : Result (List ℕ) E) → IfOk r (λ t. t ≡ canonical e) → IfOk r (λ t. (piece : List ℕ) → IsUtf8 piece → StandsFor (chars piece) e → IsKept (chars t) e)
again_law e (Ok t) h = λ piece utf8 stands. written_law e t piece h utf8 stands
again_law e (Err f) h = tt
