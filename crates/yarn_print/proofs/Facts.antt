-- What is printed of an expression is that expression, and no scanner of a line stops within it.
use Rattle.std.proofs.Common.{◌≡◌, ℕ, ◌<◌, ◌≤◌, ◌^◌, List, [], ◌∷◌, ◌++◌, map, Bool, true, false, not, ◌==◌, nat_eq, codes, unwrap_or, pos, ◌||◌, if◌then◌else◌, Option, Some, None, IsUtf8, encode_utf8_all, refl, sym, ap, ◌∙◌, subst, arith, append-nil}
use Rattle.std.specs.Fmt.{decimal}
use Rattle.std.specs.List.{list_any}
use Rattle.std.specs.Str.{chars, all_scalars}
use Rattle.std.proofs.lemmas.Bool.{ne_eqb, and_from, or_from, or_left, not_from_false, eqb-true}
use Rattle.std.proofs.lemmas.Str.{encodes-chars, scalars-chars, IsUtf8-from_ascii}
use Rattle.std.proofs.lemmas.Fmt.{IsAscii-decimal}
use Rattle.unicode_ident.specs.Ident.{is_xid_start, is_xid_continue}
use Rattle.unicode_ident.proofs.IdentLemmas.{is_xid_continue-ascii, is_xid_start-is_xid_continue}
use Rattle.yarn_base.specs.Name.{starts_name, continues_name}
use Rattle.yarn_expr.specs.declared.token.Token.{Token}
use Rattle.yarn_expr.specs.declared.token.Token.TheVariants as token
use Rattle.yarn_expr.specs.declared.tree.UnaryOp.{UnaryOp}
use Rattle.yarn_expr.specs.declared.tree.UnaryOp.TheVariants.{Neg, Not}
use Rattle.yarn_expr.specs.declared.tree.BinaryOp.{BinaryOp}
use Rattle.yarn_expr.specs.declared.tree.BinaryOp.TheVariants.{Mul, Div, Rem, Add, Sub, Lte, Gte, Lt, Gt, Eq, Neq, And, Or, Xor}
use Rattle.yarn_expr.specs.declared.tree.Expr.{Expr}
use Rattle.yarn_expr.specs.declared.tree.Expr.TheVariants as expr
use Rattle.yarn_expr.specs.Word.{is_spelled, meaning_of}
use Rattle.yarn_expr.specs.Plain.{Tree, Leaf, Group, Call, Unary, Binary, Trees, NoTrees, AndTree, number_of, word_leaf, leaf_of, expr_at, expr_of, exprs_of}
use Rattle.yarn_expr.specs.Expression.{Spells, SpellsAll}
use Rattle.yarn_expr.specs.Print.{canonical, list_text, separator, string_text, truth_text, escape, operator_text, prefix_text, text_step}
use Rattle.yarn_expr.proofs.Layers.{at_number, at_string, at_truth, at_variable, at_group, at_unary, at_binary, at_call}
use Rattle.yarn_expr.proofs.Numerals.{decimal-facts}
use Rattle.yarn_expr.proofs.Only.{opening, closing, comma}
use Rattle.yarn_expr.proofs.Printed.{number_of-small}
use Rattle.yarn_expr.proofs.Runs.{AllOf}
use Rattle.yarn_expr.proofs.TextLaw.{string-shown}
use Rattle.yarn_expr.proofs.TextTokens.{IsWord, IsVariable}
use Rattle.yarn_commands.specs.Command.{IsExpression}
use Rattle.yarn_commands.proofs.Printed.{again}
use Rattle.yarn_lines.specs.Lines.{is_blank}
use Rattle.yarn_items.specs.Content.{ToEnd}
use Rattle.yarn_items.specs.Content as content
use Rattle.yarn_items.specs.Brace.{ToBrace}
use Rattle.yarn_items.specs.Brace as brace
use Rattle.yarn_print.specs.Facts.{ExpressionsPrintWell}
use Rattle.yarn_print.proofs.Quiet.{OnlyBreaks, only-feeds, only-returns, only-none, IsFree, free-none, free-encodes, Fits, is_still, Quiet, quiet-append, quiet-still, quiet-words, quiet-name, quiet-variable, passes-string, braces-string, free-string, utf8-ascii}
use Rattle.yarn_print.proofs.FreeTokens.{IsOwn, AreOwn, own-append, tokens_of-own}
use Rattle.yarn_print.proofs.Tight.{begins_solid, ends_solid-behind, begins-front, Solid, solid-trimmed, solid-some, solid-long, solid-around, solid-name, solid-variable}
use Rattle.yarn_print.proofs.Decimals.{decimal-digits, all-digits}

-- passed whole, and without blanks around it
pub record Well (test : ℕ → Bool) (bytes : List ℕ) : Type 0 where
  pub quiet : Quiet test bytes
  pub solid : Solid bytes

as_well : (test : ℕ → Bool) (e : Expr) (bytes : List ℕ) → canonical e ≡ bytes → Well test bytes → Well test (canonical e)
as_well test e bytes same w = let P : List ℕ → Type 0 = λ l. Well test l in subst P (sym same) w

-- ---- leaves

still-digit : (b : ℕ) → 48 ≤ b → b ≤ 57 → is_still b ≡ true
still-digit b low high =
    and_from _ _ (not_from_false _ (ne_eqb b 34 (λ e. omega arith)))
    (and_from _ _ (not_from_false _ (ne_eqb b 92 (λ e. omega arith)))
    (and_from _ _ (not_from_false _ (ne_eqb b 125 (λ e. omega arith)))
    (and_from _ _ (not_from_false _ (ne_eqb b 62 (λ e. omega arith)))
    (not_from_false _ (or_from (nat_eq b 10) (nat_eq b 13) (ne_eqb b 10 (λ e. omega arith)) (ne_eqb b 13 (λ e. omega arith)))))))

solid-digit : (b : ℕ) → 48 ≤ b → b ≤ 57 → not (is_blank b) ≡ true
solid-digit b low high = not_from_false _ (or_from (nat_eq b 32) (nat_eq b 9) (ne_eqb b 32 (λ e. omega arith)) (ne_eqb b 9 (λ e. omega arith)))

pub well-decimal : (test : ℕ → Bool) → OnlyBreaks test → (n : ℕ) → n < 2 ^ 64 → Well test (decimal n)
well-decimal test only n small =
    let digits = decimal-digits n in
    let some = (decimal-facts n small).2 in
    record {
      quiet = quiet-still test (decimal n) only (IsUtf8-from_ascii (decimal n) (IsAscii-decimal n small)) (all-digits is_still (decimal n) still-digit digits);
      solid = solid-long (decimal n) some (all-digits (λ b. not (is_blank b)) (decimal n) solid-digit digits);
    }

pub well-string : (test : ℕ → Bool) → OnlyBreaks test → (text : List ℕ) → IsUtf8 text → IsFree test text → Well test (string_text text)
well-string test only text utf8 free =
    let cs = chars text in
    let own : IsFree test cs = sym (free-encodes test cs only) ∙ ap (list_any test) (encodes-chars text utf8) ∙ free in
    let s = string-shown text utf8 in
    record {
      quiet = record {
        fits = record { utf8 = (s.letters, (s.scalar, sym s.spelt)); free = free-string test cs only own };
        passes = passes-string cs;
        braces = braces-string cs;
      };
      solid = record { begins = refl; ends = ends_solid-behind (34 ∷ encode_utf8_all (escape cs)) (34 ∷ []) refl };
    }

pub well-truth : (test : ℕ → Bool) → OnlyBreaks test → (b : Bool) → Well test (truth_text b)
well-truth test only true = record { quiet = quiet-words test (codes "true") only refl refl; solid = record { begins = refl; ends = refl } }
well-truth test only false = record { quiet = quiet-words test (codes "false") only refl refl; solid = record { begins = refl; ends = refl } }

pub well-variable : (test : ℕ → Bool) → OnlyBreaks test → (name : List ℕ) → IsVariable name → Well test name
well-variable test only name v = record {
  quiet = quiet-variable test name v.others only v.spelt v.scalar v.continues;
  solid = subst Solid (sym v.spelt) (solid-variable v.others v.continues);
}

starts-on : (c : ℕ) → starts_name c ≡ true → continues_name c ≡ true
starts-on c starts = by_start (is_xid_start c) refl
  where
    by_start : (t : Bool) → is_xid_start c ≡ t → continues_name c ≡ true
    by_start true is = or_left (is_xid_continue c) (c == 46) (is_xid_start-is_xid_continue c is)
    by_start false is =
        let low : c ≡ 95 = eqb-true c 95 (rw is at starts) in
        or_left (is_xid_continue c) (c == 46) (rw low (is_xid_continue-ascii 95 (omega arith)))

pub well-word : (test : ℕ → Bool) → OnlyBreaks test → (w : List ℕ) → IsWord w → Well test w
well-word test only w is =
    let all : AllOf continues_name (is.first ∷ is.others) = (starts-on is.first is.word.starts, is.word.continues) in
    record {
      quiet = quiet-name test w (is.first ∷ is.others) only is.spelt is.scalar all;
      solid = subst Solid (sym is.spelt) (solid-name is.first is.others all);
    }

-- what holds of both sides of a test holds of what it gives
either : {A : Type 0} (f : A → Option Expr) (P : Option Expr → Type 0) (b : Bool) (x y : A) → P (f x) → P (f y) → P (f (if b then x else y))
either f P true x y one two = one
either f P false x y one two = two

-- the literals among words
abbrev IsWell : (ℕ → Bool) → Option Expr → Type 0
IsWell test o = o ≡ Some (expr_at o) → Well test (canonical (expr_at o))

no_literal : (test : ℕ → Bool) → IsWell test None
no_literal test h = absurd cc

word-well : (test : ℕ → Bool) → OnlyBreaks test → (w : List ℕ) → IsWell test (word_leaf (meaning_of w))
unfolding meaning_of
word-well test only w =
    either word_leaf (IsWell test) (is_spelled w (codes "lte")) _ _ (no_literal test)
    (either word_leaf (IsWell test) (is_spelled w (codes "gte")) _ _ (no_literal test)
    (either word_leaf (IsWell test) (is_spelled w (codes "lt")) _ _ (no_literal test)
    (either word_leaf (IsWell test) (is_spelled w (codes "gt")) _ _ (no_literal test)
    (either word_leaf (IsWell test) (is_spelled w (codes "is") || is_spelled w (codes "eq")) _ _ (no_literal test)
    (either word_leaf (IsWell test) (is_spelled w (codes "neq")) _ _ (no_literal test)
    (either word_leaf (IsWell test) (is_spelled w (codes "and")) _ _ (no_literal test)
    (either word_leaf (IsWell test) (is_spelled w (codes "or")) _ _ (no_literal test)
    (either word_leaf (IsWell test) (is_spelled w (codes "xor")) _ _ (no_literal test)
    (either word_leaf (IsWell test) (is_spelled w (codes "not")) _ _ (no_literal test)
    (either word_leaf (IsWell test) (is_spelled w (codes "true")) _ _ (literal true)
    (either word_leaf (IsWell test) (is_spelled w (codes "false")) _ _ (literal false) (no_literal test))))))))))))
  where
    literal : (b : Bool) → IsWell test (Some (expr.Truth b))
    literal b h = as_well test (expr.Truth b) (truth_text b) (at_truth (List ℕ) text_step b) (well-truth test only b)

leaf-well : (test : ℕ → Bool) → OnlyBreaks test → (t : Token) → IsOwn test t → leaf_of t ≡ Some (expr_at (leaf_of t)) → Well test (canonical (expr_at (leaf_of t)))
leaf-well test only (token.Number digits) own h =
    let n = unwrap_or (number_of digits) 0 in
    let small = number_of-small digits in
    as_well test (expr.Number (pos n)) (decimal n) (at_number (List ℕ) text_step (pos n)) (well-decimal test only n (omega arith))
leaf-well test only (token.Fraction digits) own h = as_well test (expr.Number (pos 0)) (decimal 0) (at_number (List ℕ) text_step (pos 0)) (well-decimal test only 0 (omega arith))
leaf-well test only (token.Str text) own h = as_well test (expr.Str text) (string_text text) (at_string (List ℕ) text_step text) (well-string test only text own.is own.free)
leaf-well test only (token.Variable name) own h = as_well test (expr.Variable name) name (at_variable (List ℕ) text_step name) (well-variable test only name own.is)
leaf-well test only (token.Word w) own h = word-well test only w h
leaf-well test only (token.Sign s) own h = cc

-- ---- signs

-- a `>` stands before a blank or a `=`
quiet-more : (test : ℕ → Bool) → OnlyBreaks test → Quiet test (codes " > ")
quiet-more test only = record {
  fits = record { utf8 = utf8-ascii (codes " > ") refl; free = free };
  passes = record { in_content = λ more inside rest end. content.other refl (content.other refl (content.other refl end)) };
  braces = record { in_braces = λ more inside rest end. brace.plain refl (brace.plain refl (brace.plain refl end)) };
}
  where
    free : IsFree test (codes " > ")
    free = or_from (test 32) _ (only.fails 32 refl) (or_from (test 62) _ (only.fails 62 refl) (or_from (test 32) false (only.fails 32 refl) refl))

quiet-at_least : (test : ℕ → Bool) → OnlyBreaks test → Quiet test (codes " >= ")
quiet-at_least test only = record {
  fits = record { utf8 = utf8-ascii (codes " >= ") refl; free = free };
  passes = record { in_content = λ more inside rest end. content.other refl (content.other refl (content.other refl (content.other refl end))) };
  braces = record { in_braces = λ more inside rest end. brace.plain refl (brace.plain refl (brace.plain refl (brace.plain refl end))) };
}
  where
    free : IsFree test (codes " >= ")
    free = or_from (test 32) _ (only.fails 32 refl) (or_from (test 62) _ (only.fails 62 refl) (or_from (test 61) _ (only.fails 61 refl) (or_from (test 32) false (only.fails 32 refl) refl)))

quiet-operator : (test : ℕ → Bool) → OnlyBreaks test → (op : BinaryOp) → Quiet test (operator_text op)
quiet-operator test only Mul = quiet-words test (codes " * ") only refl refl
quiet-operator test only Div = quiet-words test (codes " / ") only refl refl
quiet-operator test only Rem = quiet-words test (codes " % ") only refl refl
quiet-operator test only Add = quiet-words test (codes " + ") only refl refl
quiet-operator test only Sub = quiet-words test (codes " - ") only refl refl
quiet-operator test only Lte = quiet-words test (codes " <= ") only refl refl
quiet-operator test only Gte = quiet-at_least test only
quiet-operator test only Lt = quiet-words test (codes " < ") only refl refl
quiet-operator test only Gt = quiet-more test only
quiet-operator test only Eq = quiet-words test (codes " == ") only refl refl
quiet-operator test only Neq = quiet-words test (codes " != ") only refl refl
quiet-operator test only And = quiet-words test (codes " and ") only refl refl
quiet-operator test only Or = quiet-words test (codes " or ") only refl refl
quiet-operator test only Xor = quiet-words test (codes " xor ") only refl refl

quiet-prefix : (test : ℕ → Bool) → OnlyBreaks test → (op : UnaryOp) → Quiet test (prefix_text op)
quiet-prefix test only Neg = quiet-words test (codes "-") only refl refl
quiet-prefix test only Not = quiet-words test (codes "not ") only refl refl

prefix-begins : (op : UnaryOp) → begins_solid (prefix_text op) ≡ true
prefix-begins Neg = refl
prefix-begins Not = refl

quiet-separator : (test : ℕ → Bool) → OnlyBreaks test → (first : Bool) → Quiet test (separator first)
quiet-separator test only true = quiet-words test [] only refl refl
quiet-separator test only false = quiet-words test (codes ", ") only refl refl

-- ---- trees

-- the leaves and names of a tree, which some text has
abbrev mutual
  Owns : (ℕ → Bool) → Tree → Type 0
  Owns test (Leaf t) = IsOwn test t × (leaf_of t ≡ Some (expr_at (leaf_of t)))
  Owns test (Group e) = Owns test e
  Owns test (Call name es) = IsWord name × OwnsAll test es
  Owns test (Unary op e) = Owns test e
  Owns test (Binary op l r) = Owns test l × Owns test r

  OwnsAll : (ℕ → Bool) → Trees → Type 0
  OwnsAll test NoTrees = Unit {0}
  OwnsAll test (AndTree e es) = Owns test e × OwnsAll test es

own-as : (test : ℕ → Bool) (ts us : List Token) → ts ≡ us → AreOwn test ts → AreOwn test us
own-as test ts us same all = subst (AreOwn test) same all

in-brackets : (test : ℕ → Bool) (inner : List Token) → AreOwn test (opening ∷ (inner ++ closing ∷ [])) → AreOwn test inner
in-brackets test inner all = (own-append test inner (closing ∷ []) all.1).0

mutual
  owns : (test : ℕ → Bool) (t : Tree) (ts : List Token) → Spells t ts → AreOwn test ts → Owns test t
  owns test (Leaf t) ts s all = ((own-as test ts (t ∷ []) s.alone all).0, s.operand)
  owns test (Group e) ts s all = owns test e s.inner s.spelled (in-brackets test s.inner (own-as test ts _ s.split all))
  owns test (Call name es) ts s all =
      let a = s.arguments in
      let parts = own-as test ts _ s.split all in
      (parts.0.is, owns_all test es a.inner a.spelled (in-brackets test a.inner (own-as test s.bracketed _ a.split parts.1)))
  owns test (Unary op e) ts s all = owns test e s.1.operand s.1.spelled (own-as test ts (s.1.first ∷ s.1.operand) s.1.split all).1
  owns test (Binary op l r) ts s all =
      let b = s.2 in
      let parts = own-append test b.left (b.middle ∷ b.right) (own-as test ts (b.left ++ b.middle ∷ b.right) b.split all) in
      (owns test l b.left b.left_spelled parts.0, owns test r b.right b.right_spelled parts.1.1)

  owns_all : (test : ℕ → Bool) (es : Trees) (ts : List Token) → SpellsAll es ts → AreOwn test ts → OwnsAll test es
  owns_all test NoTrees ts s all = tt
  owns_all test (AndTree e NoTrees) ts s all = (owns test e ts s all, tt)
  owns_all test (AndTree e (AndTree f es)) ts s all =
      let parts = own-append test s.first (comma ∷ s.others) (own-as test ts (s.first ++ comma ∷ s.others) s.split all) in
      (owns test e s.first s.first_spelled parts.0, owns_all test (AndTree f es) s.others s.others_spelled parts.1.1)

mutual
  well-tree : (test : ℕ → Bool) → OnlyBreaks test → (t : Tree) → Owns test t → Well test (canonical (expr_of t))
  well-tree test only (Leaf t) o = leaf-well test only t o.0 o.1
  well-tree test only (Group e) o =
      let w = well-tree test only e o in
      let own = canonical (expr_of e) in
      as_well test (expr_of (Group e)) (codes "(" ++ (own ++ codes ")")) (at_group (List ℕ) text_step (expr_of e)) (record {
        quiet = quiet-append test (codes "(") (own ++ codes ")") (quiet-words test (codes "(") only refl refl) (quiet-append test own (codes ")") w.quiet (quiet-words test (codes ")") only refl refl));
        solid = record { begins = refl; ends = ends_solid-behind (40 ∷ own) (codes ")") refl };
      })
  well-tree test only (Call name es) o =
      let w = well-word test only name o.0 in
      let own = list_text true (map canonical (exprs_of es)) in
      let inner = quiet-append test own (codes ")") (quiet-list test only true es o.1) (quiet-words test (codes ")") only refl refl) in
      as_well test (expr_of (Call name es)) (name ++ (codes "(" ++ (own ++ codes ")"))) (at_call (List ℕ) text_step name (exprs_of es)) (record {
        quiet = quiet-append test name (codes "(" ++ (own ++ codes ")")) w.quiet (quiet-append test (codes "(") (own ++ codes ")") (quiet-words test (codes "(") only refl refl) inner);
        solid = record { begins = begins-front name (codes "(" ++ (own ++ codes ")")) w.solid.begins; ends = ends_solid-behind name (codes "(" ++ (own ++ codes ")")) (ends_solid-behind (40 ∷ own) (codes ")") refl) };
      })
  well-tree test only (Unary op e) o =
      let w = well-tree test only e o in
      let own = canonical (expr_of e) in
      as_well test (expr_of (Unary op e)) (prefix_text op ++ own) (at_unary (List ℕ) text_step op (expr_of e)) (record {
        quiet = quiet-append test (prefix_text op) own (quiet-prefix test only op) w.quiet;
        solid = record { begins = begins-front (prefix_text op) own (prefix-begins op); ends = ends_solid-behind (prefix_text op) own w.solid.ends };
      })
  well-tree test only (Binary op l r) o =
      let a = well-tree test only l o.0 in
      let b = well-tree test only r o.1 in
      let left = canonical (expr_of l) in
      let right = canonical (expr_of r) in
      as_well test (expr_of (Binary op l r)) (left ++ (operator_text op ++ right)) (at_binary (List ℕ) text_step op (expr_of l) (expr_of r)) (record {
        quiet = quiet-append test left (operator_text op ++ right) a.quiet (quiet-append test (operator_text op) right (quiet-operator test only op) b.quiet);
        solid = solid-around left (operator_text op) right a.solid b.solid;
      })

  quiet-list : (test : ℕ → Bool) → OnlyBreaks test → (first : Bool) (es : Trees) → OwnsAll test es → Quiet test (list_text first (map canonical (exprs_of es)))
  quiet-list test only first NoTrees o = quiet-words test [] only refl refl
  quiet-list test only first (AndTree e es) o =
      let own = canonical (expr_of e) in
      let others = list_text false (map canonical (exprs_of es)) in
      quiet-append test (separator first) (own ++ others) (quiet-separator test only first) (quiet-append test own others (well-tree test only e o.0).quiet (quiet-list test only false es o.1))

-- what is printed of an expression that characters are
pub well-expression : (test : ℕ → Bool) → OnlyBreaks test → (cs : List ℕ) (tokens : List Token) (e : Expr) → all_scalars cs ≡ true → IsFree test cs → IsExpression cs tokens e → Well test (canonical e)
well-expression test only cs tokens e scalar free x =
    let own = tokens_of-own test only cs tokens scalar free x.has.lexed in
    let P : Expr → Type 0 = λ a. Well test (canonical a) in
    subst P (sym x.is) (well-tree test only x.tree (owns test x.tree tokens x.has.expression.spelled own))

pub free-chars : (test : ℕ → Bool) (piece : List ℕ) → OnlyBreaks test → IsUtf8 piece → IsFree test piece → IsFree test (chars piece)
free-chars test piece only utf8 free = sym (free-encodes test (chars piece) only) ∙ ap (list_any test) (encodes-chars piece utf8) ∙ free

pub well-piece : (test : ℕ → Bool) → OnlyBreaks test → (piece : List ℕ) (tokens : List Token) (e : Expr) → Fits test piece → IsExpression (chars piece) tokens e → Well test (canonical e)
well-piece test only piece tokens e fits x = well-expression test only (chars piece) tokens e (scalars-chars piece fits.utf8) (free-chars test piece only fits.utf8 fits.free) x

pub expressions-print-well : ExpressionsPrintWell
expressions-print-well piece tokens e utf8 x =
    let a = again e (chars piece) tokens (scalars-chars piece utf8) x in
    let w = well-piece (λ b. false) only-none piece tokens e (record { utf8 = utf8; free = free-none piece }) x in
    record {
      again = (a.tokens, a.expression);
      utf8 = a.utf8;
      some = solid-some (canonical e) w.solid;
      bare = solid-trimmed (canonical e) w.solid;
      in_braces = λ rest. subst (λ l. ToBrace false (canonical e ++ 125 ∷ rest) l rest) (append-nil (canonical e)) (w.quiet.braces.in_braces (125 ∷ rest) [] rest brace.closes);
      in_content = w.quiet.passes.in_content;
      no_feed = λ free. (well-piece (λ b. nat_eq b 10) only-feeds piece tokens e (record { utf8 = utf8; free = free }) x).quiet.fits.free;
      no_return = λ free. (well-piece (λ b. nat_eq b 13) only-returns piece tokens e (record { utf8 = utf8; free = free }) x).quiet.fits.free;
    }
