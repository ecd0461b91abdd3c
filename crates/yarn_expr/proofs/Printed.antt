-- The tree that is printed, which has its numbers as they are written, and its canonical tokens.
use Rattle.std.proofs.Common.{◌≡◌, ℕ, suc, max, ◌<◌, ◌^◌, List, [], ◌∷◌, ◌++◌, Bool, true, false, nat_lt, pos, unwrap_or, Some, refl, sym, ap, ◌∙◌, arith}
use Rattle.std.specs.Prelude.{codes}
use Rattle.std.specs.Fmt.{signed_decimal, decimal}
use Rattle.std.proofs.lemmas.Bool.Decides.{nat_tests}
use Rattle.yarn_expr.specs.declared.token.Token.{Token}
use Rattle.yarn_expr.specs.declared.token.Token.TheVariants as token
use Rattle.yarn_expr.specs.declared.token.Sign.TheVariants as sign
use Rattle.yarn_expr.specs.declared.word.WordMeaning.{WordMeaning}
use Rattle.yarn_expr.specs.declared.word.WordMeaning.TheVariants as word
use Rattle.yarn_expr.specs.declared.tree.UnaryOp.{UnaryOp}
use Rattle.yarn_expr.specs.declared.tree.UnaryOp.TheVariants.{Neg, Not}
use Rattle.yarn_expr.specs.declared.tree.BinaryOp.{BinaryOp}
use Rattle.yarn_expr.specs.declared.tree.BinaryOp.TheVariants.{Mul, Div, Rem, Add, Sub, Lte, Gte, Lt, Gt, Eq, Neq, And, Or, Xor}
use Rattle.yarn_expr.specs.declared.tree.Expr.{Expr}
use Rattle.yarn_expr.specs.declared.tree.Expr.TheVariants as expr
use Rattle.yarn_expr.specs.Word.{meaning_of}
use Rattle.yarn_expr.specs.Plain.{Tree, Leaf, Group, Call, Unary, Binary, Trees, NoTrees, AndTree, level, depth, depth_all, value_after, fitted, number_of, word_leaf, leaf_of, expr_at, expr_of, exprs_of}
use Rattle.yarn_expr.specs.Expression.{Spells, SpellsAll, binary_of, unary_of, Expression}
use Rattle.yarn_expr.specs.Print.{truth_text}
use Rattle.yarn_expr.proofs.Numerals.{decimal-facts}
use Rattle.yarn_expr.proofs.Only.{opening, closing, comma}

abbrev pub operator_token : BinaryOp → Token
operator_token Mul = token.Sign sign.Star
operator_token Div = token.Sign sign.Slash
operator_token Rem = token.Sign sign.Percent
operator_token Add = token.Sign sign.Plus
operator_token Sub = token.Sign sign.Minus
operator_token Lte = token.Sign sign.AtMost
operator_token Gte = token.Sign sign.AtLeast
operator_token Lt = token.Sign sign.Less
operator_token Gt = token.Sign sign.More
operator_token Eq = token.Sign sign.Equal
operator_token Neq = token.Sign sign.NotEqual
operator_token And = token.Word (codes "and")
operator_token Or = token.Word (codes "or")
operator_token Xor = token.Word (codes "xor")

abbrev pub prefix_token : UnaryOp → Token
prefix_token Neg = token.Sign sign.Minus
prefix_token Not = token.Word (codes "not")

abbrev pub listed : List Token → Trees → List Token → List Token
listed first NoTrees others = first
listed first (AndTree e es) others = first ++ comma ∷ others

abbrev mutual
  pub written : Tree → List Token
  written (Leaf t) = t ∷ []
  written (Group e) = opening ∷ (written e ++ closing ∷ [])
  written (Call name es) = token.Word name ∷ opening ∷ (written_all es ++ closing ∷ [])
  written (Unary op e) = prefix_token op ∷ written e
  written (Binary op l r) = written l ++ operator_token op ∷ written r

  pub written_all : Trees → List Token
  written_all NoTrees = []
  written_all (AndTree e es) = listed (written e) es (written_all es)

binary_of-operator_token : (op : BinaryOp) → binary_of (operator_token op) ≡ Some op
unfolding meaning_of
binary_of-operator_token Mul = refl
binary_of-operator_token Div = refl
binary_of-operator_token Rem = refl
binary_of-operator_token Add = refl
binary_of-operator_token Sub = refl
binary_of-operator_token Lte = refl
binary_of-operator_token Gte = refl
binary_of-operator_token Lt = refl
binary_of-operator_token Gt = refl
binary_of-operator_token Eq = refl
binary_of-operator_token Neq = refl
binary_of-operator_token And = refl
binary_of-operator_token Or = refl
binary_of-operator_token Xor = refl

unary_of-prefix_token : (op : UnaryOp) → unary_of (prefix_token op) ≡ Some op
unfolding meaning_of
unary_of-prefix_token Neg = refl
unary_of-prefix_token Not = refl

spells_listed : (e : Tree) (es : Trees) (first others : List Token) → Spells e first → SpellsAll es others → SpellsAll (AndTree e es) (listed first es others)
spells_listed e NoTrees first others s a = s
spells_listed e (AndTree f es) first others s a = record { first = first; first_spelled = s; others = others; others_spelled = a; split = refl }

-- the arguments but the first, if there are some
others_of : (e : Tree) (es : Trees) (ts : List Token) → SpellsAll (AndTree e es) ts → (us : List Token) × SpellsAll es us
others_of e NoTrees ts s = ([], refl)
others_of e (AndTree f es) ts s = (s.others, s.others_spelled)

first_of_all : (e : Tree) (es : Trees) (ts : List Token) → SpellsAll (AndTree e es) ts → (us : List Token) × Spells e us
first_of_all e NoTrees ts s = (ts, s)
first_of_all e (AndTree f es) ts s = (s.first, s.first_spelled)

-- the token that a literal or a variable is written as
abbrev pub token_of : Expr → Token
token_of (expr.Number n) = token.Number (signed_decimal n)
token_of (expr.Str text) = token.Str text
token_of (expr.Truth b) = token.Word (truth_text b)
token_of (expr.Variable name) = token.Variable name
token_of _ = closing

abbrev pub printed_leaf : Token → Token
printed_leaf t = token_of (expr_at (leaf_of t))

abbrev mutual
  pub printed : Tree → Tree
  printed (Leaf t) = Leaf (printed_leaf t)
  printed (Group e) = Group (printed e)
  printed (Call name es) = Call name (printed_all es)
  printed (Unary op e) = Unary op (printed e)
  printed (Binary op l r) = Binary op (printed l) (printed r)

  pub printed_all : Trees → Trees
  printed_all NoTrees = NoTrees
  printed_all (AndTree e es) = AndTree (printed e) (printed_all es)

-- a number that is kept is of 63 bits
pub number_of-small : (digits : List ℕ) → unwrap_or (number_of digits) 0 < 2 ^ 63
unfolding number_of
number_of-small digits = by_test (nat_lt (value_after 0 digits) (2 ^ 63)) refl
  where
    by_test : (b : Bool) → nat_lt (value_after 0 digits) (2 ^ 63) ≡ b → unwrap_or (number_of digits) 0 < 2 ^ 63
    by_test true is = rw is (grind (arith, nat_tests))
    by_test false is = rw is (omega arith)

pub number_of-decimal : (n : ℕ) → n < 2 ^ 63 → number_of (decimal n) ≡ Some n
unfolding number_of
number_of-decimal n lt =
    let value = (decimal-facts n (omega arith)).1 in
    let small : nat_lt n (2 ^ 63) ≡ true = grind (arith, nat_tests) in
    ap fitted value ∙ rw small refl

-- what is written of a literal is that literal
pub leaf_again : (t : Token) → leaf_of t ≡ Some (expr_at (leaf_of t)) → leaf_of (printed_leaf t) ≡ Some (expr_at (leaf_of t))
unfolding meaning_of
leaf_again (token.Number digits) h = ap (λ o. Some (expr.Number (pos (unwrap_or o 0)))) (number_of-decimal (unwrap_or (number_of digits) 0) (number_of-small digits))
leaf_again (token.Fraction digits) h = ap (λ o. Some (expr.Number (pos (unwrap_or o 0)))) (number_of-decimal 0 (omega arith))
leaf_again (token.Str text) h = refl
leaf_again (token.Variable name) h = refl
leaf_again (token.Word w) h = by_meaning (meaning_of w) refl h
  where
    by_truth : (b : Bool) → leaf_of (token.Word (truth_text b)) ≡ Some (expr.Truth b)
    by_truth true = refl
    by_truth false = refl

    by_meaning : (m : WordMeaning) → meaning_of w ≡ m → word_leaf m ≡ Some (expr_at (word_leaf m)) → leaf_of (token_of (expr_at (word_leaf m))) ≡ Some (expr_at (word_leaf m))
    by_meaning (word.Literal b) is h' = by_truth b
    by_meaning (word.Operator op) is h' = cc
    by_meaning word.Negation is h' = cc
    by_meaning word.Name is h' = cc
leaf_again (token.Sign s) h = cc

pub level-printed : (t : Tree) → level (printed t) ≡ level t
level-printed (Leaf t) = refl
level-printed (Group e) = refl
level-printed (Call name es) = refl
level-printed (Unary op e) = refl
level-printed (Binary op l r) = refl

mutual
  depth-printed : (t : Tree) → depth (printed t) ≡ depth t
  depth-printed (Leaf t) = refl
  depth-printed (Group e) = ap (λ n. suc n) (depth-printed e)
  depth-printed (Call name es) = ap (λ n. suc n) (depth_all-printed es)
  depth-printed (Unary op e) = ap (λ n. suc n) (depth-printed e)
  depth-printed (Binary op l r) = ap (λ n. suc (max n (depth (printed r)))) (depth-printed l) ∙ ap (λ n. suc (max (depth l) n)) (depth-printed r)

  depth_all-printed : (es : Trees) → depth_all (printed_all es) ≡ depth_all es
  depth_all-printed NoTrees = refl
  depth_all-printed (AndTree e es) = ap (λ n. max n (depth_all (printed_all es))) (depth-printed e) ∙ ap (λ n. max (depth e) n) (depth_all-printed es)

mutual
  expr_of-printed : (t : Tree) (ts : List Token) → Spells t ts → expr_of (printed t) ≡ expr_of t
  expr_of-printed (Leaf t) ts s = ap expr_at (leaf_again t s.operand)
  expr_of-printed (Group e) ts s = ap (λ (x : Expr). expr.Group x) (expr_of-printed e s.inner s.spelled)
  expr_of-printed (Call name es) ts s = ap (λ (xs : List Expr). expr.Call name xs) (exprs_of-printed es s.arguments.inner s.arguments.spelled)
  expr_of-printed (Unary op e) ts s = ap (λ (x : Expr). expr.Unary op x) (expr_of-printed e s.1.operand s.1.spelled)
  expr_of-printed (Binary op l r) ts s =
      let b = s.2 in
      ap (λ (x : Expr). expr.Binary op x (expr_of (printed r))) (expr_of-printed l b.left b.left_spelled) ∙ ap (λ (x : Expr). expr.Binary op (expr_of l) x) (expr_of-printed r b.right b.right_spelled)

  exprs_of-printed : (es : Trees) (ts : List Token) → SpellsAll es ts → exprs_of (printed_all es) ≡ exprs_of es
  exprs_of-printed NoTrees ts s = refl
  exprs_of-printed (AndTree e es) ts s =
      let first = first_of_all e es ts s in
      let others = others_of e es ts s in
      ap (λ (x : Expr). x ∷ exprs_of (printed_all es)) (expr_of-printed e first.0 first.1) ∙ ap (λ (xs : List Expr). expr_of e ∷ xs) (exprs_of-printed es others.0 others.1)

mutual
  pub printed-spells : (t : Tree) (ts : List Token) → Spells t ts → Spells (printed t) (written (printed t))
  printed-spells (Leaf t) ts s = let same = leaf_again t s.operand in record { operand = same ∙ sym (ap (λ o. Some (expr_at o)) same); alone = refl }
  printed-spells (Group e) ts s = record { inner = written (printed e); spelled = printed-spells e s.inner s.spelled; split = refl }
  printed-spells (Call name es) ts s = record {
    meaning = s.meaning;
    bracketed = opening ∷ (written_all (printed_all es) ++ closing ∷ []);
    arguments = record { inner = written_all (printed_all es); spelled = printed_all-spells es s.arguments.inner s.arguments.spelled; split = refl };
    split = refl;
  }
  printed-spells (Unary op e) ts s =
      (rw (level-printed e) s.0, record { first = prefix_token op; operator = unary_of-prefix_token op; operand = written (printed e); spelled = printed-spells e s.1.operand s.1.spelled; split = refl })
  printed-spells (Binary op l r) ts s = let b = s.2 in (
    rw (level-printed l) s.0,
    rw (level-printed r) s.1,
    record {
      left = written (printed l);
      left_spelled = printed-spells l b.left b.left_spelled;
      middle = operator_token op;
      operator = binary_of-operator_token op;
      right = written (printed r);
      right_spelled = printed-spells r b.right b.right_spelled;
      split = refl;
    },
  )

  pub printed_all-spells : (es : Trees) (ts : List Token) → SpellsAll es ts → SpellsAll (printed_all es) (written_all (printed_all es))
  printed_all-spells NoTrees ts s = refl
  printed_all-spells (AndTree e es) ts s =
      let first = first_of_all e es ts s in
      let others = others_of e es ts s in
      spells_listed (printed e) (printed_all es) (written (printed e)) (written_all (printed_all es)) (printed-spells e first.0 first.1) (printed_all-spells es others.0 others.1)

-- where some tokens spell the tree, its canonical tokens do
pub printed-expression : (t : Tree) (ts : List Token) → Expression ts t → Expression (written (printed t)) (printed t)
printed-expression t ts x = record { spelled = printed-spells t ts x.spelled; shallow = rw (depth-printed t) x.shallow }

pub printed-same : (t : Tree) (ts : List Token) → Expression ts t → expr_of t ≡ expr_of (printed t)
printed-same t ts x = sym (expr_of-printed t ts x.spelled)
