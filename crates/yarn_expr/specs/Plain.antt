-- Trees as plain data, whose leaves are tokens, so that a literal keeps its digits, with levels and depths.
-- Source: docs/language.md, Tokens and expressions. The levels are this project's own.
use Rattle.std.specs.Prelude.{ℕ, ◌+◌, ◌-◌, ◌*◌, ◌^◌, nat_lt, if◌then◌else◌, unwrap_or, List, [], ◌∷◌, suc, max, pos, Option, Some, None}
use Rattle.yarn_expr.specs.declared.token.Token.{Token}
use Rattle.yarn_expr.specs.declared.token.Token.TheVariants as token
use Rattle.yarn_expr.specs.declared.word.WordMeaning.{WordMeaning}
use Rattle.yarn_expr.specs.declared.word.WordMeaning.TheVariants as word
use Rattle.yarn_expr.specs.declared.tree.UnaryOp.{UnaryOp}
use Rattle.yarn_expr.specs.declared.tree.BinaryOp.{BinaryOp}
use Rattle.yarn_expr.specs.declared.tree.BinaryOp.TheVariants.{Mul, Div, Rem, Add, Sub, Lte, Gte, Lt, Gt, Eq, Neq, And, Or, Xor}
use Rattle.yarn_expr.specs.declared.tree.Expr.{Expr}
use Rattle.yarn_expr.specs.declared.tree.Expr.TheVariants as expr
use Rattle.yarn_expr.specs.Word.{meaning_of}

-- a leaf is one token; a call has its name and its arguments
mutual
  pub data Tree : Type 0 where
    Leaf : Token → Tree
    Group : Tree → Tree
    Call : List ℕ → Trees → Tree
    Unary : UnaryOp → Tree → Tree
    Binary : BinaryOp → Tree → Tree → Tree

  pub data Trees : Type 0 where
    NoTrees : Trees
    AndTree : Tree → Trees → Trees

-- the level of an operator; 1 is the tightest, and 6 the loosest
abbrev pub operator_level : BinaryOp → ℕ
operator_level Mul = 2
operator_level Div = 2
operator_level Rem = 2
operator_level Add = 3
operator_level Sub = 3
operator_level Lte = 4
operator_level Gte = 4
operator_level Lt = 4
operator_level Gt = 4
operator_level Eq = 5
operator_level Neq = 5
operator_level And = 6
operator_level Or = 6
operator_level Xor = 6

-- the level of a tree; an operand has 0
abbrev pub level : Tree → ℕ
level (Unary op e) = 1
level (Binary op l r) = operator_level op
level (Leaf t) = 0
level (Group e) = 0
level (Call name es) = 0

abbrev mutual
  pub depth : Tree → ℕ
  depth (Leaf t) = 1
  depth (Group e) = suc (depth e)
  depth (Call name es) = suc (depth_all es)
  depth (Unary op e) = suc (depth e)
  depth (Binary op l r) = suc (max (depth l) (depth r))

  pub depth_all : Trees → ℕ
  depth_all NoTrees = 0
  depth_all (AndTree e es) = max (depth e) (depth_all es)

-- the operand that one word is
abbrev pub word_leaf : WordMeaning → Option Expr
word_leaf (word.Literal b) = Some (expr.Truth b)
word_leaf (word.Operator op) = None
word_leaf word.Negation = None
word_leaf word.Name = None

-- the number that digits write behind n
abbrev pub value_after : ℕ → List ℕ → ℕ
value_after n [] = n
value_after n (c ∷ cs) = value_after (n * 10 + (c - 48)) cs

-- the number, if it is at most 9223372036854775807
abbrev pub fitted : ℕ → Option ℕ
fitted n = if nat_lt n (2 ^ 63) then Some n else None

unfoldable pub number_of : List ℕ → Option ℕ
number_of digits = fitted (value_after 0 digits)

-- the operand that one token is: a literal, or a variable. A fraction and a number that is too large
-- stand for 0 here, and are refused elsewhere
abbrev pub leaf_of : Token → Option Expr
leaf_of (token.Number digits) = Some (expr.Number (pos (unwrap_or (number_of digits) 0)))
leaf_of (token.Fraction digits) = Some (expr.Number (pos 0))
leaf_of (token.Str text) = Some (expr.Str text)
leaf_of (token.Variable name) = Some (expr.Variable name)
leaf_of (token.Word w) = word_leaf (meaning_of w)
leaf_of (token.Sign s) = None

abbrev pub expr_at : Option Expr → Expr
expr_at (Some e) = e
expr_at None = expr.Number (pos 0)

-- the tree without its digits
abbrev mutual
  pub expr_of : Tree → Expr
  expr_of (Leaf t) = expr_at (leaf_of t)
  expr_of (Group e) = expr.Group (expr_of e)
  expr_of (Call name es) = expr.Call name (exprs_of es)
  expr_of (Unary op e) = expr.Unary op (expr_of e)
  expr_of (Binary op l r) = expr.Binary op (expr_of l) (expr_of r)

  pub exprs_of : Trees → List Expr
  exprs_of NoTrees = []
  exprs_of (AndTree e es) = expr_of e ∷ exprs_of es
