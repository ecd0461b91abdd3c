-- The expression of a piece of a text: its tokens, their tree, and whether its literals can be kept.
use Rattle.std.specs.Prelude.{◌≡◌, ℕ, ◌-◌, List, take, drop, true, false, if◌then◌else◌, Some, Result, Ok, Err}
use Rattle.std.specs.List.{list_any}
use Rattle.std.specs.Str.{chars}
use Rattle.yarn_expr.specs.declared.token.Token.{Token}
use Rattle.yarn_expr.specs.declared.tree.Expr.{Expr}
use Rattle.yarn_expr.specs.declared.fault.ExprFault.{ExprFault}
use Rattle.yarn_expr.specs.declared.fault.ExprFault.TheVariants as fault
use Rattle.yarn_expr.specs.Plain.{Tree, expr_of}
use Rattle.yarn_expr.specs.Expression.{Expression}
use Rattle.yarn_expr.specs.Literal.{is_fraction, is_large}
use Rattle.yarn_expr.specs.Tokens.{tokens_of}

-- the characters of a text's bytes from one place up to another
abbrev pub piece_of : List ℕ → ℕ → ℕ → List ℕ
piece_of text from to = chars (take (to - from) (drop from text))

-- the piece has these tokens, and they are this tree
pub record HasTree (piece : List ℕ) (tokens : List Token) (tree : Tree) : Type 0 where
  pub lexed : tokens_of piece ≡ Some tokens
  pub expression : Expression tokens tree

-- the piece is this expression, which is its tree without the digits
pub record StandsFor (piece : List ℕ) (e : Expr) : Type 0 where
  pub tokens : List Token
  pub tree : Tree
  pub has : HasTree piece tokens tree
  pub is : e ≡ expr_of tree

-- the piece is this expression, which is its tree without the digits, and its literals can be kept
pub record IsKept (piece : List ℕ) (e : Expr) : Type 0 where
  pub tokens : List Token
  pub tree : Tree
  pub has : HasTree piece tokens tree
  pub is : e ≡ expr_of tree
  pub no_fraction : list_any is_fraction tokens ≡ false
  pub no_large : list_any is_large tokens ≡ false

-- the piece has a tree, with a fraction
pub record HasFraction (piece : List ℕ) : Type 0 where
  pub tokens : List Token
  pub tree : Tree
  pub has : HasTree piece tokens tree
  pub some : list_any is_fraction tokens ≡ true

-- the piece has a tree, with no fraction, and with a number that is too large
pub record HasLarge (piece : List ℕ) : Type 0 where
  pub tokens : List Token
  pub tree : Tree
  pub has : HasTree piece tokens tree
  pub no_fraction : list_any is_fraction tokens ≡ false
  pub some : list_any is_large tokens ≡ true

-- the answer to tokens that are this expression: a fraction comes first, then a number that is too large
abbrev pub answer_to : Expr → List Token → Result Expr ExprFault
answer_to e tokens =
    if list_any is_fraction tokens then Err fault.Fraction
    else if list_any is_large tokens then Err fault.NumberTooLarge
    else Ok e

-- so it answers, unless memory runs out
abbrev pub Answers : Result Expr ExprFault → Result Expr ExprFault → Type 0
Answers (Err fault.Memory) right = Unit {0}
Answers result right = right ≡ result
