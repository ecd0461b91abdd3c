-- Which tokens are which tree: one case for each kind of tree, and lists are cut anywhere.
-- Source: docs/language.md, Tokens and expressions. The levels of the operators are this project's own.
use Rattle.std.specs.Prelude.{◌≡◌, ℕ, ◌≤◌, ◌<◌, List, [], ◌∷◌, ◌++◌, Option, Some, None}
use Rattle.yarn_expr.specs.declared.token.Token.{Token}
use Rattle.yarn_expr.specs.declared.token.Token.TheVariants as token
use Rattle.yarn_expr.specs.declared.token.Sign.{Sign}
use Rattle.yarn_expr.specs.declared.token.Sign.TheVariants as sign
use Rattle.yarn_expr.specs.declared.word.WordMeaning.{WordMeaning}
use Rattle.yarn_expr.specs.declared.word.WordMeaning.TheVariants as word
use Rattle.yarn_expr.specs.declared.tree.UnaryOp.{UnaryOp}
use Rattle.yarn_expr.specs.declared.tree.UnaryOp.TheVariants.{Neg, Not}
use Rattle.yarn_expr.specs.declared.tree.BinaryOp.{BinaryOp}
use Rattle.yarn_expr.specs.declared.tree.BinaryOp.TheVariants.{Mul, Div, Rem, Add, Sub, Lte, Gte, Lt, Gt, Eq, Neq, And, Or, Xor}
use Rattle.yarn_expr.specs.Word.{meaning_of}
use Rattle.yarn_expr.specs.Plain.{Tree, Leaf, Group, Call, Unary, Binary, Trees, NoTrees, AndTree, operator_level, level, depth, leaf_of, expr_at}

-- the operator that a sign or a word is between two operands
abbrev pub sign_operator : Sign → Option BinaryOp
sign_operator sign.Star = Some Mul
sign_operator sign.Slash = Some Div
sign_operator sign.Percent = Some Rem
sign_operator sign.Plus = Some Add
sign_operator sign.Minus = Some Sub
sign_operator sign.AtMost = Some Lte
sign_operator sign.AtLeast = Some Gte
sign_operator sign.Less = Some Lt
sign_operator sign.More = Some Gt
sign_operator sign.Equal = Some Eq
sign_operator sign.NotEqual = Some Neq
sign_operator sign.Both = Some And
sign_operator sign.Either = Some Or
sign_operator sign.OneOf = Some Xor
sign_operator _ = None

abbrev pub word_operator : WordMeaning → Option BinaryOp
word_operator (word.Operator op) = Some op
word_operator word.Negation = None
word_operator (word.Literal b) = None
word_operator word.Name = None

abbrev pub binary_of : Token → Option BinaryOp
binary_of (token.Word w) = word_operator (meaning_of w)
binary_of (token.Sign s) = sign_operator s
binary_of (token.Number digits) = None
binary_of (token.Fraction digits) = None
binary_of (token.Str text) = None
binary_of (token.Variable name) = None

-- the operator that a sign or a word is before an operand
abbrev pub sign_prefix : Sign → Option UnaryOp
sign_prefix sign.Minus = Some Neg
sign_prefix sign.Bang = Some Not
sign_prefix _ = None

abbrev pub word_prefix : WordMeaning → Option UnaryOp
word_prefix word.Negation = Some Not
word_prefix (word.Operator op) = None
word_prefix (word.Literal b) = None
word_prefix word.Name = None

abbrev pub unary_of : Token → Option UnaryOp
unary_of (token.Word w) = word_prefix (meaning_of w)
unary_of (token.Sign s) = sign_prefix s
unary_of (token.Number digits) = None
unary_of (token.Fraction digits) = None
unary_of (token.Str text) = None
unary_of (token.Variable name) = None

-- a part between brackets
pub record InBrackets (Inner : List Token → Type 0) (tokens : List Token) : Type 0 where
  pub inner : List Token
  pub spelled : Inner inner
  pub split : tokens ≡ token.Sign sign.Open ∷ (inner ++ token.Sign sign.Close ∷ [])

-- a name, which is no reserved word, and arguments in brackets
pub record IsCall (name : List ℕ) (Inner : List Token → Type 0) (tokens : List Token) : Type 0 where
  pub meaning : meaning_of name ≡ word.Name
  pub bracketed : List Token
  pub arguments : InBrackets Inner bracketed
  pub split : tokens ≡ token.Word name ∷ bracketed

pub record IsUnary (op : UnaryOp) (Operand : List Token → Type 0) (tokens : List Token) : Type 0 where
  pub first : Token
  pub operator : unary_of first ≡ Some op
  pub operand : List Token
  pub spelled : Operand operand
  pub split : tokens ≡ first ∷ operand

pub record IsBinary (op : BinaryOp) (Left Right : List Token → Type 0) (tokens : List Token) : Type 0 where
  pub left : List Token
  pub left_spelled : Left left
  pub middle : Token
  pub operator : binary_of middle ≡ Some op
  pub right : List Token
  pub right_spelled : Right right
  pub split : tokens ≡ left ++ middle ∷ right

-- one part, a comma, and the others
pub record IsList (First Others : List Token → Type 0) (tokens : List Token) : Type 0 where
  pub first : List Token
  pub first_spelled : First first
  pub others : List Token
  pub others_spelled : Others others
  pub split : tokens ≡ first ++ token.Sign sign.Comma ∷ others

-- one token, which is an operand
pub record IsLeaf (t : Token) (tokens : List Token) : Type 0 where
  pub operand : leaf_of t ≡ Some (expr_at (leaf_of t))
  pub alone : tokens ≡ t ∷ []

-- one argument, or one and others behind a comma
abbrev pub IsArguments : (List Token → Type 0) → Trees → (List Token → Type 0) → List Token → Type 0
IsArguments First NoTrees Others tokens = First tokens
IsArguments First (AndTree e es) Others tokens = IsList First Others tokens

-- The tokens spell the tree. A part of a binary tree may stand without brackets at its left
-- if it is no looser than the operator, and at its right if it is tighter.
abbrev mutual
  pub Spells : Tree → List Token → Type 0
  Spells (Leaf t) tokens = IsLeaf t tokens
  Spells (Group e) tokens = InBrackets (Spells e) tokens
  Spells (Call name es) tokens = IsCall name (SpellsAll es) tokens
  Spells (Unary op e) tokens = (level e ≤ 1) × IsUnary op (Spells e) tokens
  Spells (Binary op l r) tokens = (level l ≤ operator_level op) × (level r < operator_level op) × IsBinary op (Spells l) (Spells r) tokens

  pub SpellsAll : Trees → List Token → Type 0
  SpellsAll NoTrees tokens = tokens ≡ []
  SpellsAll (AndTree e es) tokens = IsArguments (Spells e) es (SpellsAll es) tokens

-- what is no deeper than 64
pub record Expression (tokens : List Token) (tree : Tree) : Type 0 where
  pub spelled : Spells tree tokens
  pub shallow : depth tree ≤ 64
