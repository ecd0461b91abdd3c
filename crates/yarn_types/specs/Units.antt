-- What the lines of a project ask, as plain data, and the lists of kinds that fit them.
-- Source: docs/language.md, Typing. A unit is one line with its expressions.
use Rattle.std.specs.Prelude.{ℕ, ◌+◌, List, [], ◌∷◌, ◌++◌, Bool, true, ◌&&◌, Option, Some, None, is_some, map, sum}
use Rattle.std.specs.List.{list_all, flat_map}
use Rattle.yarn_base.specs.declared.Place.{Place}
use Rattle.yarn_value.specs.declared.value.Kind.{Kind}
use Rattle.yarn_value.specs.declared.value.Kind.TheVariants.{Str, Truth}
use Rattle.yarn_value.specs.declared.signature.Signature.{Signature}
use Rattle.yarn_value.specs.Rows.{same_kind}
use Rattle.yarn_expr.specs.declared.tree.BinaryOp.{BinaryOp}
use Rattle.yarn_expr.specs.declared.tree.BinaryOp.TheVariants.{Eq}
use Rattle.yarn_expr.specs.declared.tree.Expr.{Expr}
use Rattle.yarn_types.specs.declared.line.Asks.{Asks}
use Rattle.yarn_types.specs.declared.line.Asks.TheVariants as asks
use Rattle.yarn_types.specs.declared.line.TypeUnit.{TypeUnit}
use Rattle.yarn_types.specs.KindSets.{only}
use Rattle.yarn_types.specs.Names.{Appearance, appearance, with_all}
use Rattle.yarn_types.specs.Fits.{joined, is_in, kind_of, kind_of_variable, names_in, node_count}

-- what one line asks
pub data Asked : Type 0 where
  -- each expression has a kind
  Values : List Expr → Asked
  -- the same, and the condition is a truth
  ValuesIf : List Expr → Expr → Asked
  -- the expression has a kind
  Value : Expr → Asked
  -- it is a truth
  Condition : Expr → Asked
  -- it is a text
  Title : Expr → Asked
  -- the variable has the kind of what is set
  Set : List ℕ → Option BinaryOp → Expr → Asked
  -- the variable has the kind of its literal and of its `as` word
  Declare : List ℕ → Kind → Option Kind → Asked

pub record UnitAt : Type 0 where
  pub place : Place
  pub asked : Asked

-- what the code's references stand for
abbrev pub asked_of : Asks → Asked
asked_of (asks.Values exprs) = Values exprs.now
asked_of (asks.ValuesIf exprs condition) = ValuesIf exprs.now condition.now
asked_of (asks.Value expr) = Value expr.now
asked_of (asks.Condition expr) = Condition expr.now
asked_of (asks.Title expr) = Title expr.now
asked_of (asks.Set name op expr) = Set name.now op expr.now
asked_of (asks.Declare name kind word) = Declare name.now kind word

abbrev pub unit_of : TypeUnit → UnitAt
unit_of unit = record { place = unit.place; asked = asked_of unit.asks }

-- ---- the variables

abbrev pub names_in_all : List Expr → List (List ℕ)
names_in_all = flat_map names_in

-- the variables of a line, in order of the text
abbrev pub names_asked : Asked → List (List ℕ)
names_asked (Values exprs) = names_in_all exprs
names_asked (ValuesIf exprs condition) = names_in_all exprs ++ names_in condition
names_asked (Value expr) = names_in expr
names_asked (Condition expr) = names_in expr
names_asked (Title expr) = names_in expr
names_asked (Set name op expr) = name ∷ names_in expr
names_asked (Declare name kind word) = name ∷ []

-- names at a place
abbrev pub at_place : Place → List (List ℕ) → List Appearance
at_place place = map (λ name. appearance name place)

abbrev pub appearances_in : UnitAt → List Appearance
appearances_in unit = at_place unit.place (names_asked unit.asked)

-- the variables of all lines, each where it first appears
abbrev pub variables_of : List UnitAt → List Appearance
variables_of units = with_all [] (flat_map appearances_in units)

-- ---- the lists that fit

-- whether an `as` word, where there is one, is the literal's kind
abbrev pub agrees : Kind → Option Kind → Bool
agrees kind (Some word) = same_kind kind word
agrees kind None = true

module _ (signatures : List Signature) (variables : List Appearance) (typing : List Kind) where
  abbrev pub has_kind : Expr → Bool
  has_kind expr = is_some (kind_of signatures variables typing expr)

  abbrev pub is_truth : Expr → Bool
  is_truth expr = is_in (only Truth) (kind_of signatures variables typing expr)

  -- the kind of what is set: that of the expression, or of the operator on the variable and the expression
  abbrev pub kind_set : List ℕ → Option BinaryOp → Expr → Option Kind
  kind_set name (Some op) expr = joined op (kind_of_variable variables typing name) (kind_of signatures variables typing expr)
  kind_set name None expr = kind_of signatures variables typing expr

  abbrev pub fits_asked : Asked → Bool
  fits_asked (Values exprs) = list_all has_kind exprs
  fits_asked (ValuesIf exprs condition) = list_all has_kind exprs && is_truth condition
  fits_asked (Value expr) = has_kind expr
  fits_asked (Condition expr) = is_truth expr
  fits_asked (Title expr) = is_in (only Str) (kind_of signatures variables typing expr)
  fits_asked (Set name op expr) = is_some (joined Eq (kind_of_variable variables typing name) (kind_set name op expr))
  fits_asked (Declare name kind word) = agrees kind word && is_in (only kind) (kind_of_variable variables typing name)

  abbrev pub fits_all : List UnitAt → Bool
  fits_all = list_all (λ unit. fits_asked unit.asked)

-- ---- sizes

-- a line and its nodes
abbrev pub asked_size : Asked → ℕ
asked_size (Values exprs) = 1 + sum (map node_count exprs)
asked_size (ValuesIf exprs condition) = 1 + sum (map node_count exprs) + node_count condition
asked_size (Value expr) = 1 + node_count expr
asked_size (Condition expr) = 1 + node_count expr
asked_size (Title expr) = 1 + node_count expr
asked_size (Set name op expr) = 1 + node_count expr
asked_size (Declare name kind word) = 1

abbrev pub units_size : List UnitAt → ℕ
units_size units = sum (map (λ unit. asked_size unit.asked) units)
