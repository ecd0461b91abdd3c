-- The kind that an expression has under a list of kinds, one for each variable: none where it has no kind.
-- Source: docs/language.md, Typing, and Operators and builtins.
use Rattle.std.specs.Prelude.{ℕ, ◌+◌, List, [], ◌∷◌, ◌++◌, Bool, true, false, ◌&&◌, if◌then◌else◌, Option, Some, None, slice_get, sum}
use Rattle.std.specs.List.{flat_map}
use Rattle.std.specs.Option.{option_map, option_and_then}
use Rattle.yarn_value.specs.declared.value.Kind.{Kind}
use Rattle.yarn_value.specs.declared.value.Kind.TheVariants.{Number, Str, Truth}
use Rattle.yarn_value.specs.declared.signature.Signature.{Signature}
use Rattle.yarn_value.specs.declared.builtin.Param.{Param}
use Rattle.yarn_value.specs.Builtins.{Row, builtin_named}
use Rattle.yarn_value.specs.Rows.{same_kind, takes}
use Rattle.yarn_expr.specs.declared.tree.UnaryOp.{UnaryOp}
use Rattle.yarn_expr.specs.declared.tree.UnaryOp.TheVariants.{Neg, Not}
use Rattle.yarn_expr.specs.declared.tree.BinaryOp.{BinaryOp}
use Rattle.yarn_expr.specs.declared.tree.BinaryOp.TheVariants.{Mul, Div, Rem, Add, Sub, Lte, Gte, Lt, Gt, Eq, Neq, And, Or, Xor}
use Rattle.yarn_expr.specs.declared.tree.Expr.{Expr}
use Rattle.yarn_expr.specs.declared.tree.Expr.TheOpen.{Expr-F}
use Rattle.yarn_expr.specs.declared.tree.Expr.TheFolds.{fold-Expr}
use Rattle.yarn_types.specs.declared.kind_set.KindSet.{KindSet}
use Rattle.yarn_types.specs.KindSets.{holds, only, all_kinds}
use Rattle.yarn_types.specs.Names.{Appearance, place_of}
use Rattle.yarn_value.specs.Signatures.{signature_named}

-- the kinds that an operator takes on both sides
abbrev pub taken_by : BinaryOp → KindSet
taken_by Mul = only Number
taken_by Div = only Number
taken_by Rem = only Number
taken_by Add = record { number = true; string = true; truth = false }
taken_by Sub = only Number
taken_by Lte = only Number
taken_by Gte = only Number
taken_by Lt = only Number
taken_by Gt = only Number
taken_by Eq = all_kinds
taken_by Neq = all_kinds
taken_by And = only Truth
taken_by Or = only Truth
taken_by Xor = only Truth

-- the kind that it gives on operands of a kind
abbrev pub given_by : BinaryOp → Kind → Kind
given_by Mul kind = Number
given_by Div kind = Number
given_by Rem kind = Number
given_by Add kind = kind
given_by Sub kind = Number
given_by Lte kind = Truth
given_by Gte kind = Truth
given_by Lt kind = Truth
given_by Gt kind = Truth
given_by Eq kind = Truth
given_by Neq kind = Truth
given_by And kind = Truth
given_by Or kind = Truth
given_by Xor kind = Truth

-- an operator between two operands, which are of one kind
abbrev pub joined : BinaryOp → Option Kind → Option Kind → Option Kind
joined op (Some a) (Some b) = if same_kind a b && holds (taken_by op) a then Some (given_by op a) else None
joined op (Some a) None = None
joined op None b = None

-- the kind that `-` and `not` take and give
abbrev pub unary_kind : UnaryOp → Kind
unary_kind Neg = Number
unary_kind Not = Truth

-- whether there is a kind, and it is of this set
abbrev pub is_in : KindSet → Option Kind → Bool
is_in set (Some kind) = holds set kind
is_in set None = false

-- whether arguments are as many as the kinds of a signature, and each has its kind
abbrev pub takes_each : List Kind → List (Option Kind) → Bool
takes_each [] [] = true
takes_each [] (arg ∷ args) = false
takes_each (param ∷ params) [] = false
takes_each (param ∷ params) (arg ∷ args) = is_in (only param) arg && takes_each params args

-- the kinds of arguments, where each has one
abbrev pub kinds_of : List (Option Kind) → Option (List Kind)
kinds_of [] = Some []
kinds_of (arg ∷ args) = option_and_then (λ kind. option_map (λ kinds. kind ∷ kinds) (kinds_of args)) arg

-- whether they are the arguments of a builtin's row
abbrev pub row_takes : Option Param → Option Param → Option (List Kind) → Bool
row_takes first second (Some kinds) = takes first second kinds
row_takes first second None = false

-- a call of a builtin, or of a host function that is none
abbrev pub called : Option Row → Option Signature → List (Option Kind) → Option Kind
called (Some row) signature args = if row_takes row.first row.second (kinds_of args) then Some row.result else None
called None (Some signature) args = if takes_each signature.params args then Some signature.result else None
called None None args = None

abbrev pub kind_of_variable : List Appearance → List Kind → List ℕ → Option Kind
kind_of_variable variables typing name = option_and_then (slice_get typing) (place_of variables name)

-- one node, with the kind of each part in its place
abbrev pub kind_step : List Signature → List Appearance → List Kind → Expr-F (Option Kind) → Option Kind
kind_step signatures variables typing (Expr-F.Number n) = Some Number
kind_step signatures variables typing (Expr-F.Str text) = Some Str
kind_step signatures variables typing (Expr-F.Truth b) = Some Truth
kind_step signatures variables typing (Expr-F.Variable name) = kind_of_variable variables typing name
kind_step signatures variables typing (Expr-F.Group inner) = inner
kind_step signatures variables typing (Expr-F.Unary op inner) = if is_in (only (unary_kind op)) inner then Some (unary_kind op) else None
kind_step signatures variables typing (Expr-F.Binary op left right) = joined op left right
kind_step signatures variables typing (Expr-F.Call name args) = called (builtin_named name) (signature_named signatures name) args

abbrev pub kind_of : List Signature → List Appearance → List Kind → Expr → Option Kind
kind_of signatures variables typing = fold-Expr (Option Kind) (kind_step signatures variables typing)

-- the variables of an expression, in order of the text
abbrev pub names_step : Expr-F (List (List ℕ)) → List (List ℕ)
names_step (Expr-F.Variable name) = name ∷ []
names_step (Expr-F.Group inner) = inner
names_step (Expr-F.Unary op inner) = inner
names_step (Expr-F.Binary op left right) = left ++ right
names_step (Expr-F.Call name args) = flat_map (λ arg. arg) args
names_step _ = []

abbrev pub names_in : Expr → List (List ℕ)
names_in = fold-Expr (List (List ℕ)) names_step

-- how many nodes an expression has
abbrev pub count_step : Expr-F ℕ → ℕ
count_step (Expr-F.Group inner) = 1 + inner
count_step (Expr-F.Unary op inner) = 1 + inner
count_step (Expr-F.Binary op left right) = 1 + left + right
count_step (Expr-F.Call name args) = 1 + sum args
count_step _ = 1

abbrev pub node_count : Expr → ℕ
node_count = fold-Expr ℕ count_step
