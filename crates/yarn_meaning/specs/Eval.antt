-- The value of an expression (docs/language.md, The meaning, Operators and builtins).
use Rattle.std.specs.Prelude.{unwrap_or, ℕ, pos, List, [], ◌∷◌, false, Option, Some, None, Result, Ok, Err}
use Rattle.yarn_value.specs.declared.value.Value.{Value}
use Rattle.yarn_value.specs.declared.value.Value.TheVariants.{Number, Str, Truth}
use Rattle.yarn_value.specs.declared.value.Kind.{Kind}
use Rattle.yarn_value.specs.declared.fault.RunFault.{RunFault}
use Rattle.yarn_value.specs.declared.operation.Op.{Op}
use Rattle.yarn_value.specs.declared.operation.Op.TheVariants as op
use Rattle.yarn_value.specs.Builtins.{Row, builtin_named}
use Rattle.yarn_value.specs.Operations.{operation}
use Rattle.yarn_value.specs.Pairs.{Pairs, value_under}
use Rattle.yarn_value.specs.Tape.{Tape}
use Rattle.yarn_value.specs.Evaluation.{Scope, Evaluated, Gives, Halts, Faults, and_then}
use Rattle.yarn_value.specs.Visits.{visits, of_visits}
use Rattle.yarn_value.specs.Replies.{replied}
use Rattle.yarn_expr.specs.declared.tree.UnaryOp.{UnaryOp}
use Rattle.yarn_expr.specs.declared.tree.UnaryOp.TheVariants.{Neg, Not}
use Rattle.yarn_expr.specs.declared.tree.BinaryOp.{BinaryOp}
use Rattle.yarn_expr.specs.declared.tree.BinaryOp.TheVariants.{Mul, Div, Rem, Add, Sub, Lte, Gte, Lt, Gt, Eq, Neq, And, Or, Xor}
use Rattle.yarn_expr.specs.declared.tree.Expr.{Expr}
use Rattle.yarn_expr.specs.declared.tree.Expr.TheOpen.{Expr-F}
use Rattle.yarn_expr.specs.declared.tree.Expr.TheFolds.{fold-Expr}

-- ---- operators

abbrev pub unary_op : UnaryOp → Op
unary_op Neg = op.Neg
unary_op Not = op.Not

-- `+` joins texts, and adds numbers
abbrev pub plus_of : Value → Op
plus_of (Str text) = op.Concat
plus_of (Number n) = op.Add
plus_of (Truth b) = op.Add

-- the operation of an operator behind such a left side
abbrev pub binary_op : BinaryOp → Value → Op
binary_op Mul left = op.Mul
binary_op Div left = op.Div
binary_op Rem left = op.Rem
binary_op Add left = plus_of left
binary_op Sub left = op.Sub
binary_op Lte left = op.Lte
binary_op Gte left = op.Gte
binary_op Lt left = op.Lt
binary_op Gt left = op.Gt
binary_op Eq left = op.Eq
binary_op Neq left = op.Neq
binary_op And left = op.And
binary_op Or left = op.Or
binary_op Xor left = op.Xor

-- what an operation gives. Values of other kinds than it takes, which the one typing of a project excludes, give False.
abbrev pub of_outcome : Option (Result Value RunFault) → Tape → Evaluated Value
of_outcome (Some (Ok value)) t = Gives value t
of_outcome (Some (Err fault)) t = Halts (Faults fault) t
of_outcome None t = Gives (Truth false) t

abbrev pub operated : Op → List Value → Tape → Evaluated Value
operated op values t = of_outcome (operation op values) t

-- ---- the store

-- the value of a variable; 0 where the store doesn't have it, as it has all variables of a project
abbrev pub stored : Pairs → List ℕ → Value
stored store name = unwrap_or (value_under store name) (Number (pos 0))

-- ---- calls

-- a builtin that isn't an operation
abbrev pub known_value : Scope → Pairs → Kind → List Value → Value
known_value scope store result (Str title ∷ []) = of_visits result (visits store title)
known_value scope store result _ = Truth false

-- a builtin that needs the store, or one that doesn't
abbrev pub builtin_value : Scope → Pairs → Option Op → Kind → List Value → Tape → Evaluated Value
builtin_value scope store None result args t = Gives (known_value scope store result args) t
builtin_value scope store (Some op) result args t = operated op args t

abbrev pub called : Scope → Pairs → Option Row → List ℕ → List Value → Tape → Evaluated Value
called scope store None name args t = replied scope.functions name args t
called scope store (Some row) name args t = builtin_value scope store row.op row.result args t

-- ---- expressions

-- from the left
abbrev pub each : List (Tape → Evaluated Value) → Tape → Evaluated (List Value)
each [] t = Gives [] t
each (e ∷ es) t = and_then (e t) (λ v t1. and_then (each es t1) (λ vs t2. Gives (v ∷ vs) t2))

-- one node, with what each part gives in its place; both sides of an operator are evaluated
abbrev pub eval_step : Scope → Pairs → Expr-F (Tape → Evaluated Value) → Tape → Evaluated Value
eval_step scope store (Expr-F.Number n) t = Gives (Number n) t
eval_step scope store (Expr-F.Str text) t = Gives (Str text) t
eval_step scope store (Expr-F.Truth b) t = Gives (Truth b) t
eval_step scope store (Expr-F.Variable name) t = Gives (stored store name) t
eval_step scope store (Expr-F.Group inner) t = inner t
eval_step scope store (Expr-F.Unary op inner) t = and_then (inner t) (λ v t1. operated (unary_op op) (v ∷ []) t1)
eval_step scope store (Expr-F.Binary op left right) t =
    and_then (left t) (λ v t1. and_then (right t1) (λ w t2. operated (binary_op op v) (v ∷ w ∷ []) t2))
eval_step scope store (Expr-F.Call name args) t =
    and_then (each args t) (λ vs t1. called scope store (builtin_named name) name vs t1)

abbrev pub eval : Scope → Pairs → Expr → Tape → Evaluated Value
eval scope store = fold-Expr (Tape → Evaluated Value) (eval_step scope store)

abbrev pub eval_all : Scope → Pairs → List Expr → Tape → Evaluated (List Value)
eval_all scope store [] t = Gives [] t
eval_all scope store (e ∷ es) t = and_then (eval scope store e t) (λ v t1. and_then (eval_all scope store es t1) (λ vs t2. Gives (v ∷ vs) t2))
