-- Evaluation that gives nothing where the meaning would make a value up, as none is there of the kind that is needed (docs/meaning.md, Kinds).
use Rattle.std.specs.Prelude.{◌≡◌, ℕ, List, [], ◌∷◌, Option, Some, None, Result, Ok, Err, true}
use Rattle.std.specs.Option.{option_map}
use Rattle.yarn_value.specs.declared.value.Value.{Value}
use Rattle.yarn_value.specs.declared.value.Value.TheVariants.{Number, Str, Truth}
use Rattle.yarn_value.specs.declared.value.Kind.{Kind}
use Rattle.yarn_value.specs.declared.value.Kind.TheVariants as kind
use Rattle.yarn_value.specs.declared.fault.RunFault.{RunFault}
use Rattle.yarn_value.specs.declared.operation.Op.{Op}
use Rattle.yarn_value.specs.Builtins.{Row, builtin_named}
use Rattle.yarn_value.specs.Operations.{operation}
use Rattle.yarn_value.specs.Calls.{row_result}
use Rattle.yarn_expr.specs.declared.tree.BinaryOp.{BinaryOp}
use Rattle.yarn_expr.specs.declared.tree.Expr.{Expr}
use Rattle.yarn_expr.specs.declared.tree.Expr.TheOpen.{Expr-F}
use Rattle.yarn_expr.specs.declared.tree.Expr.TheFolds.{fold-Expr}
use Rattle.yarn_types.specs.Names.{Appearance}
use Rattle.yarn_types.specs.Fits as fits
use Rattle.yarn_types.specs.Units.{Set, fits_asked}
use Rattle.yarn_value.specs.Pairs.{value_under, Pairs}
use Rattle.yarn_value.specs.Tape.{Tape}
use Rattle.yarn_meaning.specs.Eval.{unary_op, binary_op, eval}
use Rattle.yarn_value.specs.Evaluation.{Scope, Evaluated, Gives, Halts, Faults}
use Rattle.yarn_value.specs.Visits.{visits, of_visits}
use Rattle.yarn_value.specs.Replies.{replied}
use Rattle.yarn_meaning.specs.Does.{set_value}
use Rattle.yarn_kinds.specs.Typed.{Keeps}

abbrev pub strict_then : {A B : Type 0} → Option (Evaluated A) → (A → Tape → Option (Evaluated B)) → Option (Evaluated B)
strict_then None f = None
strict_then (Some (Gives v t)) f = f v t
strict_then (Some (Halts h t)) f = Some (Halts h t)

abbrev pub strict_value : Option Value → Tape → Option (Evaluated Value)
strict_value found t = option_map (λ v. Gives v t) found

-- an operation has an outcome
abbrev pub strict_outcome : Option (Result Value RunFault) → Tape → Option (Evaluated Value)
strict_outcome (Some (Ok value)) t = Some (Gives value t)
strict_outcome (Some (Err fault)) t = Some (Halts (Faults fault) t)
strict_outcome None t = None

-- a builtin has a result
abbrev pub strict_builtin : Scope → Pairs → Option Op → Kind → List Value → Tape → Option (Evaluated Value)
strict_builtin scope store op result args t = strict_outcome (row_result scope store op result args) t

abbrev pub strict_called : Scope → Pairs → Option Row → List ℕ → List Value → Tape → Option (Evaluated Value)
strict_called scope store None name args t = Some (replied scope.functions name args t)
strict_called scope store (Some row) name args t = strict_builtin scope store row.op row.result args t

abbrev pub strict_each : List (Tape → Option (Evaluated Value)) → Tape → Option (Evaluated (List Value))
strict_each [] t = Some (Gives [] t)
strict_each (e ∷ es) t = strict_then (e t) (λ v t1. strict_then (strict_each es t1) (λ vs t2. Some (Gives (v ∷ vs) t2)))

abbrev pub strict_step : Scope → Pairs → Expr-F (Tape → Option (Evaluated Value)) → Tape → Option (Evaluated Value)
strict_step scope store (Expr-F.Number n) t = Some (Gives (Number n) t)
strict_step scope store (Expr-F.Str text) t = Some (Gives (Str text) t)
strict_step scope store (Expr-F.Truth b) t = Some (Gives (Truth b) t)
strict_step scope store (Expr-F.Variable name) t = strict_value (value_under store name) t
strict_step scope store (Expr-F.Group inner) t = inner t
strict_step scope store (Expr-F.Unary op inner) t = strict_then (inner t) (λ v t1. strict_outcome (operation (unary_op op) (v ∷ [])) t1)
strict_step scope store (Expr-F.Binary op left right) t =
    strict_then (left t) (λ v t1. strict_then (right t1) (λ w t2. strict_outcome (operation (binary_op op v) (v ∷ w ∷ [])) t2))
strict_step scope store (Expr-F.Call name args) t =
    strict_then (strict_each args t) (λ vs t1. strict_called scope store (builtin_named name) name vs t1)

abbrev pub strict : Scope → Pairs → Expr → Tape → Option (Evaluated Value)
strict scope store = fold-Expr (Tape → Option (Evaluated Value)) (strict_step scope store)

-- no value is made up for an expression that has a kind
abbrev pub MakesNothingUp : Type 0
MakesNothingUp = (scope : Scope) (variables : List Appearance) (kinds : List Kind) (store : Pairs) (e : Expr) (kind : Kind) (tape : Tape) →
    Keeps variables kinds store → fits.kind_of scope.functions variables kinds e ≡ Some kind → strict scope store e tape ≡ Some (eval scope store e tape)

-- what is set, with nothing made up
abbrev pub strict_set : Scope → List ℕ → Option BinaryOp → Expr → Pairs → Tape → Option (Evaluated Value)
strict_set scope name None e store t = strict scope store e t
strict_set scope name (Some op) e store t =
    strict_then (strict scope store e t)
    (λ v t1. strict_then (strict_value (value_under store name) t1) (λ x t2. strict_outcome (operation (binary_op op x) (x ∷ v ∷ [])) t2))

-- no value is made up for a `set` that fits
abbrev pub SetsMakeNothingUp : Type 0
SetsMakeNothingUp = (scope : Scope) (variables : List Appearance) (kinds : List Kind) (store : Pairs) (name : List ℕ) (op : Option BinaryOp) (e : Expr) (tape : Tape) →
    Keeps variables kinds store → fits_asked scope.functions variables kinds (Set name op e) ≡ true →
    strict_set scope name op e store tape ≡ Some (set_value scope name op e store tape)
