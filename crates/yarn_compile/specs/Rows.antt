-- The rows that stand for operators in code (docs/instructions.md, The code of a project).
use Rattle.std.specs.Prelude.{◌≡◌, ℕ, pos, ◌+ℤ◌, List, [], ◌∷◌, Some}
use Rattle.yarn_value.specs.declared.value.Value.{Value}
use Rattle.yarn_value.specs.declared.value.Value.TheVariants.{Number}
use Rattle.yarn_value.specs.declared.value.Kind.TheVariants as kind
use Rattle.yarn_value.specs.declared.operation.Op.TheVariants.{Add}
use Rattle.yarn_value.specs.Builtins.{applied, builtin_named}
use Rattle.yarn_value.specs.Values.{kind_of}
use Rattle.yarn_value.specs.Operations.{number, operation}
use Rattle.yarn_expr.specs.declared.tree.UnaryOp.{UnaryOp}
use Rattle.yarn_expr.specs.declared.tree.BinaryOp.{BinaryOp}
use Rattle.yarn_value.specs.Pairs.{Pairs}
use Rattle.yarn_meaning.specs.Eval.{unary_op, binary_op, stored}
use Rattle.yarn_value.specs.Visits.{count_name, visits}
use Rattle.yarn_compile.specs.Code.{unary_name, binary_name}
use Rattle.yarn_code.specs.Kinds.{HasKind}

-- the code's name of an operator, by the kind of its left side, is the row of the operation that the left side's value gives
pub record OperatorsHaveRows : Type 0 where
  pub unary : (o : UnaryOp) → builtin_named (unary_name o) ≡ Some (applied (unary_name o) (unary_op o))
  pub binary : (o : BinaryOp) (v : Value) → builtin_named (binary_name o (Some (kind_of v))) ≡ Some (applied (binary_name o (Some (kind_of v))) (binary_op o v))

-- so the code's sum on a count is the next count
abbrev pub CountsRise : Type 0
CountsRise = (store : Pairs) (title : List ℕ) → HasKind store (count_name title) kind.Number →
    operation Add (stored store (count_name title) ∷ Number (pos 1) ∷ []) ≡ Some (number (visits store title +ℤ pos 1))
