-- The rows that stand for operators in code.
use Rattle.std.proofs.Common.{◌≡◌, pos, [], ◌∷◌, Some, refl, ap}
use Rattle.yarn_value.specs.declared.value.Value.{Value}
use Rattle.yarn_value.specs.declared.value.Value.TheVariants.{Number, Str, Truth}
use Rattle.yarn_value.specs.declared.operation.Op.TheVariants as op
use Rattle.yarn_value.specs.Builtins.{applied, builtin_named}
use Rattle.yarn_value.specs.Values.{kind_of}
use Rattle.yarn_value.specs.Operations.{operation}
use Rattle.yarn_expr.specs.declared.tree.UnaryOp.{UnaryOp}
use Rattle.yarn_expr.specs.declared.tree.UnaryOp.TheVariants.{Neg, Not}
use Rattle.yarn_expr.specs.declared.tree.BinaryOp.{BinaryOp}
use Rattle.yarn_expr.specs.declared.tree.BinaryOp.TheVariants.{Mul, Div, Rem, Add, Sub, Lte, Gte, Lt, Gt, Eq, Neq, And, Or, Xor}
use Rattle.yarn_meaning.specs.Eval.{unary_op, binary_op}
use Rattle.yarn_compile.specs.Code.{unary_name, binary_name}
use Rattle.yarn_compile.specs.Rows.{OperatorsHaveRows, CountsRise}
use Rattle.yarn_kinds.proofs.Begins.{count_is_stored}

unary_row : (o : UnaryOp) → builtin_named (unary_name o) ≡ Some (applied (unary_name o) (unary_op o))
unfolding builtin_named
unary_row Neg = refl
unary_row Not = refl

binary_row : (o : BinaryOp) (v : Value) → builtin_named (binary_name o (Some (kind_of v))) ≡ Some (applied (binary_name o (Some (kind_of v))) (binary_op o v))
unfolding builtin_named
binary_row Mul v = refl
binary_row Div v = refl
binary_row Rem v = refl
binary_row Add (Number n) = refl
binary_row Add (Str text) = refl
binary_row Add (Truth b) = refl
binary_row Sub v = refl
binary_row Lte v = refl
binary_row Gte v = refl
binary_row Lt v = refl
binary_row Gt v = refl
binary_row Eq v = refl
binary_row Neq v = refl
binary_row And v = refl
binary_row Or v = refl
binary_row Xor v = refl

pub operators_have_rows : OperatorsHaveRows
operators_have_rows = record { unary = unary_row; binary = binary_row }

pub counts_rise : CountsRise
counts_rise store title has = ap (λ v. operation op.Add (v ∷ Number (pos 1) ∷ [])) (count_is_stored store title has)
