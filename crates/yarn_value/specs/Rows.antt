-- What the operations and builtins take and give: the columns of their table.
use Rattle.std.specs.Prelude.{List, [], ◌∷◌, map, Bool, true, false, ◌&&◌, Option, Some, None, IsTrue}
use Rattle.yarn_value.specs.Values.{kind_of}
use Rattle.yarn_value.specs.declared.value.Value.{Value}
use Rattle.yarn_value.specs.declared.value.Kind.{Kind}
use Rattle.yarn_value.specs.declared.value.Kind.TheVariants.{Number, Str, Truth}
use Rattle.yarn_value.specs.declared.operation.Op.{Op}
use Rattle.yarn_value.specs.declared.operation.Op.TheVariants.{Add, And, Concat, Div, Eq, Gt, Gte, Lt, Lte, Mul, Neg, Neq, Not, Or, Rem, Sub, Xor, TruthOf, NumberOf, TextOf}
use Rattle.yarn_value.specs.declared.builtin.Param.{Param}
use Rattle.yarn_value.specs.declared.builtin.Param.TheVariants.{One, Any, Same}

abbrev pub same_kind : Kind → Kind → Bool
same_kind Number Number = true
same_kind Str Str = true
same_kind Truth Truth = true
same_kind _ _ = false

-- an argument of this kind, behind a first argument of that kind
abbrev pub accepts : Param → Kind → Kind → Bool
accepts (One kind) first this = same_kind kind this
accepts Any first this = true
accepts Same first this = same_kind first this

-- the kinds of all arguments
abbrev pub takes : Option Param → Option Param → List Kind → Bool
takes None None [] = true
takes (Some p) None (k ∷ []) = accepts p k k
takes (Some p) (Some q) (k ∷ l ∷ []) = accepts p k k && accepts q k l
takes _ _ _ = false

abbrev pub first_of : Op → Option Param
first_of Add = Some (One Number)
first_of And = Some (One Truth)
first_of Concat = Some (One Str)
first_of Div = Some (One Number)
first_of Eq = Some Any
first_of Gt = Some (One Number)
first_of Gte = Some (One Number)
first_of Lt = Some (One Number)
first_of Lte = Some (One Number)
first_of Mul = Some (One Number)
first_of Neg = Some (One Number)
first_of Neq = Some Any
first_of Not = Some (One Truth)
first_of Or = Some (One Truth)
first_of Rem = Some (One Number)
first_of Sub = Some (One Number)
first_of Xor = Some (One Truth)
first_of TruthOf = Some Any
first_of NumberOf = Some Any
first_of TextOf = Some Any

abbrev pub second_of : Op → Option Param
second_of Neg = None
second_of Not = None
second_of TruthOf = None
second_of NumberOf = None
second_of TextOf = None
second_of Eq = Some Same
second_of Neq = Some Same
second_of op = first_of op

abbrev pub result_of : Op → Kind
result_of Add = Number
result_of Concat = Str
result_of Div = Number
result_of Mul = Number
result_of Neg = Number
result_of Rem = Number
result_of Sub = Number
result_of NumberOf = Number
result_of TextOf = Str
result_of _ = Truth

-- the arguments have the kinds of the operation's row
abbrev pub HasKinds : Op → List Value → Type 0
HasKinds op args = IsTrue (takes (first_of op) (second_of op) (map kind_of args))
