-- What is found of a kind, a word of private functions.
use Rattle.std.specs.Prelude.{ℕ, List, Bool, ◌&&◌, Option, map, get_or}
use Rattle.yarn_value.specs.declared.value.Kind.{Kind}
use Rattle.yarn_value.specs.declared.value.Kind.TheVariants.{Number, Truth}
use Rattle.yarn_value.specs.declared.builtin.Param.{Param}
use Rattle.yarn_value.specs.Rows.{accepts}
use Rattle.yarn_expr.specs.declared.tree.BinaryOp.{BinaryOp}
use Rattle.yarn_expr.specs.declared.tree.BinaryOp.TheVariants.{Mul, Div, Rem, Add, Sub, Lte, Gte, Lt, Gt, Eq, Neq, And, Or, Xor}
use Rattle.yarn_expr.specs.declared.tree.Expr.{Expr}
use Rattle.yarn_types.specs.declared.finding.Found.{Found}
use Rattle.yarn_types.specs.declared.finding.Found.TheVariants.{Known, OfVariable}
use Rattle.yarn_types.specs.declared.expression.Scope.{Scope}
use Rattle.yarn_types.specs.Typings.{kind_at}
use Rattle.yarn_types.specs.Fits.{kind_of, kind_of_variable, called, kinds_of, row_takes, takes_each}
use Rattle.yarn_value.specs.Builtins.{builtin_named}
use Rattle.yarn_value.specs.Signatures.{signature_named}
use Rattle.yarn_types.specs.Units.{Asked, UnitAt, fits_asked, fits_all, kind_set}

-- the kind that a list gives what was found
abbrev pub kind_in : Found → List Kind → Kind
kind_in (Known kind) typing = kind
kind_in (OfVariable variable) typing = kind_at typing variable

-- what is found of an operator's value
abbrev pub given_in : BinaryOp → Found → Found
given_in Mul found = Known Number
given_in Div found = Known Number
given_in Rem found = Known Number
given_in Add found = found
given_in Sub found = Known Number
given_in Lte found = Known Truth
given_in Gte found = Known Truth
given_in Lt found = Known Truth
given_in Gt found = Known Truth
given_in Eq found = Known Truth
given_in Neq found = Known Truth
given_in And found = Known Truth
given_in Or found = Known Truth
given_in Xor found = Known Truth

-- the kind of an expression, asked of a list
abbrev pub kind_under : Scope → Expr → List Kind → Option Kind
kind_under scope expr typing = kind_of scope.functions scope.names typing expr

abbrev pub variable_under : Scope → List ℕ → List Kind → Option Kind
variable_under scope name typing = kind_of_variable scope.names typing name

-- the kinds of arguments
abbrev pub each_under : Scope → List Expr → List Kind → List (Option Kind)
each_under scope args typing = map (λ arg. kind_under scope arg typing) args

abbrev pub call_under : Scope → List ℕ → List Expr → List Kind → Option Kind
call_under scope name args typing = called (builtin_named name) (signature_named scope.functions name) (each_under scope args typing)

-- whether arguments are those of a builtin's row
abbrev pub row_under : Scope → Option Param → Option Param → List Expr → List Kind → Bool
row_under scope first second args typing = row_takes first second (kinds_of (each_under scope args typing))

-- whether they are those of a signature
abbrev pub args_under : Scope → List Kind → List Expr → List Kind → Bool
args_under scope params args typing = takes_each params (each_under scope args typing)

abbrev pub both_accept : Param → Param → Kind → Kind → Bool
both_accept param next first this = accepts param first first && accepts next first this

abbrev pub kind_of_param : List Kind → ℕ → Kind
kind_of_param params at = get_or params at Number

-- whether a list fits what a line asks
abbrev pub asked_under : Scope → Asked → List Kind → Bool
asked_under scope asked typing = fits_asked scope.functions scope.names typing asked

abbrev pub units_under : Scope → List UnitAt → List Kind → Bool
units_under scope units typing = fits_all scope.functions scope.names typing units

-- the kind of what is set
abbrev pub set_under : Scope → List ℕ → Option BinaryOp → Expr → List Kind → Option Kind
set_under scope name op expr typing = kind_set scope.functions scope.names typing name op expr
