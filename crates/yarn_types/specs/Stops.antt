-- Where lines stop fitting, words of private functions.
use Rattle.std.specs.Prelude.{◌≡◌, ℕ, ◌+◌, List, Bool, true, Some, is_some, take, slice_get}
use Rattle.std.specs.List.{list_all}
use Rattle.yarn_base.specs.declared.Place.{Place}
use Rattle.yarn_value.specs.declared.value.Kind.{Kind}
use Rattle.yarn_expr.specs.declared.tree.Expr.{Expr}
use Rattle.yarn_types.specs.declared.class.Classes.{Classes}
use Rattle.yarn_types.specs.declared.expression.Scope.{Scope}
use Rattle.yarn_types.specs.declared.fault.TypeFault.{TypeFault}
use Rattle.yarn_types.specs.declared.fault.TypeFault.TheVariants.{NoTyping, ManyTypings, Memory}
use Rattle.yarn_types.specs.Names.{Appearance, appearance}
use Rattle.yarn_types.specs.Classes.{Allows, Refuses, IsOpenAt}
use Rattle.yarn_types.specs.Units.{UnitAt}
use Rattle.yarn_types.specs.Founds.{kind_under, units_under}

-- whether each expression has a kind
abbrev pub has_kinds : Scope → List Expr → List Kind → Bool
has_kinds scope exprs typing = list_all (λ expr. is_some (kind_under scope expr typing)) exprs

-- some list that is allowed fits the lines before one, and none fits them and it
pub record StopsAt (c : Classes) (scope : Scope) (units : List UnitAt) (place : Place) : Type 0 where
  pub at : ℕ
  pub unit : UnitAt
  pub stands : slice_get units at ≡ Some unit
  pub placed : unit.place ≡ place
  pub typing : List Kind
  pub allowed : Allows c typing
  pub fits : units_under scope (take at units) typing ≡ true
  pub none : Refuses c (units_under scope (take (at + 1) units))

-- a variable whose class may have two kinds, the first of them
pub record OpensAt (c : Classes) (variables : List Appearance) (name : List ℕ) (place : Place) : Type 0 where
  pub at : ℕ
  pub stands : slice_get variables at ≡ Some (appearance name place)
  pub two : IsOpenAt c at

-- what reading off the classes' sets answers where there is more than one typing
abbrev pub ReadsOpen : Classes → List Appearance → TypeFault → Type 0
ReadsOpen c variables (NoTyping place) = ⊥
ReadsOpen c variables (ManyTypings name place) = OpensAt c variables name place
ReadsOpen c variables Memory = Unit {0}
