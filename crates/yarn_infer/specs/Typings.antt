-- The typings of lines, counted among all lists of kinds (docs/language.md, Typing and Refusals of a project).
use Rattle.std.specs.Prelude.{◌≡◌, ℕ, zero, suc, List, [], ◌∷◌, ◌++◌, length, map, Bool, true, false, not, if◌then◌else◌, Option, Some, None, Result, Ok, Err}
use Rattle.std.specs.List.{filter, list_any}
use Rattle.yarn_base.specs.declared.Place.{Place}
use Rattle.yarn_value.specs.declared.value.Kind.{Kind}
use Rattle.yarn_value.specs.declared.value.Kind.TheVariants.{Number, Str, Truth}
use Rattle.yarn_value.specs.declared.signature.Signature.{Signature}
use Rattle.yarn_value.specs.Rows.{same_kind}
use Rattle.yarn_types.specs.declared.fault.TypeFault.{TypeFault}
use Rattle.yarn_types.specs.declared.fault.TypeFault.TheVariants as fault
use Rattle.yarn_types.specs.declared.typed.Typing.{Typing}
use Rattle.yarn_types.specs.declared.typed.TypedName.{TypedName}
use Rattle.yarn_types.specs.Names.{Appearance}
use Rattle.yarn_types.specs.Units.{UnitAt, variables_of, fits_all}

-- a list of kinds with each kind in front
abbrev pub with_each : List (List Kind) → List (List Kind)
with_each lists = map (λ l. Number ∷ l) lists ++ (map (λ l. Str ∷ l) lists ++ map (λ l. Truth ∷ l) lists)

-- all lists of that many kinds
abbrev pub lists_of : ℕ → List (List Kind)
lists_of zero = [] ∷ []
lists_of (suc n) = with_each (lists_of n)

-- those that fit the lines
abbrev pub typings : List Signature → List Appearance → List UnitAt → List (List Kind)
typings signatures variables units = filter (λ typing. fits_all signatures variables typing units) (lists_of (length variables))

-- what is found of the kinds
pub data Kinding : Type 0 where
  -- exactly one list fits
  Typed : List TypedName → Kinding
  -- no list fits the lines up to that one
  Untyped : Place → Kinding
  -- the first variable with two kinds in two lists that fit
  Open : List ℕ → Place → Kinding

-- the variables with their kinds
abbrev pub typed_names : List Appearance → List Kind → List TypedName
typed_names [] kinds = []
typed_names (v ∷ variables) [] = []
typed_names (v ∷ variables) (k ∷ kinds) = record { name = v.name; kind = k } ∷ typed_names variables kinds

-- the first line with which no list fits the lines so far
abbrev pub is_none : List (List Kind) → Bool
is_none [] = true
is_none (l ∷ lists) = false

abbrev pub untyped_at : List Signature → List Appearance → List UnitAt → List UnitAt → Option Place
untyped_at signatures variables before [] = None
untyped_at signatures variables before (u ∷ units) =
    if is_none (typings signatures variables (before ++ u ∷ [])) then Some u.place else untyped_at signatures variables (before ++ u ∷ []) units

-- the first kinds of lists, and the lists behind them
abbrev pub first_kinds : List (List Kind) → List Kind
first_kinds [] = []
first_kinds ([] ∷ lists) = first_kinds lists
first_kinds ((k ∷ kinds) ∷ lists) = k ∷ first_kinds lists

abbrev pub later_kinds : List (List Kind) → List (List Kind)
later_kinds [] = []
later_kinds ([] ∷ lists) = [] ∷ later_kinds lists
later_kinds ((k ∷ kinds) ∷ lists) = kinds ∷ later_kinds lists

-- two of the kinds differ
abbrev pub differ : List Kind → Bool
differ [] = false
differ (k ∷ kinds) = list_any (λ other. not (same_kind k other)) kinds

-- the first variable with two kinds in two lists
abbrev pub open_in : List Appearance → List (List Kind) → Option Appearance
open_in [] lists = None
open_in (v ∷ variables) lists = if differ (first_kinds lists) then Some v else open_in variables (later_kinds lists)

abbrev pub first_list : List (List Kind) → List Kind
first_list [] = []
first_list (l ∷ lists) = l

abbrev pub one_or_open : List Appearance → List (List Kind) → Option Appearance → Kinding
one_or_open variables lists (Some v) = Open v.name v.place
one_or_open variables lists None = Typed (typed_names variables (first_list lists))

abbrev pub kinding_among : List Appearance → List (List Kind) → Option Place → Kinding
kinding_among variables lists (Some place) = Untyped place
kinding_among variables lists None = one_or_open variables lists (open_in variables lists)

-- what is found of the kinds of lines
unfoldable pub kinding_of : List Signature → List UnitAt → Kinding
kinding_of signatures units =
    kinding_among (variables_of units) (typings signatures (variables_of units) units) (untyped_at signatures (variables_of units) [] units)

-- an answer is what is found; want of memory may be answered for any
abbrev pub IsKinding : Kinding → Result Typing TypeFault → Type 0
IsKinding kinding (Ok typing) = kinding ≡ Typed typing.entries
IsKinding kinding (Err (fault.NoTyping place)) = kinding ≡ Untyped place
IsKinding kinding (Err (fault.ManyTypings name place)) = kinding ≡ Open name place
IsKinding kinding (Err fault.Memory) = Unit {0}
