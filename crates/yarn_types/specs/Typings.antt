-- The typings of a project's lines: lists that give each variable a kind and fit all lines.
-- Source: docs/language.md, Typing and Refusals of a project (NoTyping, ManyTypings).
use Rattle.std.specs.Prelude.{◌≡◌, ℕ, ◌+◌, ◌<◌, ◌≤◌, List, true, length, take, map, get_or, slice_get, Some}
use Rattle.yarn_base.specs.declared.Place.{Place}
use Rattle.yarn_value.specs.declared.value.Kind.{Kind}
use Rattle.yarn_value.specs.declared.value.Kind.TheVariants.{Number}
use Rattle.yarn_value.specs.declared.signature.Signature.{Signature}
use Rattle.yarn_types.specs.declared.fault.TypeFault.{TypeFault}
use Rattle.yarn_types.specs.declared.fault.TypeFault.TheVariants.{NoTyping, ManyTypings, Memory}
use Rattle.yarn_types.specs.declared.typed.Typing.{Typing}
use Rattle.yarn_types.specs.declared.typed.TypedName.{TypedName}
use Rattle.yarn_types.specs.Names.{Appearance}
use Rattle.yarn_types.specs.Units.{UnitAt, variables_of, fits_all}

-- the kind that a list gives the variable at a place
abbrev pub kind_at : List Kind → ℕ → Kind
kind_at typing variable = get_or typing variable Number

abbrev pub kinds_in : List TypedName → List Kind
kinds_in = map (λ entry. entry.kind)

abbrev pub names_in_entries : List TypedName → List (List ℕ)
names_in_entries = map (λ entry. entry.name)

-- the list has one kind for each variable, and fits the lines
pub record Fits (signatures : List Signature) (variables : List Appearance) (units : List UnitAt) (typing : List Kind) : Type 0 where
  pub counted : length typing ≡ length variables
  pub fits : fits_all signatures variables typing units ≡ true

-- exactly one list fits
pub record IsOneTyping (signatures : List Signature) (units : List UnitAt) (typing : Typing) : Type 0 where
  pub named : names_in_entries typing.entries ≡ map (λ variable. variable.name) (variables_of units)
  pub fits : Fits signatures (variables_of units) units (kinds_in typing.entries)
  pub only : (other : List Kind) → Fits signatures (variables_of units) units other → other ≡ kinds_in typing.entries

-- the place of the first line with which no list fits the lines so far
pub record NoTypingAt (signatures : List Signature) (units : List UnitAt) (place : Place) : Type 0 where
  pub at : ℕ
  pub unit : UnitAt
  pub stands : slice_get units at ≡ Some unit
  pub placed : unit.place ≡ place
  pub none : (typing : List Kind) → Fits signatures (variables_of units) (take (at + 1) units) typing → ⊥
  pub least : (n : ℕ) → n ≤ at → (typing : List Kind) × Fits signatures (variables_of units) (take n units) typing

-- the first variable with two kinds in two lists that fit, and where it first appears
pub record ManyTypingsAt (signatures : List Signature) (units : List UnitAt) (name : List ℕ) (place : Place) : Type 0 where
  pub at : ℕ
  pub stands : slice_get (variables_of units) at ≡ Some (record { name = name; place = place })
  pub one : List Kind
  pub other : List Kind
  pub one_fits : Fits signatures (variables_of units) units one
  pub other_fits : Fits signatures (variables_of units) units other
  pub apart : kind_at one at ≡ kind_at other at → ⊥
  pub earlier : (v : ℕ) → v < at → (s t : List Kind) → Fits signatures (variables_of units) units s → Fits signatures (variables_of units) units t → kind_at s v ≡ kind_at t v

-- what each fault says
abbrev pub Explains : List Signature → List UnitAt → TypeFault → Type 0
Explains signatures units (NoTyping place) = NoTypingAt signatures units place
Explains signatures units (ManyTypings name place) = ManyTypingsAt signatures units name place
Explains signatures units Memory = Unit {0}
