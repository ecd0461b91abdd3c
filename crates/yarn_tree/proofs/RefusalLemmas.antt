-- What a refusal tells of the places of all kinds, which are looked at one after the other.
use Rattle.std.proofs.Common.{◌≡◌, ◌↔◌, ℕ, List, [], ◌∷◌, ◌++◌, Bool, true, false, not, ◌&&◌, nat_eq, Option, Some, None, refl, sym, ap, ◌∙◌}
use Rattle.std.proofs.lemmas.Bool.{eq-eqb}
use Rattle.yarn_base.specs.declared.Place.{Place}
use Rattle.yarn_tree.specs.declared.refusal.RefusalKind.{RefusalKind}
use Rattle.yarn_tree.specs.declared.refusal.RefusalKind.TheVariants as kind
use Rattle.yarn_tree.specs.Reading.{Reading, Reads, Refuses, unless}

-- kinds in their order, each with its place, where it has one
abbrev pub Chain : Type 0
Chain = List (RefusalKind × Option Place)

abbrev pub chained : {A : Type 0} → Chain → A → Reading A
chained [] x = Reads x
chained (r ∷ rs) x = unless r.0 r.1 (chained rs x)

abbrev pub NonePlaced : Chain → Type 0
NonePlaced [] = Unit {0}
NonePlaced (r ∷ rs) = (r.1 ≡ None) × NonePlaced rs

abbrev number_of : RefusalKind → ℕ
number_of kind.TooMuch = 0
number_of kind.BadUtf8 = 1
number_of kind.LineTooLong = 2
number_of kind.BadLine = 3
number_of kind.BadStructure = 4
number_of kind.TooDeep = 5
number_of kind.TooMany = 6
number_of kind.Fraction = 7
number_of kind.NumberTooLarge = 8
number_of kind.BadTitle = 9
number_of kind.DuplicateTitle = 10
number_of kind.ReservedName = 11
number_of kind.DuplicateDeclare = 12
number_of kind.UnknownNode = 13
number_of kind.UnknownFunction = 14
number_of kind.WrongArguments = 15
number_of kind.DuplicateLineId = 16

-- the kind isn't among these
abbrev pub lacks : RefusalKind → Chain → Bool
lacks kind [] = true
lacks kind (r ∷ rs) = not (nat_eq (number_of r.0) (number_of kind)) && lacks kind rs

past-lack : (other kind : RefusalKind) (rest : Bool) → (not (nat_eq (number_of other) (number_of kind)) && rest) ≡ true → (other ≡ kind → ⊥) × (rest ≡ true)
past-lack other kind rest is = by_test (nat_eq (number_of other) (number_of kind)) refl
  where
    by_test : (t : Bool) → nat_eq (number_of other) (number_of kind) ≡ t → (other ≡ kind → ⊥) × (rest ≡ true)
    by_test true test = let h = rw test at is in absurd cc
    by_test false test = (
      λ same.
          let e : nat_eq (number_of other) (number_of kind) ≡ true = ap (λ (k : RefusalKind). nat_eq (number_of other) (number_of k)) (sym same) ∙ eq-eqb (number_of other) (number_of other) refl in
          let f : true ≡ false = sym e ∙ test in absurd cc,
      rw test at is,
    )

module _ {A : Type 0} where
  pub avoids : (kind : RefusalKind) (rs : Chain) (x : A) (place : Place) → lacks kind rs ≡ true → chained rs x ≡ Refuses kind place → ⊥
  avoids kind [] x place lack is = absurd cc
  avoids kind ((other, None) ∷ rs) x place lack is = avoids kind rs x place (past-lack other kind (lacks kind rs) lack).1 is
  avoids kind ((other, Some at) ∷ rs) x place lack is = (past-lack other kind (lacks kind rs) lack).0 cc

  here : (kind : RefusalKind) (o : Option Place) (behind : Chain) (x : A) (place : Place) → lacks kind behind ≡ true →
      unless kind o (chained behind x) ≡ Refuses kind place → o ≡ Some place
  here kind None behind x place lack is = absurd (avoids kind behind x place lack is)
  here kind (Some at) behind x place lack is = cc

  -- a kind that is told has its place, and those before it have none
  pub told : (before : Chain) (kind : RefusalKind) (o : Option Place) (behind : Chain) (x : A) (place : Place) → lacks kind before ≡ true →
      lacks kind behind ≡ true → chained (before ++ (kind, o) ∷ behind) x ≡ Refuses kind place → NonePlaced before × (o ≡ Some place)
  told [] kind o behind x place lack lack_behind is = (tt, here kind o behind x place lack_behind is)
  told ((other, None) ∷ before) kind o behind x place lack lack_behind is =
      let rest = told before kind o behind x place (past-lack other kind (lacks kind before) lack).1 lack_behind is in
      ((refl, rest.0), rest.1)
  told ((other, Some at) ∷ before) kind o behind x place lack lack_behind is = absurd ((past-lack other kind (lacks kind before) lack).0 cc)

  pub tell : (before : Chain) (kind : RefusalKind) (o : Option Place) (behind : Chain) (x : A) (place : Place) → NonePlaced before → o ≡ Some place →
      chained (before ++ (kind, o) ∷ behind) x ≡ Refuses kind place
  tell [] kind o behind x place none is = ap (λ (p : Option Place). unless kind p (chained behind x)) is
  tell (r ∷ before) kind o behind x place none is =
      ap (λ (p : Option Place). unless r.0 p (chained (before ++ (kind, o) ∷ behind) x)) none.0 ∙ tell before kind o behind x place none.1 is

  -- what is read, where no kind has a place
  pub all-none : (rs : Chain) (x y : A) → chained rs x ≡ Reads y → NonePlaced rs × (x ≡ y)
  all-none [] x y is = (tt, cc)
  all-none ((other, None) ∷ rs) x y is = let rest = all-none rs x y is in ((refl, rest.0), rest.1)
  all-none ((other, Some at) ∷ rs) x y is = absurd cc

  pub none-all : (rs : Chain) (x : A) → NonePlaced rs → chained rs x ≡ Reads x
  none-all [] x none = refl
  none-all (r ∷ rs) x none = ap (λ (p : Option Place). unless r.0 p (chained rs x)) none.0 ∙ none-all rs x none.1

  -- a reading tells the kind where its place is, after kinds that have none
  pub stands-at : (reading : Reading A) (x : A) (Rec : Type 0) (At : Place → Type 0) (before : Chain) (kind : RefusalKind) (o : Option Place) (behind : Chain) →
      lacks kind before ≡ true → lacks kind behind ≡ true → reading ≡ chained (before ++ (kind, o) ∷ behind) x → (NonePlaced before → Rec) →
      (Rec → NonePlaced before) → (Rec → (place : Place) → (o ≡ Some place) ↔ At place) → (place : Place) → (reading ≡ Refuses kind place) ↔ (Rec × At place)
  stands-at reading x Rec At before kind o behind lack lack_behind same none back some place = (
    λ is.
        let t = told before kind o behind x place lack lack_behind (sym same ∙ is) in
        let rec = none t.0 in
        (rec, (some rec place).0 t.1),
    λ is. same ∙ tell before kind o behind x place (back is.0) ((some is.0 place).1 is.1),
  )

-- one kind more

pub none-more : (rs : Chain) (kind : RefusalKind) (o : Option Place) → NonePlaced rs → o ≡ None → NonePlaced (rs ++ (kind, o) ∷ [])
none-more [] kind o none is = (is, tt)
none-more (r ∷ rs) kind o none is = (none.0, none-more rs kind o none.1 is)

pub more-none : (rs : Chain) (kind : RefusalKind) (o : Option Place) → NonePlaced (rs ++ (kind, o) ∷ []) → NonePlaced rs × (o ≡ None)
more-none [] kind o none = (tt, none.0)
more-none (r ∷ rs) kind o none = let rest = more-none rs kind o none.1 in ((none.0, rest.0), rest.1)
