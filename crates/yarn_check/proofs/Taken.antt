-- Values that are taken from the top of a stack, whose last entry is the top.
use Rattle.std.proofs.Common.{◌≡◌, ℕ, suc, ◌<◌, ◌+◌, ◌-◌, List, [], ◌∷◌, ◌++◌, Option, Some, None, refl, sym, ap, ◌∙◌, arith, Bool, Result, Ok, Err, IfOk, MatchOption, length, map, reverse, Bor, if◌then◌else◌}
use Rattle.std.specs.Global.{Vec}
use Rattle.std.proofs.lemmas.Option.{MatchOption-at_some}
use Rattle.std.specs.Prelude.{slice_get, is_some}
use Rattle.std.specs.Option.{option_copied}
use Rattle.std.proofs.lemmas.List.{reverse-append, map-append}
use Rattle.yarn_value.specs.declared.value.Kind.{Kind}
use Rattle.yarn_check.specs.declared.entry.ShapeEntry.{ShapeEntry as Entry}
use Rattle.yarn_check.specs.Views.{entry_of}
use Rattle.yarn_check.specs.Shapes.{ShapeEntry, Flow, take_kinds, on_condition, if_nothing, goes_on, goal, shape}

pub less_one : (count i : ℕ) → i < count → count - i ≡ suc (count - (i + 1))
less_one count i lt = omega (arith, lt)

pub if_ok : {T E : Type 0} (P Q : T → Type 0) (r : Result T E) → IfOk r P → ((x : T) → P x → Q x) → IfOk r Q
if_ok P Q (Ok x) h f = f x h
if_ok P Q (Err e) h f = tt

pub nothing_pending : (pending : List ℕ) (f : Flow) → pending ≡ [] → if_nothing pending f ≡ f
nothing_pending [] f e = refl
nothing_pending (label ∷ labels) f e = absurd cc

module _ (count : ℕ) (old next : List ShapeEntry) where
  -- so many values of these kinds are taken
  abbrev pub Takes : List Kind → Type 0
  Takes kinds = (go : List Kind → List ShapeEntry → Flow) → take_kinds count [] old go ≡ go kinds next

  pub taken : (r : Option (Vec Kind)) (v : Vec Kind) → r ≡ Some v →
      ((go : List Kind → List ShapeEntry → Flow) → MatchOption r (take_kinds count [] old go ≡ None) (λ (kinds : Vec Kind). take_kinds count [] old go ≡ go kinds.items next)) → Takes v.items
  taken r v e h = λ go. MatchOption-at_some (take_kinds count [] old go ≡ None) (λ (kinds : Vec Kind). take_kinds count [] old go ≡ go kinds.items next) v e (h go)

  pub took : (r : Option (Vec Kind)) → ((go : List Kind → List ShapeEntry → Flow) → MatchOption r (take_kinds count [] old go ≡ None) (λ (kinds : Vec Kind). take_kinds count [] old go ≡ go kinds.items next)) →
      (can : Bool) → can ≡ is_some r → (place : ℕ) (pending : List ℕ) → take_kinds count [] old (λ kinds rest. goes_on place rest pending) ≡ (if can then goes_on place next pending else None)
  took None h can e place pending = h (λ kinds rest. goes_on place rest pending) ∙ ap (λ b. if b then goes_on place next pending else None) (sym e)
  took (Some v) h can e place pending = h (λ kinds rest. goes_on place rest pending) ∙ ap (λ b. if b then goes_on place next pending else None) (sym e)

-- ---- the top

pub top_at : (items : List Entry) (x : Entry) → slice_get items (length items - 1) ≡ Some x → (front : List Entry) × (items ≡ front ++ x ∷ [])
top_at [] x e = absurd cc
top_at (y ∷ []) x e = let same : y ≡ x = cc in ([], ap (λ z. z ∷ []) same)
top_at (y ∷ z ∷ items) x e =
    let at : length (y ∷ z ∷ items) - 1 ≡ suc (length (z ∷ items) - 1) = omega arith in
    let more = top_at (z ∷ items) x (ap (slice_get (y ∷ z ∷ items)) (sym at) ∙ e) in
    (y ∷ more.0, ap (λ l. y ∷ l) more.1)

pub top_is : (items : List Entry) (x : Bor Entry) (o : Option (Bor Entry)) → o ≡ Some x → option_copied o ≡ slice_get items (length items - 1) →
    (rest : List ShapeEntry) × (reverse (map entry_of items) ≡ entry_of x.now ∷ rest)
top_is items x o e is =
    let front = top_at items x.now (sym is ∙ ap option_copied e) in
    (reverse (map entry_of front.0), ap (λ l. reverse (map entry_of l)) front.1 ∙ ap reverse (map-append entry_of front.0 (x.now ∷ [])) ∙ reverse-append (map entry_of front.0) (entry_of x.now ∷ []))
