-- Steps over what lines ask, in the form of the code's goals.
use Rattle.std.proofs.Common.{◌≡◌, ℕ, ◌<◌, ◌≤◌, ◌+◌, List, ◌∷◌, Bool, true, false, ◌&&◌, Option, Some, Result, Ok, Err, OnOk, OnErr, IfOk, length, take, drop, map, sum, get_or, refl, sym, ap, ◌∙◌, subst, add-one, suc}
use Rattle.std.specs.List.{list_all}
use Rattle.std.proofs.Math.Seq.{drop-cons}
use Rattle.std.proofs.lemmas.List.{drop_all, take_more, take_all, length-map}
use Rattle.std.proofs.lemmas.List.Sums.{sum-map, sum_by-cons}
use Rattle.std.proofs.lemmas.List.Recursion.{and_push}
use Rattle.std.proofs.lemmas.Bool.{and_parts, and_from}
use Rattle.std.proofs.lemmas.Option.{slice_get_read}
use Rattle.yarn_value.specs.declared.value.Kind.{Kind}
use Rattle.yarn_expr.specs.declared.tree.BinaryOp.{BinaryOp}
use Rattle.yarn_types.specs.declared.kind_set.KindSet.{KindSet}
use Rattle.yarn_types.specs.KindSets.{holds}
use Rattle.yarn_types.specs.declared.finding.Found.{Found}
use Rattle.yarn_types.specs.declared.finding.Misfit.{Misfit}
use Rattle.yarn_types.specs.declared.line.TypeUnit.{TypeUnit}
use Rattle.yarn_types.specs.declared.class.Classes.{Classes}
use Rattle.yarn_types.specs.declared.expression.Scope.{Scope}
use Rattle.yarn_types.specs.Founds.{kind_in, asked_under, units_under}
use Rattle.yarn_types.specs.Classes.{Allows, Narrows, Refuses, Finds, FindsNone, Halfway}
use Rattle.yarn_types.specs.Fits.{joined, is_in}
use Rattle.yarn_types.specs.Units.{UnitAt, unit_of, asked_size, units_size}
use Rattle.yarn_types.specs.Stops.{StopsAt}
use Rattle.yarn_types.proofs.Narrowing.{narrows_as, halfway_step, halfway_ends, halfway_stops, narrows_after, refuses_after, on_ok, on_err}
use Rattle.yarn_types.proofs.FindLemmas.{finds_joined, finds_none_joined, narrows_in, refuses_in}
use Rattle.yarn_types.proofs.NameLemmas.{unit_at}
use Rattle.yarn_types.proofs.PickLemmas.{some_allowed}

pub joined_ok : (c d e f : Classes) (op : BinaryOp) (left right : List Kind → Option Kind) (one other : Found) (result : Result Found Misfit) → Finds c d left one → Finds d e right other
    → IfOk result (λ found. Finds e f (λ t. joined op (Some (kind_in one t)) (Some (kind_in other t))) found) → IfOk result (λ found. Finds c f (λ t. joined op (left t) (right t)) found)
joined_ok c d e f op left right one other (Ok found) first second both = finds_joined c d e f op left right one other found first second both
joined_ok c d e f op left right one other (Err misfit) first second both = tt

pub joined_err : (c d e : Classes) (op : BinaryOp) (left right : List Kind → Option Kind) (one other : Found) (result : Result Found Misfit) → Finds c d left one → Finds d e right other
    → OnErr result (FindsNone e (λ t. joined op (Some (kind_in one t)) (Some (kind_in other t)))) → OnErr result (FindsNone c (λ t. joined op (left t) (right t)))
joined_err c d e op left right one other result first second = on_err result (finds_none_joined c d e op left right one other first second)

-- a test behind one that is passed
module _ (b : Bool) (h : b ≡ true) (c d e : Classes) (asked : List Kind → Option Kind) (found : Found) (set : KindSet) (finds : Finds c d asked found) where
  behind : (t : List Kind) → is_in set (asked t) ≡ (b && is_in set (asked t))
  behind t = rw h refl

  pub behind_ok : (result : Result (Unit {0}) Misfit) → OnOk result (Narrows d e (λ t. holds set (kind_in found t))) → OnOk result (Narrows c e (λ t. b && is_in set (asked t)))
  behind_ok result = on_ok result (λ n. narrows_as c e (λ t. is_in set (asked t)) (λ t. b && is_in set (asked t)) (narrows_in c d e asked found set finds n) behind)

  pub behind_err : (result : Result (Unit {0}) Misfit) → OnErr result (Refuses d (λ t. holds set (kind_in found t))) → OnErr result (Refuses c (λ t. b && is_in set (asked t)))
  behind_err result = on_err result (λ n t a. sym (behind t) ∙ refuses_in c d asked found set finds n t a)

-- ---- a test of each of many

first_of_both : (a b : Bool) → (a && b) ≡ true → a ≡ true
first_of_both true b h = refl
first_of_both false b h = h

module _ {X : Type 0} (test : X → List Kind → Bool) (xs : List X) (before now next : Classes) (at : ℕ) (x : X) (inside : at < length xs) (is : x ≡ get_or xs at x)
    (half : Halfway before now (λ t. list_all (λ y. test y t) xs) (λ t. list_all (λ y. test y t) (drop at xs))) where
  split : (t : List Kind) → list_all (λ y. test y t) (drop at xs) ≡ (test x t && list_all (λ y. test y t) (drop (at + 1) xs))
  split t = rw (add-one at) (rw (drop-cons xs at x inside) (rw (← is) refl))

  pub each_on : Narrows now next (test x) → Halfway before next (λ t. list_all (λ y. test y t) xs) (λ t. list_all (λ y. test y t) (drop (at + 1) xs))
  each_on narrows = halfway_step before now next (λ t. list_all (λ y. test y t) xs) (λ t. list_all (λ y. test y t) (drop at xs)) (test x) (λ t. list_all (λ y. test y t) (drop (at + 1) xs)) half narrows split

  pub each_stops : Refuses now (test x) → Refuses before (λ t. list_all (λ y. test y t) xs)
  each_stops none = halfway_stops before now (λ t. list_all (λ y. test y t) xs) (λ t. list_all (λ y. test y t) (drop at xs)) (test x) half none
      (λ t h. first_of_both (test x t) (list_all (λ y. test y t) (drop (at + 1) xs)) (sym (split t) ∙ h))

pub each_ends : {X : Type 0} (test : X → List Kind → Bool) (xs : List X) (before now : Classes) (at : ℕ) → length xs ≤ at
    → Halfway before now (λ t. list_all (λ y. test y t) xs) (λ t. list_all (λ y. test y t) (drop at xs)) → Narrows before now (λ t. list_all (λ y. test y t) xs)
each_ends test xs before now at over half =
    halfway_ends before now (λ t. list_all (λ y. test y t) xs) (λ t. list_all (λ y. test y t) (drop at xs)) half (λ t. ap (list_all (λ y. test y t)) (drop_all at xs over))

-- a sum over what is left
pub sum_next : {X : Type 0} (size : X → ℕ) (xs : List X) (at : ℕ) (x : X) → at < length xs → x ≡ get_or xs at x → sum (map size (drop at xs)) ≡ size x + sum (map size (drop (at + 1) xs))
sum_next size xs at x l is =
    rw (add-one at) (rw (drop-cons xs at x l) (rw (← is)
    (sum-map size (x ∷ drop (suc at) xs) ∙ sum_by-cons size x (drop (suc at) xs) ∙ ap (λ n. size x + n) (sym (sum-map size (drop (suc at) xs))))))

-- ---- lines so far

fits_more : (s : Scope) (t : List Kind) (units : List UnitAt) (at : ℕ) (unit : UnitAt) → at < length units → unit ≡ get_or units at unit
    → units_under s (take (at + 1) units) t ≡ (units_under s (take at units) t && asked_under s unit.asked t)
fits_more s t units at unit l is =
    ap (λ us. units_under s us t) (take_more units at unit l)
    ∙ rw (← is) (and_push (λ us. units_under s us t) (λ u. asked_under s u.asked t) refl (λ x xs. refl) (take at units) unit)

module _ (s : Scope) (units : List UnitAt) (before now next : Classes) (at : ℕ) (unit : UnitAt) (inside : at < length units) (is : unit ≡ get_or units at unit)
    (so_far : Narrows before now (units_under s (take at units))) where
  parts_of : (t : List Kind) → units_under s (take (at + 1) units) t ≡ true → (units_under s (take at units) t ≡ true) × (asked_under s unit.asked t ≡ true)
  parts_of t h = and_parts (units_under s (take at units) t) (asked_under s unit.asked t) (sym (fits_more s t units at unit inside is) ∙ h)

  pub lines_on : Narrows now next (asked_under s unit.asked) → Narrows before next (units_under s (take (at + 1) units))
  lines_on narrows = narrows_after before now next (units_under s (take at units)) (asked_under s unit.asked) (units_under s (take (at + 1) units)) so_far narrows
      (λ t h. (parts_of t h).0)
      (λ t a h. (parts_of t h).1)
      (λ t a h. fits_more s t units at unit inside is ∙ and_from (units_under s (take at units) t) (asked_under s unit.asked t) (so_far.passes t a) h)

  pub lines_stop : Refuses now (asked_under s unit.asked) → StopsAt before s units unit.place
  lines_stop none =
      let one : (t : List Kind) × Allows now t = some_allowed now so_far.stands in
      record {
        at = at;
        unit = unit;
        stands = slice_get_read units (length units) at unit refl inside is;
        placed = refl;
        typing = one.0;
        allowed = so_far.keeps one.0 one.1;
        fits = so_far.passes one.0 one.1;
        none = refuses_after before now (units_under s (take at units)) (asked_under s unit.asked) (units_under s (take (at + 1) units)) so_far none
            (λ t h. (parts_of t h).0)
            (λ t a h. (parts_of t h).1);
      }

-- the same from the code's units
module _ (s : Scope) (units : List TypeUnit) (before now next : Classes) (at : ℕ) (unit : TypeUnit) (inside : at < length units) (is : unit ≡ get_or units at unit) where
  in_plain : at < length (map unit_of units)
  in_plain = subst (λ n. at < n) (sym (length-map units unit_of)) inside

  pub units_on : Narrows before now (units_under s (take at (map unit_of units))) → Narrows now next (asked_under s (unit_of unit).asked) → Narrows before next (units_under s (take (at + 1) (map unit_of units)))
  units_on so_far = lines_on s (map unit_of units) before now next at (unit_of unit) in_plain (unit_at units at unit inside is) so_far

  pub units_stop : Narrows before now (units_under s (take at (map unit_of units))) → Refuses now (asked_under s (unit_of unit).asked) → StopsAt before s (map unit_of units) unit.place
  units_stop so_far = lines_stop s (map unit_of units) before now next at (unit_of unit) in_plain (unit_at units at unit inside is) so_far

  pub size_next : units_size (drop at (map unit_of units)) ≡ asked_size (unit_of unit).asked + units_size (drop (at + 1) (map unit_of units))
  size_next = sum_next (λ u. asked_size u.asked) (map unit_of units) at (unit_of unit) in_plain (unit_at units at unit inside is)

pub units_end : (s : Scope) (units : List TypeUnit) (before now : Classes) (at : ℕ) → length units ≤ at → Narrows before now (units_under s (take at (map unit_of units))) → Narrows before now (units_under s (map unit_of units))
units_end s units before now at over narrows =
    let P : List UnitAt → Type 0 = λ us. Narrows before now (units_under s us) in
    subst P (take_all at (map unit_of units) (subst (λ n. n ≤ at) (sym (length-map units unit_of)) over)) narrows
