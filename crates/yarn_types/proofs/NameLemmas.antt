-- Variables with one more appearance, and with those of a part behind those of another.
use Rattle.std.proofs.Common.{◌≡◌, ℕ, suc, ◌<◌, ◌+◌, Bool, true, false, cond, List, [], ◌∷◌, ◌++◌, length, map, drop, get_or, nat_eq, add-one, sym, Option, Some, None, is_some, Result, Ok, Err, IfOk, refl, ap, ◌∙◌, subst, Bor}
use Rattle.std.specs.BTreeMap.{BTreeMap, UpdatesBy}
use Rattle.std.specs.Cmp.Lexicographic.{slice_cmp, pointwise}
use Rattle.std.specs.List.{flat_map}
use Rattle.std.specs.Option.{option_map}
use Rattle.std.specs.Ordering.{nat_cmp}
use Rattle.std.proofs.Math.Seq.{drop-cons}
use Rattle.std.proofs.lemmas.Map.Text.{btree_map_updates_str}
use Rattle.std.proofs.lemmas.Slice.Eq.{bytes_eq-Decides}
use Rattle.std.proofs.lemmas.List.{length-map, get_or-map, map-append}
use Rattle.yarn_base.specs.declared.Place.{Place}
use Rattle.yarn_expr.specs.declared.tree.BinaryOp.{BinaryOp}
use Rattle.yarn_expr.specs.declared.tree.Expr.{Expr}
use Rattle.yarn_expr.specs.declared.tree.Expr.TheVariants.{Binary, Call}
use Rattle.yarn_types.specs.declared.line.TypeUnit.{TypeUnit}
use Rattle.yarn_types.specs.declared.name.First.{First}
use Rattle.yarn_types.specs.Names.{Appearance, appearance, place_of, with_one, with_all}
use Rattle.yarn_types.specs.Firsts.{appearance_of, Places}
use Rattle.yarn_types.specs.Fits.{names_in}
use Rattle.yarn_types.specs.Units.{UnitAt, unit_of, names_in_all, at_place, appearances_in}
use Rattle.yarn_types.proofs.NodeLemmas.{names_in-Binary, names_in-Call}

-- ---- one more name

some_suc : (o : Option ℕ) → is_some (option_map suc o) ≡ is_some o
some_suc (Some n) = refl
some_suc None = refl

suc_cond : (b : Bool) (n : ℕ) (o : Option ℕ) → option_map suc (cond b (Some n) o) ≡ cond b (Some (suc n)) (option_map suc o)
suc_cond true n o = refl
suc_cond false n o = refl

-- a name that stands nowhere
first_not : (b : Bool) (o : Option ℕ) → is_some (cond b (Some 0) (option_map suc o)) ≡ false → b ≡ false
first_not true o h = h
first_not false o h = refl

rest_not : (b : Bool) (o : Option ℕ) → is_some (cond b (Some 0) (option_map suc o)) ≡ false → is_some o ≡ false
rest_not true o h = cc
rest_not false o h = sym (some_suc o) ∙ h

push_step : (x one : Appearance) (xs : List Appearance) (q : List ℕ) (b : Bool) → pointwise nat_eq one.name q ≡ b → pointwise nat_eq x.name one.name ≡ false
    → place_of (xs ++ one ∷ []) q ≡ cond (pointwise nat_eq one.name q) (Some (length xs)) (place_of xs q)
    → cond (pointwise nat_eq x.name q) (Some 0) (option_map suc (place_of (xs ++ one ∷ []) q)) ≡ cond (pointwise nat_eq one.name q) (Some (suc (length xs))) (cond (pointwise nat_eq x.name q) (Some 0) (option_map suc (place_of xs q)))
push_step x one xs q true e new behind =
    let other : pointwise nat_eq x.name q ≡ false = subst (λ n. pointwise nat_eq x.name n ≡ false) ((bytes_eq-Decides one.name q).0 e) new in
    rw (behind, e, other) refl
push_step x one xs q false e new behind = rw (behind, e) refl

place_of-push : (known : List Appearance) (one : Appearance) (q : List ℕ) → is_some (place_of known one.name) ≡ false
    → place_of (known ++ one ∷ []) q ≡ cond (pointwise nat_eq one.name q) (Some (length known)) (place_of known q)
place_of-push [] one q new = refl
place_of-push (x ∷ xs) one q new =
    push_step x one xs q (pointwise nat_eq one.name q) refl (first_not (pointwise nat_eq x.name one.name) (place_of xs one.name) new)
    (place_of-push xs one q (rest_not (pointwise nat_eq x.name one.name) (place_of xs one.name) new))

pub places_more : (m n : BTreeMap (Bor (List ℕ)) ℕ) (key : Bor (List ℕ)) (at : ℕ) (known : List Appearance) (one : Appearance) → key.now ≡ one.name → at ≡ length known
    → UpdatesBy (λ x y. slice_cmp nat_cmp x.now y.now) (λ k. slice_cmp nat_cmp key.now k.now) m n (Some at)
    → is_some (place_of known one.name) ≡ false → Places m known → Places n (known ++ one ∷ [])
places_more m n key at known one is counted updates new places q =
    btree_map_updates_str key.now m n (Some at) updates q
    ∙ ap (cond (pointwise nat_eq key.now q) (Some at)) (places q)
    ∙ ap (λ name. cond (pointwise nat_eq name q) (Some at) (place_of known q)) is
    ∙ ap (λ v. cond (pointwise nat_eq one.name q) (Some v) (place_of known q)) counted
    ∙ sym (place_of-push known one q new)

pub places_pushed : (m n : BTreeMap (Bor (List ℕ)) ℕ) (key : Bor (List ℕ)) (at : ℕ) (firsts new : List First) (first : First) → new ≡ firsts ++ first ∷ [] → key.now ≡ first.name.now → at ≡ length firsts
    → UpdatesBy (λ x y. slice_cmp nat_cmp x.now y.now) (λ k. slice_cmp nat_cmp key.now k.now) m n (Some at)
    → is_some (place_of (map appearance_of firsts) first.name.now) ≡ false → Places m (map appearance_of firsts) → Places n (map appearance_of new)
places_pushed m n key at firsts new first pushed is counted updates free places =
    rw (ap (map appearance_of) pushed ∙ map-append appearance_of firsts (first ∷ []))
    (places_more m n key at (map appearance_of firsts) (appearance_of first) is (counted ∙ sym (length-map firsts appearance_of)) updates free places)

-- ---- parts one after another

pub with_all-append : (known xs ys : List Appearance) → with_all known (xs ++ ys) ≡ with_all (with_all known xs) ys
with_all-append known [] ys = refl
with_all-append known (x ∷ xs) ys = with_all-append (with_one known x) xs ys

pub at_place-append : (place : Place) (xs ys : List (List ℕ)) → at_place place (xs ++ ys) ≡ at_place place xs ++ at_place place ys
at_place-append place [] ys = refl
at_place-append place (x ∷ xs) ys = ap (λ r. appearance x place ∷ r) (at_place-append place xs ys)

pub with_parts : (known : List Appearance) (place : Place) (xs ys : List (List ℕ)) → with_all (with_all known (at_place place xs)) (at_place place ys) ≡ with_all known (at_place place (xs ++ ys))
with_parts known place xs ys = sym (ap (with_all known) (at_place-append place xs ys) ∙ with_all-append known (at_place place xs) (at_place place ys))

-- what a call answers of the rest is the whole
pub with_rest : {E : Type 0} (result : Result (List Appearance) E) (known now : List Appearance) (place : Place) (xs ys : List (List ℕ)) → now ≡ with_all known (at_place place xs)
    → IfOk result (λ all. all ≡ with_all now (at_place place ys)) → IfOk result (λ all. all ≡ with_all known (at_place place (xs ++ ys)))
with_rest (Ok all) known now place xs ys e h = h ∙ ap (λ k. with_all k (at_place place ys)) e ∙ with_parts known place xs ys
with_rest (Err fault) known now place xs ys e h = tt

-- an expression of two parts
pub with_binary : {E : Type 0} (result : Result (List Appearance) E) (known now : List Appearance) (place : Place) (whole : Expr) (op : BinaryOp) (left right : Expr) → whole ≡ Binary op left right
    → now ≡ with_all known (at_place place (names_in left)) → IfOk result (λ all. all ≡ with_all now (at_place place (names_in right)))
    → IfOk result (λ all. all ≡ with_all known (at_place place (names_in whole)))
with_binary result known now place whole op left right is e h =
    rw (ap names_in is ∙ names_in-Binary op left right) (with_rest result known now place (names_in left) (names_in right) e h)

pub with_call : {E : Type 0} (result : Result (List Appearance) E) (known : List Appearance) (place : Place) (whole : Expr) (name : List ℕ) (args : List Expr) → whole ≡ Call name args
    → IfOk result (λ all. all ≡ with_all known (at_place place (names_in_all args)))
    → IfOk result (λ all. all ≡ with_all known (at_place place (names_in whole)))
with_call result known place whole name args is h = rw (ap names_in is ∙ names_in-Call name args) h

-- the loop over expressions: what is left, behind what is known, makes the whole
pub exprs_on : (exprs : List Expr) (at : ℕ) (expr : Expr) (place : Place) (known : List Appearance) → at < length exprs → expr ≡ get_or exprs at expr
    → with_all known (at_place place (names_in_all (drop at exprs))) ≡ with_all (with_all known (at_place place (names_in expr))) (at_place place (names_in_all (drop (at + 1) exprs)))
exprs_on exprs at expr place known l is =
    rw (add-one at) (rw (drop-cons exprs at expr l) (rw (← is) (sym (with_parts known place (names_in expr) (names_in_all (drop (suc at) exprs))))))

-- the same over lines
pub lines_on : (units : List UnitAt) (at : ℕ) (unit : UnitAt) (known : List Appearance) → at < length units → unit ≡ get_or units at unit
    → with_all known (flat_map appearances_in (drop at units)) ≡ with_all (with_all known (appearances_in unit)) (flat_map appearances_in (drop (at + 1) units))
lines_on units at unit known l is =
    rw (add-one at) (rw (drop-cons units at unit l) (rw (← is) (with_all-append known (appearances_in unit) (flat_map appearances_in (drop (suc at) units)))))

pub unit_at : (units : List TypeUnit) (at : ℕ) (unit : TypeUnit) → at < length units → unit ≡ get_or units at unit → unit_of unit ≡ get_or (map unit_of units) at (unit_of unit)
unit_at units at unit l is = ap unit_of is ∙ sym (get_or-map unit_of units at unit (unit_of unit) l)

pub units_on : (units : List TypeUnit) (at : ℕ) (unit : TypeUnit) (known : List Appearance) → at < length units → unit ≡ get_or units at unit
    → with_all known (flat_map appearances_in (drop at (map unit_of units))) ≡ with_all (with_all known (appearances_in (unit_of unit))) (flat_map appearances_in (drop (at + 1) (map unit_of units)))
units_on units at unit known l is = lines_on (map unit_of units) at (unit_of unit) known (subst (λ n. at < n) (sym (length-map units unit_of)) l) (unit_at units at unit l is)
