-- Uses that are collected, one part after the other.
use Rattle.std.proofs.Common.{◌≡◌, ℕ, ◌<◌, ◌+◌, List, [], ◌∷◌, ◌++◌, length, map, drop, get_or, refl, sym, ap, ◌∙◌, append_assoc, add-one, drop-cons, Result, Ok, Err, OnOk}
use Rattle.std.proofs.lemmas.List.{length-map}
use Rattle.yarn_base.specs.declared.Place.{Place}
use Rattle.yarn_expr.specs.declared.tree.UnaryOp.{UnaryOp}
use Rattle.yarn_expr.specs.declared.tree.BinaryOp.{BinaryOp}
use Rattle.yarn_expr.specs.declared.tree.Expr.{Expr}
use Rattle.yarn_expr.specs.declared.tree.Expr.TheVariants as expr
use Rattle.yarn_expr.proofs.Layers.{at_group, at_unary, at_binary, at_call}
use Rattle.yarn_tree.specs.Uses.{Use, Function, UseAt, joined, uses_step, uses_of, uses_of_all, at_place}

pub at_place-append : (place : Place) (a b : List Use) → at_place place (a ++ b) ≡ at_place place a ++ at_place place b
at_place-append place [] b = refl
at_place-append place (u ∷ a) b = ap (λ (l : List UseAt). record { is = u; place = place } ∷ l) (at_place-append place a b)

pub of_group : (e : Expr) → uses_of (expr.Group e) ≡ uses_of e
of_group e = at_group (List Use) uses_step e

pub of_unary : (op : UnaryOp) (e : Expr) → uses_of (expr.Unary op e) ≡ uses_of e
of_unary op e = at_unary (List Use) uses_step op e

pub of_binary : (op : BinaryOp) (l r : Expr) → uses_of (expr.Binary op l r) ≡ uses_of l ++ uses_of r
of_binary op l r = at_binary (List Use) uses_step op l r

joined-map : (es : List Expr) → joined (map uses_of es) ≡ uses_of_all es
joined-map [] = refl
joined-map (e ∷ es) = ap (λ (l : List Use). uses_of e ++ l) (joined-map es)

pub of_call : (name : List ℕ) (es : List Expr) → uses_of (expr.Call name es) ≡ Function name (length es) ∷ uses_of_all es
of_call name es =
    at_call (List Use) uses_step name es
    ∙ ap (λ (n : ℕ). Function name n ∷ joined (map uses_of es)) (length-map es uses_of)
    ∙ ap (λ (l : List Use). Function name (length es) ∷ l) (joined-map es)

-- one part behind another
pub parts-behind : (place : Place) (before between after : List UseAt) (a b whole : List Use) → whole ≡ a ++ b →
    between ≡ before ++ at_place place a → after ≡ between ++ at_place place b → after ≡ before ++ at_place place whole
parts-behind place before between after a b whole is first second =
    second ∙ ap (λ (l : List UseAt). l ++ at_place place b) first ∙ append_assoc before (at_place place a) (at_place place b)
    ∙ ap (λ (l : List UseAt). before ++ l) (sym (at_place-append place a b))
    ∙ ap (λ (l : List Use). before ++ at_place place l) (sym is)

-- the part of one of all, and the parts that are left
pub part-step : {A : Type 0} (part : A → List UseAt) (parts : List A → List UseAt) → ((x : A) (xs : List A) → parts (x ∷ xs) ≡ part x ++ parts xs) →
    (all : List A) (i : ℕ) (x : A) (old newer whole : List UseAt) → i < length all → x ≡ get_or all i x → newer ≡ old ++ part x →
    old ++ parts (drop i all) ≡ whole → newer ++ parts (drop (i + 1) all) ≡ whole
part-step {A = A} part parts cut all i x old newer whole lt is more so_far =
    let at : drop i all ≡ x ∷ drop (i + 1) all = rw (add-one, drop-cons all i x, ← is) refl in
    ap (λ (l : List UseAt). l ++ parts (drop (i + 1) all)) more
    ∙ append_assoc old (part x) (parts (drop (i + 1) all))
    ∙ ap (λ (l : List UseAt). old ++ l) (sym (cut x (drop (i + 1) all)))
    ∙ ap (λ (l : List A). old ++ parts l) (sym at)
    ∙ so_far

pub expr-parts : (place : Place) (e : Expr) (es : List Expr) → at_place place (uses_of_all (e ∷ es)) ≡ at_place place (uses_of e) ++ at_place place (uses_of_all es)
expr-parts place e es = at_place-append place (uses_of e) (uses_of_all es)

pub parts-ok : {A E : Type 0} (result : Result A E) (place : Place) (before between after : List UseAt) (a b whole : List Use) → whole ≡ a ++ b →
    between ≡ before ++ at_place place a → OnOk result (after ≡ between ++ at_place place b) → OnOk result (after ≡ before ++ at_place place whole)
parts-ok (Ok x) place before between after a b whole is first second = parts-behind place before between after a b whole is first second
parts-ok (Err fault) place before between after a b whole is first second = tt
