-- Names that are seen, one part after the other.
use Rattle.std.proofs.Common.{◌≡◌, ℕ, ◌+◌, ◌<◌, List, ◌∷◌, ◌++◌, length, drop, get_or, refl, sym, ap, ◌∙◌, add-one, drop-cons}
use Rattle.yarn_tree.specs.Names.{NameAt, Sight, sees_all}
use Rattle.yarn_tree.proofs.NamesLemmas.{sees_all_append}

-- the part of one of all, and the parts that are left
pub parts-step : {A : Type 0} (part : A → List NameAt) (parts : List A → List NameAt) → ((x : A) (xs : List A) → parts (x ∷ xs) ≡ part x ++ parts xs) →
    (all : List A) (i : ℕ) (x : A) (old newer whole : Sight) → i < length all → x ≡ get_or all i x → newer ≡ sees_all old (part x) →
    sees_all old (parts (drop i all)) ≡ whole → sees_all newer (parts (drop (i + 1) all)) ≡ whole
parts-step {A = A} part parts cut all i x old newer whole lt is seen so_far =
    let at : drop i all ≡ x ∷ drop (i + 1) all = rw (add-one, drop-cons all i x, ← is) refl in
    ap (λ (s : Sight). sees_all s (parts (drop (i + 1) all))) seen
    ∙ sym (sees_all_append old (part x) (parts (drop (i + 1) all)))
    ∙ ap (sees_all old) (sym (cut x (drop (i + 1) all)))
    ∙ ap (λ (l : List A). sees_all old (parts l)) (sym at)
    ∙ so_far
