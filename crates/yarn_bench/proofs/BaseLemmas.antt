-- A base that grows by a row of a new id.
use Rattle.std.proofs.Common.{◌≡◌, ℕ, List, [], ◌∷◌, ◌++◌, map, Bool, true, false, not, refl, sym, ap, ◌∙◌}
use Rattle.std.specs.Prelude.{bytes_eq}
use Rattle.std.specs.List.{list_any}
use Rattle.yarn_value.specs.declared.base.BaseLine.{BaseLine}
use Rattle.yarn_table.specs.Tables.{AreDistinct, has_id}
use Rattle.yarn_table.proofs.TableLemmas.{has_id-list_any, or_false, other_id}

none_more : (base : List BaseLine) (line : BaseLine) (id : List ℕ) → has_id base id ≡ false → bytes_eq id line.id ≡ false → has_id (base ++ line ∷ []) id ≡ false
none_more [] line id none other = rw other refl
none_more (first ∷ base) line id none other =
    let parts : (bytes_eq id first.id ≡ false) × (has_id base id ≡ false) = or_false (bytes_eq id first.id) (has_id base id) none in
    rw (parts.0) (none_more base line id parts.1 other)

-- a row of a new id leaves the ids distinct
distinct_more : (base : List BaseLine) (line : BaseLine) → AreDistinct base → has_id base line.id ≡ false → AreDistinct (base ++ line ∷ [])
distinct_more [] line distinct new = (refl, tt)
distinct_more (first ∷ base) line distinct new =
    let parts : (bytes_eq line.id first.id ≡ false) × (has_id base line.id ≡ false) = or_false (bytes_eq line.id first.id) (has_id base line.id) new in
    (none_more base line first.id distinct.0 (other_id line.id first.id parts.0), distinct_more base line distinct.1 parts.1)

-- a row whose id was put among the ids of the others as a new one
pub distinct_put : (base : List BaseLine) (line : BaseLine) (keys : List (List ℕ)) → AreDistinct base → keys ≡ map (λ line. line.id) base → not (list_any (bytes_eq line.id) keys) ≡ true → AreDistinct (base ++ line ∷ [])
distinct_put base line keys distinct are new = distinct_more base line distinct none
  where
    isnt : (b : Bool) → not b ≡ true → b ≡ false
    isnt true e = cc
    isnt false e = refl

    none : has_id base line.id ≡ false
    none = sym (has_id-list_any base line.id) ∙ ap (list_any (bytes_eq line.id)) (sym are) ∙ isnt (list_any (bytes_eq line.id) keys) new
