-- Ids, the places where a hash finds them, and tables that fit a base.
use Rattle.std.proofs.Common.{◌≡◌, ◌<◌, ◌+◌, ℕ, zero, suc, List, [], ◌∷◌, ◌++◌, length, take, get_or, map, position, Bool, true, false, cond, ◌||◌, Option, Some, None, All, refl, sym, ap, ◌∙◌, arith, subst}
use Rattle.std.specs.Prelude.{bytes_eq, nat_lt, option_map, slice_get}
use Rattle.std.specs.List.{list_any, position_or_len, zip}
use Rattle.std.proofs.lemmas.Bool.{false_from_ne_true, ltb-true, lt-ltb}
use Rattle.std.proofs.lemmas.List.{take_more, map-append}
use Rattle.std.proofs.lemmas.List.Elements.{All-nil, All-cons}
use Rattle.std.proofs.lemmas.Slice.Eq.{bytes_eq-Decides}
use Rattle.indexmap.specs.IndexSet.{insert_key}
use Rattle.yarn_value.specs.Templates.{Form}
use Rattle.yarn_value.specs.declared.base.BaseLine.{BaseLine}
use Rattle.yarn_table.specs.Tables.{AreDistinct, Fits, Table, entry_of, form_of, has_id, template_under}

-- ---- ids

pub same_id : (x : List ℕ) → bytes_eq x x ≡ true
same_id x = (bytes_eq-Decides x x).1 refl

pub other_id : (x y : List ℕ) → bytes_eq x y ≡ false → bytes_eq y x ≡ false
other_id x y e = false_from_ne_true (bytes_eq y x) back
  where
    back : bytes_eq y x ≡ true → ⊥
    back t =
        let same = (bytes_eq-Decides y x).0 t in
        let both : true ≡ false = sym ((bytes_eq-Decides x y).1 (sym same)) ∙ e in
        cc

pub or_false : (a b : Bool) → (a || b) ≡ false → (a ≡ false) × (b ≡ false)
or_false false b e = (refl, e)
or_false true b e = cc

pub has_id-list_any : (base : List BaseLine) (id : List ℕ) → list_any (bytes_eq id) (map (λ line. line.id) base) ≡ has_id base id
has_id-list_any [] id = refl
has_id-list_any (line ∷ base) id = ap (λ (b : Bool). bytes_eq id line.id || b) (has_id-list_any base id)

other_at : (base : List BaseLine) (id : List ℕ) (i : ℕ) (d : BaseLine) → has_id base id ≡ false → i < length base → bytes_eq id (get_or base i d).id ≡ false
other_at [] id i d none l = absurd (omega arith)
other_at (line ∷ base) id zero d none l = (or_false (bytes_eq id line.id) (has_id base id) none).0
other_at (line ∷ base) id (suc i) d none l = other_at base id i d (or_false (bytes_eq id line.id) (has_id base id) none).1 (omega arith)

-- an id doesn't stand before its place
pub new_at : (base : List BaseLine) (i : ℕ) (d : BaseLine) → AreDistinct base → i < length base → has_id (take i base) (get_or base i d).id ≡ false
new_at [] i d distinct l = absurd (omega arith)
new_at (line ∷ base) zero d distinct l = refl
new_at (line ∷ base) (suc i) d distinct l =
    rw (other_id line.id (get_or base i d).id (other_at base line.id i d distinct.0 (omega arith))) (new_at base i d distinct.1 (omega arith))

-- one more id is put last
pub more_ids : (base : List BaseLine) (i : ℕ) (line : BaseLine) (keys : List (List ℕ)) (new : List ℕ) → AreDistinct base → i < length base → line ≡ get_or base i line → new ≡ line.id →
    keys ≡ map (λ line. line.id) (take i base) → insert_key bytes_eq keys new ≡ map (λ line. line.id) (take (i + 1) base)
more_ids base i line keys new distinct l is named before =
    let fresh : list_any (bytes_eq line.id) (map (λ line. line.id) (take i base)) ≡ false =
    has_id-list_any (take i base) line.id ∙ ap (λ (x : BaseLine). has_id (take i base) x.id) is ∙ new_at base i line distinct l in
    let more : map (λ line. line.id) (take (i + 1) base) ≡ map (λ line. line.id) (take i base) ++ line.id ∷ [] =
    ap (map (λ line. line.id)) (take_more base i line l ∙ ap (λ (x : BaseLine). take i base ++ x ∷ []) (sym is)) ∙ map-append (λ line. line.id) (take i base) (line ∷ []) in
    rw (named, before, fresh) (sym more)

-- ---- the place of an id

within : (n m : ℕ) (b : Bool) → nat_lt n m ≡ b → nat_lt (suc n) (suc m) ≡ b
within n m true e = let l = ltb-true n m e in lt-ltb (suc n) (suc m) (omega arith)
within n m false e = false_from_ne_true (nat_lt (suc n) (suc m)) back
  where
    back : nat_lt (suc n) (suc m) ≡ true → ⊥
    back t =
        let l = ltb-true (suc n) (suc m) t in
        let both : true ≡ false = sym (lt-ltb n m (omega arith)) ∙ e in
        cc

pub position-here : (p : List ℕ → Bool) (x : List ℕ) (xs : List (List ℕ)) → p x ≡ true → position p (x ∷ xs) ≡ Some 0
position-here p x xs e = let some : nat_lt 0 (suc (length xs)) ≡ true = lt-ltb 0 (suc (length xs)) (omega arith) in rw (e, some) refl

shifted : (n m k : ℕ) → k ≡ suc n → cond (nat_lt k (suc m)) (Some k) None ≡ option_map suc (cond (nat_lt n m) (Some n) None)
shifted n m k is = rw is (by (nat_lt n m) refl)
  where
    by : (b : Bool) → nat_lt n m ≡ b → cond (nat_lt (suc n) (suc m)) (Some (suc n)) None ≡ option_map suc (cond (nat_lt n m) (Some n) None)
    by true e = rw (within n m true e, e) refl
    by false e = rw (within n m false e, e) refl

pub position-later : (p : List ℕ → Bool) (x : List ℕ) (xs : List (List ℕ)) → p x ≡ false → position p (x ∷ xs) ≡ option_map suc (position p xs)
position-later p x xs e = rw e (shifted (position_or_len p xs) (length xs) (1 + position_or_len p xs) (omega arith))

-- the template at the place of the id
abbrev pub template_at : Option ℕ → List Form → Option Form
template_at None forms = None
template_at (Some at) forms = slice_get forms at

template_at-later : (o : Option ℕ) (form : Form) (forms : List Form) → template_at (option_map suc o) (form ∷ forms) ≡ template_at o forms
template_at-later None form forms = refl
template_at-later (Some at) form forms = refl

no_template : (o : Option ℕ) → template_at o [] ≡ None
no_template None = refl
no_template (Some at) = refl

pub template_under-zip : (id : List ℕ) (ids : List (List ℕ)) (forms : List Form) → template_at (position (bytes_eq id) ids) forms ≡ template_under (zip ids forms) id
template_under-zip id [] forms = refl
template_under-zip id (x ∷ ids) [] = no_template (position (bytes_eq id) (x ∷ ids))
template_under-zip id (x ∷ ids) (form ∷ forms) = by (bytes_eq id x) refl (template_under-zip id ids forms)
  where
    by : (b : Bool) → bytes_eq id x ≡ b → template_at (position (bytes_eq id) ids) forms ≡ template_under (zip ids forms) id →
        template_at (position (bytes_eq id) (x ∷ ids)) (form ∷ forms) ≡ cond (bytes_eq id x) (Some form) (template_under (zip ids forms) id)
    by true e more = ap (λ o. template_at o (form ∷ forms)) (position-here (bytes_eq id) x ids e) ∙ rw e refl
    by false e more =
        ap (λ o. template_at o (form ∷ forms)) (position-later (bytes_eq id) x ids e) ∙ template_at-later (position (bytes_eq id) ids) form forms ∙ more ∙ rw e refl

-- the place of an id in a base
abbrev pub Stands : List ℕ → List BaseLine → ℕ → Type 0
Stands id [] at = ⊥
Stands id (line ∷ base) zero = line.id ≡ id
Stands id (line ∷ base) (suc at) = (bytes_eq line.id id ≡ false) × Stands id base at

pub stands : (id : List ℕ) (base : List BaseLine) (at : ℕ) → position (bytes_eq id) (map (λ line. line.id) base) ≡ Some at → Stands id base at
stands id [] at e = cc e
stands id (line ∷ base) at e = by (bytes_eq id line.id) refl (λ k is. stands id base k is)
  where
    here : 0 ≡ at → bytes_eq id line.id ≡ true → Stands id (line ∷ base) at
    here same t = subst (Stands id (line ∷ base)) same (sym ((bytes_eq-Decides id line.id).0 t))

    later : bytes_eq id line.id ≡ false → ((k : ℕ) → position (bytes_eq id) (map (λ line. line.id) base) ≡ Some k → Stands id base k) → (o : Option ℕ) → position (bytes_eq id) (map (λ line. line.id) base) ≡ o → option_map suc o ≡ Some at → Stands id (line ∷ base) at
    later t more None is e = cc e
    later t more (Some k) is e = let same : suc k ≡ at = cc in subst (Stands id (line ∷ base)) same (other_id id line.id t, more k is)

    by : (b : Bool) → bytes_eq id line.id ≡ b → ((k : ℕ) → position (bytes_eq id) (map (λ line. line.id) base) ≡ Some k → Stands id base k) → Stands id (line ∷ base) at
    by true t more = let same : Some 0 ≡ Some at = sym (position-here (bytes_eq id) line.id (map (λ line. line.id) base) t) ∙ e in here (cc) t
    by false t more = later t more (position (bytes_eq id) (map (λ line. line.id) base)) refl (sym (position-later (bytes_eq id) line.id (map (λ line. line.id) base) t) ∙ e)

pub absent : (id : List ℕ) (base : List BaseLine) → position (bytes_eq id) (map (λ line. line.id) base) ≡ None → has_id base id ≡ false
absent id [] e = refl
absent id (line ∷ base) e = by (bytes_eq id line.id) refl (absent id base)
  where
    no_more : (o : Option ℕ) → option_map suc o ≡ None → o ≡ None
    no_more None e = refl
    no_more (Some k) e = cc e

    by : (b : Bool) → bytes_eq id line.id ≡ b → (position (bytes_eq id) (map (λ line. line.id) base) ≡ None → has_id base id ≡ false) → has_id (line ∷ base) id ≡ false
    by true t more = let none : ◌≡◌ {A = Option ℕ} (Some 0) None = sym (position-here (bytes_eq id) line.id (map (λ line. line.id) base) t) ∙ e in cc
    by false t more =
        rw t (more (no_more (position (bytes_eq id) (map (λ line. line.id) base)) (sym (position-later (bytes_eq id) line.id (map (λ line. line.id) base) t) ∙ e)))

pub present : (id : List ℕ) (base : List BaseLine) (at : ℕ) → Stands id base at → has_id base id ≡ true
present id [] at s = absurd s
present id (line ∷ base) zero s = rw s (rw (same_id id) refl)
present id (line ∷ base) (suc at) s = rw (other_id line.id id s.0) (present id base at s.1)

-- ---- tables of a base

pub zip-entries : (text : BaseLine → List ℕ) (base : List BaseLine) → zip (map (λ line. line.id) base) (map (λ line. form_of (text line) line.holes) base) ≡ map (λ line. entry_of line (text line)) base
zip-entries text [] = refl
zip-entries text (line ∷ base) = ap (λ (rest : Table). entry_of line (text line) ∷ rest) (zip-entries text base)

abbrev FitsOne : Table → BaseLine → Type 0
FitsOne table line = option_map (λ form. form.holes) (template_under table line.id) ≡ Some line.holes

-- one more entry in front, whose id isn't one of the base
further : (table : Table) (entry : List ℕ × Form) (base : List BaseLine) → has_id base entry.0 ≡ false → All (FitsOne table) base → All (FitsOne (entry ∷ table)) base
further table entry base none all = λ k d l. rw (other_id entry.0 (get_or base k d).id (other_at base entry.0 k d none l)) (all k d l)

pub fits : (text : BaseLine → List ℕ) (base : List BaseLine) → AreDistinct base → Fits (map (λ line. entry_of line (text line)) base) base
fits text [] distinct = All-nil (FitsOne [])
fits text (line ∷ base) distinct =
    let table = map (λ line. entry_of line (text line)) base in
    All-cons (FitsOne (entry_of line (text line) ∷ table)) line base (rw (same_id line.id) refl) (further table (entry_of line (text line)) base distinct.0 (fits text base distinct.1))
