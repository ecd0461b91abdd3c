-- Narrowing one class, and making one class of two.
use Rattle.std.proofs.Common.{◌≡◌, ℕ, ◌<◌, List, Bool, true, false, ◌&&◌, ◌==◌, if◌then◌else◌, inl, inr, length, get_or, map, refl, sym, ap, ◌∙◌, subst, arith, set}
use Rattle.std.proofs.lemmas.Bool.{cases_eq}
use Rattle.std.proofs.lemmas.List.{length-set, length-map, get_or-map, get_or-set_other}
use Rattle.std.proofs.lemmas.Grind.{get_or-set_at}
use Rattle.yarn_value.specs.declared.value.Kind.{Kind}
use Rattle.yarn_types.specs.declared.kind_set.KindSet.{KindSet}
use Rattle.yarn_types.specs.declared.class.Classes.{Classes}
use Rattle.yarn_types.specs.declared.set.Meet.{Meet}
use Rattle.yarn_types.specs.declared.set.Meet.TheVariants.{Same, Narrowed, Empty}
use Rattle.yarn_types.specs.KindSets.{holds, shared, has_some, all_kinds}
use Rattle.yarn_value.specs.Rows.{same_kind}
use Rattle.yarn_types.specs.Sets.{set_at, same_set, change_of, change_of_two, leaves_some}
use Rattle.yarn_types.specs.Typings.{kind_at}
use Rattle.yarn_types.specs.Classes.{count_of, label_of, Stands, Allows, Narrows, Refuses}
use Rattle.yarn_types.proofs.Narrowing.{narrows_within, refuses_within}
use Rattle.yarn_types.proofs.KindLemmas.{same_kind_comm, holds_first, holds_second, holds_both, holds_none, kind_same, same_kind_from}

-- the set at a label, after the set of the variable's class was shared with another
at_label : (xs : List KindSet) (l m : ℕ) (s : KindSet) → l < length xs → m ≡ l → set_at (set xs l (shared (set_at xs l) s)) m ≡ shared (set_at xs m) s
at_label xs l m s inside e = get_or-set_at xs l m (shared (set_at xs l) s) all_kinds e inside ∙ ap (λ n. shared (set_at xs n) s) (sym e)

-- an answer of narrowing tells whether some kind is left
by_some : (b c : Bool) → leaves_some (if b then (if c then Same else Narrowed) else Empty) ≡ b
by_some true true = refl
by_some true false = refl
by_some false c = refl

pub leaves-change : (old new : KindSet) → leaves_some (change_of old new) ≡ has_some new
leaves-change old new = by_some (has_some new) (same_set old new)

pub leaves-change_of_two : (one other new : KindSet) → leaves_some (change_of_two one other new) ≡ has_some new
leaves-change_of_two one other new = by_some (has_some new) (same_set one new && same_set other new)

abbrev with_kinds : Classes → List KindSet → Classes
with_kinds c kinds = record { kinds = kinds; labels = c.labels }

module _ (c : Classes) (new : List KindSet) (v : ℕ) (s : KindSet) (stands : Stands c) (placed : v < count_of c)
    (is : new ≡ set c.kinds (label_of c v) (shared (set_at c.kinds (label_of c v)) s)) where
  abbrev after : Classes
  after = with_kinds c new

  in_sets : label_of c v < length c.kinds
  in_sets = subst (λ n. label_of c v < n) (sym stands.sets) (stands.inside v placed)

  same : (m : ℕ) → m ≡ label_of c v → set_at new m ≡ shared (set_at c.kinds m) s
  same m e = ap (λ sets. set_at sets m) is ∙ at_label c.kinds (label_of c v) m s in_sets e

  other : (m : ℕ) → (m ≡ label_of c v → ⊥) → set_at new m ≡ set_at c.kinds m
  other m ne = ap (λ sets. set_at sets m) is ∙ get_or-set_other c.kinds (label_of c v) m (shared (set_at c.kinds (label_of c v)) s) all_kinds ne

  still_within : (m : ℕ) (k : Kind) → holds (set_at new m) k ≡ true → holds (set_at c.kinds m) k ≡ true
  still_within m k h = elim (cases_eq m (label_of c v)) [
    | inl e ↦ holds_first (set_at c.kinds m) s k (ap (λ x. holds x k) (sym (same m e)) ∙ h)
    | inr ne ↦ ap (λ x. holds x k) (sym (other m ne)) ∙ h
  ]

  now_within : (m : ℕ) (k : Kind) → (m ≡ label_of c v → holds s k ≡ true) → holds (set_at c.kinds m) k ≡ true → holds (set_at new m) k ≡ true
  now_within m k g h = elim (cases_eq m (label_of c v)) [
    | inl e ↦ ap (λ x. holds x k) (same m e) ∙ holds_both (set_at c.kinds m) s k h (g e)
    | inr ne ↦ ap (λ x. holds x k) (other m ne) ∙ h
  ]

  filled : has_some (shared (set_at c.kinds (label_of c v)) s) ≡ true → (m : ℕ) → m < count_of c → has_some (set_at new m) ≡ true
  filled some m l = elim (cases_eq m (label_of c v)) [
    | inl e ↦ ap has_some (same m e) ∙ ap (λ n. has_some (shared (set_at c.kinds n) s)) e ∙ some
    | inr ne ↦ ap has_some (other m ne) ∙ stands.filled m l
  ]

  pub kept : has_some (shared (set_at c.kinds (label_of c v)) s) ≡ true → Narrows c after (λ t. holds s (kind_at t v))
  kept some = record {
    stands = record {
      sets = ap length is ∙ length-set c.kinds (label_of c v) (shared (set_at c.kinds (label_of c v)) s) ∙ stands.sets;
      inside = stands.inside;
      settled = stands.settled;
      filled = filled some;
    };
    count = refl;
    keeps = λ t a. record { counted = a.counted; alike = a.alike; within = λ u l. still_within (label_of c u) (kind_at t u) (a.within u l) };
    passes = λ t a. holds_second (set_at c.kinds (label_of c v)) s (kind_at t v) (ap (λ x. holds x (kind_at t v)) (sym (same (label_of c v) refl)) ∙ a.within v placed);
    stays = λ t a h. record {
      counted = a.counted;
      alike = a.alike;
      within = λ u l. now_within (label_of c u) (kind_at t u) (λ e. ap (holds s) (sym (a.alike u l) ∙ ap (kind_at t) e ∙ a.alike v placed) ∙ h) (a.within u l);
    };
  }

  pub kept_none : has_some (shared (set_at c.kinds (label_of c v)) s) ≡ false → Refuses c (λ t. holds s (kind_at t v))
  kept_none none t a = by_test (holds s (kind_at t v)) refl
    where
      by_test : (b : Bool) → holds s (kind_at t v) ≡ b → holds s (kind_at t v) ≡ false
      by_test false e = e
      by_test true e =
          let both : holds (shared (set_at c.kinds (label_of c v)) s) (kind_at t v) ≡ true = holds_both (set_at c.kinds (label_of c v)) s (kind_at t v) (a.within v placed) e in
          let no : holds (shared (set_at c.kinds (label_of c v)) s) (kind_at t v) ≡ false = holds_none (shared (set_at c.kinds (label_of c v)) s) (kind_at t v) none in
          cc

-- the same, from what the calls say
pub keep_ok : (c : Classes) (new : List KindSet) (v l : ℕ) (s : KindSet) (meet : Meet) → Stands c → v < count_of c → l ≡ label_of c v
    → new ≡ set c.kinds l (shared (set_at c.kinds l) s) → meet ≡ change_of (set_at c.kinds l) (shared (set_at c.kinds l) s)
    → leaves_some meet ≡ true → Narrows c (with_kinds c new) (λ t. holds s (kind_at t v))
keep_ok c new v l s meet stands placed e is m left =
    kept c new v s stands placed (rw (← e) is) (rw (← e) (sym (leaves-change (set_at c.kinds l) (shared (set_at c.kinds l) s)) ∙ ap leaves_some (sym m) ∙ left))

pub keep_err : (c : Classes) (new : List KindSet) (v l : ℕ) (s : KindSet) (meet : Meet) → Stands c → v < count_of c → l ≡ label_of c v
    → new ≡ set c.kinds l (shared (set_at c.kinds l) s) → meet ≡ change_of (set_at c.kinds l) (shared (set_at c.kinds l) s)
    → leaves_some meet ≡ false → Refuses c (λ t. holds s (kind_at t v))
keep_err c new v l s meet stands placed e is m none =
    kept_none c new v s stands placed (rw (← e) is) (rw (← e) (sym (leaves-change (set_at c.kinds l) (shared (set_at c.kinds l) s)) ∙ ap leaves_some (sym m) ∙ none))

abbrev renamed : ℕ → ℕ → ℕ → ℕ
renamed gone label one = if one == gone then label else one

renamed_gone : (gone label m : ℕ) → m ≡ gone → renamed gone label m ≡ label
renamed_gone gone label m e = grind arith

renamed_other : (gone label m : ℕ) → (m ≡ gone → ⊥) → renamed gone label m ≡ m
renamed_other gone label m ne = grind arith

-- from a test that is both true and false
refuted : (x b : Bool) → b ≡ true → b ≡ false → x ≡ false
refuted x b h g = cc

-- one class of two: their sets are shared, and the label of one is put in the place of the other's
module _ (c after : Classes) (v w : ℕ) (stands : Stands c) (v_in : v < count_of c) (w_in : w < count_of c) (apart : label_of c v ≡ label_of c w → ⊥) where
  abbrev both : KindSet
  both = shared (set_at c.kinds (label_of c v)) (set_at c.kinds (label_of c w))

  module _ (kinds_is : after.kinds ≡ set (set c.kinds (label_of c v) both) (label_of c w) both)
      (labels_is : after.labels ≡ map (λ m. if m == label_of c w then label_of c v else m) c.labels) where
    count : count_of after ≡ count_of c
    count = ap length labels_is ∙ length-map c.labels (renamed (label_of c w) (label_of c v))

    label_is : (u : ℕ) → u < count_of c → label_of after u ≡ renamed (label_of c w) (label_of c v) (label_of c u)
    label_is u l = ap (λ items. get_or items u 0) labels_is ∙ get_or-map (renamed (label_of c w) (label_of c v)) c.labels u 0 0 l

    label_moved : (u : ℕ) → u < count_of c → label_of c u ≡ label_of c w → label_of after u ≡ label_of c v
    label_moved u l e = label_is u l ∙ renamed_gone (label_of c w) (label_of c v) (label_of c u) e

    label_same : (u : ℕ) → u < count_of c → (label_of c u ≡ label_of c w → ⊥) → label_of after u ≡ label_of c u
    label_same u l ne = label_is u l ∙ renamed_other (label_of c w) (label_of c v) (label_of c u) ne

    sets_long : (x : ℕ) → x < count_of c → x < length c.kinds
    sets_long x l = subst (λ n. x < n) (sym stands.sets) l

    set_kept : set_at after.kinds (label_of c v) ≡ both
    set_kept =
        ap (λ sets. set_at sets (label_of c v)) kinds_is
        ∙ get_or-set_other (set c.kinds (label_of c v) both) (label_of c w) (label_of c v) both all_kinds apart
        ∙ get_or-set_at c.kinds (label_of c v) (label_of c v) both all_kinds refl (sets_long (label_of c v) (stands.inside v v_in))

    set_gone : set_at after.kinds (label_of c w) ≡ both
    set_gone =
        ap (λ sets. set_at sets (label_of c w)) kinds_is
        ∙ get_or-set_at (set c.kinds (label_of c v) both) (label_of c w) (label_of c w) both all_kinds refl
        (subst (λ n. label_of c w < n) (sym (length-set c.kinds (label_of c v) both)) (sets_long (label_of c w) (stands.inside w w_in)))

    set_other : (m : ℕ) → (m ≡ label_of c v → ⊥) → (m ≡ label_of c w → ⊥) → set_at after.kinds m ≡ set_at c.kinds m
    set_other m not_v not_w =
        ap (λ sets. set_at sets m) kinds_is
        ∙ get_or-set_other (set c.kinds (label_of c v) both) (label_of c w) m both all_kinds not_w
        ∙ get_or-set_other c.kinds (label_of c v) m both all_kinds not_v

    module _ (some : has_some both ≡ true) where
      all_filled : (m : ℕ) → m < count_of c → has_some (set_at after.kinds m) ≡ true
      all_filled m l = elim (cases_eq m (label_of c v)) [
        | inl e ↦ ap (λ n. has_some (set_at after.kinds n)) e ∙ ap has_some set_kept ∙ some
        | inr ne ↦ elim (cases_eq m (label_of c w)) [
          | inl e ↦ ap (λ n. has_some (set_at after.kinds n)) e ∙ ap has_some set_gone ∙ some
          | inr nf ↦ ap has_some (set_other m ne nf) ∙ stands.filled m l
        ]
      ]

      inside : (u : ℕ) → u < count_of c → label_of after u < count_of c
      inside u l = elim (cases_eq (label_of c u) (label_of c w)) [
        | inl e ↦ subst (λ n. n < count_of c) (sym (label_moved u l e)) (stands.inside v v_in)
        | inr ne ↦ subst (λ n. n < count_of c) (sym (label_same u l ne)) (stands.inside u l)
      ]

      -- a label that stays stands for itself
      label_stays : (m : ℕ) → m < count_of c → label_of c m ≡ m → (m ≡ label_of c w → ⊥) → label_of after m ≡ m
      label_stays m l e ne = label_same m l (λ f. ne (sym e ∙ f)) ∙ e

      settled : (u : ℕ) → u < count_of c → label_of after (label_of after u) ≡ label_of after u
      settled u l = elim (cases_eq (label_of c u) (label_of c w)) [
        | inl e ↦ ap (label_of after) (label_moved u l e) ∙ label_stays (label_of c v) (stands.inside v v_in) (stands.settled v v_in) apart ∙ sym (label_moved u l e)
        | inr ne ↦ ap (label_of after) (label_same u l ne) ∙ label_stays (label_of c u) (stands.inside u l) (stands.settled u l) ne ∙ sym (label_same u l ne)
      ]

      -- from the lists that are allowed afterwards
      module _ (t : List Kind) (a : Allows after t) where
        at_after : (u : ℕ) → u < count_of c → kind_at t (label_of after u) ≡ kind_at t u
        at_after u l = a.alike u (subst (λ n. u < n) (sym count) l)

        at_gone : kind_at t (label_of c v) ≡ kind_at t (label_of c w)
        at_gone = ap (kind_at t) (sym (label_moved (label_of c w) (stands.inside w w_in) (stands.settled w w_in))) ∙ at_after (label_of c w) (stands.inside w w_in)

        back_alike : (u : ℕ) → u < count_of c → kind_at t (label_of c u) ≡ kind_at t u
        back_alike u l = elim (cases_eq (label_of c u) (label_of c w)) [
          | inl e ↦ ap (kind_at t) e ∙ sym at_gone ∙ ap (kind_at t) (sym (label_moved u l e)) ∙ at_after u l
          | inr ne ↦ ap (kind_at t) (sym (label_same u l ne)) ∙ at_after u l
        ]

        held : (u : ℕ) → u < count_of c → holds (set_at after.kinds (label_of after u)) (kind_at t u) ≡ true
        held u l = a.within u (subst (λ n. u < n) (sym count) l)

        back_within : (u : ℕ) → u < count_of c → holds (set_at c.kinds (label_of c u)) (kind_at t u) ≡ true
        back_within u l = elim (cases_eq (label_of c u) (label_of c w)) [
          | inl e ↦
              ap (λ m. holds (set_at c.kinds m) (kind_at t u)) e
              ∙ holds_second (set_at c.kinds (label_of c v)) (set_at c.kinds (label_of c w)) (kind_at t u)
              (ap (λ s. holds s (kind_at t u)) (sym set_kept) ∙ ap (λ m. holds (set_at after.kinds m) (kind_at t u)) (sym (label_moved u l e)) ∙ held u l)
          | inr ne ↦ elim (cases_eq (label_of c u) (label_of c v)) [
            | inl f ↦
                ap (λ m. holds (set_at c.kinds m) (kind_at t u)) f
                ∙ holds_first (set_at c.kinds (label_of c v)) (set_at c.kinds (label_of c w)) (kind_at t u)
                (ap (λ s. holds s (kind_at t u)) (sym set_kept) ∙ ap (λ m. holds (set_at after.kinds m) (kind_at t u)) (sym f ∙ sym (label_same u l ne)) ∙ held u l)
            | inr nf ↦
                ap (λ s. holds s (kind_at t u)) (sym (set_other (label_of c u) nf ne))
                ∙ ap (λ m. holds (set_at after.kinds m) (kind_at t u)) (sym (label_same u l ne))
                ∙ held u l
          ]
        ]

        back : Allows c t
        back = record { counted = a.counted ∙ count; alike = back_alike; within = back_within }

        one_kind : kind_at t v ≡ kind_at t w
        one_kind = sym (back_alike v v_in) ∙ at_gone ∙ back_alike w w_in

      -- to them
      module _ (t : List Kind) (a : Allows c t) (e : kind_at t v ≡ kind_at t w) where
        at_both : kind_at t (label_of c v) ≡ kind_at t (label_of c w)
        at_both = a.alike v v_in ∙ e ∙ sym (a.alike w w_in)

        on_alike : (u : ℕ) → u < count_of c → kind_at t (label_of after u) ≡ kind_at t u
        on_alike u l = elim (cases_eq (label_of c u) (label_of c w)) [
          | inl f ↦ ap (kind_at t) (label_moved u l f) ∙ at_both ∙ ap (kind_at t) (sym f) ∙ a.alike u l
          | inr ne ↦ ap (kind_at t) (label_same u l ne) ∙ a.alike u l
        ]

        -- the kind of both is in both sets
        held_both : (k : Kind) → k ≡ kind_at t v → holds both k ≡ true
        held_both k is =
            holds_both (set_at c.kinds (label_of c v)) (set_at c.kinds (label_of c w)) k
            (ap (holds (set_at c.kinds (label_of c v))) is ∙ a.within v v_in)
            (ap (holds (set_at c.kinds (label_of c w))) (is ∙ e) ∙ a.within w w_in)

        on_within : (u : ℕ) → u < count_of c → holds (set_at after.kinds (label_of after u)) (kind_at t u) ≡ true
        on_within u l = elim (cases_eq (label_of c u) (label_of c w)) [
          | inl f ↦
              ap (λ m. holds (set_at after.kinds m) (kind_at t u)) (label_moved u l f)
              ∙ ap (λ s. holds s (kind_at t u)) set_kept
              ∙ held_both (kind_at t u) (sym (a.alike u l) ∙ ap (kind_at t) f ∙ a.alike w w_in ∙ sym e)
          | inr ne ↦ elim (cases_eq (label_of c u) (label_of c v)) [
            | inl f ↦
                ap (λ m. holds (set_at after.kinds m) (kind_at t u)) (label_same u l ne ∙ f)
                ∙ ap (λ s. holds s (kind_at t u)) set_kept
                ∙ held_both (kind_at t u) (sym (a.alike u l) ∙ ap (kind_at t) f ∙ a.alike v v_in)
            | inr nf ↦
                ap (λ m. holds (set_at after.kinds m) (kind_at t u)) (label_same u l ne)
                ∙ ap (λ s. holds s (kind_at t u)) (set_other (label_of c u) nf ne)
                ∙ a.within u l
          ]
        ]

        on : Allows after t
        on = record {
          counted = a.counted ∙ sym count;
          alike = λ u l. on_alike u (subst (λ n. u < n) count l);
          within = λ u l. on_within u (subst (λ n. u < n) count l);
        }

      pub joined : Narrows c after (λ t. same_kind (kind_at t v) (kind_at t w))
      joined = record {
        stands = record {
          sets = ap length kinds_is ∙ length-set (set c.kinds (label_of c v) both) (label_of c w) both ∙ length-set c.kinds (label_of c v) both ∙ stands.sets ∙ sym count;
          inside = λ u l. subst (λ n. label_of after u < n) (sym count) (inside u (subst (λ n. u < n) count l));
          settled = λ u l. settled u (subst (λ n. u < n) count l);
          filled = λ u l. all_filled u (subst (λ n. u < n) count l);
        };
        count = count;
        keeps = back;
        passes = λ t a. same_kind_from (kind_at t v) (kind_at t w) (one_kind t a);
        stays = λ t a h. on t a (kind_same (kind_at t v) (kind_at t w) h);
      }

-- the same, from what the calls say
pub join_ok : (c after : Classes) (v w l m : ℕ) (meet : Meet) → Stands c → v < count_of c → w < count_of c → l ≡ label_of c v → m ≡ label_of c w → (l ≡ m → ⊥)
    → after.kinds ≡ set (set c.kinds l (shared (set_at c.kinds l) (set_at c.kinds m))) m (shared (set_at c.kinds l) (set_at c.kinds m))
    → after.labels ≡ map (λ x. if x == m then l else x) c.labels
    → meet ≡ change_of_two (set_at c.kinds l) (set_at c.kinds m) (shared (set_at c.kinds l) (set_at c.kinds m))
    → leaves_some meet ≡ true → Narrows c after (λ t. same_kind (kind_at t v) (kind_at t w))
join_ok c after v w l m meet stands v_in w_in e f apart kinds labels is left =
    joined c after v w stands v_in w_in (λ same. apart (e ∙ same ∙ sym f)) (rw (← e, ← f) kinds) (rw (← e, ← f) labels)
    (rw (← e, ← f) (sym (leaves-change_of_two (set_at c.kinds l) (set_at c.kinds m) (shared (set_at c.kinds l) (set_at c.kinds m))) ∙ ap leaves_some (sym is) ∙ left))

-- two classes with no kind in common
pub join_err : (c : Classes) (v w l m : ℕ) (meet : Meet) → Stands c → v < count_of c → w < count_of c → l ≡ label_of c v → m ≡ label_of c w
    → meet ≡ change_of_two (set_at c.kinds l) (set_at c.kinds m) (shared (set_at c.kinds l) (set_at c.kinds m))
    → leaves_some meet ≡ false → Refuses c (λ t. same_kind (kind_at t v) (kind_at t w))
join_err c v w l m meet stands v_in w_in e f is none t a = by_test (same_kind (kind_at t v) (kind_at t w)) refl
  where
    empty : has_some (shared (set_at c.kinds l) (set_at c.kinds m)) ≡ false
    empty = sym (leaves-change_of_two (set_at c.kinds l) (set_at c.kinds m) (shared (set_at c.kinds l) (set_at c.kinds m))) ∙ ap leaves_some (sym is) ∙ none

    no : holds (shared (set_at c.kinds l) (set_at c.kinds m)) (kind_at t v) ≡ false
    no = holds_none (shared (set_at c.kinds l) (set_at c.kinds m)) (kind_at t v) empty

    by_test : (b : Bool) → same_kind (kind_at t v) (kind_at t w) ≡ b → same_kind (kind_at t v) (kind_at t w) ≡ false
    by_test false h = h
    by_test true h =
        refuted (same_kind (kind_at t v) (kind_at t w)) (holds (shared (set_at c.kinds l) (set_at c.kinds m)) (kind_at t v))
        (holds_both (set_at c.kinds l) (set_at c.kinds m) (kind_at t v)
        (rw e (a.within v v_in))
        (ap (holds (set_at c.kinds m)) (kind_same (kind_at t v) (kind_at t w) h) ∙ rw f (a.within w w_in)))
        no

-- two variables of one class
pub join_same : (c : Classes) (v w l m : ℕ) → Stands c → v < count_of c → w < count_of c → l ≡ label_of c v → m ≡ label_of c w → l ≡ m
    → Narrows c c (λ t. same_kind (kind_at t v) (kind_at t w))
join_same c v w l m stands v_in w_in e f same = record {
  stands = stands;
  count = refl;
  keeps = λ t a. a;
  passes = λ t a. same_kind_from (kind_at t v) (kind_at t w) (sym (a.alike v v_in) ∙ ap (kind_at t) (sym e ∙ same ∙ f) ∙ a.alike w w_in);
  stays = λ t a h. a;
}

-- two variables are of one kind where their labels are
module _ (c : Classes) (v w l m : ℕ) (v_in : v < count_of c) (w_in : w < count_of c) (e : l ≡ label_of c v) (f : m ≡ label_of c w) where
  by_labels : (t : List Kind) → Allows c t → same_kind (kind_at t l) (kind_at t m) ≡ same_kind (kind_at t v) (kind_at t w)
  by_labels t a =
      ap (λ k. same_kind k (kind_at t m)) (ap (kind_at t) e ∙ a.alike v v_in)
      ∙ ap (same_kind (kind_at t v)) (ap (kind_at t) f ∙ a.alike w w_in)

  by_labels_turned : (t : List Kind) → Allows c t → same_kind (kind_at t m) (kind_at t l) ≡ same_kind (kind_at t v) (kind_at t w)
  by_labels_turned t a = same_kind_comm (kind_at t m) (kind_at t l) ∙ by_labels t a

  pub labels_ok : (d : Classes) → Narrows c d (λ t. same_kind (kind_at t l) (kind_at t m)) → Narrows c d (λ t. same_kind (kind_at t v) (kind_at t w))
  labels_ok d h = narrows_within c d (λ t. same_kind (kind_at t l) (kind_at t m)) (λ t. same_kind (kind_at t v) (kind_at t w)) h by_labels

  pub labels_err : Refuses c (λ t. same_kind (kind_at t l) (kind_at t m)) → Refuses c (λ t. same_kind (kind_at t v) (kind_at t w))
  labels_err h = refuses_within c (λ t. same_kind (kind_at t l) (kind_at t m)) (λ t. same_kind (kind_at t v) (kind_at t w)) h by_labels

  pub turned_ok : (d : Classes) → Narrows c d (λ t. same_kind (kind_at t m) (kind_at t l)) → Narrows c d (λ t. same_kind (kind_at t v) (kind_at t w))
  turned_ok d h = narrows_within c d (λ t. same_kind (kind_at t m) (kind_at t l)) (λ t. same_kind (kind_at t v) (kind_at t w)) h by_labels_turned

  pub turned_err : Refuses c (λ t. same_kind (kind_at t m) (kind_at t l)) → Refuses c (λ t. same_kind (kind_at t v) (kind_at t w))
  turned_err h = refuses_within c (λ t. same_kind (kind_at t m) (kind_at t l)) (λ t. same_kind (kind_at t v) (kind_at t w)) h by_labels_turned
