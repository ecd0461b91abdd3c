-- Links after two classes were joined, and labels after a walk over one of them.
use Rattle.std.proofs.Common.{◌≡◌, ℕ, suc, ◌<◌, ◌≤◌, ◌+◌, ◌-◌, ◌==◌, nat_lt, List, [], ◌∷◌, ◌++◌, Bool, true, false, ◌||◌, if◌then◌else◌, inl, inr, length, get_or, set, map, sum, replicate, refl, sym, ap, ◌∙◌, subst, arith}
use Rattle.std.proofs.lemmas.Bool.{cases_eq, and_parts, and_from, eqb-true, eq-eqb}
use Rattle.std.proofs.lemmas.Grind.{same_number_lists, get_or_default_zero}
use Rattle.std.proofs.lemmas.List.{length-set, length-map, length-append, length-replicate, get_or-map, get_or-set_same, get_or-set_other, get_or-replicate}
use Rattle.std.proofs.lemmas.List.Folds.{list_any-append, list_all-append, sum_by-replicate}
use Rattle.std.proofs.lemmas.List.Sums.{sum_by-set, get_or-le-sum_by}
use Rattle.yarn_types.specs.Labels.{nth, among, below, IsEachItsOwn, renamed, walk, relabelled, Links, Linked}

-- ---- tests

or_left : (a b : Bool) → (a || b) ≡ false → a ≡ false
or_left true b h = h
or_left false b h = refl

or_right : (a b : Bool) → (a || b) ≡ false → b ≡ false
or_right true b h = cc
or_right false b h = h

or_first : (a b : Bool) → a ≡ true → (a || b) ≡ true
or_first a b h = rw h refl

or_second : (a b : Bool) → b ≡ true → (a || b) ≡ true
or_second true b h = refl
or_second false b h = h

either : {P : Type 0} (a b : Bool) → (a || b) ≡ true → (a ≡ true → P) → (b ≡ true → P) → P
either true b h left right = left refl
either false b h left right = right h

not_true : (b : Bool) → (b ≡ true → ⊥) → b ≡ false
not_true true wrong = absurd (wrong refl)
not_true false wrong = refl

pub unlike : (a b : ℕ) → (a == b) ≡ false → a ≡ b → ⊥
unlike a b h e = grind (arith, h, e)

-- ---- links where one link changed

module _ (next : List ℕ) (g x : ℕ) where
  links_other : (l from : ℕ) (xs : List ℕ) → among xs g ≡ false → Links next l from xs → Links (set next g x) l from xs
  links_other l from [] h k = k
  links_other l from (one ∷ more) h k = (
    k.0,
    k.1,
    subst (λ f. Links (set next g x) l f more) (sym (get_or-set_other next g one x 0 (unlike one g (or_left (one == g) (among more g) h))))
        (links_other l (nth next one) more (or_right (one == g) (among more g) h) k.2),
  )

  -- a class behind another, whose label links to its head
  links_behind : g < length next → (l from : ℕ) (xs ys : List ℕ) → among xs l ≡ false → (g ≡ l → ⊥) → Links next g from xs → Links (set next g x) l x ys
      → Links (set next g x) l from (xs ++ g ∷ ys)
  links_behind inside l from [] ys h apart k behind = (k, apart, subst (λ f. Links (set next g x) l f ys) (sym (get_or-set_same next g x 0 inside)) behind)
  links_behind inside l from (one ∷ more) ys h apart k behind = (
    k.0,
    unlike one l (or_left (one == l) (among more l) h),
    subst (λ f. Links (set next g x) l f (more ++ g ∷ ys)) (sym (get_or-set_other next g one x 0 k.1))
        (links_behind inside l (nth next one) more ys (or_right (one == l) (among more l) h) apart k.2 behind),
  )

-- the walk over a class
pub walk_is : (next : List ℕ) (l from : ℕ) (xs : List ℕ) → Links next l from xs → walk next from (suc (length xs)) ≡ xs ++ l ∷ []
walk_is next l from [] k = ap (λ v. v ∷ []) k
walk_is next l from (one ∷ more) k = subst (λ v. walk next v (suc (suc (length more))) ≡ one ∷ (more ++ l ∷ [])) (sym k.0) (ap (λ ws. one ∷ ws) (walk_is next l (nth next one) more k.2))

-- ---- sums

sum_set : (xs : List ℕ) (at y : ℕ) → at < length xs → sum (set xs at y) + nth xs at ≡ sum xs + y
sum_set xs at y l = sum_by-set (λ x. x) xs at y 0 l

pub two_of_sum : (xs : List ℕ) (one other : ℕ) → one < length xs → other < length xs → (other ≡ one → ⊥) → nth xs one + nth xs other ≤ sum xs
two_of_sum xs one other l m ne =
    omega (arith, sum_set xs one 0 l, get_or-le-sum_by (λ x. x) (set xs one 0) other 0 (subst (λ n. other < n) (sym (length-set xs one 0)) m), get_or-set_other xs one other 0 0 ne)

-- ---- labels

pub length-relabelled : (labels : List ℕ) (label : ℕ) (xs : List ℕ) → length (relabelled labels label xs) ≡ length labels
length-relabelled labels label [] = refl
length-relabelled labels label (x ∷ xs) = length-relabelled (set labels x label) label xs ∙ length-set labels x label

-- a label that was given, and one that stays
given : (labels : List ℕ) (label : ℕ) (xs : List ℕ) (u : ℕ) → u < length labels → nth labels u ≡ label → nth (relabelled labels label xs) u ≡ label
given labels label [] u l h = h
given labels label (x ∷ xs) u l h = given (set labels x label) label xs u (subst (λ n. u < n) (sym (length-set labels x label)) l) (elim (cases_eq u x) [
  | inl e ↦ ap (nth (set labels x label)) e ∙ get_or-set_same labels x label 0 (subst (λ n. n < length labels) e l)
  | inr ne ↦ get_or-set_other labels x u label 0 ne ∙ h
])

pub relabelled_at : (labels : List ℕ) (label : ℕ) (xs : List ℕ) (u : ℕ) → u < length labels → among xs u ≡ true → nth (relabelled labels label xs) u ≡ label
relabelled_at labels label [] u l h = cc
relabelled_at labels label (x ∷ xs) u l h = either (x == u) (among xs u) h
    (λ e. given (set labels x label) label xs u (subst (λ n. u < n) (sym (length-set labels x label)) l)
    (ap (λ v. nth (set labels v label) u) (eqb-true x u e) ∙ get_or-set_same labels u label 0 l))
    (λ e. relabelled_at (set labels x label) label xs u (subst (λ n. u < n) (sym (length-set labels x label)) l) e)

pub relabelled_not : (labels : List ℕ) (label : ℕ) (xs : List ℕ) (u : ℕ) → among xs u ≡ false → nth (relabelled labels label xs) u ≡ nth labels u
relabelled_not labels label [] u h = refl
relabelled_not labels label (x ∷ xs) u h =
    relabelled_not (set labels x label) label xs u (or_right (x == u) (among xs u) h)
    ∙ get_or-set_other labels x u label 0 (λ e. unlike x u (or_left (x == u) (among xs u) h) (sym e))

among-append : (xs ys : List ℕ) (u : ℕ) → among (xs ++ ys) u ≡ (among xs u || among ys u)
among-append xs ys u = list_any-append (λ other. other == u) xs ys

among_last : (xs : List ℕ) (g u : ℕ) → among (xs ++ g ∷ []) u ≡ true → (among xs u ≡ true → ⊥) → u ≡ g
among_last xs g u h out = either (among xs u) (among (g ∷ []) u) (sym (among-append xs (g ∷ []) u) ∙ h) (λ e. absurd (out e))
    (λ e. either (g == u) false e (λ f. sym (eqb-true g u f)) (λ f. cc))

renamed_gone : (gone label m : ℕ) → m ≡ gone → renamed gone label m ≡ label
renamed_gone gone label m e = grind arith

renamed_other : (gone label m : ℕ) → (m ≡ gone → ⊥) → renamed gone label m ≡ m
renamed_other gone label m ne = grind arith

module _ (labels heads next sizes : List ℕ) (is : Linked labels heads next sizes) where
  -- the numbers of a walk over a class are places
  owned_below : (l : ℕ) → l < length labels → nth labels l ≡ l → (xs : List ℕ) → ((m : ℕ) → among xs m ≡ true → among (is.others l) m ≡ true) → below (length labels) xs ≡ true
  owned_below l i e [] h = refl
  owned_below l i e (x ∷ xs) h =
      and_from (nat_lt x (length labels)) (below (length labels) xs) (grind (arith, (is.owned l i e x (h x (or_first (x == x) (among xs x) (eq-eqb x x refl)))).0))
      (owned_below l i e xs (λ m k. h m (or_second (x == m) (among xs m) k)))

  module _ (g : ℕ) (g_in : g < length labels) (g_is : nth labels g ≡ g) where
    pub walk_members : walk next (nth heads g) (nth sizes g) ≡ is.others g ++ g ∷ []
    walk_members = ap (walk next (nth heads g)) (is.sized g g_in g_is) ∙ walk_is next g (nth heads g) (is.others g) (is.linked g g_in g_is)

    pub walk_below : below (length labels) (walk next (nth heads g) (nth sizes g)) ≡ true
    walk_below =
        ap (below (length labels)) walk_members ∙ list_all-append (λ one. nat_lt one (length labels)) (is.others g) (g ∷ [])
        ∙ and_from (below (length labels) (is.others g)) (below (length labels) (g ∷ [])) (owned_below g g_in g_is (is.others g) (λ m k. k))
        (and_from (nat_lt g (length labels)) true (grind (arith, g_in)) refl)

    member : (u : ℕ) → u < length labels → nth labels u ≡ g → among (is.others g ++ g ∷ []) u ≡ true
    member u l e = among-append (is.others g) (g ∷ []) u ∙ elim (cases_eq u g) [
      | inl same ↦ or_second (among (is.others g) u) (among (g ∷ []) u) (or_first (g == u) false (eq-eqb g u (sym same)))
      | inr ne ↦ or_first (among (is.others g) u) (among (g ∷ []) u) (subst (λ m. among (is.others m) u ≡ true) e (is.reached u l (λ f. ne (sym f ∙ e))))
    ]

    -- a walk over a class gives its members another label
    pub relabelled_is : (label : ℕ) → relabelled labels label (walk next (nth heads g) (nth sizes g)) ≡ map (renamed g label) labels
    relabelled_is label =
        ap (relabelled labels label) walk_members
        ∙ same_number_lists (relabelled labels label (is.others g ++ g ∷ [])) (map (renamed g label) labels) (length-relabelled labels label (is.others g ++ g ∷ []) ∙ sym (length-map labels (renamed g label)))
        (λ u l. at u (subst (λ n. u < n) (length-relabelled labels label (is.others g ++ g ∷ [])) l))
      where
        at : (u : ℕ) → u < length labels → nth (relabelled labels label (is.others g ++ g ∷ [])) u ≡ nth (map (renamed g label) labels) u
        at u l = elim (cases_eq (nth labels u) g) [
          | inl e ↦ relabelled_at labels label (is.others g ++ g ∷ []) u l (member u l e) ∙ sym (renamed_gone g label (nth labels u) e) ∙ sym (get_or-map (renamed g label) labels u 0 0 l)
          | inr ne ↦ relabelled_not labels label (is.others g ++ g ∷ []) u (not_true (among (is.others g ++ g ∷ []) u) (λ h. ne (out u h)))
              ∙ sym (renamed_other g label (nth labels u) ne) ∙ sym (get_or-map (renamed g label) labels u 0 0 l)
        ]
          where
            out : (v : ℕ) → among (is.others g ++ g ∷ []) v ≡ true → nth labels v ≡ g
            out v h = either (among (is.others g) v) (among (g ∷ []) v) (sym (among-append (is.others g) (g ∷ []) v) ∙ h)
                (λ e. (is.owned g g_in g_is v e).1)
                (λ e. either (g == v) false e (λ f. ap (nth labels) (sym (eqb-true g v f)) ∙ g_is) (λ f. cc))

    -- the members of one class put behind those of another
    module _ (l : ℕ) (l_in : l < length labels) (l_is : nth labels l ≡ l) (apart : l ≡ g → ⊥) where
      abbrev now_labels : List ℕ
      now_labels = map (renamed g l) labels

      abbrev now_others : ℕ → List ℕ
      now_others v = if v == l then is.others g ++ g ∷ is.others l else is.others v

      others_same : (v : ℕ) → v ≡ l → now_others v ≡ is.others g ++ g ∷ is.others l
      others_same v e = rw (eq-eqb v l e) refl

      others_else : (v : ℕ) → (v ≡ l → ⊥) → now_others v ≡ is.others v
      others_else v ne = rw (not_true (v == l) (λ h. ne (eqb-true v l h))) refl

      long : length now_labels ≡ length labels
      long = length-map labels (renamed g l)

      at_moved : (v : ℕ) → v < length labels → nth labels v ≡ g → nth now_labels v ≡ l
      at_moved v i e = get_or-map (renamed g l) labels v 0 0 i ∙ renamed_gone g l (nth labels v) e

      at_same : (v : ℕ) → v < length labels → (nth labels v ≡ g → ⊥) → nth now_labels v ≡ nth labels v
      at_same v i ne = get_or-map (renamed g l) labels v 0 0 i ∙ renamed_other g l (nth labels v) ne

      -- a label is one of those before, and not the one that is gone
      was_label : (v : ℕ) → v < length labels → nth now_labels v ≡ v → (nth labels v ≡ v) × (v ≡ g → ⊥)
      was_label v i e = elim (cases_eq (nth labels v) g) [
        | inl f ↦ absurd (apart (sym l_is ∙ ap (nth labels) (sym (at_moved v i f) ∙ e) ∙ f))
        | inr ne ↦ (sym (at_same v i ne) ∙ e, λ f. ne (ap (nth labels) f ∙ g_is))
      ]

      -- no member of a class is the label of another
      no_label : (v m : ℕ) → v < length labels → nth labels v ≡ v → nth labels m ≡ m → (m ≡ v → ⊥) → among (is.others v) m ≡ false
      no_label v m i e f ne = not_true (among (is.others v) m) (λ h. ne (sym f ∙ (is.owned v i e m h).1))

      abbrev now_next : List ℕ
      now_next = set next g (nth heads l)

      abbrev now_heads : List ℕ
      now_heads = set heads l (nth heads g)

      abbrev now_sizes : List ℕ
      now_sizes = set (set sizes l (nth sizes l + nth sizes g)) g 0

      in_list : (xs : List ℕ) (v : ℕ) → length xs ≡ length labels → v < length labels → v < length xs
      in_list xs v e i = subst (λ n. v < n) (sym e) i

      linked_l : Links now_next l (nth heads g) (is.others g ++ g ∷ is.others l)
      linked_l =
          links_behind next g (nth heads l) (in_list next g is.next_long g_in) l (nth heads g) (is.others g) (is.others l) (no_label g l g_in g_is l_is apart) (λ e. apart (sym e))
          (is.linked g g_in g_is) (links_other next g (nth heads l) l (nth heads l) (is.others l) (no_label l g l_in l_is g_is (λ e. apart (sym e))) (is.linked l l_in l_is))

      now_linked : (v : ℕ) → v < length labels → nth labels v ≡ v → (v ≡ g → ⊥) → Links now_next v (nth now_heads v) (now_others v)
      now_linked v i e not_g = elim (cases_eq v l) [
        | inl same ↦
            let P : ℕ → Type 0 = λ w. Links now_next w (nth now_heads w) (now_others w) in
            subst P (sym same) (rw (get_or-set_same heads l (nth heads g) 0 (in_list heads l is.heads_long l_in), others_same l refl) linked_l)
        | inr ne ↦ rw (get_or-set_other heads l v (nth heads g) 0 ne, others_else v ne)
            (links_other next g (nth heads l) v (nth heads v) (is.others v) (no_label v g i e g_is (λ f. not_g (sym f))) (is.linked v i e))
      ]

      now_sized : (v : ℕ) → v < length labels → nth labels v ≡ v → (v ≡ g → ⊥) → nth now_sizes v ≡ suc (length (now_others v))
      now_sized v i e not_g = get_or-set_other (set sizes l (nth sizes l + nth sizes g)) g v 0 0 not_g ∙ elim (cases_eq v l) [
        | inl same ↦
            ap (nth (set sizes l (nth sizes l + nth sizes g))) same ∙ get_or-set_same sizes l (nth sizes l + nth sizes g) 0 (in_list sizes l is.sizes_long l_in)
            ∙ rw (others_same v same) (omega (arith, is.sized l l_in l_is, is.sized g g_in g_is, length-append (is.others g) (g ∷ is.others l)))
        | inr ne ↦ get_or-set_other sizes l v (nth sizes l + nth sizes g) 0 ne ∙ is.sized v i e ∙ ap (λ xs. suc (length xs)) (sym (others_else v ne))
      ]

      in_whole : (v : ℕ) → (among (is.others g) v ≡ true → ⊥) → (among (g ∷ is.others l) v ≡ true → ⊥) → among (is.others g ++ g ∷ is.others l) v ≡ true → ⊥
      in_whole v a b h = either (among (is.others g) v) (among (g ∷ is.others l) v) (sym (among-append (is.others g) (g ∷ is.others l) v) ∙ h) a b

      now_reached : (v : ℕ) → v < length labels → (nth now_labels v ≡ v → ⊥) → among (now_others (nth now_labels v)) v ≡ true
      now_reached v i out = elim (cases_eq (nth labels v) g) [
        | inl e ↦ rw (at_moved v i e) (rw (others_same l refl) (among-append (is.others g) (g ∷ is.others l) v ∙ elim (cases_eq v g) [
          | inl same ↦ or_second (among (is.others g) v) (among (g ∷ is.others l) v) (or_first (g == v) (among (is.others l) v) (eq-eqb g v (sym same)))
          | inr ne ↦ or_first (among (is.others g) v) (among (g ∷ is.others l) v) (subst (λ m. among (is.others m) v ≡ true) e (is.reached v i (λ f. ne (sym f ∙ e))))
        ]))
        | inr ne ↦ rw (at_same v i ne) (elim (cases_eq (nth labels v) l) [
          | inl e ↦ rw (others_same (nth labels v) e) (among-append (is.others g) (g ∷ is.others l) v
              ∙ or_second (among (is.others g) v) (among (g ∷ is.others l) v) (or_second (g == v) (among (is.others l) v)
              (subst (λ m. among (is.others m) v ≡ true) e (is.reached v i (λ f. out (at_same v i ne ∙ f))))))
          | inr nf ↦ rw (others_else (nth labels v) nf) (is.reached v i (λ f. out (at_same v i ne ∙ f)))
        ])
      ]

      -- a member's label afterwards
      goes_with : (v m : ℕ) → m < length labels → nth labels m ≡ v → (v ≡ g → ⊥) → nth now_labels m ≡ v
      goes_with v m i e ne = at_same m i (λ f. ne (sym e ∙ f)) ∙ e

      now_owned : (v : ℕ) → v < length labels → nth labels v ≡ v → (v ≡ g → ⊥) → (m : ℕ) → among (now_others v) m ≡ true → (m < length labels) × (nth now_labels m ≡ v)
      now_owned v i e not_g m h = elim (cases_eq v l) [
        | inl same ↦ either (among (is.others g) m) (among (g ∷ is.others l) m)
            (sym (among-append (is.others g) (g ∷ is.others l) m) ∙ ap (λ xs. among xs m) (sym (others_same v same)) ∙ h)
            (λ k. let own : (m < length labels) × (nth labels m ≡ g) = is.owned g g_in g_is m k in (own.0, at_moved m own.0 own.1 ∙ sym same))
            (λ k. either (g == m) (among (is.others l) m) k
            (λ f. let was : g ≡ m = eqb-true g m f in (subst (λ n. n < length labels) was g_in, ap (nth now_labels) (sym was) ∙ at_moved g g_in g_is ∙ sym same))
            (λ f. let own : (m < length labels) × (nth labels m ≡ l) = is.owned l l_in l_is m f in (own.0, goes_with l m own.0 own.1 apart ∙ sym same)))
        | inr ne ↦
            let own : (m < length labels) × (nth labels m ≡ v) = is.owned v i e m (ap (λ xs. among xs m) (sym (others_else v ne)) ∙ h) in
            (own.0, goes_with v m own.0 own.1 not_g)
      ]

      now_total : sum now_sizes ≡ length labels
      now_total = omega (
        arith,
        is.total,
        sum_set sizes l (nth sizes l + nth sizes g) (in_list sizes l is.sizes_long l_in),
        sum_set (set sizes l (nth sizes l + nth sizes g)) g 0 (subst (λ n. g < n) (sym (length-set sizes l (nth sizes l + nth sizes g))) (in_list sizes g is.sizes_long g_in)),
        get_or-set_other sizes l g (nth sizes l + nth sizes g) 0 (λ e. apart (sym e)),
      )

      now_inside : (v : ℕ) → v < length labels → nth now_labels v < length labels
      now_inside v i = elim (cases_eq (nth labels v) g) [
        | inl e ↦ subst (λ n. n < length labels) (sym (at_moved v i e)) l_in
        | inr ne ↦ subst (λ n. n < length labels) (sym (at_same v i ne)) (is.inside v i)
      ]

      now_settled : (v : ℕ) → v < length labels → nth now_labels (nth now_labels v) ≡ nth now_labels v
      now_settled v i = elim (cases_eq (nth labels v) g) [
        | inl e ↦ ap (nth now_labels) (at_moved v i e) ∙ goes_with l l l_in l_is apart ∙ sym (at_moved v i e)
        | inr ne ↦ ap (nth now_labels) (at_same v i ne) ∙ goes_with (nth labels v) (nth labels v) (is.inside v i) (is.settled v i) ne ∙ sym (at_same v i ne)
      ]

      within : (v : ℕ) → v < length now_labels → v < length labels
      within v i = subst (λ n. v < n) long i

      pub linked_on : Linked now_labels now_heads now_next now_sizes
      linked_on = record {
        heads_long = length-set heads l (nth heads g) ∙ is.heads_long ∙ sym long;
        next_long = length-set next g (nth heads l) ∙ is.next_long ∙ sym long;
        sizes_long = length-set (set sizes l (nth sizes l + nth sizes g)) g 0 ∙ length-set sizes l (nth sizes l + nth sizes g) ∙ is.sizes_long ∙ sym long;
        inside = λ v i. subst (λ n. nth now_labels v < n) (sym long) (now_inside v (within v i));
        settled = λ v i. now_settled v (within v i);
        others = now_others;
        linked = λ v i e. now_linked v (within v i) (was_label v (within v i) e).0 (was_label v (within v i) e).1;
        sized = λ v i e. now_sized v (within v i) (was_label v (within v i) e).0 (was_label v (within v i) e).1;
        reached = λ v i out. now_reached v (within v i) out;
        owned = λ v i e m h.
            let own : (m < length labels) × (nth now_labels m ≡ v) = now_owned v (within v i) (was_label v (within v i) e).0 (was_label v (within v i) e).1 m h in
            (subst (λ n. m < n) (sym long) own.0, own.1);
        total = now_total ∙ sym long;
      }

-- each variable in a class of its own
pub linked_fresh : (labels heads next : List ℕ) (count : ℕ) → IsEachItsOwn labels count → IsEachItsOwn heads count → IsEachItsOwn next count
    → Linked labels heads next (replicate count 1)
linked_fresh labels heads next count a b c = record {
  heads_long = b.counted ∙ sym a.counted;
  next_long = c.counted ∙ sym a.counted;
  sizes_long = length-replicate count 1 ∙ sym a.counted;
  inside = λ v i. subst (λ n. n < length labels) (sym (own v i)) i;
  settled = λ v i. ap (nth labels) (own v i);
  others = λ v. [];
  linked = λ v i e. b.each v (in_count v i);
  sized = λ v i e. get_or-replicate count v 1 0 (in_count v i);
  reached = λ v i out. absurd (out (own v i));
  owned = λ v i e m h. absurd (never h);
  total = ones count ∙ sym a.counted;
}
  where
    in_count : (v : ℕ) → v < length labels → v < count
    in_count v i = subst (λ n. v < n) a.counted i

    own : (v : ℕ) → v < length labels → nth labels v ≡ v
    own v i = a.each v (in_count v i)

    never : false ≡ true → ⊥
    never h = cc

    ones : (n : ℕ) → sum (replicate n 1) ≡ n
    ones n = omega (arith, sum_by-replicate (λ x. x) n 1)

-- one step of a walk that gives a label
pub walk_step : (next : List ℕ) (one count counter : ℕ) → counter < count → walk next one (count - counter) ≡ one ∷ walk next (nth next one) (count - (counter + 1))
walk_step next one count counter l = let e : count - counter ≡ suc (count - (counter + 1)) = omega (arith, l) in rw e refl

pub below_first : (count one : ℕ) (more xs : List ℕ) → xs ≡ one ∷ more → below count xs ≡ true → one < count
below_first count one more xs is h = let first : nat_lt one count ≡ true = (and_parts (nat_lt one count) (below count more) (ap (below count) (sym is) ∙ h)).0 in grind (arith, first)

pub below_rest : (count one : ℕ) (more xs : List ℕ) → xs ≡ one ∷ more → below count xs ≡ true → below count more ≡ true
below_rest count one more xs is h = (and_parts (nat_lt one count) (below count more) (ap (below count) (sym is) ∙ h)).1

pub relabelled_rest : (labels : List ℕ) (label one : ℕ) (more xs : List ℕ) → xs ≡ one ∷ more → relabelled (set labels one label) label more ≡ relabelled labels label xs
relabelled_rest labels label one more xs is = ap (relabelled labels label) (sym is)

-- the same, from what the calls say
module _ (labels heads next sizes view : List ℕ) (is : Linked labels heads next sizes) (same : labels ≡ view) (l g : ℕ) (l_in : l < length view) (g_in : g < length view)
    (l_is : nth view l ≡ l) (g_is : nth view g ≡ g) (apart : l ≡ g → ⊥) (head size : ℕ) (head_is : head ≡ get_or heads g head) (size_is : size ≡ get_or sizes g size) where
  l_inside : l < length labels
  l_inside = subst (λ xs. l < length xs) (sym same) l_in

  g_inside : g < length labels
  g_inside = subst (λ xs. g < length xs) (sym same) g_in

  l_own : nth labels l ≡ l
  l_own = ap (λ xs. nth xs l) same ∙ l_is

  g_own : nth labels g ≡ g
  g_own = ap (λ xs. nth xs g) same ∙ g_is

  at_zero : (xs : List ℕ) (v x : ℕ) → length xs ≡ length labels → v < length labels → x ≡ get_or xs v x → x ≡ nth xs v
  at_zero xs v x long i e = e ∙ get_or_default_zero xs v x (subst (λ n. v < n) (sym long) i)

  walk_same : walk next head size ≡ walk next (nth heads g) (nth sizes g)
  walk_same = ap (λ from. walk next from size) (at_zero heads g head is.heads_long g_inside head_is) ∙ ap (walk next (nth heads g)) (at_zero sizes g size is.sizes_long g_inside size_is)

  pub join_below : below (length labels) (walk next head size) ≡ true
  join_below = ap (below (length labels)) walk_same ∙ walk_below labels heads next sizes is g g_inside g_own

  pub join_labels : (new : List ℕ) → new ≡ relabelled labels l (walk next head size) → new ≡ map (renamed g l) labels
  join_labels new e = e ∙ ap (relabelled labels l) walk_same ∙ relabelled_is labels heads next sizes is g g_inside g_own l

  pub join_view : (new : List ℕ) → new ≡ relabelled labels l (walk next head size) → new ≡ map (renamed g l) view
  join_view new e = join_labels new e ∙ ap (map (renamed g l)) same

  pub join_sizes : nth sizes l + nth sizes g ≤ length labels
  join_sizes = subst (λ n. nth sizes l + nth sizes g ≤ n) is.total
      (two_of_sum sizes l g (subst (λ n. l < n) (sym is.sizes_long) l_inside) (subst (λ n. g < n) (sym is.sizes_long) g_inside) (λ e. apart (sym e)))

  pub join_linked : (new : List ℕ) → new ≡ relabelled labels l (walk next head size) → (head_l head_g size_l size_g : ℕ)
      → head_l ≡ get_or heads l head_l → head_g ≡ get_or heads g head_g → size_l ≡ get_or sizes l size_l → size_g ≡ get_or sizes g size_g
      → Linked new (set heads l head_g) (set next g head_l) (set (set sizes l (size_l + size_g)) g 0)
  join_linked new e head_l head_g size_l size_g a b c d =
      rw (join_labels new e, at_zero heads l head_l is.heads_long l_inside a, at_zero heads g head_g is.heads_long g_inside b, at_zero sizes l size_l is.sizes_long l_inside c, at_zero sizes g size_g is.sizes_long g_inside d)
      (linked_on labels heads next sizes is g g_inside g_own l l_inside l_own apart)
