-- From the classes to the typings.
use Rattle.std.proofs.Common.{◌≡◌, ℕ, ◌<◌, ◌≤◌, ◌+◌, List, [], ◌∷◌, ◌++◌, Bool, true, Some, None, IfOk, IfErr, Result, Ok, Err, length, map, take, get_or, slice_get, inl, inr, refl, sym, ap, ◌∙◌, subst, arith, zero, suc}
use Rattle.std.specs.List.{list_all}
use Rattle.std.proofs.Math.ListN.{get_or-append}
use Rattle.std.proofs.Math.Seq.{get_or-append_seam}
use Rattle.std.proofs.lemmas.List.{length-replicate, get_or-replicate, length-map, length-append, get_or-map, map-append, take_more}
use Rattle.std.proofs.lemmas.Bool.{and_parts, and_from, cases_eq}
use Rattle.std.proofs.lemmas.Option.{slice_get_read}
use Rattle.yarn_base.specs.declared.Place.{Place}
use Rattle.yarn_value.specs.declared.value.Kind.{Kind}
use Rattle.yarn_value.specs.declared.value.Kind.TheVariants.{Number, Str, Truth}
use Rattle.yarn_value.specs.declared.signature.Signature.{Signature}
use Rattle.yarn_types.specs.declared.name.First.{First}
use Rattle.yarn_types.specs.declared.class.Classes.{Classes}
use Rattle.yarn_types.specs.declared.expression.Scope.{Scope}
use Rattle.yarn_types.specs.declared.typed.TypedName.{TypedName}
use Rattle.yarn_types.specs.declared.typed.Typing.{Typing}
use Rattle.yarn_types.specs.declared.fault.TypeFault.{TypeFault}
use Rattle.yarn_types.specs.declared.fault.TypeFault.TheVariants.{NoTyping, ManyTypings, Memory}
use Rattle.yarn_types.specs.KindSets.{holds, has_some, all_kinds, lone}
use Rattle.yarn_types.specs.Sets.{set_at}
use Rattle.yarn_types.specs.Names.{appearance}
use Rattle.yarn_types.specs.Firsts.{appearance_of}
use Rattle.yarn_types.specs.Founds.{asked_under, units_under}
use Rattle.yarn_types.specs.Classes.{count_of, label_of, Stands, Allows, Narrows, IsFresh, IsAlone, IsOpenAt}
use Rattle.yarn_types.specs.Units.{UnitAt, variables_of, fits_all}
use Rattle.yarn_types.specs.Stops.{StopsAt, OpensAt, ReadsOpen}
use Rattle.yarn_types.specs.Typings.{kind_at, kinds_in, names_in_entries, Fits, IsOneTyping, NoTypingAt, ManyTypingsAt, Explains}
use Rattle.yarn_types.proofs.KindLemmas.{first_of, last_of, holds_first_of, holds_last_of}
use Rattle.yarn_types.proofs.Narrowing.{both_ways}
use Rattle.yarn_types.proofs.PickLemmas.{picked, picked_at, picked_allowed, lone_is, holds_lone, two_apart, lists_same}

-- each kind is in the set of all
all_held : (k : Kind) → holds all_kinds k ≡ true
all_held Number = refl
all_held Str = refl
all_held Truth = refl

module _ (c : Classes) (n : ℕ) (fresh : IsFresh c n) where
  all_at : (v : ℕ) → v < n → set_at c.kinds v ≡ all_kinds
  all_at v l = ap (λ sets. set_at sets v) fresh.kinds ∙ get_or-replicate n v all_kinds all_kinds l

  below : (v : ℕ) → v < count_of c → v < n
  below v l = subst (λ m. v < m) fresh.counted l

  pub fresh_stands : Stands c
  fresh_stands = record {
    sets = ap length fresh.kinds ∙ length-replicate n all_kinds ∙ sym fresh.counted;
    inside = λ v l. subst (λ m. m < count_of c) (sym (fresh.labels v (below v l))) l;
    settled = λ v l. ap (label_of c) (fresh.labels v (below v l));
    filled = λ v l. ap has_some (all_at v (below v l));
  }

  pub fresh_allows : (t : List Kind) → length t ≡ n → Allows c t
  fresh_allows t e = record {
    counted = e ∙ sym fresh.counted;
    alike = λ v l. ap (kind_at t) (fresh.labels v (below v l));
    within = λ v l. ap (λ m. holds (set_at c.kinds m) (kind_at t v)) (fresh.labels v (below v l)) ∙ ap (λ s. holds s (kind_at t v)) (all_at v (below v l)) ∙ all_held (kind_at t v);
  }

some_is : (a b : Kind) → Some a ≡ Some b → a ≡ b
some_is a b e = cc

-- ---- sets with one kind each

module _ (c : Classes) (stands : Stands c) where
  agree : (v : ℕ) (k : Kind) → v < count_of c → lone (set_at c.kinds (label_of c v)) ≡ Some k → (t : List Kind) → Allows c t → kind_at t v ≡ k
  agree v k l e t a = lone_is (set_at c.kinds (label_of c v)) k (kind_at t v) e (a.within v l)

  pub alone : (kinds : List Kind) → length kinds ≡ count_of c → ((v : ℕ) → v < count_of c → lone (set_at c.kinds (label_of c v)) ≡ Some (kind_at kinds v)) → IsAlone c kinds
  alone kinds long each = record {
    allowed = record {
      counted = long;
      alike = λ v l. some_is (kind_at kinds (label_of c v)) (kind_at kinds v)
          (sym (each (label_of c v) (stands.inside v l)) ∙ ap (λ m. lone (set_at c.kinds m)) (stands.settled v l) ∙ each v l);
      within = λ v l. holds_lone (set_at c.kinds (label_of c v)) (kind_at kinds v) (each v l);
    };
    only = λ t a. lists_same t kinds (a.counted ∙ sym long) (λ v l. agree v (kind_at kinds v) (subst (λ m. v < m) a.counted l) (each v (subst (λ m. v < m) a.counted l)) t a);
  }

  pub open_at : (kinds : List Kind) (v : ℕ) → v < count_of c → lone (set_at c.kinds (label_of c v)) ≡ None
      → ((w : ℕ) → w < v → lone (set_at c.kinds (label_of c w)) ≡ Some (kind_at kinds w)) → IsOpenAt c v
  open_at kinds v l none each = record {
    inside = l;
    one = picked c stands first_of holds_first_of;
    other = picked c stands last_of holds_last_of;
    one_allowed = picked_allowed c stands first_of holds_first_of;
    other_allowed = picked_allowed c stands last_of holds_last_of;
    apart = λ e. two_apart (set_at c.kinds (label_of c v)) (stands.filled (label_of c v) (stands.inside v l)) none
        (sym (picked_at c stands first_of holds_first_of v l) ∙ e ∙ picked_at c stands last_of holds_last_of v l);
    earlier = λ w m s t a b.
        let inside : w < count_of c = omega (arith, m, l) in
        agree w (kind_at kinds w) inside (each w m) s a ∙ sym (agree w (kind_at kinds w) inside (each w m) t b);
  }

-- ---- the entries that are read off

module _ (c : Classes) (firsts : List First) (entries new : List TypedName) (entry : TypedName) (v : ℕ) (first : First) (pushed : new ≡ entries ++ entry ∷ []) (long : length entries ≡ v) where
  pub entries_long : length new ≡ v + 1
  entries_long = ap length pushed ∙ length-append entries (entry ∷ []) ∙ ap (λ n. n + 1) long

  kinds_pushed : kinds_in new ≡ kinds_in entries ++ entry.kind ∷ []
  kinds_pushed = ap kinds_in pushed ∙ map-append (λ e. e.kind) entries (entry ∷ [])

  kinds_long : length (kinds_in entries) ≡ v
  kinds_long = length-map entries (λ e. e.kind) ∙ long

  pub entries_each : lone (set_at c.kinds (label_of c v)) ≡ Some entry.kind → ((w : ℕ) → w < v → lone (set_at c.kinds (label_of c w)) ≡ Some (kind_at (kinds_in entries) w))
      → (w : ℕ) → w < v + 1 → lone (set_at c.kinds (label_of c w)) ≡ Some (kind_at (kinds_in new) w)
  entries_each is each w l = elim (cases_eq w v) [
    | inl e ↦ ap (λ x. lone (set_at c.kinds (label_of c x))) e ∙ is ∙ ap Some (sym (ap (λ ks. kind_at ks w) kinds_pushed ∙ last_at (kinds_in entries) entry.kind w (e ∙ sym kinds_long)))
    | inr ne ↦
        let before : w < v = omega (arith, l, ne) in
        each w before ∙ ap Some (sym (ap (λ ks. kind_at ks w) kinds_pushed ∙ front_at (kinds_in entries) entry.kind w (subst (λ n. w < n) (sym kinds_long) before)))
  ]
    where
      last_at : (ks : List Kind) (k : Kind) (n : ℕ) → n ≡ length ks → kind_at (ks ++ k ∷ []) n ≡ k
      last_at ks k n e = ap (kind_at (ks ++ k ∷ [])) e ∙ get_or-append_seam ks k [] Number

      front_at : (ks : List Kind) (k : Kind) (n : ℕ) → n < length ks → kind_at (ks ++ k ∷ []) n ≡ kind_at ks n
      front_at ks k n l = get_or-append ks (k ∷ []) Number n l

  pub entries_named : v < length firsts → first ≡ get_or firsts v first → entry.name ≡ first.name.now → names_in_entries entries ≡ map (λ f. f.name.now) (take v firsts) → names_in_entries new ≡ map (λ f. f.name.now) (take (v + 1) firsts)
  entries_named l is named so_far =
      ap names_in_entries pushed ∙ map-append (λ e. e.name) entries (entry ∷ [])
      ∙ ap (λ ns. ns ++ entry.name ∷ []) so_far ∙ ap (λ n. map (λ f. f.name.now) (take v firsts) ++ n ∷ []) named
      ∙ sym (ap (map (λ f. f.name.now)) (take_more firsts v first l ∙ ap (λ f. take v firsts ++ f ∷ []) (sym is)) ∙ map-append (λ f. f.name.now) (take v firsts) (first ∷ []))

pub opens_at : (c : Classes) (firsts : List First) (v : ℕ) (first : First) (name : List ℕ) → v < length firsts → first ≡ get_or firsts v first → name ≡ first.name.now → IsOpenAt c v
    → OpensAt c (map appearance_of firsts) name first.place
opens_at c firsts v first name l is named two = record {
  at = v;
  stands =
      slice_get_read (map appearance_of firsts) (length firsts) v (appearance_of first) (sym (length-map firsts appearance_of)) l
      (ap appearance_of is ∙ sym (get_or-map appearance_of firsts v first (appearance_of first) l))
      ∙ ap (λ n. Some (appearance n first.place)) (sym named);
  two = two;
}

-- ---- the typings

-- a shorter front of what fits fits
front : {X : Type 0} (test : X → Bool) (xs : List X) (n m : ℕ) → n ≤ m → list_all test (take m xs) ≡ true → list_all test (take n xs) ≡ true
front test xs zero m l h = refl
front test [] (suc n) m l h = refl
front test (x ∷ xs) (suc n) zero l h = let never : ⊥ = omega (arith, l) in absurd never
front test (x ∷ xs) (suc n) (suc m) l h =
    let parts : (test x ≡ true) × (list_all test (take m xs) ≡ true) = and_parts (test x) (list_all test (take m xs)) h in
    and_from (test x) (list_all test (take n xs)) parts.0 (front test xs n m (omega (arith, l)) parts.1)

module _ (s : Scope) (units : List UnitAt) (known : s.names ≡ variables_of units) (fs : List Signature) (hosts : s.functions ≡ fs) (fresh now : Classes) (is : IsFresh fresh (length s.names)) where
  -- a list that fits under the code's words fits
  fits_here : (us : List UnitAt) (t : List Kind) → units_under s us t ≡ fits_all fs (variables_of units) t us
  fits_here us t = ap (λ vs. fits_all s.functions vs t us) known ∙ ap (λ f. fits_all f (variables_of units) t us) hosts

  long : length s.names ≡ length (variables_of units)
  long = ap length known

  allowed_at_first : (us : List UnitAt) (t : List Kind) → Fits fs (variables_of units) us t → Allows fresh t
  allowed_at_first us t f = fresh_allows fresh (length s.names) is t (f.counted ∙ sym long)

  module _ (narrows : Narrows fresh now (units_under s units)) where
    allowed_fits : (t : List Kind) → Allows now t → Fits fs (variables_of units) units t
    allowed_fits t a = record { counted = a.counted ∙ narrows.count ∙ is.counted ∙ long; fits = sym (fits_here units t) ∙ narrows.passes t a }

    fits_allowed : (t : List Kind) → Fits fs (variables_of units) units t → Allows now t
    fits_allowed t f = narrows.stays t (allowed_at_first units t f) (fits_here units t ∙ f.fits)

    many_typings : (firsts : List First) → map appearance_of firsts ≡ s.names → (name : List ℕ) (place : Place) → OpensAt now (map appearance_of firsts) name place → ManyTypingsAt fs units name place
    many_typings firsts same name place opens = record {
      at = opens.at;
      stands = ap (λ vs. slice_get vs opens.at) (sym (same ∙ known)) ∙ opens.stands;
      one = opens.two.one;
      other = opens.two.other;
      one_fits = allowed_fits opens.two.one opens.two.one_allowed;
      other_fits = allowed_fits opens.two.other opens.two.other_allowed;
      apart = opens.two.apart;
      earlier = λ w l t u f g. opens.two.earlier w l t u (fits_allowed t f) (fits_allowed u g);
    }

    -- what reading off answers, told of the typings
    pub read_ok : (firsts : List First) → map appearance_of firsts ≡ s.names → (result : Result Typing TypeFault) → IfOk result (λ typing. IsAlone now (kinds_in typing.entries))
        → IfOk result (λ typing. names_in_entries typing.entries ≡ map (λ f. f.name.now) firsts) → IfOk result (λ typing. IsOneTyping fs units typing)
    read_ok firsts same (Ok typing) one named = record {
      named = named ∙ names_of firsts ∙ ap (map (λ v. v.name)) (same ∙ known);
      fits = allowed_fits (kinds_in typing.entries) one.allowed;
      only = λ other f. one.only other (fits_allowed other f);
    }
      where
        names_of : (xs : List First) → map (λ f. f.name.now) xs ≡ map (λ v. v.name) (map appearance_of xs)
        names_of [] = refl
        names_of (x ∷ xs) = ap (λ ns. x.name.now ∷ ns) (names_of xs)
    read_ok firsts same (Err fault) one named = tt

    explained : (firsts : List First) → map appearance_of firsts ≡ s.names → (fault : TypeFault) → ReadsOpen now (map appearance_of firsts) fault → Explains fs units fault
    explained firsts same (NoTyping place) h = absurd h
    explained firsts same (ManyTypings name place) h = many_typings firsts same name place h
    explained firsts same Memory h = tt

    pub read_err : (firsts : List First) → map appearance_of firsts ≡ s.names → (result : Result Typing TypeFault) → IfErr result (λ fault. ReadsOpen now (map appearance_of firsts) fault) → IfErr result (λ fault. Explains fs units fault)
    read_err firsts same (Ok typing) h = tt
    read_err firsts same (Err fault) h = explained firsts same fault h

  pub no_typing : (place : Place) → StopsAt fresh s units place → NoTypingAt fs units place
  no_typing place stops = record {
    at = stops.at;
    unit = stops.unit;
    stands = stops.stands;
    placed = stops.placed;
    none = λ t f. both_ways (units_under s (take (stops.at + 1) units) t) (fits_here (take (stops.at + 1) units) t ∙ f.fits) (stops.none t (allowed_at_first (take (stops.at + 1) units) t f));
    least = λ n l. (
      stops.typing,
      record {
        counted = stops.allowed.counted ∙ is.counted ∙ long;
        fits = sym (fits_here (take n units) stops.typing) ∙ front (λ u. asked_under s u.asked stops.typing) units n stops.at l stops.fits;
      },
    );
  }
