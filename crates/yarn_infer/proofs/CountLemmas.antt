-- The one typing among all lists of kinds, and what stands against it.
use Rattle.std.proofs.Common.{◌≡◌, ℕ, zero, suc, ◌+◌, ◌<◌, ◌≤◌, ◌⊎◌, inl, inr, List, [], ◌∷◌, ◌++◌, length, map, take, slice_get, Bool, true, false, not, cond, ◌||◌, if◌then◌else◌, Option, Some, None, Result, Ok, Err, IfOk, IfErr, refl, sym, ap, ◌∙◌, subst, append_assoc, arith}
use mathlib.Core.Path.{ap₂}
use Rattle.std.specs.List.{filter, list_any}
use Rattle.std.proofs.lemmas.Bool.{and_parts, or_parts, false≢true, true≢false}
use Rattle.std.proofs.lemmas.List.{append-nil}
use Rattle.std.proofs.lemmas.List.Folds.{list_all-append}
use Rattle.std.proofs.lemmas.Option.{none-some}
use Rattle.yarn_base.specs.declared.Place.{Place}
use Rattle.yarn_value.specs.declared.value.Kind.{Kind}
use Rattle.yarn_value.specs.declared.value.Kind.TheVariants.{Number, Str, Truth}
use Rattle.yarn_value.specs.declared.signature.Signature.{Signature}
use Rattle.yarn_value.specs.Rows.{same_kind}
use Rattle.yarn_types.specs.declared.fault.TypeFault.{TypeFault}
use Rattle.yarn_types.specs.declared.fault.TypeFault.TheVariants.{NoTyping, ManyTypings, Memory}
use Rattle.yarn_types.specs.declared.typed.Typing.{Typing}
use Rattle.yarn_types.specs.declared.typed.TypedName.{TypedName}
use Rattle.yarn_types.specs.Names.{Appearance}
use Rattle.yarn_types.specs.Units.{UnitAt, variables_of, fits_asked, fits_all}
use Rattle.yarn_types.specs.Typings.{kind_at, kinds_in, names_in_entries, Fits, IsOneTyping, NoTypingAt, ManyTypingsAt, Explains}
use Rattle.yarn_types.proofs.KindLemmas.{kind_same, same_kind_from}
use Rattle.yarn_infer.specs.Typings.{with_each, lists_of, typings, Typed, Untyped, Open, typed_names, is_none, untyped_at, first_kinds, later_kinds, differ, open_in, first_list, one_or_open, kinding_among, kinding_of, IsKinding}

-- ---- what stands in a list

abbrev In : {X : Type 0} → X → List X → Type 0
In x [] = ⊥
In x (y ∷ ys) = (x ≡ y) ⊎ In x ys

module _ {X : Type 0} where
  in_left : (x : X) (xs ys : List X) → In x xs → In x (xs ++ ys)
  in_left x [] ys i = absurd i
  in_left x (y ∷ xs) ys (inl e) = inl e
  in_left x (y ∷ xs) ys (inr i) = inr (in_left x xs ys i)

  in_right : (x : X) (xs ys : List X) → In x ys → In x (xs ++ ys)
  in_right x [] ys i = i
  in_right x (y ∷ xs) ys i = inr (in_right x xs ys i)

  in_either : (x : X) (xs ys : List X) → In x (xs ++ ys) → In x xs ⊎ In x ys
  in_either x [] ys i = inr i
  in_either x (y ∷ xs) ys (inl e) = inl (inl e)
  in_either x (y ∷ xs) ys (inr i) = elim (in_either x xs ys i) [ inl j ↦ inl (inr j) | inr j ↦ inr j ]

  in_map : {Y : Type 0} (f : X → Y) (x : X) (xs : List X) → In x xs → In (f x) (map f xs)
  in_map f x [] i = i
  in_map f x (y ∷ xs) (inl e) = inl (ap f e)
  in_map f x (y ∷ xs) (inr i) = inr (in_map f x xs i)

  from_map : {Y : Type 0} (f : X → Y) (y : Y) (xs : List X) → In y (map f xs) → (x : X) × (y ≡ f x) × In x xs
  from_map f y [] i = absurd i
  from_map f y (x ∷ xs) (inl e) = (x, e, inl refl)
  from_map f y (x ∷ xs) (inr i) = let one = from_map f y xs i in (one.0, one.1, inr one.2)

  kept : (is : Bool) (x : X) (xs : List X) → is ≡ true → In x (cond is (x ∷ xs) xs)
  kept true x xs e = inl refl
  kept false x xs e = absurd (false≢true e)

  kept_behind : (is : Bool) (x y : X) (xs : List X) → In x xs → In x (cond is (y ∷ xs) xs)
  kept_behind true x y xs i = inr i
  kept_behind false x y xs i = i

  in_filter : (test : X → Bool) (x : X) (xs : List X) → In x xs → test x ≡ true → In x (filter test xs)
  in_filter test x [] i passes = i
  in_filter test x (y ∷ xs) (inl e) passes = subst (λ z. In z (filter test (y ∷ xs))) (sym e) (kept (test y) y (filter test xs) (ap test (sym e) ∙ passes))
  in_filter test x (y ∷ xs) (inr i) passes = kept_behind (test y) x y (filter test xs) (in_filter test x xs i passes)

  of_kept : (is : Bool) (x y : X) (xs : List X) → In x (cond is (y ∷ xs) xs) → ((x ≡ y) × (is ≡ true)) ⊎ In x xs
  of_kept true x y xs (inl e) = inl (e, refl)
  of_kept true x y xs (inr i) = inr i
  of_kept false x y xs i = inr i

  from_filter : (test : X → Bool) (x : X) (xs : List X) → In x (filter test xs) → In x xs × (test x ≡ true)
  from_filter test x [] i = absurd i
  from_filter test x (y ∷ xs) i =
      elim (of_kept (test y) x y (filter test xs) i) [
        | inl one ↦ (inl one.0, ap test one.0 ∙ one.1)
        | inr j ↦ (let more = from_filter test x xs j in (inr more.0, more.1))
      ]

-- the first of a list whose elements are all the same
first_of_all : (lists : List (List Kind)) (one : List Kind) → In one lists → ((s : List Kind) → In s lists → s ≡ one) → first_list lists ≡ one
first_of_all [] one i same = absurd i
first_of_all (l ∷ lists) one i same = same l (inl refl)

some_in : (lists : List (List Kind)) (s : List Kind) → In s lists → is_none lists ≡ false
some_in [] s i = absurd i
some_in (l ∷ lists) s i = refl

none_in : (lists : List (List Kind)) → ((s : List Kind) → In s lists → ⊥) → is_none lists ≡ true
none_in [] none = refl
none_in (l ∷ lists) none = absurd (none l (inl refl))

-- ---- a list is among all lists of its length

put : (k : Kind) (s : List Kind) (lists : List (List Kind)) → In s lists → In (k ∷ s) (with_each lists)
put Number s lists i =
    in_left (Number ∷ s) (map (λ l. Number ∷ l) lists) (map (λ l. Str ∷ l) lists ++ map (λ l. Truth ∷ l) lists) (in_map (λ l. Number ∷ l) s lists i)
put Str s lists i =
    in_right (Str ∷ s) (map (λ l. Number ∷ l) lists) (map (λ l. Str ∷ l) lists ++ map (λ l. Truth ∷ l) lists)
    (in_left (Str ∷ s) (map (λ l. Str ∷ l) lists) (map (λ l. Truth ∷ l) lists) (in_map (λ l. Str ∷ l) s lists i))
put Truth s lists i =
    in_right (Truth ∷ s) (map (λ l. Number ∷ l) lists) (map (λ l. Str ∷ l) lists ++ map (λ l. Truth ∷ l) lists)
    (in_right (Truth ∷ s) (map (λ l. Str ∷ l) lists) (map (λ l. Truth ∷ l) lists) (in_map (λ l. Truth ∷ l) s lists i))

in_lists : (s : List Kind) (n : ℕ) → length s ≡ n → In s (lists_of n)
in_lists [] zero e = inl refl
in_lists [] (suc n) e = absurd (omega arith)
in_lists (k ∷ s) zero e = absurd (omega arith)
in_lists (k ∷ s) (suc n) e = put k s (lists_of n) (in_lists s n (omega arith))

abbrev Longer : List Kind → List (List Kind) → Type 0
Longer s lists = (k : Kind) × (t : List Kind) × (s ≡ k ∷ t) × In t lists

longer : (k : Kind) (s : List Kind) (lists : List (List Kind)) → In s (map (λ l. k ∷ l) lists) → Longer s lists
longer k s lists i = let one = from_map (λ l. k ∷ l) s lists i in (k, one.0, one.1, one.2)

taken : (s : List Kind) (lists : List (List Kind)) → In s (with_each lists) → Longer s lists
taken s lists i =
    elim (in_either s (map (λ l. Number ∷ l) lists) (map (λ l. Str ∷ l) lists ++ map (λ l. Truth ∷ l) lists) i) [
      | inl j ↦ longer Number s lists j
      | inr j ↦ (elim (in_either s (map (λ l. Str ∷ l) lists) (map (λ l. Truth ∷ l) lists) j) [
        | inl h ↦ longer Str s lists h
        | inr h ↦ longer Truth s lists h
      ])
    ]

lists_in : (n : ℕ) (s : List Kind) → In s (lists_of n) → length s ≡ n
lists_in zero s (inl e) = ap length e
lists_in zero s (inr i) = absurd i
lists_in (suc n) s i =
    let one = taken s (lists_of n) i in
    let so_far : length one.1 ≡ n = lists_in n one.1 one.3 in
    let e : length s ≡ length (one.0 ∷ one.1) = ap length one.2 in
    omega (arith, so_far, e)

-- ---- the lists that fit, and lines that no list fits

pick_else : {X : Type 0} (is : Bool) (x y : X) → is ≡ false → (if is then x else y) ≡ y
pick_else true x y e = absurd (true≢false e)
pick_else false x y e = refl

pick_then : {X : Type 0} (is : Bool) (x y : X) → is ≡ true → (if is then x else y) ≡ x
pick_then true x y e = refl
pick_then false x y e = absurd (false≢true e)

module _ (signatures : List Signature) (variables : List Appearance) where
  fits_in : (units : List UnitAt) (s : List Kind) → Fits signatures variables units s → In s (typings signatures variables units)
  fits_in units s f =
      in_filter (λ typing. fits_all signatures variables typing units) s (lists_of (length variables)) (in_lists s (length variables) f.counted) f.fits

  in_fits : (units : List UnitAt) (s : List Kind) → In s (typings signatures variables units) → Fits signatures variables units s
  in_fits units s i =
      let both = from_filter (λ typing. fits_all signatures variables typing units) s (lists_of (length variables)) i in
      record { counted = lists_in (length variables) s both.0; fits = both.1 }

  -- where a list fits all lines, it fits those at the front
  front_fits : (before units : List UnitAt) (s : List Kind) → Fits signatures variables (before ++ units) s → Fits signatures variables before s
  front_fits before units s f =
      record {
        counted = f.counted;
        fits = (and_parts (fits_all signatures variables s before) (fits_all signatures variables s units) (sym (list_all-append (λ (unit : UnitAt). fits_asked signatures variables s unit.asked) before units) ∙ f.fits)).0;
      }

  nothing_untyped : (before units : List UnitAt) (s : List Kind) → Fits signatures variables (before ++ units) s → untyped_at signatures variables before units ≡ None
  nothing_untyped before [] s f = refl
  nothing_untyped before (u ∷ units) s f =
      let g : Fits signatures variables ((before ++ u ∷ []) ++ units) s = subst (λ us. Fits signatures variables us s) (sym (append_assoc before (u ∷ []) units)) f in
      pick_else (is_none (typings signatures variables (before ++ u ∷ []))) (Some u.place) (untyped_at signatures variables (before ++ u ∷ []) units)
      (some_in (typings signatures variables (before ++ u ∷ [])) s (fits_in (before ++ u ∷ []) s (front_fits (before ++ u ∷ []) units s g)))
      ∙ nothing_untyped (before ++ u ∷ []) units s g

  untyped_from : (before units : List UnitAt) (at : ℕ) (unit : UnitAt) → slice_get units at ≡ Some unit
      → ((s : List Kind) → Fits signatures variables (before ++ take (at + 1) units) s → ⊥)
      → ((n : ℕ) → n ≤ at → (s : List Kind) × Fits signatures variables (before ++ take n units) s)
      → untyped_at signatures variables before units ≡ Some unit.place
  untyped_from before [] at unit is none least = absurd (none-some unit is)
  untyped_from before (u ∷ units) zero unit is none least =
      pick_then (is_none (typings signatures variables (before ++ u ∷ []))) (Some u.place) (untyped_at signatures variables (before ++ u ∷ []) units)
      (none_in (typings signatures variables (before ++ u ∷ [])) (λ s i. none s (in_fits (before ++ u ∷ []) s i)))
      ∙ placed u unit is
    where
      placed : (v w : UnitAt) → Some v ≡ Some w → Some v.place ≡ Some w.place
      placed v w e = cc
  untyped_from before (u ∷ units) (suc at) unit is none least =
      let first = least 1 (omega arith) in
      pick_else (is_none (typings signatures variables (before ++ u ∷ []))) (Some u.place) (untyped_at signatures variables (before ++ u ∷ []) units)
      (some_in (typings signatures variables (before ++ u ∷ [])) first.0 (fits_in (before ++ u ∷ []) first.0 first.1))
      ∙ untyped_from (before ++ u ∷ []) units at unit is
      (λ s f. none s (subst (λ us. Fits signatures variables us s) (append_assoc before (u ∷ []) (take (at + 1) units) ∙ sym (more (suc at + 1) (omega arith))) f))
      (λ n le. let one = least (suc n) (omega (arith, le)) in (one.0, subst (λ us. Fits signatures variables us one.0) (sym (append_assoc before (u ∷ []) (take n units))) one.1))
    where
      more : (n : ℕ) → n ≡ suc (at + 1) → before ++ take n (u ∷ units) ≡ before ++ u ∷ take (at + 1) units
      more n e = ap (λ m. before ++ take m (u ∷ units)) e

-- ---- the first variable with two kinds

abbrev HasLength : ℕ → List (List Kind) → Type 0
HasLength n lists = (s : List Kind) → In s lists → length s ≡ n

-- the lists give the variable at that place one kind
abbrev Alike : List (List Kind) → ℕ → Type 0
Alike lists v = (s t : List Kind) → In s lists → In t lists → kind_at s v ≡ kind_at t v

cons_apart : (k : Kind) (s : List Kind) → k ∷ s ≡ [] → ⊥
cons_apart k s e = let n : length (k ∷ s) ≡ 0 = ap length e in omega arith

heads : (k : Kind) (lists : List (List Kind)) → In k (first_kinds lists) → (s : List Kind) × In (k ∷ s) lists
heads k [] i = absurd i
heads k ([] ∷ lists) i = let one = heads k lists i in (one.0, inr one.1)
heads k ((l ∷ ls) ∷ lists) (inl e) = (ls, inl (ap (λ h. h ∷ ls) e))
heads k ((l ∷ ls) ∷ lists) (inr i) = let one = heads k lists i in (one.0, inr one.1)

in_heads : (k : Kind) (s : List Kind) (lists : List (List Kind)) → In (k ∷ s) lists → In k (first_kinds lists)
in_heads k s [] i = absurd i
in_heads k s ([] ∷ lists) (inl e) = absurd (cons_apart k s e)
in_heads k s ([] ∷ lists) (inr i) = in_heads k s lists i
in_heads k s ((l ∷ ls) ∷ lists) (inl e) = inl (ap (λ t. kind_at t 0) e)
in_heads k s ((l ∷ ls) ∷ lists) (inr i) = inr (in_heads k s lists i)

abbrev tail_of : List Kind → List Kind
tail_of [] = []
tail_of (k ∷ s) = s

in_later : (k : Kind) (s : List Kind) (lists : List (List Kind)) → In (k ∷ s) lists → In s (later_kinds lists)
in_later k s [] i = absurd i
in_later k s ([] ∷ lists) (inl e) = absurd (cons_apart k s e)
in_later k s ([] ∷ lists) (inr i) = inr (in_later k s lists i)
in_later k s ((l ∷ ls) ∷ lists) (inl e) = inl (ap tail_of e)
in_later k s ((l ∷ ls) ∷ lists) (inr i) = inr (in_later k s lists i)

later : (n : ℕ) (s : List Kind) (lists : List (List Kind)) → HasLength (suc n) lists → In s (later_kinds lists) → (k : Kind) × In (k ∷ s) lists
later n s [] long i = absurd i
later n s ([] ∷ lists) long i = let e : 0 ≡ suc n = long [] (inl refl) in absurd (omega (arith, e))
later n s ((l ∷ ls) ∷ lists) long (inl e) = (l, inl (ap (λ t. l ∷ t) e))
later n s ((l ∷ ls) ∷ lists) long (inr i) = let one = later n s lists (λ t j. long t (inr j)) i in (one.0, inr one.1)

later_length : (n : ℕ) (lists : List (List Kind)) → HasLength (suc n) lists → HasLength n (later_kinds lists)
later_length n lists long s i =
    let one = later n s lists long i in
    let e : length (one.0 ∷ s) ≡ suc n = long (one.0 ∷ s) one.1 in
    omega (arith, e)

not_differ : (ks : List Kind) → ((a b : Kind) → In a ks → In b ks → a ≡ b) → differ ks ≡ false
not_differ [] same = refl
not_differ (k ∷ ks) same = all ks (λ other i. same k other (inl refl) (inr i))
  where
    all : (more : List Kind) → ((other : Kind) → In other more → k ≡ other) → list_any (λ other. not (same_kind k other)) more ≡ false
    all [] alike = refl
    all (one ∷ more) alike = ap (λ is. not is || list_any (λ other. not (same_kind k other)) more) (same_kind_from k one (alike one (inl refl))) ∙ all more (λ other i. alike other (inr i))

no_not : (is : Bool) → not is ≡ false → is ≡ true
no_not true e = refl
no_not false e = absurd (true≢false e)

alike_from : (k : Kind) (ks : List Kind) → list_any (λ other. not (same_kind k other)) ks ≡ false → (a : Kind) → In a ks → k ≡ a
alike_from k [] e a i = absurd i
alike_from k (one ∷ ks) e a (inl is) =
    kind_same k one (no_not (same_kind k one) (or_parts (not (same_kind k one)) (list_any (λ other. not (same_kind k other)) ks) e).0) ∙ sym is
alike_from k (one ∷ ks) e a (inr i) =
    alike_from k ks (or_parts (not (same_kind k one)) (list_any (λ other. not (same_kind k other)) ks) e).1 a i

first_alike : (k : Kind) (ks : List Kind) → list_any (λ other. not (same_kind k other)) ks ≡ false → (a : Kind) → In a (k ∷ ks) → k ≡ a
first_alike k ks e a (inl is) = sym is
first_alike k ks e a (inr i) = alike_from k ks e a i

does_differ : (ks : List Kind) (a b : Kind) → In a ks → In b ks → (a ≡ b → ⊥) → differ ks ≡ true
does_differ [] a b i j apart = absurd i
does_differ (k ∷ ks) a b i j apart = by_test (list_any (λ other. not (same_kind k other)) ks) refl
  where
    by_test : (is : Bool) → list_any (λ other. not (same_kind k other)) ks ≡ is → list_any (λ other. not (same_kind k other)) ks ≡ true
    by_test true e = e
    by_test false e = absurd (apart (sym (first_alike k ks e a i) ∙ first_alike k ks e b j))

heads_alike : (lists : List (List Kind)) → Alike lists 0 → differ (first_kinds lists) ≡ false
heads_alike lists same = not_differ (first_kinds lists) by_heads
  where
    by_heads : (a b : Kind) → In a (first_kinds lists) → In b (first_kinds lists) → a ≡ b
    by_heads a b i j =
        let one = heads a lists i in
        let other = heads b lists j in
        same (a ∷ one.0) (b ∷ other.0) one.1 other.1

later_alike : (n v : ℕ) (lists : List (List Kind)) → HasLength (suc n) lists → Alike lists (suc v) → Alike (later_kinds lists) v
later_alike n v lists long same s t i j =
    let one = later n s lists long i in
    let other = later n t lists long j in
    same (one.0 ∷ s) (other.0 ∷ t) one.1 other.1

none_open : (variables : List Appearance) (lists : List (List Kind)) → HasLength (length variables) lists → ((v : ℕ) → Alike lists v) → open_in variables lists ≡ None
none_open [] lists long same = refl
none_open (a ∷ variables) lists long same =
    pick_else (differ (first_kinds lists)) (Some a) (open_in variables (later_kinds lists)) (heads_alike lists (same 0))
    ∙ none_open variables (later_kinds lists) (later_length (length variables) lists long) (λ v. later_alike (length variables) v lists long (same (suc v)))

-- two of the lists give that variable two kinds
record ApartAt (lists : List (List Kind)) (at : ℕ) : Type 0 where
  one : List Kind
  other : List Kind
  one_in : In one lists
  other_in : In other lists
  apart : kind_at one at ≡ kind_at other at → ⊥

apart_heads : (n : ℕ) (lists : List (List Kind)) (one other : List Kind) → length one ≡ suc n → length other ≡ suc n → In one lists → In other lists
    → (kind_at one 0 ≡ kind_at other 0 → ⊥) → differ (first_kinds lists) ≡ true
apart_heads n lists [] other e d i j apart = absurd (omega arith)
apart_heads n lists (k ∷ s) [] e d i j apart = absurd (omega arith)
apart_heads n lists (k ∷ s) (l ∷ t) e d i j apart = does_differ (first_kinds lists) k l (in_heads k s lists i) (in_heads l t lists j) apart

apart_later : (n at : ℕ) (lists : List (List Kind)) (one other : List Kind) → length one ≡ suc n → length other ≡ suc n → In one lists → In other lists
    → (kind_at one (suc at) ≡ kind_at other (suc at) → ⊥) → ApartAt (later_kinds lists) at
apart_later n at lists [] other e d i j apart = absurd (omega arith)
apart_later n at lists (k ∷ s) [] e d i j apart = absurd (omega arith)
apart_later n at lists (k ∷ s) (l ∷ t) e d i j apart = record { one = s; other = t; one_in = in_later k s lists i; other_in = in_later l t lists j; apart = apart }

opens_at : (variables : List Appearance) (lists : List (List Kind)) (at : ℕ) (a : Appearance) → slice_get variables at ≡ Some a → HasLength (length variables) lists
    → ApartAt lists at → ((v : ℕ) → v < at → Alike lists v) → open_in variables lists ≡ Some a
opens_at [] lists at a is long apart earlier = absurd (none-some a is)
opens_at (b ∷ variables) lists zero a is long apart earlier =
    pick_then (differ (first_kinds lists)) (Some b) (open_in variables (later_kinds lists))
    (apart_heads (length variables) lists apart.one apart.other (long apart.one apart.one_in) (long apart.other apart.other_in) apart.one_in apart.other_in apart.apart)
    ∙ is
opens_at (b ∷ variables) lists (suc at) a is long apart earlier =
    pick_else (differ (first_kinds lists)) (Some b) (open_in variables (later_kinds lists)) (heads_alike lists (earlier 0 (omega arith)))
    ∙ opens_at variables (later_kinds lists) at a is (later_length (length variables) lists long)
    (apart_later (length variables) at lists apart.one apart.other (long apart.one apart.one_in) (long apart.other apart.other_in) apart.one_in apart.other_in apart.apart)
    (λ v lt. later_alike (length variables) v lists long (earlier (suc v) (omega (arith, lt))))

-- ---- the three words

named_back : (variables : List Appearance) (entries : List TypedName) → names_in_entries entries ≡ map (λ variable. variable.name) variables
    → typed_names variables (kinds_in entries) ≡ entries
named_back [] [] e = refl
named_back [] (entry ∷ entries) e = let n : length (names_in_entries (entry ∷ entries)) ≡ 0 = ap length e in absurd (omega (arith, n))
named_back (v ∷ variables) [] e = let n : 0 ≡ length (map (λ (variable : Appearance). variable.name) (v ∷ variables)) = ap length e in absurd (omega (arith, n))
named_back (v ∷ variables) (entry ∷ entries) e =
    ap₂ (λ (name : List ℕ) (more : List TypedName). record { name = name; kind = entry.kind } ∷ more) (sym (ap first_name e)) (named_back variables entries (ap later_names e))
  where
    first_name : List (List ℕ) → List ℕ
    first_name [] = []
    first_name (n ∷ ns) = n

    later_names : List (List ℕ) → List (List ℕ)
    later_names [] = []
    later_names (n ∷ ns) = ns

module _ (signatures : List Signature) (units : List UnitAt) where
  abbrev listed : List (List Kind)
  listed = typings signatures (variables_of units) units

  listed_length : HasLength (length (variables_of units)) listed
  listed_length s i = (in_fits signatures (variables_of units) units s i).counted

  pub typed_is : (typing : Typing) → IsOneTyping signatures units typing → kinding_of signatures units ≡ Typed typing.entries
  unfolding kinding_of
  typed_is typing is =
      ap (kinding_among (variables_of units) listed) (nothing_untyped signatures (variables_of units) [] units (kinds_in typing.entries) is.fits)
      ∙ ap (one_or_open (variables_of units) listed) (none_open (variables_of units) listed listed_length (λ v s t i j. ap (λ l. kind_at l v) (only s i ∙ sym (only t j))))
      ∙ ap Typed (ap (typed_names (variables_of units)) (first_of_all listed (kinds_in typing.entries) (fits_in signatures (variables_of units) units (kinds_in typing.entries) is.fits) only) ∙ named_back (variables_of units) typing.entries is.named)
    where
      only : (s : List Kind) → In s listed → s ≡ kinds_in typing.entries
      only s i = is.only s (in_fits signatures (variables_of units) units s i)

  pub untyped_is : (place : Place) → NoTypingAt signatures units place → kinding_of signatures units ≡ Untyped place
  unfolding kinding_of
  untyped_is place is =
      ap (kinding_among (variables_of units) listed)
      (untyped_from signatures (variables_of units) [] units is.at is.unit is.stands is.none is.least ∙ ap Some is.placed)

  pub open_is : (name : List ℕ) (place : Place) → ManyTypingsAt signatures units name place → kinding_of signatures units ≡ Open name place
  unfolding kinding_of
  open_is name place is =
      ap (kinding_among (variables_of units) listed) (nothing_untyped signatures (variables_of units) [] units is.one is.one_fits)
      ∙ ap (one_or_open (variables_of units) listed) (opens_at (variables_of units) listed is.at (record { name = name; place = place }) is.stands listed_length two earlier)
    where
      two : ApartAt listed is.at
      two = record { one = is.one; other = is.other; one_in = fits_in signatures (variables_of units) units is.one is.one_fits; other_in = fits_in signatures (variables_of units) units is.other is.other_fits; apart = is.apart }

      earlier : (v : ℕ) → v < is.at → Alike listed v
      earlier v lt s t i j = is.earlier v lt s t (in_fits signatures (variables_of units) units s i) (in_fits signatures (variables_of units) units t j)

  -- an answer of the lines is an answer of the project
  pub is_kinding : (answer : Result Typing TypeFault) → IfOk answer (λ typing. IsOneTyping signatures units typing) → IfErr answer (λ fault. Explains signatures units fault) →
      IsKinding (kinding_of signatures units) answer
  is_kinding (Ok typing) one explains = typed_is typing one
  is_kinding (Err (NoTyping place)) one explains = untyped_is place explains
  is_kinding (Err (ManyTypings name place)) one explains = open_is name place explains
  is_kinding (Err Memory) one explains = tt

-- ---- what is typed has a list that fits

-- the names of entries, and their kinds, are those of the list and the variables
pub record IsFound (signatures : List Signature) (units : List UnitAt) (entries : List TypedName) : Type 0 where
  pub kinds : List Kind
  pub is : entries ≡ typed_names (variables_of units) kinds
  pub fits : Fits signatures (variables_of units) units kinds

first_in : (lists : List (List Kind)) → is_none lists ≡ false → In (first_list lists) lists
first_in [] e = absurd (true≢false e)
first_in (l ∷ lists) e = inl refl

abbrev numbers : List Appearance → List Kind
numbers [] = []
numbers (v ∷ variables) = Number ∷ numbers variables

numbers_length : (variables : List Appearance) → length (numbers variables) ≡ length variables
numbers_length [] = refl
numbers_length (v ∷ variables) = ap suc (numbers_length variables)

module _ (signatures : List Signature) (variables : List Appearance) where
  none_listed : is_none (typings signatures variables []) ≡ false
  none_listed =
      some_in (typings signatures variables []) (numbers variables)
      (fits_in signatures variables [] (numbers variables) (record { counted = numbers_length variables; fits = refl }))

  some_listed : (before units : List UnitAt) → is_none (typings signatures variables before) ≡ false → untyped_at signatures variables before units ≡ None →
      is_none (typings signatures variables (before ++ units)) ≡ false
  some_listed before [] some none = subst (λ us. is_none (typings signatures variables us) ≡ false) (sym (append-nil before)) some
  some_listed before (u ∷ units) some none = by_test (λ one rest. some_listed (before ++ u ∷ []) units one rest) (is_none (typings signatures variables (before ++ u ∷ []))) refl
    where
      by_test : (is_none (typings signatures variables (before ++ u ∷ [])) ≡ false → untyped_at signatures variables (before ++ u ∷ []) units ≡ None → is_none (typings signatures variables ((before ++ u ∷ []) ++ units)) ≡ false) →
          (is : Bool) → is_none (typings signatures variables (before ++ u ∷ [])) ≡ is → is_none (typings signatures variables (before ++ u ∷ units)) ≡ false
      by_test later true e =
          absurd (none-some u.place (sym none ∙ pick_then (is_none (typings signatures variables (before ++ u ∷ []))) (Some u.place) (untyped_at signatures variables (before ++ u ∷ []) units) e))
      by_test later false e =
          subst (λ us. is_none (typings signatures variables us) ≡ false) (append_assoc before (u ∷ []) units)
          (later e
          (sym (pick_else (is_none (typings signatures variables (before ++ u ∷ []))) (Some u.place) (untyped_at signatures variables (before ++ u ∷ []) units) e) ∙ none))

module _ (signatures : List Signature) (units : List UnitAt) (entries : List TypedName) where
  found_none : (o : Option Appearance) → one_or_open (variables_of units) (listed signatures units) o ≡ Typed entries → entries ≡ typed_names (variables_of units) (first_list (listed signatures units))
  found_none None e = cc
  found_none (Some v) e = absurd cc

  found_by : (o : Option Place) → untyped_at signatures (variables_of units) [] units ≡ o → kinding_among (variables_of units) (listed signatures units) o ≡ Typed entries → IsFound signatures units entries
  found_by (Some place) is e = absurd cc
  found_by None is e =
      record {
        kinds = first_list (listed signatures units);
        is = found_none (open_in (variables_of units) (listed signatures units)) e;
        fits = in_fits signatures (variables_of units) units (first_list (listed signatures units))
            (first_in (listed signatures units) (some_listed signatures (variables_of units) [] units (none_listed signatures (variables_of units)) is));
      }

  -- a kinding that is found comes from a list that fits
  pub found : kinding_of signatures units ≡ Typed entries → IsFound signatures units entries
  unfolding kinding_of
  found e = found_by (untyped_at signatures (variables_of units) [] units) refl e

-- ---- the names and kinds of entries

pub kinds_back : (variables : List Appearance) (kinds : List Kind) → length kinds ≡ length variables → kinds_in (typed_names variables kinds) ≡ kinds
kinds_back [] [] e = refl
kinds_back [] (k ∷ kinds) e = absurd (omega arith)
kinds_back (v ∷ variables) [] e = absurd (omega arith)
kinds_back (v ∷ variables) (k ∷ kinds) e = ap (λ ks. k ∷ ks) (kinds_back variables kinds (omega arith))

pub names_back : (variables : List Appearance) (kinds : List Kind) → length kinds ≡ length variables → names_in_entries (typed_names variables kinds) ≡ map (λ variable. variable.name) variables
names_back [] [] e = refl
names_back [] (k ∷ kinds) e = absurd (omega arith)
names_back (v ∷ variables) [] e = absurd (omega arith)
names_back (v ∷ variables) (k ∷ kinds) e = ap (λ ns. v.name ∷ ns) (names_back variables kinds (omega arith))
