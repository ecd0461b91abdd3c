-- Where the latest open attribute of each name stands, as attributes are opened and closed.
use Rattle.std.proofs.Common.{◌≡◌, ℕ, zero, suc, ◌+◌, ◌<◌, List, [], ◌∷◌, ◌++◌, length, get_or, Bool, true, false, cond, nat_eq, Option, Some, None, refl, sym, ap, ◌∙◌, subst, arith, zero-add}
use Rattle.std.specs.BTreeMap.{BTreeMap, UpdatesBy, is_at}
use Rattle.std.specs.Cmp.Lexicographic.{slice_cmp}
use Rattle.std.specs.Map.{lookup}
use Rattle.std.specs.Ordering.{nat_cmp}
use Rattle.std.proofs.lemmas.Map.Text.{is_eq-slice_cmp}
use Rattle.yarn_value.specs.Operations.{same_text}
use Rattle.yarn_markup.specs.declared.marked.Property.{Property}
use Rattle.yarn_markup.specs.declared.slot.Slot.{Slot}
use Rattle.yarn_markup.specs.Slots.{counts_with, counts, open_count, closed_at, close_latest, IsLatest}
use Rattle.yarn_markup.specs.Latest.{Places, nowhere, place_in, IsSet, with_slot, Knows, Tracks, IsTracked}
use Rattle.yarn_markup.proofs.SlotLemmas.{same-equal, same-self, Counted, is_one, is_none, counted, unnamed, zero-eq, pos-eq, latest_counts, slot_of}

-- ---- one attribute

with_none : (places : Places) (at : ℕ) (s : Slot) (name : List ℕ) → counts name s ≡ 0 → with_slot places at s name ≡ places name
with_none places at s name e = ap (λ (n : ℕ). cond (nat_eq n 0) (places name) (Some at)) e

with_one : (places : Places) (at : ℕ) (s : Slot) (name : List ℕ) → counts name s ≡ 1 → with_slot places at s name ≡ Some at
with_one places at s name e = ap (λ (n : ℕ). cond (nat_eq n 0) (places name) (Some at)) e

-- an open attribute of the name
pub record IsNamed (name : List ℕ) (s : Slot) : Type 0 where
  pub unclosed : s.length ≡ None
  pub own : name ≡ s.name

named_of : (name : List ℕ) (s : Slot) → counts name s ≡ 1 → Counted name s s.length → IsNamed name s
named_of name s e (is_one o n one) = record { unclosed = o; own = n }
named_of name s e (is_none z) = absurd (omega (arith, e, z))

differs : (name other : List ℕ) (s : Slot) → counts name s ≡ 0 → s.length ≡ None → other ≡ s.name → same_text name other ≡ false
differs name other s e o n =
    subst (λ (x : List ℕ). same_text name x ≡ false) (sym n) (unnamed name s (subst (λ (l : Option ℕ). counts_with name s l ≡ 0) o e))

-- ---- the place of one name set, where no attribute of it is open

knows_set : (name : List ℕ) (place : Option ℕ) (before new_before : Places) (s : Slot) (o : Option ℕ) → counts_with name s o ≡ 0 →
    IsSet before name place new_before → Knows before s o → Knows new_before s o
knows_set name place before new_before s None e is known =
    known ∙ sym (is s.name ∙ ap (λ (b : Bool). cond b place (before s.name)) (unnamed name s e))
knows_set name place before new_before s (Some n) e is known = known

with_set : (name : List ℕ) (place : Option ℕ) (before new_before : Places) (at : ℕ) (s : Slot) → counts name s ≡ 0 →
    IsSet before name place new_before → IsSet (with_slot before at s) name place (with_slot new_before at s)
with_set name place before new_before at s e is = λ other. by_count other (counted other s s.length)
  where
    by_count : (other : List ℕ) → Counted other s s.length → with_slot new_before at s other ≡ cond (same_text name other) place (with_slot before at s other)
    by_count other (is_none z) =
        with_none new_before at s other z ∙ is other ∙ ap (cond (same_text name other) place) (sym (with_none before at s other z))
    by_count other (is_one o n one) =
        with_one new_before at s other one
        ∙ sym (ap (λ (b : Bool). cond b place (with_slot before at s other)) (differs name other s e o n) ∙ with_one before at s other one)

tracks_set : (name : List ℕ) (place : Option ℕ) (before new_before after new : Places) (at : ℕ) (ss : List Slot) → open_count name ss ≡ 0 →
    IsSet before name place new_before → IsSet after name place new → Tracks before at ss after → Tracks new_before at ss new
tracks_set name place before new_before after new at [] none is new_is tracks = λ other.
    new_is other ∙ ap (cond (same_text name other) place) (tracks other) ∙ sym (is other)
tracks_set name place before new_before after new at (s ∷ ss) none is new_is tracks =
    let first : counts name s ≡ 0 = omega (arith, none) in
    let rest : open_count name ss ≡ 0 = omega (arith, none) in (
      knows_set name place before new_before s s.length first is tracks.0,
      tracks_set name place (with_slot before at s) (with_slot new_before at s) after new (at + 1) ss rest
          (with_set name place before new_before at s first is) new_is tracks.1,
    )

-- ---- the latest closed

closed_here : (name : List ℕ) (now : ℕ) (x : Slot) (ss : List Slot) → counts name x ≡ 1 → open_count name ss ≡ 0 → close_latest name now (x ∷ ss) ≡ closed_at now x ∷ ss
closed_here name now x ss one none =
    ap (λ (b : Bool). cond b (cond (nat_eq (counts name x) 0) x (closed_at now x) ∷ ss) (x ∷ close_latest name now ss)) (zero-eq (open_count name ss) none)
    ∙ ap (λ (b : Bool). cond b x (closed_at now x) ∷ ss) (pos-eq (counts name x) (omega (arith, one)))

closed_behind : (name : List ℕ) (now : ℕ) (x : Slot) (ss : List Slot) → 0 < open_count name ss → close_latest name now (x ∷ ss) ≡ x ∷ close_latest name now ss
closed_behind name now x ss some =
    ap (λ (b : Bool). cond b (cond (nat_eq (counts name x) 0) x (closed_at now x) ∷ ss) (x ∷ close_latest name now ss)) (pos-eq (open_count name ss) some)

-- without the attribute the places are those before it
restored : (name : List ℕ) (before : Places) (at : ℕ) (x : Slot) → IsNamed name x → Knows before x None → IsSet (with_slot before at x) name x.outer before
restored name before at x is known = λ other. by_name other (same_text name other) refl (counted other x x.length)
  where
    by_name : (other : List ℕ) (b : Bool) → same_text name other ≡ b → Counted other x x.length → before other ≡ cond b x.outer (with_slot before at x other)
    by_name other true e c = sym (known ∙ ap before (sym is.own ∙ same-equal name other e))
    by_name other false e (is_none z) = sym (with_none before at x other z)
    by_name other false e (is_one o n one) =
        let same : same_text name other ≡ true = subst (λ (y : List ℕ). same_text name y ≡ true) (is.own ∙ sym n) (same-self name) in
        absurd cc

knows_open : (before : Places) (x : Slot) → x.length ≡ None → Knows before x x.length → Knows before x None
knows_open before x e known = subst (λ (o : Option ℕ). Knows before x o) e known

pub tracks_closed : (name : List ℕ) (now : ℕ) (before after new : Places) (at k : ℕ) (ss : List Slot) (s : Slot) → IsLatest name ss k → s ≡ get_or ss k s →
    IsSet after name s.outer new → Tracks before at ss after → Tracks before at (close_latest name now ss) new
tracks_closed name now before after new at k [] s latest is set tracks = absurd latest
tracks_closed name now before after new at zero (x ∷ ss) s latest is set tracks =
    let named : IsNamed name x = named_of name x latest.0 (counted name x x.length) in
    let outer : IsSet after name x.outer new = subst (λ (y : Slot). IsSet after name y.outer new) is set in
    subst (λ (l : List Slot). Tracks before at l new) (sym (closed_here name now x ss latest.0 latest.1)) (
      tt,
      tracks_set name x.outer (with_slot before at x) before after new (at + 1) ss latest.1
          (restored name before at x named (knows_open before x named.unclosed tracks.0)) outer tracks.1,
    )
tracks_closed name now before after new at (suc k) (x ∷ ss) s latest is set tracks =
    subst (λ (l : List Slot). Tracks before at l new) (sym (closed_behind name now x ss (latest_counts name ss k latest)))
    (tracks.0, tracks_closed name now (with_slot before at x) after new (at + 1) k ss s latest is set tracks.1)

-- ---- the latest found

-- what the place of a name tells
pub data Placed (name : List ℕ) (before : Option ℕ) (at : ℕ) (ss : List Slot) (after : Option ℕ) : Type 0 where
  none_open : open_count name ss ≡ 0 → after ≡ before → Placed name before at ss after
  latest_open : (k : ℕ) → after ≡ Some (at + k) → IsLatest name ss k → Placed name before at ss after

placed : (name : List ℕ) (before after : Places) (at : ℕ) (ss : List Slot) → Tracks before at ss after → Placed name (before name) at ss (after name)
placed name before after at [] tracks = none_open refl (tracks name)
placed name before after at (s ∷ ss) tracks = by_rest (placed name (with_slot before at s) after (at + 1) ss tracks.1)
  where
    by_first : open_count name ss ≡ 0 → after name ≡ with_slot before at s name → Counted name s s.length → Placed name (before name) at (s ∷ ss) (after name)
    by_first none e (is_one o n one) =
        let here : at ≡ at + 0 = omega arith in
        latest_open zero (e ∙ with_one before at s name one ∙ ap Some here) (one, none)
    by_first none e (is_none z) = none_open (omega (arith, none, z)) (e ∙ with_none before at s name z)

    by_rest : Placed name (with_slot before at s name) (at + 1) ss (after name) → Placed name (before name) at (s ∷ ss) (after name)
    by_rest (none_open none e) = by_first none e (counted name s s.length)
    by_rest (latest_open k e latest) =
        let next : at + 1 + k ≡ at + suc k = omega arith in
        latest_open (suc k) (e ∙ ap Some next) latest

pub none_placed : (name : List ℕ) (map : BTreeMap (List ℕ) ℕ) (ss : List Slot) → IsTracked map ss → place_in map name ≡ None → open_count name ss ≡ 0
none_placed name map ss tracked e = by_place (placed name nowhere (place_in map) 0 ss tracked)
  where
    by_place : Placed name None 0 ss (place_in map name) → open_count name ss ≡ 0
    by_place (none_open none is) = none
    by_place (latest_open k is latest) = absurd cc

some_same : (a b : ℕ) → Some a ≡ Some b → a ≡ b
some_same a b h = cc

pub latest_placed : (name : List ℕ) (map : BTreeMap (List ℕ) ℕ) (ss : List Slot) (k : ℕ) → IsTracked map ss → place_in map name ≡ Some k → IsLatest name ss k
latest_placed name map ss k tracked e = by_place (placed name nowhere (place_in map) 0 ss tracked)
  where
    by_place : Placed name None 0 ss (place_in map name) → IsLatest name ss k
    by_place (none_open none is) = absurd cc
    by_place (latest_open j is latest) = subst (IsLatest name ss) (sym (zero-add j) ∙ some_same (0 + j) k (sym is ∙ e)) latest

latest_before : (name : List ℕ) (ss : List Slot) (k : ℕ) → IsLatest name ss k → k < length ss
latest_before name [] k latest = absurd latest
latest_before name (x ∷ ss) zero latest = omega arith
latest_before name (x ∷ ss) (suc k) latest = omega (arith, latest_before name ss k latest)

pub latest_within : (name : List ℕ) (ss : List Slot) (k count : ℕ) → IsLatest name ss k → count ≡ length ss → k < count
latest_within name ss k count latest e = omega (arith, e, latest_before name ss k latest)

-- ---- one more attribute

knows_same : (before after : Places) (x : Slot) (o : Option ℕ) → after x.name ≡ before x.name → Knows after x o → Knows before x o
knows_same before after x None e known = known ∙ e
knows_same before after x (Some n) e known = known

tracks_more : (before after new : Places) (at : ℕ) (ss : List Slot) (x : Slot) → Tracks before at ss after → Knows after x x.length →
    ((name : List ℕ) → new name ≡ with_slot after (at + length ss) x name) → Tracks before at (ss ++ x ∷ []) new
tracks_more before after new at [] x tracks known is =
    let here : at + 0 ≡ at = omega arith in (
      knows_same before after x x.length (tracks x.name) known,
      λ name.
          is name ∙ ap (λ (n : ℕ). with_slot after n x name) here ∙ ap (λ (o : Option ℕ). cond (nat_eq (counts name x) 0) o (Some at)) (tracks name),
    )
tracks_more before after new at (s ∷ ss) x tracks known is =
    let next : at + suc (length ss) ≡ at + 1 + length ss = omega arith in (
      tracks.0,
      tracks_more (with_slot before at s) after new (at + 1) ss x tracks.1 known
          (λ name. is name ∙ ap (λ (n : ℕ). with_slot after n x name) next),
    )

pub tracked_closed : (map : BTreeMap (List ℕ) ℕ) (name : List ℕ) (start n : ℕ) (properties : List Property) (at : ℕ) (ss new : List Slot) → IsTracked map ss →
    new ≡ ss ++ slot_of name start (Some n) properties at None ∷ [] → IsTracked map new
tracked_closed map name start n properties at ss new tracked e =
    subst (IsTracked map) (sym e)
    (tracks_more nowhere (place_in map) (place_in map) 0 ss (slot_of name start (Some n) properties at None) tracked tt (λ other. refl))

pub tracked_open : (map new_map : BTreeMap (List ℕ) ℕ) (name : List ℕ) (start : ℕ) (properties : List Property) (at count : ℕ) (outer : Option ℕ) (ss new : List Slot) →
    IsTracked map ss → outer ≡ place_in map name → IsSet (place_in map) name (Some count) (place_in new_map) → count ≡ length ss →
    new ≡ ss ++ slot_of name start None properties at outer ∷ [] → IsTracked new_map new
tracked_open map new_map name start properties at count outer ss new tracked known set counted e =
    subst (IsTracked new_map) (sym e)
    (tracks_more nowhere (place_in map) (place_in new_map) 0 ss (slot_of name start None properties at outer) tracked known
    (λ other. set other ∙ by_name other (same_text other name) (same_text name other) refl refl))
  where
    last : count ≡ 0 + length ss
    last = omega (arith, counted)

    by_name : (other : List ℕ) (b c : Bool) → same_text other name ≡ b → same_text name other ≡ c →
        cond c (Some count) (place_in map other) ≡ cond (nat_eq (cond b 1 0) 0) (place_in map other) (Some (0 + length ss))
    by_name other true true h i = ap Some last
    by_name other false false h i = refl
    by_name other true false h i =
        let same : same_text name other ≡ true = subst (λ (x : List ℕ). same_text name x ≡ true) (sym (same-equal other name h)) (same-self name) in
        absurd cc
    by_name other false true h i =
        let same : same_text other name ≡ true = subst (λ (x : List ℕ). same_text other x ≡ true) (sym (same-equal name other i)) (same-self other) in
        absurd cc

pub tracked_none : (map : BTreeMap (List ℕ) ℕ) (ss : List Slot) → map.entries ≡ [] → ss ≡ [] → IsTracked map ss
tracked_none map ss e none =
    subst (IsTracked map) (sym none) (λ name. ap (lookup (is_at (slice_cmp nat_cmp name))) e)

-- ---- one place set

pub set_by : (map new : BTreeMap (List ℕ) ℕ) (key name : List ℕ) (own place : Option ℕ) → key ≡ name → place ≡ own →
    UpdatesBy (slice_cmp nat_cmp) (slice_cmp nat_cmp key) map new own → IsSet (place_in map) name place (place_in new)
set_by map new key name own place named is updates = λ other.
    updates.0 other ∙ ap (λ (b : Bool). cond b own (place_in map other)) (is_eq-slice_cmp key other)
    ∙ ap (λ (x : List ℕ). cond (same_text x other) own (place_in map other)) named
    ∙ ap (λ (o : Option ℕ). cond (same_text name other) o (place_in map other)) (sym is)

pub tracked_latest : (map new : BTreeMap (List ℕ) ℕ) (name : List ℕ) (now k : ℕ) (ss done : List Slot) (s : Slot) → IsTracked map ss → IsLatest name ss k → s ≡ get_or ss k s →
    IsSet (place_in map) name s.outer (place_in new) → done ≡ close_latest name now ss → IsTracked new done
tracked_latest map new name now k ss done s tracked latest is set e =
    subst (IsTracked new) (sym e) (tracks_closed name now nowhere (place_in map) (place_in new) 0 k ss s latest is set tracked)
