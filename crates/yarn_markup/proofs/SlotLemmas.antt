-- What is kept goes on as the pieces say: each piece taken in leaves the same outcome.
use Rattle.std.proofs.Common.{◌≡◌, ℕ, zero, suc, ◌+◌, ◌-◌, ◌<◌, List, [], ◌∷◌, ◌++◌, length, get_or, map, Bool, true, false, not, cond, nat_eq, ◌||◌, Option, Some, None, refl, sym, ap, ◌∙◌, subst, arith, zero-add, add-zero, append_assoc, append-nil, encode_utf8, codes}
use Rattle.std.specs.Str.{chars}
use Rattle.std.proofs.Math.ListN.{set}
use Rattle.std.proofs.lemmas.Slice.Eq.{bytes_eq-Decides}
use Rattle.std.proofs.lemmas.Bool.Decides.{nat_tests}
use Rattle.yarn_value.specs.Operations.{same_text}
use Rattle.yarn_markup.specs.declared.marked.Attribute.{Attribute}
use Rattle.yarn_markup.specs.declared.marked.Property.{Property}
use Rattle.yarn_markup.specs.declared.fault.MarkupFault.{MarkupFault}
use Rattle.yarn_markup.specs.declared.fault.MarkupFault.TheVariants.{BadMarkup}
use Rattle.yarn_markup.specs.declared.piece.Piece.{Piece}
use Rattle.yarn_markup.specs.declared.piece.Piece.TheVariants.{Stands, Opens, Lone, Closes, ClosesAll, Verbatim, Given}
use Rattle.yarn_markup.specs.declared.slot.Slot.{Slot}
use Rattle.yarn_markup.specs.declared.tag.Tag.{Tag}
use Rattle.yarn_markup.specs.Pieces.{Item, At}
use Rattle.yarn_markup.specs.Attributes.{plain_text, attributes, closing_place, Opened, is_open, closed, is_some_open, left_open, fault}
use Rattle.yarn_markup.specs.Slots.{opened_by, open_slots, counts_with, counts, open_count, closed_at, close_latest, IsLatest, length_with, completed, all_completed, length_at, ended_at, Kept, Outcome, outcome, Takes, Fails}

-- ---- names

pub same-equal : (a b : List ℕ) → same_text a b ≡ true → a ≡ b
same-equal a b e = (bytes_eq-Decides a b).0 e

pub same-self : (a : List ℕ) → same_text a a ≡ true
same-self a = (bytes_eq-Decides a a).1 refl

-- ---- attributes that stay

joined : (s : Slot) (n m : ℕ) (xs ys : List Attribute) → n ≡ m → xs ≡ ys →
    record { name = s.name; start = s.start; length = n; properties = s.properties } ∷ xs
    ≡ record { name = s.name; start = s.start; length = m; properties = s.properties } ∷ ys
joined s n m xs ys e h = cc

abbrev attribute_of : Slot → ℕ → Attribute
attribute_of s n = record { name = s.name; start = s.start; length = n; properties = s.properties }

abbrev opened : Slot → Opened
opened s = record { name = s.name; at = s.at }

-- where the items that follow close each attribute at the same place
completed_same : (now later_now : ℕ) (items others : List Item) → attributes later_now items ≡ attributes now others →
    ((name : List ℕ) (k : ℕ) → closing_place name k later_now items ≡ closing_place name k now others) →
    (ss : List Slot) → all_completed later_now ss items ≡ all_completed now ss others
completed_same now later_now items others base places [] = base
completed_same now later_now items others base places (s ∷ ss) =
    joined s _ _ _ _ (by_length s.length) (completed_same now later_now items others base places ss)
  where
    by_length : (o : Option ℕ) → length_with later_now ss items s o ≡ length_with now ss others s o
    by_length None = ap (λ (n : ℕ). n - s.start) (places s.name (open_count s.name ss))
    by_length (Some n) = refl

open_count-more : (name : List ℕ) (ss : List Slot) (x : Slot) → open_count name (ss ++ x ∷ []) ≡ open_count name ss + counts name x
open_count-more name [] x = omega arith
open_count-more name (s ∷ ss) x = omega (arith, open_count-more name ss x)

-- one more attribute
completed_more : (now later_now : ℕ) (items others : List Item) (x : Slot) →
    completed later_now x [] items ∷ attributes later_now items ≡ attributes now others →
    ((name : List ℕ) (k : ℕ) → closing_place name (k + counts name x) later_now items ≡ closing_place name k now others) →
    (ss : List Slot) → all_completed later_now (ss ++ x ∷ []) items ≡ all_completed now ss others
completed_more now later_now items others x base places [] = base
completed_more now later_now items others x base places (s ∷ ss) =
    joined s _ _ _ _ (by_length s.length) (completed_more now later_now items others x base places ss)
  where
    by_length : (o : Option ℕ) → length_with later_now (ss ++ x ∷ []) items s o ≡ length_with now ss others s o
    by_length None = ap (λ (n : ℕ). n - s.start) (ap (λ (k : ℕ). closing_place s.name k later_now items) (open_count-more s.name ss x) ∙ places s.name (open_count s.name ss))
    by_length (Some n) = refl

open_slots-more : (ss : List Slot) (x : Slot) → open_slots (ss ++ x ∷ []) ≡ open_slots ss ++ opened_by x x.length
open_slots-more [] x = append-nil (opened_by x x.length)
open_slots-more (s ∷ ss) x = ap (λ (os : List Opened). opened_by s s.length ++ os) (open_slots-more ss x) ∙ sym (append_assoc (opened_by s s.length) (open_slots ss) (opened_by x x.length))

-- ---- one attribute closed

close_none : (name : List ℕ) (now : ℕ) (ss : List Slot) → open_count name ss ≡ 0 → close_latest name now ss ≡ ss
close_none name now [] e = refl
close_none name now (s ∷ ss) e =
    let first : counts name s ≡ 0 = omega arith in
    let rest : open_count name ss ≡ 0 = omega arith in
    rw (rest, first) refl

-- cases of what a slot of that length counts for a name
pub data Counted (name : List ℕ) (s : Slot) (o : Option ℕ) : Type 0 where
  is_one : o ≡ None → name ≡ s.name → counts_with name s o ≡ 1 → Counted name s o
  is_none : counts_with name s o ≡ 0 → Counted name s o

pub counted : (name : List ℕ) (s : Slot) (o : Option ℕ) → Counted name s o
counted name s None = by_name (same_text name s.name) refl
  where
    by_name : (b : Bool) → same_text name s.name ≡ b → Counted name s None
    by_name true e = is_one refl (same-equal name s.name e) (ap (λ (b : Bool). cond b 1 0) e)
    by_name false e = is_none (ap (λ (b : Bool). cond b 1 0) e)
counted name s (Some n) = is_none refl

eq-zero : (n : ℕ) → nat_eq n 0 ≡ true → n ≡ 0
eq-zero n e = grind (arith, nat_tests)

ne-zero : (n : ℕ) → nat_eq n 0 ≡ false → 0 < n
ne-zero n e = grind (arith, nat_tests)

pub zero-eq : (n : ℕ) → n ≡ 0 → nat_eq n 0 ≡ true
zero-eq n e = grind (arith, nat_tests)

pub pos-eq : (n : ℕ) → 0 < n → nat_eq n 0 ≡ false
pos-eq n e = grind (arith, nat_tests)

counts_first : (name : List ℕ) (now : ℕ) (s : Slot) → Counted name s s.length → counts name (cond (nat_eq (counts name s) 0) s (closed_at now s)) ≡ counts name s - 1
counts_first name now s (is_one o n e) = subst (λ (m : ℕ). counts name (cond (nat_eq m 0) s (closed_at now s)) ≡ m - 1) (sym e) refl
counts_first name now s (is_none e) = subst (λ (m : ℕ). counts name (cond (nat_eq m 0) s (closed_at now s)) ≡ m - 1) (sym e) e

open_count-closed : (name : List ℕ) (now : ℕ) (ss : List Slot) → open_count name (close_latest name now ss) ≡ open_count name ss - 1
open_count-closed name now [] = refl
open_count-closed name now (s ∷ ss) = by_rest (nat_eq (open_count name ss) 0) refl (open_count-closed name now ss)
  where
    by_rest : (b : Bool) → nat_eq (open_count name ss) 0 ≡ b → open_count name (close_latest name now ss) ≡ open_count name ss - 1 →
        open_count name (cond b (cond (nat_eq (counts name s) 0) s (closed_at now s) ∷ ss) (s ∷ close_latest name now ss)) ≡ counts name s + open_count name ss - 1
    by_rest true e h = omega (arith, counts_first name now s (counted name s s.length), eq-zero (open_count name ss) e)
    by_rest false e h = omega (arith, h, ne-zero (open_count name ss) e)

-- another name isn't counted
absent : (name other : List ℕ) (s : Slot) → same_text other name ≡ false → other ≡ s.name → Counted name s None → counts_with name s None ≡ 0
absent name other s ne is (is_one o n e) =
    let same : same_text other name ≡ true = subst (λ (x : List ℕ). same_text other x ≡ true) (is ∙ sym n) (same-self other) in
    absurd cc
absent name other s ne is (is_none e) = e

counts_other : (name other : List ℕ) (now : ℕ) (s : Slot) → same_text other name ≡ false → Counted other s s.length →
    counts name (cond (nat_eq (counts other s) 0) s (closed_at now s)) ≡ counts name s
counts_other name other now s ne (is_one o n e) =
    let none : counts name s ≡ 0 = ap (counts_with name s) o ∙ absent name other s ne n (counted name s None) in
    subst (λ (m : ℕ). counts name (cond (nat_eq m 0) s (closed_at now s)) ≡ counts name s) (sym e) (sym none)
counts_other name other now s ne (is_none e) = subst (λ (m : ℕ). counts name (cond (nat_eq m 0) s (closed_at now s)) ≡ counts name s) (sym e) refl

open_count-other : (name other : List ℕ) (now : ℕ) (ss : List Slot) → same_text other name ≡ false → open_count name (close_latest other now ss) ≡ open_count name ss
open_count-other name other now [] ne = refl
open_count-other name other now (s ∷ ss) ne = by_rest (nat_eq (open_count other ss) 0) (open_count-other name other now ss ne)
  where
    by_rest : (b : Bool) → open_count name (close_latest other now ss) ≡ open_count name ss →
        open_count name (cond b (cond (nat_eq (counts other s) 0) s (closed_at now s) ∷ ss) (s ∷ close_latest other now ss)) ≡ counts name s + open_count name ss
    by_rest true h = omega (arith, counts_other name other now s ne (counted other s s.length))
    by_rest false h = omega (arith, h)

-- where an attribute is closed, behind a closing tag

place_other : (other name : List ℕ) (k now at : ℕ) (items : List Item) → same_text other name ≡ false →
    closing_place name k now (At at (Closes other) ∷ items) ≡ closing_place name k now items
place_other other name k now at items e =
    ap (λ (b : Bool). cond b (cond (nat_eq k 0) now (closing_place name (k - 1) now items)) (closing_place name k now items)) e

place_own : (other name : List ℕ) (k now at : ℕ) (items : List Item) (c : Bool) → same_text other name ≡ true → nat_eq k 0 ≡ c →
    closing_place name k now (At at (Closes other) ∷ items) ≡ cond c now (closing_place name (k - 1) now items)
place_own other name k now at items c e h =
    ap (λ (b : Bool). cond b (cond (nat_eq k 0) now (closing_place name (k - 1) now items)) (closing_place name k now items)) e
    ∙ ap (λ (b : Bool). cond b now (closing_place name (k - 1) now items)) h

pub unnamed : (other : List ℕ) (s : Slot) → counts_with other s None ≡ 0 → same_text other s.name ≡ false
unnamed other s e = by_name (same_text other s.name) refl
  where
    by_name : (b : Bool) → same_text other s.name ≡ b → same_text other s.name ≡ false
    by_name true h =
        let one : counts_with other s None ≡ 1 = ap (λ (b : Bool). cond b 1 0) h in
        absurd (omega arith)
    by_name false h = h

-- the first attribute where no later one of the name is open
first_closed : (other : List ℕ) (now at : ℕ) (items : List Item) (s : Slot) (ss : List Slot) → open_count other ss ≡ 0 → Counted other s s.length →
    completed now (cond (nat_eq (counts other s) 0) s (closed_at now s)) ss items ≡ completed now s ss (At at (Closes other) ∷ items)
first_closed other now at items s ss zero_left (is_one o n e) =
    let k : nat_eq (open_count s.name ss) 0 ≡ true = zero-eq (open_count s.name ss) (sym (ap (λ (x : List ℕ). open_count x ss) n) ∙ zero_left) in
    let own : same_text other s.name ≡ true = subst (λ (x : List ℕ). same_text other x ≡ true) n (same-self other) in
    let place : length_with now ss (At at (Closes other) ∷ items) s s.length ≡ now - s.start =
    ap (length_with now ss (At at (Closes other) ∷ items) s) o ∙ ap (λ (p : ℕ). p - s.start) (place_own other s.name (open_count s.name ss) now at items true own k) in
    subst (λ (m : ℕ). completed now (cond (nat_eq m 0) s (closed_at now s)) ss items ≡ completed now s ss (At at (Closes other) ∷ items)) (sym e)
    (ap (λ (p : ℕ). attribute_of s p) (sym place))
first_closed other now at items s ss zero_left (is_none e) =
    subst (λ (m : ℕ). completed now (cond (nat_eq m 0) s (closed_at now s)) ss items ≡ completed now s ss (At at (Closes other) ∷ items)) (sym e)
    (ap (λ (p : ℕ). attribute_of s p) (by_length s.length e))
  where
    by_length : (o : Option ℕ) → counts_with other s o ≡ 0 → length_with now ss items s o ≡ length_with now ss (At at (Closes other) ∷ items) s o
    by_length None h = ap (λ (p : ℕ). p - s.start) (sym (place_other other s.name (open_count s.name ss) now at items (unnamed other s h)))
    by_length (Some n) h = refl

-- an attribute before the one that is closed
before_closed : (other : List ℕ) (now at : ℕ) (items : List Item) (s : Slot) (ss : List Slot) → 0 < open_count other ss → (o : Option ℕ) →
    length_with now (close_latest other now ss) items s o ≡ length_with now ss (At at (Closes other) ∷ items) s o
before_closed other now at items s ss some (Some n) = refl
before_closed other now at items s ss some None = ap (λ (p : ℕ). p - s.start) (by_name (same_text other s.name) refl)
  where
    by_name : (b : Bool) → same_text other s.name ≡ b →
        closing_place s.name (open_count s.name (close_latest other now ss)) now items ≡ closing_place s.name (open_count s.name ss) now (At at (Closes other) ∷ items)
    by_name true e =
        let n : other ≡ s.name = same-equal other s.name e in
        let k : nat_eq (open_count s.name ss) 0 ≡ false = pos-eq (open_count s.name ss) (subst (λ (x : List ℕ). 0 < open_count x ss) n some) in
        let less : open_count s.name (close_latest other now ss) ≡ open_count s.name ss - 1 =
        subst (λ (x : List ℕ). open_count s.name (close_latest x now ss) ≡ open_count s.name ss - 1) (sym n) (open_count-closed s.name now ss) in
        ap (λ (m : ℕ). closing_place s.name m now items) less ∙ sym (place_own other s.name (open_count s.name ss) now at items false e k)
    by_name false e =
        ap (λ (m : ℕ). closing_place s.name m now items) (open_count-other s.name other now ss e)
        ∙ sym (place_other other s.name (open_count s.name ss) now at items e)

completed_closed : (other : List ℕ) (now at : ℕ) (items : List Item) (ss : List Slot) →
    all_completed now (close_latest other now ss) items ≡ all_completed now ss (At at (Closes other) ∷ items)
completed_closed other now at items [] = refl
completed_closed other now at items (s ∷ ss) = by_rest (nat_eq (open_count other ss) 0) refl (completed_closed other now at items ss)
  where
    by_rest : (b : Bool) → nat_eq (open_count other ss) 0 ≡ b → all_completed now (close_latest other now ss) items ≡ all_completed now ss (At at (Closes other) ∷ items) →
        all_completed now (cond b (cond (nat_eq (counts other s) 0) s (closed_at now s) ∷ ss) (s ∷ close_latest other now ss)) items
        ≡ completed now s ss (At at (Closes other) ∷ items) ∷ all_completed now ss (At at (Closes other) ∷ items)
    by_rest true e h =
        let zero_left = eq-zero (open_count other ss) e in
        ap (λ (x : Attribute). x ∷ all_completed now ss items) (first_closed other now at items s ss zero_left (counted other s s.length))
        ∙ ap (λ (xs : List Attribute). completed now s ss (At at (Closes other) ∷ items) ∷ xs)
        (sym (ap (λ (l : List Slot). all_completed now l items) (close_none other now ss zero_left)) ∙ h)
    by_rest false e h = joined s _ _ _ _ (before_closed other now at items s ss (ne-zero (open_count other ss) e) s.length) h

-- ---- what is open

one_more_open : (b : Bool) (n : ℕ) → (not (nat_eq n 0) || b) ≡ not (nat_eq (cond b 1 0 + n) 0)
one_more_open true n = by_zero (nat_eq n 0) (pos-eq (1 + n) (omega arith))
  where
    by_zero : (b : Bool) → nat_eq (1 + n) 0 ≡ false → (not b || true) ≡ not (nat_eq (1 + n) 0)
    by_zero true e = sym (ap not e)
    by_zero false e = sym (ap not e)
one_more_open false n = by_zero (nat_eq n 0) ∙ ap (λ (m : ℕ). not (nat_eq m 0)) n_is
  where
    n_is : n ≡ 0 + n
    n_is = omega arith

    by_zero : (b : Bool) → (not b || false) ≡ not b
    by_zero true = refl
    by_zero false = refl

is_open-count : (name : List ℕ) (ss : List Slot) → is_open name (open_slots ss) ≡ not (nat_eq (open_count name ss) 0)
is_open-count name [] = refl
is_open-count name (s ∷ ss) = by_length s.length (is_open-count name ss)
  where
    by_length : (o : Option ℕ) → is_open name (open_slots ss) ≡ not (nat_eq (open_count name ss) 0) →
        is_open name (opened_by s o ++ open_slots ss) ≡ not (nat_eq (counts_with name s o + open_count name ss) 0)
    by_length None h = ap (λ (b : Bool). b || same_text name s.name) h ∙ one_more_open (same_text name s.name) (open_count name ss)
    by_length (Some n) h = h ∙ ap (λ (m : ℕ). not (nat_eq m 0)) (sym (zero-add (open_count name ss)))

closed_later : (name : List ℕ) (s : Slot) (os after : List Opened) → is_open name os ≡ true → closed name os ≡ after → (o : Option ℕ) →
    closed name (opened_by s o ++ os) ≡ opened_by s o ++ after
closed_later name s os after some h None =
    ap (λ (b : Bool). cond b (opened s ∷ closed name os) (cond (same_text name s.name) os (opened s ∷ os))) some ∙ ap (λ (xs : List Opened). opened s ∷ xs) h
closed_later name s os after some h (Some n) = h

closed_first : (name : List ℕ) (s : Slot) (os : List Opened) → is_open name os ≡ false → name ≡ s.name → (o : Option ℕ) → o ≡ None → closed name (opened_by s o ++ os) ≡ os
closed_first name s os none n o e =
    let own : same_text name s.name ≡ true = subst (λ (x : List ℕ). same_text name x ≡ true) n (same-self name) in
    ap (λ (o : Option ℕ). closed name (opened_by s o ++ os)) e
    ∙ ap (λ (b : Bool). cond b (opened s ∷ closed name os) (cond (same_text name s.name) os (opened s ∷ os))) none
    ∙ ap (λ (b : Bool). cond b os (opened s ∷ os)) own

closed-slots : (name : List ℕ) (now : ℕ) (ss : List Slot) → 0 < open_count name ss → closed name (open_slots ss) ≡ open_slots (close_latest name now ss)
closed-slots name now [] some = absurd (omega arith)
closed-slots name now (s ∷ ss) some = by_rest (nat_eq (open_count name ss) 0) refl (closed-slots name now ss)
  where
    by_first : nat_eq (open_count name ss) 0 ≡ true → Counted name s s.length →
        closed name (opened_by s s.length ++ open_slots ss) ≡ open_slots (cond (nat_eq (counts name s) 0) s (closed_at now s) ∷ ss)
    by_first e (is_one o n k) =
        subst (λ (m : ℕ). closed name (opened_by s s.length ++ open_slots ss) ≡ open_slots (cond (nat_eq m 0) s (closed_at now s) ∷ ss)) (sym k)
        (closed_first name s (open_slots ss) (is_open-count name ss ∙ ap not e) n s.length o)
    by_first e (is_none k) = absurd (omega (arith, some, k, eq-zero (open_count name ss) e))

    by_rest : (b : Bool) → nat_eq (open_count name ss) 0 ≡ b → (0 < open_count name ss → closed name (open_slots ss) ≡ open_slots (close_latest name now ss)) →
        closed name (opened_by s s.length ++ open_slots ss) ≡ open_slots (cond b (cond (nat_eq (counts name s) 0) s (closed_at now s) ∷ ss) (s ∷ close_latest name now ss))
    by_rest true e h = by_first e (counted name s s.length)
    by_rest false e h = closed_later name s (open_slots ss) (open_slots (close_latest name now ss)) (is_open-count name ss ∙ ap not e) (h (ne-zero (open_count name ss) e)) s.length

-- ---- all closed

completed_all_closed : (now at : ℕ) (items : List Item) (ss : List Slot) →
    all_completed now ss (At at ClosesAll ∷ items) ≡ map (ended_at now) ss ++ attributes now items
completed_all_closed now at items [] = refl
completed_all_closed now at items (s ∷ ss) = joined s _ _ _ _ (by_length s.length) (completed_all_closed now at items ss)
  where
    by_length : (o : Option ℕ) → length_with now ss (At at ClosesAll ∷ items) s o ≡ length_at now s.start o
    by_length None = refl
    by_length (Some n) = refl

completed_end : (now : ℕ) (ss : List Slot) → all_completed now ss [] ≡ map (ended_at now) ss
completed_end now [] = refl
completed_end now (s ∷ ss) = joined s _ _ _ _ (by_length s.length) (completed_end now ss)
  where
    by_length : (o : Option ℕ) → length_with now ss [] s o ≡ length_at now s.start o
    by_length None = refl
    by_length (Some n) = refl

-- ---- pieces taken in

abbrev pub outcome_of : List ℕ → List Attribute → Option MarkupFault → Outcome
outcome_of plain xs first = record { plain = plain; attributes = xs; first = first }

abbrev pub slot_of : List ℕ → ℕ → Option ℕ → List Property → ℕ → Option ℕ → Slot
slot_of name start n properties at outer = record { name = name; start = start; length = n; properties = properties; at = at; outer = outer }

same_outcome : (p q : List ℕ) (xs ys : List Attribute) (f g : Option MarkupFault) → p ≡ q → xs ≡ ys → f ≡ g → outcome_of p xs f ≡ outcome_of q ys g
same_outcome p q xs ys f g e h k = ap (λ (x : List ℕ). outcome_of x xs f) e ∙ ap (λ (x : List Attribute). outcome_of q x f) h ∙ ap (λ (x : Option MarkupFault). outcome_of q ys x) k

pub taken_stands : (k : Kept) (c at : ℕ) →
    Takes k at (Stands c) (record { plain = k.plain ++ encode_utf8 c; count = k.count + 1; attributes = k.attributes; slots = k.slots })
taken_stands k c at = λ items. same_outcome _ _ _ _ _ _ (append_assoc k.plain (encode_utf8 c) (plain_text items))
    (ap (λ (xs : List Attribute). k.attributes ++ xs) (completed_same k.count (k.count + 1) items (At at (Stands c) ∷ items) refl (λ name n. refl) k.slots)) refl

pub taken_given : (k : Kept) (text : List ℕ) (at : ℕ) →
    Takes k at (Given text) (record { plain = k.plain ++ text; count = k.count + length (chars text); attributes = k.attributes; slots = k.slots })
taken_given k text at = λ items. same_outcome _ _ _ _ _ _ (append_assoc k.plain text (plain_text items))
    (ap (λ (xs : List Attribute). k.attributes ++ xs) (completed_same k.count (k.count + length (chars text)) items (At at (Given text) ∷ items) refl (λ name n. refl) k.slots)) refl

add_cond : (b : Bool) (k : ℕ) → k + cond b 1 0 ≡ cond b (k + 1) k
add_cond true k = refl
add_cond false k = omega arith

pub taken_opens : (k : Kept) (own : Tag) (at : ℕ) (outer : Option ℕ) →
    Takes k at (Opens own) (record { plain = k.plain; count = k.count; attributes = k.attributes; slots = k.slots ++ slot_of own.name k.count None own.properties at outer ∷ [] })
taken_opens k own at outer = λ items. same_outcome _ _ _ _ _ _ refl
    (ap (λ (xs : List Attribute). k.attributes ++ xs) (completed_more k.count k.count items (At at (Opens own) ∷ items) (slot_of own.name k.count None own.properties at outer) refl
    (λ name n. ap (λ (m : ℕ). closing_place name m k.count items) (add_cond (same_text name own.name) n)) k.slots))
    (ap (λ (os : List Opened). fault os items) (open_slots-more k.slots (slot_of own.name k.count None own.properties at outer)))

pub taken_lone : (k : Kept) (own : Tag) (at : ℕ) →
    Takes k at (Lone own) (record { plain = k.plain; count = k.count; attributes = k.attributes; slots = k.slots ++ slot_of own.name k.count (Some 0) own.properties at None ∷ [] })
taken_lone k own at = λ items. same_outcome _ _ _ _ _ _ refl
    (ap (λ (xs : List Attribute). k.attributes ++ xs) (completed_more k.count k.count items (At at (Lone own) ∷ items) (slot_of own.name k.count (Some 0) own.properties at None) refl
    (λ name n. ap (λ (m : ℕ). closing_place name m k.count items) (add-zero n)) k.slots))
    (ap (λ (os : List Opened). fault os items) (open_slots-more k.slots (slot_of own.name k.count (Some 0) own.properties at None) ∙ append-nil (open_slots k.slots)))

pub taken_verbatim : (k : Kept) (text : List ℕ) (at n : ℕ) → n ≡ length (chars text) →
    Takes k at (Verbatim text) (record { plain = k.plain ++ text; count = k.count + length (chars text); attributes = k.attributes; slots = k.slots ++ slot_of (codes "nomarkup") k.count (Some n) [] at None ∷ [] })
taken_verbatim k text at n e = λ items. same_outcome _ _ _ _ _ _ (append_assoc k.plain text (plain_text items))
    (ap (λ (xs : List Attribute). k.attributes ++ xs) (completed_more k.count (k.count + length (chars text)) items (At at (Verbatim text) ∷ items) (slot_of (codes "nomarkup") k.count (Some n) [] at None)
    (ap (λ (m : ℕ). record { name = codes "nomarkup"; start = k.count; length = m; properties = [] } ∷ attributes (k.count + length (chars text)) items) e)
    (λ name m. ap (λ (m : ℕ). closing_place name m (k.count + length (chars text)) items) (add-zero m)) k.slots))
    (ap (λ (os : List Opened). fault os items) (open_slots-more k.slots (slot_of (codes "nomarkup") k.count (Some n) [] at None) ∙ append-nil (open_slots k.slots)))

open_cases : (name : List ℕ) (ss : List Slot) (b : Bool) → b ≡ not (nat_eq (open_count name ss) 0) → is_open name (open_slots ss) ≡ b
open_cases name ss b e = is_open-count name ss ∙ sym e

some_open : (n : ℕ) → true ≡ not (nat_eq n 0) → 0 < n
some_open n e = by_zero (nat_eq n 0) refl e
  where
    by_zero : (b : Bool) → nat_eq n 0 ≡ b → true ≡ not b → 0 < n
    by_zero true h f = absurd cc
    by_zero false h f = ne-zero n h

pub taken_closes : (k : Kept) (name : List ℕ) (at : ℕ) → true ≡ not (nat_eq (open_count name k.slots) 0) →
    Takes k at (Closes name) (record { plain = k.plain; count = k.count; attributes = k.attributes; slots = close_latest name k.count k.slots })
taken_closes k name at e = λ items. same_outcome _ _ _ _ _ _ refl
    (ap (λ (xs : List Attribute). k.attributes ++ xs) (completed_closed name k.count at items k.slots))
    (sym (ap (λ (b : Bool). cond b (fault (closed name (open_slots k.slots)) items) (Some (BadMarkup at))) (open_cases name k.slots true e)
    ∙ ap (λ (os : List Opened). fault os items) (closed-slots name k.count k.slots (some_open (open_count name k.slots) e))))

pub fails_closes : (k : Kept) (name : List ℕ) (at : ℕ) → false ≡ not (nat_eq (open_count name k.slots) 0) → Fails k at (Closes name) (BadMarkup at)
fails_closes k name at e = λ items. ap (λ (b : Bool). cond b (fault (closed name (open_slots k.slots)) items) (Some (BadMarkup at))) (open_cases name k.slots false e)

pub taken_all : (k : Kept) (at : ℕ) → true ≡ is_some_open (open_slots k.slots) →
    Takes k at ClosesAll (record { plain = k.plain; count = k.count; attributes = k.attributes ++ map (ended_at k.count) k.slots; slots = [] })
taken_all k at e = λ items. same_outcome _ _ _ _ _ _ refl
    (append_assoc k.attributes (map (ended_at k.count) k.slots) (attributes k.count items)
    ∙ ap (λ (xs : List Attribute). k.attributes ++ xs) (sym (completed_all_closed k.count at items k.slots)))
    (ap (λ (b : Bool). cond b (fault [] items) (Some (BadMarkup at))) e)

pub fails_all : (k : Kept) (at : ℕ) → false ≡ is_some_open (open_slots k.slots) → Fails k at ClosesAll (BadMarkup at)
fails_all k at e = λ items. ap (λ (b : Bool). cond b (fault [] items) (Some (BadMarkup at))) (sym e)

pub finished : (k : Kept) → left_open (open_slots k.slots) ≡ None →
    outcome k [] ≡ outcome_of k.plain (k.attributes ++ map (ended_at k.count) k.slots) None
finished k e = same_outcome _ _ _ _ _ _ (append-nil k.plain) (ap (λ (xs : List Attribute). k.attributes ++ xs) (completed_end k.count k.slots)) e

-- ---- the same, where what is kept is only known to be that

abbrev pub kept_of : List ℕ → ℕ → List Attribute → List Slot → Kept
kept_of plain count xs slots = record { plain = plain; count = count; attributes = xs; slots = slots }

takes_same : (k : Kept) (at : ℕ) (piece : Piece) (plain new_plain : List ℕ) (count new_count : ℕ) (xs ys : List Attribute) (ss ts : List Slot) →
    Takes k at piece (kept_of plain count xs ss) → new_plain ≡ plain → new_count ≡ count → ys ≡ xs → ts ≡ ss →
    Takes k at piece (kept_of new_plain new_count ys ts)
takes_same k at piece plain new_plain count new_count xs ys ss ts h e f g i =
    subst (λ (x : List ℕ). Takes k at piece (kept_of x new_count ys ts)) (sym e)
    (subst (λ (x : ℕ). Takes k at piece (kept_of plain x ys ts)) (sym f)
    (subst (λ (x : List Attribute). Takes k at piece (kept_of plain count x ts)) (sym g)
    (subst (λ (x : List Slot). Takes k at piece (kept_of plain count xs x)) (sym i) h)))

pub stands_taken : (k : Kept) (c at : ℕ) (plain : List ℕ) (count : ℕ) → plain ≡ k.plain ++ encode_utf8 c → count ≡ k.count + 1 →
    Takes k at (Stands c) (kept_of plain count k.attributes k.slots)
stands_taken k c at plain count e f = takes_same k at (Stands c) _ _ _ _ _ _ _ _ (taken_stands k c at) e f refl refl

pub given_taken : (k : Kept) (text : List ℕ) (at : ℕ) (plain : List ℕ) (count : ℕ) → plain ≡ k.plain ++ text → count ≡ k.count + length (chars text) →
    Takes k at (Given text) (kept_of plain count k.attributes k.slots)
given_taken k text at plain count e f = takes_same k at (Given text) _ _ _ _ _ _ _ _ (taken_given k text at) e f refl refl

pub opens_taken : (k : Kept) (own : Tag) (at : ℕ) (outer : Option ℕ) (slots : List Slot) → slots ≡ k.slots ++ slot_of own.name k.count None own.properties at outer ∷ [] →
    Takes k at (Opens own) (kept_of k.plain k.count k.attributes slots)
opens_taken k own at outer slots e = takes_same k at (Opens own) _ _ _ _ _ _ _ _ (taken_opens k own at outer) refl refl refl e

pub lone_taken : (k : Kept) (own : Tag) (at : ℕ) (slots : List Slot) → slots ≡ k.slots ++ slot_of own.name k.count (Some 0) own.properties at None ∷ [] →
    Takes k at (Lone own) (kept_of k.plain k.count k.attributes slots)
lone_taken k own at slots e = takes_same k at (Lone own) _ _ _ _ _ _ _ _ (taken_lone k own at) refl refl refl e

pub verbatim_taken : (k mid : Kept) (text name : List ℕ) (properties : List Property) (at n : ℕ) (slots : List Slot) →
    mid ≡ kept_of (k.plain ++ text) (k.count + length (chars text)) k.attributes k.slots → n ≡ mid.count - k.count →
    name ≡ codes "nomarkup" → properties ≡ [] → slots ≡ mid.slots ++ slot_of name k.count (Some n) properties at None ∷ [] →
    Takes k at (Verbatim text) (kept_of mid.plain mid.count mid.attributes slots)
verbatim_taken k mid text name properties at n slots e f named empty g =
    let count : mid.count ≡ k.count + length (chars text) = ap (λ (m : Kept). m.count) e in
    let size : n ≡ length (chars text) = omega (arith, f, count) in
    takes_same k at (Verbatim text) _ _ _ _ _ _ _ _ (taken_verbatim k text at n size)
    (ap (λ (m : Kept). m.plain) e) count (ap (λ (m : Kept). m.attributes) e)
    (g ∙ ap (λ (m : Kept). m.slots ++ slot_of name k.count (Some n) properties at None ∷ []) e
    ∙ ap (λ (x : List ℕ). k.slots ++ slot_of x k.count (Some n) properties at None ∷ []) named
    ∙ ap (λ (x : List Property). k.slots ++ slot_of (codes "nomarkup") k.count (Some n) x at None ∷ []) empty)

pub closes_taken : (k : Kept) (name : List ℕ) (at : ℕ) (slots : List Slot) → true ≡ not (nat_eq (open_count name k.slots) 0) →
    slots ≡ close_latest name k.count k.slots → Takes k at (Closes name) (kept_of k.plain k.count k.attributes slots)
closes_taken k name at slots found e = takes_same k at (Closes name) _ _ _ _ _ _ _ _ (taken_closes k name at found) refl refl refl e

pub all_taken : (k : Kept) (at : ℕ) (xs : List Attribute) (slots : List Slot) → true ≡ is_some_open (open_slots k.slots) →
    xs ≡ k.attributes ++ map (ended_at k.count) k.slots → slots ≡ [] → Takes k at ClosesAll (kept_of k.plain k.count xs slots)
all_taken k at xs slots some e f = takes_same k at ClosesAll _ _ _ _ _ _ _ _ (taken_all k at some) refl refl e f

pub finish_found : (k : Kept) (xs : List Attribute) → left_open (open_slots k.slots) ≡ None → xs ≡ k.attributes ++ map (ended_at k.count) k.slots →
    outcome k [] ≡ outcome_of k.plain xs None
finish_found k xs none e = finished k none ∙ ap (λ (x : List Attribute). outcome_of k.plain x None) (sym e)

-- ---- the latest open attribute of a name

pub latest_counts : (name : List ℕ) (ss : List Slot) (k : ℕ) → IsLatest name ss k → 0 < open_count name ss
latest_counts name [] k h = absurd h
latest_counts name (x ∷ ss) zero h = omega (arith, h.0)
latest_counts name (x ∷ ss) (suc k) h = omega (arith, latest_counts name ss k h)

pub latest_open : (name : List ℕ) (ss : List Slot) (k : ℕ) → IsLatest name ss k → true ≡ not (nat_eq (open_count name ss) 0)
latest_open name ss k h = sym (ap not (pos-eq (open_count name ss) (latest_counts name ss k h)))

pub none_open : (name : List ℕ) (ss : List Slot) → open_count name ss ≡ 0 → false ≡ not (nat_eq (open_count name ss) 0)
none_open name ss e = sym (ap not (zero-eq (open_count name ss) e))

pub none_latest : (name : List ℕ) (now : ℕ) (ss : List Slot) → open_count name ss ≡ 0 → ss ≡ close_latest name now ss
none_latest name now ss e = sym (close_none name now ss e)

pub set_latest : (name : List ℕ) (now : ℕ) (ss : List Slot) (k : ℕ) (s t : Slot) (n : ℕ) → IsLatest name ss k → s ≡ get_or ss k s → t ≡ get_or ss k t → n ≡ now - t.start →
    set ss k (slot_of s.name s.start (Some n) s.properties s.at s.outer) ≡ close_latest name now ss
set_latest name now [] k s t n h e f g = absurd h
set_latest name now (x ∷ ss) zero s t n h e f g =
    ap (λ (y : Slot). slot_of y.name y.start (Some n) y.properties y.at y.outer ∷ ss) e
    ∙ ap (λ (m : ℕ). slot_of x.name x.start (Some m) x.properties x.at x.outer ∷ ss) (g ∙ ap (λ (y : Slot). now - y.start) f)
    ∙ sym (ap (λ (b : Bool). cond b (cond (nat_eq (counts name x) 0) x (closed_at now x) ∷ ss) (x ∷ close_latest name now ss)) (zero-eq (open_count name ss) h.1)
    ∙ ap (λ (b : Bool). cond b x (closed_at now x) ∷ ss) (pos-eq (counts name x) (omega (arith, h.0))))
set_latest name now (x ∷ ss) (suc k) s t n h e f g =
    ap (λ (l : List Slot). x ∷ l) (set_latest name now ss k s t n h e f g)
    ∙ sym (ap (λ (b : Bool). cond b (cond (nat_eq (counts name x) 0) x (closed_at now x) ∷ ss) (x ∷ close_latest name now ss)) (pos-eq (open_count name ss) (latest_counts name ss k h)))
