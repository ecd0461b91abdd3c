-- How far a text is read, and what its reading or its first fault then is; the laws.
use Rattle.std.proofs.Common.{◌≡◌, ℕ, ◌+◌, ◌-◌, ◌<◌, ◌≤◌, List, [], ◌∷◌, ◌++◌, length, Bool, Option, Some, None, Result, Ok, Err, refl, sym, ap, ◌∙◌, subst, arith}
use Rattle.yarn_plural.specs.declared.table.PluralTable.{PluralTable}
use Rattle.yarn_markup.specs.declared.marked.Attribute.{Attribute}
use Rattle.yarn_markup.specs.declared.marked.Marked.{Marked}
use Rattle.yarn_markup.specs.declared.fault.MarkupFault.{MarkupFault}
use Rattle.yarn_markup.specs.declared.fault.MarkupFault.TheVariants.{BadMarkup, NoChoice, Memory}
use Rattle.yarn_markup.specs.declared.piece.Piece.{Piece}
use Rattle.yarn_markup.specs.Pieces.{IsPiece, Item, At, Broken, Reads, ends, broken, goes}
use Rattle.yarn_markup.specs.Attributes.{plain_text, attributes, character_at, fault}
use Rattle.yarn_markup.specs.Slots.{open_slots, Kept, Outcome, outcome, Takes, Fails, TakesOr, Finishes}
use Rattle.yarn_markup.specs.Markup.{IsMarkup, IsRefused, ReadsMarkup, Answered, marked, refused, EachAnswered, OneReading, OneFault, NoneRefused}
use Rattle.yarn_markup.proofs.LengthLemmas.{piece-shorter}
use Rattle.yarn_markup.proofs.SlotLemmas.{outcome_of, kept_of}
use Rattle.yarn_markup.proofs.TotalLemmas.{items_of, items_once}

-- what comes of all items of the text
pub record Whole (plural : PluralTable) (text : List ℕ) (o : Outcome) : Type 0 where
  pub items : List Item
  pub read : Reads plural 0 text items
  pub is : o ≡ outcome_of (plain_text items) (character_at text ++ attributes 0 items) (fault [] items)

-- what is kept, with all items of the rest, is what comes of the text
pub record Leads (plural : PluralTable) (text rest : List ℕ) (k : Kept) : Type 0 where
  pub within : length rest ≤ length text
  pub all : (items : List Item) → Reads plural (length text - length rest) rest items → Whole plural text (outcome k items)

pub leads_start : (plural : PluralTable) (text : List ℕ) (k : Kept) → k ≡ kept_of [] 0 (character_at text) [] → Leads plural text text k
leads_start plural text k e = record {
  within = omega arith;
  all = λ items read. subst (λ (x : Kept). Whole plural text (outcome x items)) (sym e) (record {
    items = items;
    read = subst (λ (n : ℕ). Reads plural n text items) (none_before (length text)) read;
    is = refl;
  });
}
  where
    none_before : (n : ℕ) → n - n ≡ 0
    none_before n = omega arith

-- one more piece in front of the items
longer : (plural : PluralTable) (text rest after : List ℕ) (piece : Piece) (items : List Item) → length rest ≤ length text →
    IsPiece plural rest piece after → Reads plural (length text - length after) after items →
    Reads plural (length text - length rest) rest (At (length text - length rest) piece ∷ items)
longer plural text rest after piece items h is read =
    let shorter = piece-shorter plural rest piece after is in
    let same : length text - length after ≡ length text - length rest + (length rest - length after) = omega (arith, h, shorter) in
    goes piece after is (subst (λ (n : ℕ). Reads plural n after items) same read)

pub leads_step : (plural : PluralTable) (text rest after : List ℕ) (k new : Kept) (piece : Piece) (at : ℕ) → Leads plural text rest k →
    IsPiece plural rest piece after → at ≡ length text - length rest → Takes k at piece new → Leads plural text after new
leads_step plural text rest after k new piece at so_far is place takes = record {
  within = omega (arith, so_far.within, piece-shorter plural rest piece after is);
  all = λ items read. subst (λ (o : Outcome). Whole plural text o) (sym (takes items))
      (subst (λ (n : ℕ). Whole plural text (outcome k (At n piece ∷ items))) (sym place)
      (so_far.all (At (length text - length rest) piece ∷ items) (longer plural text rest after piece items so_far.within is read)));
}

fault_of : (plural : PluralTable) (text : List ℕ) (k : Kept) (items : List Item) (first : MarkupFault) → Whole plural text (outcome k items) →
    fault (open_slots k.slots) items ≡ Some first → IsRefused plural text first
fault_of plural text k items first whole e = record {
  items = whole.items;
  read = whole.read;
  found = sym (ap (λ (o : Outcome). o.first) whole.is) ∙ e;
}

pub refused_at : (plural : PluralTable) (text rest after : List ℕ) (k : Kept) (piece : Piece) (at : ℕ) (first : MarkupFault) → Leads plural text rest k →
    IsPiece plural rest piece after → at ≡ length text - length rest → Fails k at piece first → IsRefused plural text first
refused_at plural text rest after k piece at first so_far is place fails =
    let has = items_of plural (length text - length after) after in
    let whole = so_far.all (At (length text - length rest) piece ∷ has.items) (longer plural text rest after piece has.items so_far.within is has.read) in
    fault_of plural text k (At (length text - length rest) piece ∷ has.items) first whole
    (subst (λ (n : ℕ). fault (open_slots k.slots) (At n piece ∷ has.items) ≡ Some first) place (fails has.items))

pub refused_by : (plural : PluralTable) (text rest after : List ℕ) (k new : Kept) (piece : Piece) (at : ℕ) (e : MarkupFault) → Leads plural text rest k →
    IsPiece plural rest piece after → at ≡ length text - length rest → TakesOr k at piece new (Err e) → ReadsMarkup plural text (Err e)
refused_by plural text rest after k new piece at (BadMarkup p) so_far is place fails = refused_at plural text rest after k piece at (BadMarkup p) so_far is place fails
refused_by plural text rest after k new piece at (NoChoice p) so_far is place fails = refused_at plural text rest after k piece at (NoChoice p) so_far is place fails
refused_by plural text rest after k new piece at Memory so_far is place fails = tt

pub refused_broken : (plural : PluralTable) (text rest : List ℕ) (k : Kept) (at : ℕ) → Leads plural text rest k → 0 < length rest →
    ((piece : Piece) (after : List ℕ) → IsPiece plural rest piece after → ⊥) → at ≡ length text - length rest → IsRefused plural text (BadMarkup at)
refused_broken plural text rest k at so_far some nothing place =
    let whole = so_far.all (Broken (length text - length rest) ∷ []) (broken some nothing) in
    fault_of plural text k (Broken (length text - length rest) ∷ []) (BadMarkup at) whole (ap (λ (n : ℕ). Some (BadMarkup n)) (sym place))

pub finishes : (plural : PluralTable) (text rest : List ℕ) (k : Kept) → Leads plural text rest k → rest ≡ [] → (r : Result Marked MarkupFault) → Finishes k r →
    ReadsMarkup plural text r
finishes plural text rest k so_far e (Ok own) is =
    let whole = so_far.all [] (ends e) in
    let same : outcome_of own.plain own.attributes None ≡ outcome_of (plain_text whole.items) (character_at text ++ attributes 0 whole.items) (fault [] whole.items) = sym is ∙ whole.is in
    record {
      items = whole.items;
      read = whole.read;
      sound = sym (ap (λ (o : Outcome). o.first) same);
      plain = ap (λ (o : Outcome). o.plain) same;
      listed = ap (λ (o : Outcome). o.attributes) same;
    }
finishes plural text rest k so_far e (Err (BadMarkup p)) is = fault_of plural text k [] (BadMarkup p) (so_far.all [] (ends e)) is
finishes plural text rest k so_far e (Err (NoChoice p)) is = absurd is
finishes plural text rest k so_far e (Err Memory) is = tt

-- ---- laws

one_marked : (a b : Marked) → a.plain ≡ b.plain → a.attributes ≡ b.attributes → a ≡ b
one_marked a b e f = ap (λ (x : List ℕ). marked_of x a.attributes) e ∙ ap (λ (x : List Attribute). marked_of b.plain x) f
  where
    marked_of : List ℕ → List Attribute → Marked
    marked_of plain xs = record { plain = plain; attributes = xs }

pub one_reading : OneReading
one_reading plural text a b is its =
    let same = items_once plural 0 text is.items its.items is.read its.read in
    one_marked a b (is.plain ∙ ap plain_text same ∙ sym its.plain)
    (is.listed ∙ ap (λ (l : List Item). character_at text ++ attributes 0 l) same ∙ sym its.listed)

pub one_fault : OneFault
one_fault plural text a b is its =
    let same = items_once plural 0 text is.items its.items is.read its.read in
    let e : Some a ≡ Some b = sym is.found ∙ ap (fault []) same ∙ its.found in
    cc

pub none_refused : NoneRefused
none_refused plural text own first is its =
    let same = items_once plural 0 text is.items its.items is.read its.read in
    let e : None ≡ Some first = sym is.sound ∙ ap (fault []) same ∙ its.found in
    absurd cc

answered : (plural : PluralTable) (text : List ℕ) (items : List Item) → Reads plural 0 text items → (o : Option MarkupFault) → fault [] items ≡ o → Answered plural text
answered plural text items read None e =
    marked (record { plain = plain_text items; attributes = character_at text ++ attributes 0 items })
    (record { items = items; read = read; sound = e; plain = refl; listed = refl })
answered plural text items read (Some first) e = refused first (record { items = items; read = read; found = e })

pub each_answered : EachAnswered
each_answered plural text =
    let has = items_of plural 0 text in
    answered plural text has.items has.read (fault [] has.items) refl
