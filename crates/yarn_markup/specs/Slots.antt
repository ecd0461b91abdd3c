-- What is kept of the attributes while a text is read, and what comes of it with the pieces that follow.
use Rattle.std.specs.Prelude.{◌≡◌, ℕ, ◌+◌, ◌-◌, nat_eq, List, [], ◌∷◌, ◌++◌, zero, suc, if◌then◌else◌, Option, Some, None, Result, Ok, Err, ⊤}
use Rattle.yarn_value.specs.Operations.{same_text}
use Rattle.yarn_markup.specs.declared.marked.Attribute.{Attribute}
use Rattle.yarn_markup.specs.declared.marked.Marked.{Marked}
use Rattle.yarn_markup.specs.declared.fault.MarkupFault.{MarkupFault}
use Rattle.yarn_markup.specs.declared.fault.MarkupFault.TheVariants.{BadMarkup, NoChoice, Memory}
use Rattle.yarn_markup.specs.declared.piece.Piece.{Piece}
use Rattle.yarn_markup.specs.declared.slot.Slot.{Slot}
use Rattle.yarn_markup.specs.declared.reading.Reading.{Reading}
use Rattle.yarn_markup.specs.Pieces.{Item, At}
use Rattle.yarn_markup.specs.Attributes.{plain_text, attributes, closing_place, Opened, fault}

-- ---- open attributes

abbrev pub opened_by : Slot → Option ℕ → List Opened
opened_by s None = record { name = s.name; at = s.at } ∷ []
opened_by s (Some n) = []

-- those of unknown length
abbrev pub open_slots : List Slot → List Opened
open_slots [] = []
open_slots (s ∷ ss) = opened_by s s.length ++ open_slots ss

-- 1 for an open attribute of that name, else 0
abbrev pub counts_with : List ℕ → Slot → Option ℕ → ℕ
counts_with name s None = if same_text name s.name then 1 else 0
counts_with name s (Some n) = 0

abbrev pub counts : List ℕ → Slot → ℕ
counts name s = counts_with name s s.length

abbrev pub open_count : List ℕ → List Slot → ℕ
open_count name [] = 0
open_count name (s ∷ ss) = counts name s + open_count name ss

-- the attribute closed at that place of the plain text
abbrev pub closed_at : ℕ → Slot → Slot
closed_at now s = record { name = s.name; start = s.start; length = Some (now - s.start); properties = s.properties; at = s.at; outer = s.outer }

-- with the latest open one of that name closed, where there is one
abbrev pub close_latest : List ℕ → ℕ → List Slot → List Slot
close_latest name now [] = []
close_latest name now (s ∷ ss) =
    if nat_eq (open_count name ss) 0 then (if nat_eq (counts name s) 0 then s else closed_at now s) ∷ ss
    else s ∷ close_latest name now ss

-- the slot at that place is the latest open one of that name
abbrev pub IsLatest : List ℕ → List Slot → ℕ → Type 0
IsLatest name [] k = ⊥
IsLatest name (s ∷ ss) zero = (counts name s ≡ 1) × (open_count name ss ≡ 0)
IsLatest name (s ∷ ss) (suc k) = IsLatest name ss k

-- ---- attributes with what follows

abbrev pub length_with : ℕ → List Slot → List Item → Slot → Option ℕ → ℕ
length_with now later items s None = closing_place s.name (open_count s.name later) now items - s.start
length_with now later items s (Some n) = n

abbrev pub completed : ℕ → Slot → List Slot → List Item → Attribute
completed now s later items =
    record { name = s.name; start = s.start; length = length_with now later items s s.length; properties = s.properties }

-- the attributes kept, and those that the items behind them open
abbrev pub all_completed : ℕ → List Slot → List Item → List Attribute
all_completed now [] items = attributes now items
all_completed now (s ∷ ss) items = completed now s ss items ∷ all_completed now ss items

-- the attribute where all end at that place
abbrev pub length_at : ℕ → ℕ → Option ℕ → ℕ
length_at now start None = now - start
length_at now start (Some n) = n

abbrev pub ended_at : ℕ → Slot → Attribute
ended_at now s = record { name = s.name; start = s.start; length = length_at now s.start s.length; properties = s.properties }

-- ---- all that is kept

pub record Kept : Type 0 where
  pub plain : List ℕ
  pub count : ℕ
  pub attributes : List Attribute
  pub slots : List Slot

abbrev pub kept : Reading → Kept
kept reading = record { plain = reading.plain; count = reading.count; attributes = reading.attributes; slots = reading.slots.items }

-- what comes of a text
pub record Outcome : Type 0 where
  pub plain : List ℕ
  pub attributes : List Attribute
  pub first : Option MarkupFault

abbrev pub outcome : Kept → List Item → Outcome
outcome k items = record {
  plain = k.plain ++ plain_text items;
  attributes = k.attributes ++ all_completed k.count k.slots items;
  first = fault (open_slots k.slots) items;
}

-- the piece at that place is taken in
abbrev pub Takes : Kept → ℕ → Piece → Kept → Type 0
Takes old at piece new = (items : List Item) → outcome new items ≡ outcome old (At at piece ∷ items)

-- the piece at that place is the first fault
abbrev pub Fails : Kept → ℕ → Piece → MarkupFault → Type 0
Fails old at piece first = (items : List Item) → fault (open_slots old.slots) (At at piece ∷ items) ≡ Some first

abbrev pub TakesOr : Kept → ℕ → Piece → Kept → Result (Unit {0}) MarkupFault → Type 0
TakesOr old at piece new (Ok done) = Takes old at piece new
TakesOr old at piece new (Err (BadMarkup p)) = Fails old at piece (BadMarkup p)
TakesOr old at piece new (Err (NoChoice p)) = Fails old at piece (NoChoice p)
TakesOr old at piece new (Err Memory) = ⊤

-- what is kept is the whole, where nothing follows
abbrev pub Finishes : Kept → Result Marked MarkupFault → Type 0
Finishes k (Ok marked) = outcome k [] ≡ record { plain = marked.plain; attributes = marked.attributes; first = None }
Finishes k (Err (BadMarkup p)) = fault (open_slots k.slots) [] ≡ Some (BadMarkup p)
Finishes k (Err (NoChoice p)) = ⊥
Finishes k (Err Memory) = ⊤
