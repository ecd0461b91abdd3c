-- One line after the other.
use Rattle.std.proofs.Common.{◌≡◌, ℕ, List, [], ◌∷◌, ◌++◌, Bool, true, false, not, cond, is_some, Option, Some, None, refl, sym, ap, ◌∙◌, append_assoc, append-nil}
use Rattle.yarn_lines.specs.declared.line.RawLine.{RawLine}
use Rattle.yarn_items.specs.declared.item.Header.{Header}
use Rattle.yarn_items.specs.declared.item.Mode.{Mode}
use Rattle.yarn_items.specs.declared.item.Mode.TheVariants.{InBody}
use Rattle.yarn_items.specs.declared.item.Said.{Said}
use Rattle.yarn_items.specs.Heading.{bare}
use Rattle.yarn_items.specs.declared.item.Item.{Item}
use Rattle.yarn_items.specs.declared.item.Item.TheVariants as item
use Rattle.yarn_items.specs.declared.item.Found.{Found}
use Rattle.yarn_items.specs.Form.{found_of}
use Rattle.yarn_blocks.specs.declared.entry.Entry.{Entry}
use Rattle.yarn_blocks.specs.declared.entry.What.{What}
use Rattle.yarn_blocks.specs.declared.mark.Mark.{Mark}
use Rattle.yarn_blocks.specs.Entries.{mark_of, marks_of}
use Rattle.yarn_blocks.specs.Outline.{verdict_in}
use Rattle.yarn_nodes.specs.declared.draft.Draft.{Draft}
use Rattle.yarn_nodes.specs.declared.node.FileRead.{FileRead}
use Rattle.yarn_nodes.specs.declared.node.Notes.{Notes}
use Rattle.yarn_nodes.specs.declared.node.Titled.{Titled}
use Rattle.yarn_nodes.specs.declared.reader.Reader.{Reader}
use Rattle.yarn_nodes.specs.declared.structure.Stand.{Stand}
use Rattle.yarn_nodes.specs.declared.structure.Stand.TheVariants.{Front, Between, Headed, Inside}
use Rattle.yarn_nodes.specs.Entries.{ItemAt, command_at}
use Rattle.yarn_nodes.specs.Finds.{next_mode, mode_behind, and_item, items_from, told_at, first_told, is_nothing, has_many_holes, has_fraction, has_large}
use Rattle.yarn_nodes.specs.Nodes.{no_draft, and_what, draft_behind, tags_of, nodes_from, titles_from, node_of, titled_of, said_taken}
use Rattle.yarn_nodes.specs.Places.{or_later}
use Rattle.yarn_nodes.specs.Reading.{found_noted, lines_noted, misplaced_noted, item_at, item_taken, read_by, read_on, fault_of_end, fault_of_cut}
use Rattle.yarn_nodes.specs.Structure.{mode_of, header_behind, and_mark, marks_behind, tag_fault, end_fault, misplaced_end, first_misplaced, first_shown, deep_in, crowd_in}
use Rattle.yarn_nodes.specs.Titles.{is_title, is_mistitled, titled_behind, first_mistitled}

-- modes
header-mode : (stand : Stand) → mode_of (header_behind stand) ≡ mode_of stand
header-mode Front = refl
header-mode Between = refl
header-mode Headed = refl
header-mode Inside = refl

taken-mode : (reader : Reader) (line indent : ℕ) (i : Item) →
    mode_of (item_taken reader (record { line = line; indent = indent; item = i })).stand ≡ next_mode (mode_of reader.stand) i
taken-mode reader line indent (item.FileTag tag) = refl
taken-mode reader line indent (item.Header header) = header-mode reader.stand
taken-mode reader line indent item.BodyBegins = refl
taken-mode reader line indent item.NodeEnds = refl
taken-mode reader line indent (item.Line said) = refl
taken-mode reader line indent (item.Offer said asked) = refl
taken-mode reader line indent (item.Command own tags) = refl
taken-mode reader line indent (item.Game said) = refl

-- titles
titled-header : (draft : Draft) (line indent : ℕ) (header : Header) →
    is_some (draft_behind true draft (record { line = line; indent = indent; item = item.Header header })).title
    ≡ titled_behind (is_some draft.title) (item.Header header)
titled-header draft line indent header = by_title draft.title refl (is_title header) refl
  where
    by_title : (o : Option Titled) → draft.title ≡ o → (t : Bool) → is_title header ≡ t →
        is_some (draft_behind true draft (record { line = line; indent = indent; item = item.Header header })).title
        ≡ titled_behind (is_some draft.title) (item.Header header)
    by_title None is true test = rw (is, test) refl
    by_title None is false test = rw (is, test) refl
    by_title (Some titled) is true test = rw (is, test) refl
    by_title (Some titled) is false test = rw (is, test) refl

and-what-titled : (draft : Draft) (line indent : ℕ) (w : Option What) → (and_what draft line indent w).title ≡ draft.title
and-what-titled draft line indent None = refl
and-what-titled draft line indent (Some w) = refl

-- marks
marks-last : (entries : List Entry) (entry : Entry) → marks_of (entries ++ entry ∷ []) ≡ marks_of entries ++ mark_of entry ∷ []
marks-last [] entry = refl
marks-last (e ∷ entries) entry = ap (λ (ms : List Mark). mark_of e ∷ ms) (marks-last entries entry)

and-what-marks : (draft : Draft) (line indent : ℕ) (w : Option What) → marks_of (and_what draft line indent w).body ≡ and_mark (marks_of draft.body) line indent w
and-what-marks draft line indent None = refl
and-what-marks draft line indent (Some w) = marks-last draft.body (record { line = line; indent = indent; what = w })

pub marks-taken : (ids : Bool) (draft : Draft) (line indent : ℕ) (i : Item) →
    marks_of (draft_behind ids draft (record { line = line; indent = indent; item = i })).body
    ≡ marks_behind (marks_of draft.body) (record { line = line; indent = indent; item = i })
marks-taken ids draft line indent (item.FileTag tag) = refl
marks-taken ids draft line indent (item.Header header) = refl
marks-taken ids draft line indent item.BodyBegins = refl
marks-taken ids draft line indent item.NodeEnds = refl
marks-taken ids draft line indent (item.Line said) = marks-last draft.body _
marks-taken ids draft line indent (item.Offer said asked) = marks-last draft.body _
marks-taken ids draft line indent (item.Command own tags) = and-what-marks draft line indent (command_at line tags own)
marks-taken ids draft line indent (item.Game said) = marks-last draft.body _

-- firsts
or_or : (o a b : Option ℕ) → or_later o (or_later a b) ≡ or_later (or_later o a) b
or_or None a b = refl
or_or (Some first) a b = refl

or_test : (o : Option ℕ) (test : Bool) (line : ℕ) (later : Option ℕ) →
    or_later o (cond test (Some line) later) ≡ or_later (or_later o (cond test (Some line) None)) later
or_test None true line later = refl
or_test None false line later = refl
or_test (Some first) test line later = refl

or_none : (o later : Option ℕ) → or_later o later ≡ or_later (or_later o None) later
or_none None later = refl
or_none (Some first) later = refl

end-fault : (stand : Stand) (marks : List Mark) (line : ℕ) → fault_of_end stand line (verdict_in marks) ≡ end_fault stand marks line
end-fault Front marks line = refl
end-fault Between marks line = refl
end-fault Headed marks line = refl
end-fault Inside marks line = refl

-- an item
item-by : (reader : Reader) (number : ℕ) (name : List ℕ) (end : ℕ) (told : Notes) (line indent : ℕ) (i : Item) (items : List ItemAt) →
    read_by reader number name end told (record { line = line; indent = indent; item = i } ∷ items)
    ≡ read_by (item_taken reader (record { line = line; indent = indent; item = i })) number name end told items
item-by reader number name end told line indent (item.FileTag tag) items =
    let marks = marks_of reader.draft.body in
    let tags = append_assoc reader.tags (tag ∷ []) (tags_of items) in
    let placed = or_or reader.notes.misplaced (tag_fault reader.stand line) (first_misplaced reader.stand marks end items) in
    cc
item-by reader number name end told line indent (item.Header header) items =
    let titled = titled-header reader.draft line indent header in
    let bad = or_test reader.notes.mistitled (is_mistitled (is_some reader.draft.title) (item.Header header)) line
    (first_mistitled (titled_behind (is_some reader.draft.title) (item.Header header)) items) in
    cc
item-by reader number name end told line indent item.BodyBegins items =
    let bad = or_test reader.notes.mistitled (not (is_some reader.draft.title)) line (first_mistitled (is_some reader.draft.title) items) in
    cc
item-by reader number name end told line indent item.NodeEnds items =
    let marks = marks_of reader.draft.body in
    let nodes = append_assoc reader.nodes (node_of reader.draft line ∷ []) (nodes_from reader.ids no_draft items) in
    let titles = append_assoc reader.titles (titled_of reader.draft.title ∷ []) (titles_from reader.ids no_draft items) in
    let fault = end-fault reader.stand marks line in
    let placed = or_or reader.notes.misplaced (end_fault reader.stand marks line) (first_misplaced Between [] end items) in
    let deep = or_or reader.notes.too_deep (deep_in (verdict_in marks)) (first_shown deep_in [] items) in
    let many = or_or reader.notes.too_many (crowd_in (verdict_in marks)) (first_shown crowd_in [] items) in
    cc
item-by reader number name end told line indent (item.Line said) items =
    let marks = marks-taken reader.ids reader.draft line indent (item.Line said) in
    cc
item-by reader number name end told line indent (item.Offer said asked) items =
    let marks = marks-taken reader.ids reader.draft line indent (item.Offer said asked) in
    cc
item-by reader number name end told line indent (item.Command own tags) items =
    let marks = marks-taken reader.ids reader.draft line indent (item.Command own tags) in
    let titled = and-what-titled reader.draft line indent (command_at line tags own) in
    cc
item-by reader number name end told line indent (item.Game said) items =
    let marks = marks-taken reader.ids reader.draft line indent (item.Game said) in
    cc

-- the notes of what was found
told-step : (notes : Notes) (mode : Mode) (line : RawLine) (found : Option Found) (lines : List RawLine) → found_of mode line.text ≡ found →
    lines_noted notes mode (line ∷ lines) ≡ lines_noted (found_noted notes line.number found) (mode_behind mode found) lines
told-step notes mode line found lines is =
    let bad = or_or notes.bad (told_at is_nothing line.number found) (first_told is_nothing (mode_behind mode found) lines) in
    let holes = or_or notes.many_holes (told_at has_many_holes line.number found) (first_told has_many_holes (mode_behind mode found) lines) in
    let fraction = or_or notes.fraction (told_at has_fraction line.number found) (first_told has_fraction (mode_behind mode found) lines) in
    let large = or_or notes.too_large (told_at has_large line.number found) (first_told has_large (mode_behind mode found) lines) in
    cc

-- an item notes nothing of what was found
taken-told : (reader by : Reader) (number : ℕ) (name : List ℕ) (end : ℕ) (mode : Mode) (lines : List RawLine) (items : List ItemAt) (line indent : ℕ) (i : Item) →
    read_by by number name end (lines_noted reader.notes mode lines) items
    ≡ read_by by number name end (lines_noted (item_taken reader (record { line = line; indent = indent; item = i })).notes mode lines) items
taken-told reader by number name end mode lines items line indent (item.FileTag tag) = refl
taken-told reader by number name end mode lines items line indent (item.Header header) = refl
taken-told reader by number name end mode lines items line indent item.BodyBegins = refl
taken-told reader by number name end mode lines items line indent item.NodeEnds = refl
taken-told reader by number name end mode lines items line indent (item.Line said) = refl
taken-told reader by number name end mode lines items line indent (item.Offer said asked) = refl
taken-told reader by number name end mode lines items line indent (item.Command own tags) = refl
taken-told reader by number name end mode lines items line indent (item.Game said) = refl

-- with what was found of a line noted
abbrev pub seen : Reader → ℕ → Option Found → Reader
seen reader line found = record reader { notes = found_noted reader.notes line found }

pub nothing-read : (reader : Reader) (line : RawLine) → found_of (mode_of reader.stand) line.text ≡ None →
    (number : ℕ) (name : List ℕ) (end : ℕ) (lines : List RawLine) →
    read_on reader number name end (line ∷ lines) ≡ read_on (seen reader line.number None) number name end lines
nothing-read reader line is number name end lines =
    let mode = mode_of reader.stand in
    ap (λ (f : Option Found). read_by reader number name end (lines_noted reader.notes mode (line ∷ lines))
    (and_item line.number line.indent f (items_from (mode_behind mode f) lines))) is
    ∙ ap (λ (told : Notes). read_by reader number name end told (items_from mode lines)) (told-step reader.notes mode line None lines is)

pub item-read : (reader : Reader) (line : RawLine) (found : Found) → found_of (mode_of reader.stand) line.text ≡ Some found →
    (number : ℕ) (name : List ℕ) (end : ℕ) (lines : List RawLine) →
    read_on reader number name end (line ∷ lines)
    ≡ read_on (item_taken (seen reader line.number (Some found)) (record { line = line.number; indent = line.indent; item = found.item })) number name end lines
item-read reader line found is number name end lines =
    let mode = mode_of reader.stand in
    let next = next_mode mode found.item in
    let x : ItemAt = record { line = line.number; indent = line.indent; item = found.item } in
    let taken = item_taken (seen reader line.number (Some found)) x in
    ap (λ (f : Option Found). read_by reader number name end (lines_noted reader.notes mode (line ∷ lines))
    (and_item line.number line.indent f (items_from (mode_behind mode f) lines))) is
    ∙ ap (λ (told : Notes). read_by reader number name end told (x ∷ items_from next lines)) (told-step reader.notes mode line (Some found) lines is)
    ∙ item-by (seen reader line.number (Some found)) number name end (lines_noted (found_noted reader.notes line.number (Some found)) next lines)
    line.number line.indent found.item (items_from next lines)
    ∙ taken-told (seen reader line.number (Some found)) taken number name end next lines (items_from next lines) line.number line.indent found.item
    ∙ ap (λ (m : Mode). read_by taken number name end (lines_noted taken.notes m lines) (items_from m lines))
    (sym (taken-mode (seen reader line.number (Some found)) line.number line.indent found.item))

-- a line that is said as it stands
or_nothing : (o : Option ℕ) → or_later o None ≡ o
or_nothing None = refl
or_nothing (Some first) = refl

abbrev pub found_plain : Said → Found
found_plain said = bare (item.Line said)

plain-noted : (notes : Notes) (line : ℕ) (text : List ℕ) →
    found_noted notes line (Some (found_plain (record { text = text; holes = []; tags = [] }))) ≡ notes
plain-noted notes line text =
    ap (λ (o : Option ℕ). record notes { bad = o; many_holes = or_later notes.many_holes None; fraction = or_later notes.fraction None; too_large = or_later notes.too_large None }) (or_nothing notes.bad)
    ∙ ap (λ (o : Option ℕ). record notes { many_holes = o; fraction = or_later notes.fraction None; too_large = or_later notes.too_large None }) (or_nothing notes.many_holes)
    ∙ ap (λ (o : Option ℕ). record notes { fraction = o; too_large = or_later notes.too_large None }) (or_nothing notes.fraction)
    ∙ ap (λ (o : Option ℕ). record notes { too_large = o }) (or_nothing notes.too_large)

pub plain-read : (reader : Reader) (line : RawLine) (said : Said) (draft : Draft) → said ≡ record { text = line.text; holes = []; tags = [] } →
    mode_of reader.stand ≡ InBody → found_of InBody line.text ≡ Some (found_plain (record { text = line.text; holes = []; tags = [] })) →
    draft ≡ said_taken reader.ids reader.draft (item_at (record { line = line.number; indent = line.indent }) (item.Line said)) said →
    (number : ℕ) (name : List ℕ) (end : ℕ) (lines : List RawLine) →
    read_on reader number name end (line ∷ lines) ≡ read_on (record reader { draft = draft }) number name end lines
plain-read reader line said draft said_is inside found taken number name end lines =
    let own : Said = record { text = line.text; holes = []; tags = [] } in
    let here : found_of (mode_of reader.stand) line.text ≡ Some (found_plain own) = ap (λ (m : Mode). found_of m line.text) inside ∙ found in
    let x : ItemAt = record { line = line.number; indent = line.indent; item = item.Line own } in
    item-read reader line (found_plain own) here number name end lines
    ∙ ap (λ (notes : Notes). read_on (item_taken (record reader { notes = notes }) x) number name end lines) (plain-noted reader.notes line.number line.text)
    ∙ ap (λ (s : Said). read_on (record reader { draft = said_taken reader.ids reader.draft (record { line = line.number; indent = line.indent; item = item.Line s }) s }) number name end lines) (sym said_is)
    ∙ ap (λ (d : Draft). read_on (record reader { draft = d }) number name end lines) (sym taken)

-- the end
cut-fault : (stand : Stand) (marks : List Mark) (end : ℕ) → misplaced_end stand marks end ≡ fault_of_cut stand end (verdict_in marks)
cut-fault Front marks end = refl
cut-fault Between marks end = refl
cut-fault Headed marks end = refl
cut-fault Inside marks end = refl

-- what is read, where no line is left
abbrev pub all_read : Reader → ℕ → List ℕ → Notes → FileRead
all_read reader number name notes = record {
  number = number;
  file = record { name = name; tags = reader.tags; nodes = reader.nodes };
  titles = reader.titles;
  notes = notes;
}

pub lines-end : (reader : Reader) (number : ℕ) (name : List ℕ) (end : ℕ) →
    read_on reader number name end []
    ≡ all_read reader number name (misplaced_noted reader.notes (fault_of_cut reader.stand end (verdict_in (marks_of reader.draft.body))))
lines-end reader number name end =
    let tags = append-nil reader.tags in
    let nodes = append-nil reader.nodes in
    let titles = append-nil reader.titles in
    let cut = cut-fault reader.stand (marks_of reader.draft.body) end in
    let bad = or_nothing reader.notes.bad in
    let holes = or_nothing reader.notes.many_holes in
    let deep = or_nothing reader.notes.too_deep in
    let many = or_nothing reader.notes.too_many in
    let fraction = or_nothing reader.notes.fraction in
    let large = or_nothing reader.notes.too_large in
    let titled = or_nothing reader.notes.mistitled in
    cc
