-- What of a file's lines is read so far, and what the lines that are left make of it (docs/language.md, Nodes).
use Rattle.std.specs.Prelude.{ℕ, List, [], ◌∷◌, ◌++◌, Bool, if◌then◌else◌, Option, Some, None, is_some}
use Rattle.yarn_lines.specs.declared.line.RawLine.{RawLine}
use Rattle.yarn_items.specs.declared.item.Mode.{Mode}
use Rattle.yarn_items.specs.declared.item.Header.{Header}
use Rattle.yarn_items.specs.declared.item.Item.{Item}
use Rattle.yarn_items.specs.declared.item.Item.TheVariants as item
use Rattle.yarn_items.specs.declared.item.Found.{Found}
use Rattle.yarn_blocks.specs.declared.verdict.Verdict.{Verdict}
use Rattle.yarn_blocks.specs.Entries.{marks_of}
use Rattle.yarn_blocks.specs.Outline.{verdict_in}
use Rattle.yarn_nodes.specs.declared.entry.Spot.{Spot}
use Rattle.yarn_nodes.specs.declared.node.FileRead.{FileRead}
use Rattle.yarn_nodes.specs.declared.node.Notes.{Notes}
use Rattle.yarn_nodes.specs.declared.reader.Reader.{Reader}
use Rattle.yarn_nodes.specs.declared.structure.Stand.{Stand}
use Rattle.yarn_nodes.specs.declared.structure.Stand.TheVariants.{Front, Between, Headed, Inside}
use Rattle.yarn_nodes.specs.Places.{or_later}
use Rattle.yarn_nodes.specs.Entries.{ItemAt}
use Rattle.yarn_nodes.specs.Finds.{items_from, told_at, first_told, is_nothing, has_many_holes, has_fraction, has_large}
use Rattle.yarn_nodes.specs.Structure.{mode_of, header_behind, tag_fault, body_fault, cut_fault, first_misplaced, first_shown, deep_in, crowd_in}
use Rattle.yarn_nodes.specs.Titles.{is_mistitled, first_mistitled}
use Rattle.yarn_nodes.specs.Nodes.{tags_of, no_draft, titled_of, header_taken, body_begun, said_taken, other_taken, node_of, nodes_from, titles_from}

abbrev pub item_at : Spot → Item → ItemAt
item_at spot i = record { line = spot.line; indent = spot.indent; item = i }

abbrev pub no_notes : Notes
no_notes = record {
  bad = None;
  many_holes = None;
  misplaced = None;
  too_deep = None;
  too_many = None;
  fraction = None;
  too_large = None;
  mistitled = None;
}

-- nothing read
abbrev pub no_lines : Bool → Reader
no_lines ids = record { ids = ids; stand = Front; tags = []; nodes = []; titles = []; draft = no_draft; notes = no_notes }

-- what is noted of what was found of a line
abbrev pub found_noted : Notes → ℕ → Option Found → Notes
found_noted notes line found = record notes {
  bad = or_later notes.bad (told_at is_nothing line found);
  many_holes = or_later notes.many_holes (told_at has_many_holes line found);
  fraction = or_later notes.fraction (told_at has_fraction line found);
  too_large = or_later notes.too_large (told_at has_large line found);
}

-- the same of all lines that are left
abbrev pub lines_noted : Notes → Mode → List RawLine → Notes
lines_noted notes mode lines = record notes {
  bad = or_later notes.bad (first_told is_nothing mode lines);
  many_holes = or_later notes.many_holes (first_told has_many_holes mode lines);
  fraction = or_later notes.fraction (first_told has_fraction mode lines);
  too_large = or_later notes.too_large (first_told has_large mode lines);
}

-- the fault of a `===` on that line, where the body before it is so
abbrev pub fault_of_end : Stand → ℕ → Verdict → Option ℕ
fault_of_end Front line is = Some line
fault_of_end Between line is = Some line
fault_of_end Headed line is = Some line
fault_of_end Inside line is = body_fault line is

-- the fault of the file's end, where the body before it is so
abbrev pub fault_of_cut : Stand → ℕ → Verdict → Option ℕ
fault_of_cut Front end is = None
fault_of_cut Between end is = None
fault_of_cut Headed end is = Some end
fault_of_cut Inside end is = Some (cut_fault end is)

-- what is noted of a body that a `===` ends
abbrev pub body_noted : Notes → Stand → ℕ → Verdict → Notes
body_noted notes stand line is = record notes {
  misplaced = or_later notes.misplaced (fault_of_end stand line is);
  too_deep = or_later notes.too_deep (deep_in is);
  too_many = or_later notes.too_many (crowd_in is);
}

abbrev pub misplaced_noted : Notes → Option ℕ → Notes
misplaced_noted notes line = record notes { misplaced = or_later notes.misplaced line }

-- a line that titles its node badly, or not
abbrev pub mistitled_noted : Notes → ℕ → Bool → Notes
mistitled_noted notes line bad = record notes { mistitled = or_later notes.mistitled (if bad then Some line else None) }

-- what is read with one more line
abbrev pub tag_put : Reader → ℕ → List ℕ → Reader
tag_put reader line tag = record reader { notes = misplaced_noted reader.notes (tag_fault reader.stand line); tags = reader.tags ++ tag ∷ [] }

abbrev pub header_put : Reader → ℕ → Header → Reader
header_put reader line header = record reader {
  notes = mistitled_noted reader.notes line (is_mistitled (is_some reader.draft.title) (item.Header header));
  stand = header_behind reader.stand;
  draft = header_taken reader.draft line header;
}

abbrev pub body_opened : Reader → ℕ → Reader
body_opened reader line = record reader {
  notes = mistitled_noted reader.notes line (is_mistitled (is_some reader.draft.title) item.BodyBegins);
  stand = Inside;
  draft = body_begun reader.draft line;
}

abbrev pub node_put : Reader → ℕ → Reader
node_put reader line = record reader {
  nodes = reader.nodes ++ node_of reader.draft line ∷ [];
  titles = reader.titles ++ titled_of reader.draft.title ∷ [];
  draft = no_draft;
}

abbrev pub node_ended : Reader → ℕ → Reader
node_ended reader line = record (node_put reader line) {
  notes = body_noted reader.notes reader.stand line (verdict_in (marks_of reader.draft.body));
  stand = Between;
}

abbrev pub item_put : Reader → ItemAt → Item → Reader
item_put reader x (item.FileTag tag) = tag_put reader x.line tag
item_put reader x (item.Header header) = header_put reader x.line header
item_put reader x item.BodyBegins = body_opened reader x.line
item_put reader x item.NodeEnds = node_ended reader x.line
item_put reader x (item.Line said) = record reader { draft = said_taken reader.ids reader.draft x said }
item_put reader x (item.Offer said asked) = record reader { draft = said_taken reader.ids reader.draft x said }
item_put reader x (item.Command own tags) = record reader { draft = other_taken reader.draft x }
item_put reader x (item.Game said) = record reader { draft = other_taken reader.draft x }

abbrev pub item_taken : Reader → ItemAt → Reader
item_taken reader x = item_put reader x x.item

-- what is read behind these items, where that is noted of their lines
abbrev pub read_by : Reader → ℕ → List ℕ → ℕ → Notes → List ItemAt → FileRead
read_by reader number name end told items = record {
  number = number;
  file = record {
    name = name;
    tags = reader.tags ++ tags_of items;
    nodes = reader.nodes ++ nodes_from reader.ids reader.draft items;
  };
  titles = reader.titles ++ titles_from reader.ids reader.draft items;
  notes = record {
    bad = told.bad;
    many_holes = told.many_holes;
    misplaced = or_later reader.notes.misplaced (first_misplaced reader.stand (marks_of reader.draft.body) end items);
    too_deep = or_later reader.notes.too_deep (first_shown deep_in (marks_of reader.draft.body) items);
    too_many = or_later reader.notes.too_many (first_shown crowd_in (marks_of reader.draft.body) items);
    fraction = told.fraction;
    too_large = told.too_large;
    mistitled = or_later reader.notes.mistitled (first_mistitled (is_some reader.draft.title) items);
  };
}

-- what is read behind these lines
abbrev pub read_on : Reader → ℕ → List ℕ → ℕ → List RawLine → FileRead
read_on reader number name end lines =
    read_by reader number name end (lines_noted reader.notes (mode_of reader.stand) lines) (items_from (mode_of reader.stand) lines)
