-- What the lines of a file make, and what those that are left make of what was read (docs/language.md, Nodes).
use Rattle.std.specs.Prelude.{ℕ, List, [], Bool, false}
use Rattle.yarn_lines.specs.Lines.{Lines}
use Rattle.yarn_items.specs.declared.item.Mode.TheVariants.{InHeaders}
use Rattle.yarn_nodes.specs.declared.node.FileRead.{FileRead}
use Rattle.yarn_nodes.specs.declared.node.Notes.{Notes}
use Rattle.yarn_nodes.specs.declared.structure.Stand.TheVariants.{Front}
use Rattle.yarn_nodes.specs.Finds.{items_from, first_told, is_nothing, has_many_holes, has_fraction, has_large}
use Rattle.yarn_nodes.specs.Structure.{first_misplaced, first_shown, deep_in, crowd_in}
use Rattle.yarn_nodes.specs.Titles.{first_mistitled}
use Rattle.yarn_nodes.specs.Nodes.{tags_of, no_draft, nodes_from, titles_from}

-- what is noted of the lines of a file
abbrev pub notes_of : Lines → Notes
notes_of lines = record {
  bad = first_told is_nothing InHeaders lines.lines;
  many_holes = first_told has_many_holes InHeaders lines.lines;
  misplaced = first_misplaced Front [] lines.end (items_from InHeaders lines.lines);
  too_deep = first_shown deep_in [] (items_from InHeaders lines.lines);
  too_many = first_shown crowd_in [] (items_from InHeaders lines.lines);
  fraction = first_told has_fraction InHeaders lines.lines;
  too_large = first_told has_large InHeaders lines.lines;
  mistitled = first_mistitled false (items_from InHeaders lines.lines);
}

-- what is read of a file, where ids are wanted or not
unfoldable pub file_of : Bool → ℕ → List ℕ → Lines → FileRead
file_of ids number name lines = record {
  number = number;
  file = record {
    name = name;
    tags = tags_of (items_from InHeaders lines.lines);
    nodes = nodes_from ids no_draft (items_from InHeaders lines.lines);
  };
  titles = titles_from ids no_draft (items_from InHeaders lines.lines);
  notes = notes_of lines;
}
