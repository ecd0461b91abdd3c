-- The hashtags and the nodes that items make (docs/language.md, Nodes and Body lines).
use Rattle.std.specs.Prelude.{ℕ, ◌+◌, List, [], ◌∷◌, ◌++◌, Bool, ◌&&◌, if◌then◌else◌, Option, Some, None, is_none}
use Rattle.yarn_items.specs.declared.item.Header.{Header}
use Rattle.yarn_items.specs.declared.item.Said.{Said}
use Rattle.yarn_items.specs.declared.item.Item.{Item}
use Rattle.yarn_items.specs.declared.item.Item.TheVariants as item
use Rattle.yarn_blocks.specs.declared.entry.Entry.{Entry}
use Rattle.yarn_blocks.specs.declared.entry.What.{What}
use Rattle.yarn_nodes.specs.declared.draft.Draft.{Draft}
use Rattle.yarn_nodes.specs.declared.node.Titled.{Titled}
use Rattle.yarn_nodes.specs.declared.node.NodeLines.{NodeLines}
use Rattle.yarn_nodes.specs.Entries.{ItemAt, what_at}
use Rattle.yarn_blocks.specs.LineIds.{line_id}
use Rattle.yarn_nodes.specs.Ids.{id_among}
use Rattle.yarn_nodes.specs.Titles.{is_title}

-- the hashtags of the file
abbrev pub and_tag : Item → List (List ℕ) → List (List ℕ)
and_tag (item.FileTag tag) tags = tag ∷ tags
and_tag (item.Header header) tags = tags
and_tag item.BodyBegins tags = tags
and_tag item.NodeEnds tags = tags
and_tag (item.Line said) tags = tags
and_tag (item.Offer said asked) tags = tags
and_tag (item.Command own named) tags = tags
and_tag (item.Game said) tags = tags

abbrev pub tags_of : List ItemAt → List (List ℕ)
tags_of [] = []
tags_of (x ∷ xs) = and_tag x.item (tags_of xs)

-- nothing of a node
abbrev pub no_draft : Draft
no_draft = record { title = None; headers = []; line = 0; body = []; said = 0 }

-- the title of a node without one is empty, and on no line
abbrev pub titled_of : Option Titled → Titled
titled_of None = record { line = 0; title = [] }
titled_of (Some titled) = titled

-- the first header `title` gives the title
abbrev pub header_taken : Draft → ℕ → Header → Draft
header_taken draft line header = record {
  title = if is_title header && is_none draft.title then Some (record { line = line; title = header.value }) else draft.title;
  headers = draft.headers ++ header ∷ [];
  line = draft.line;
  body = draft.body;
  said = draft.said;
}

abbrev pub body_begun : Draft → ℕ → Draft
body_begun draft line = record { title = draft.title; headers = draft.headers; line = line; body = []; said = 0 }

-- with a line of the body
abbrev pub with_entry : Draft → Entry → Draft
with_entry draft entry = record {
  title = draft.title;
  headers = draft.headers;
  line = draft.line;
  body = draft.body ++ entry ∷ [];
  said = draft.said;
}

abbrev pub counted : Draft → Draft
counted draft = record { title = draft.title; headers = draft.headers; line = draft.line; body = draft.body; said = draft.said + 1 }

-- the id of a line with these hashtags, where ids are wanted
abbrev pub id_given : Bool → List (List ℕ) → List ℕ → ℕ → List ℕ
id_given ids tags title before = if ids then id_among tags (line_id title before) else []

abbrev pub next_id : Bool → Draft → List (List ℕ) → List ℕ
next_id ids draft tags = id_given ids tags (titled_of draft.title).title draft.said

abbrev pub and_what : Draft → ℕ → ℕ → Option What → Draft
and_what draft line indent None = draft
and_what draft line indent (Some w) = with_entry draft (record { line = line; indent = indent; what = w })

-- a line that is said, or an option, with its id
abbrev pub said_taken : Bool → Draft → ItemAt → Said → Draft
said_taken ids draft x said = counted (and_what draft x.line x.indent (what_at x.line (next_id ids draft said.tags) x.item))

-- a line of the body without an id
abbrev pub other_taken : Draft → ItemAt → Draft
other_taken draft x = and_what draft x.line x.indent (what_at x.line [] x.item)

-- what of a node stands behind an item
abbrev pub draft_past : Bool → Draft → ItemAt → Item → Draft
draft_past ids draft x (item.FileTag tag) = draft
draft_past ids draft x (item.Header header) = header_taken draft x.line header
draft_past ids draft x item.BodyBegins = body_begun draft x.line
draft_past ids draft x item.NodeEnds = no_draft
draft_past ids draft x (item.Line said) = said_taken ids draft x said
draft_past ids draft x (item.Offer said asked) = said_taken ids draft x said
draft_past ids draft x (item.Command own tags) = other_taken draft x
draft_past ids draft x (item.Game said) = other_taken draft x

abbrev pub draft_behind : Bool → Draft → ItemAt → Draft
draft_behind ids draft x = draft_past ids draft x x.item

-- the node that ends at that line
abbrev pub node_of : Draft → ℕ → NodeLines
node_of draft line = record {
  title = (titled_of draft.title).title;
  headers = draft.headers;
  line = draft.line;
  end_line = line;
  body = draft.body;
}

-- a `===` ends a node
abbrev pub and_node : Draft → ℕ → Item → List NodeLines → List NodeLines
and_node draft line item.NodeEnds nodes = node_of draft line ∷ nodes
and_node draft line (item.FileTag tag) nodes = nodes
and_node draft line (item.Header header) nodes = nodes
and_node draft line item.BodyBegins nodes = nodes
and_node draft line (item.Line said) nodes = nodes
and_node draft line (item.Offer said asked) nodes = nodes
and_node draft line (item.Command own tags) nodes = nodes
and_node draft line (item.Game said) nodes = nodes

abbrev pub nodes_from : Bool → Draft → List ItemAt → List NodeLines
nodes_from ids draft [] = []
nodes_from ids draft (x ∷ xs) = and_node draft x.line x.item (nodes_from ids (draft_behind ids draft x) xs)

-- the titles of these nodes, and the lines of their headers
abbrev pub and_titled : Draft → Item → List Titled → List Titled
and_titled draft item.NodeEnds titles = titled_of draft.title ∷ titles
and_titled draft (item.FileTag tag) titles = titles
and_titled draft (item.Header header) titles = titles
and_titled draft item.BodyBegins titles = titles
and_titled draft (item.Line said) titles = titles
and_titled draft (item.Offer said asked) titles = titles
and_titled draft (item.Command own tags) titles = titles
and_titled draft (item.Game said) titles = titles

abbrev pub titles_from : Bool → Draft → List ItemAt → List Titled
titles_from ids draft [] = []
titles_from ids draft (x ∷ xs) = and_titled draft x.item (titles_from ids (draft_behind ids draft x) xs)
