-- The items of a file's lines, and the nodes, line by line, that they stand for (docs/language.md, Nodes).
use Rattle.std.specs.Prelude.{◌≡◌, ◌≤◌, ℕ, List, [], ◌∷◌, ◌++◌, length, All, IsUtf8, ⊤, if◌then◌else◌, codes}
use Rattle.std.specs.Str.{bytes_eq}
use Rattle.yarn_base.specs.declared.SourceFile.{SourceFile}
use Rattle.yarn_lines.specs.declared.line.RawLine.{RawLine}
use Rattle.yarn_lines.specs.Lines.{pieces_in, lines_of}
use Rattle.yarn_expr.specs.declared.token.Token.{Token}
use Rattle.yarn_items.specs.declared.item.Mode.{Mode}
use Rattle.yarn_items.specs.declared.item.Mode.TheVariants.{InHeaders}
use Rattle.yarn_items.specs.declared.item.Header.{Header}
use Rattle.yarn_items.specs.declared.item.Item.{Item}
use Rattle.yarn_items.specs.declared.item.Item.TheVariants as item
use Rattle.yarn_items.specs.Item.{IsItem}
use Rattle.yarn_nodes.specs.declared.node.NodeLines.{NodeLines}
use Rattle.yarn_nodes.specs.declared.node.FileLines.{FileLines}
use Rattle.yarn_nodes.specs.Entries.{ItemAt, AreEntries}
use Rattle.yarn_nodes.specs.Ids.{Naming}
use Rattle.yarn_nodes.specs.Finds.{next_mode}

-- the text of a line is that item
abbrev pub HasItem : Mode → List ℕ → Item → Type 0
HasItem mode text item = (tokens : List Token) × IsItem mode text tokens item

-- each line has its item by its text, in the mode behind the item before it
abbrev pub IsItems : Mode → List RawLine → List ItemAt → Type 0
IsItems mode [] [] = ⊤
IsItems mode [] (x ∷ items) = ⊥
IsItems mode (line ∷ lines) [] = ⊥
IsItems mode (line ∷ lines) (x ∷ items) =
    (x.line ≡ line.number) × (x.indent ≡ line.indent) × HasItem mode line.text x.item × IsItems (next_mode mode x.item) lines items

-- only hashtags of the file
pub data AreTags : List ItemAt → List (List ℕ) → Type 0 where
  no_tag : AreTags [] []
  next_tag : {x : ItemAt} {xs : List ItemAt} {t : List ℕ} {ts : List (List ℕ)} →
      x.item ≡ item.FileTag t → AreTags xs ts → AreTags (x ∷ xs) (t ∷ ts)

-- only headers
pub data AreHeaders : List ItemAt → List Header → Type 0 where
  no_header : AreHeaders [] []
  next_header : {x : ItemAt} {xs : List ItemAt} {h : Header} {hs : List Header} →
      x.item ≡ item.Header h → AreHeaders xs hs → AreHeaders (x ∷ xs) (h ∷ hs)

-- the value of the first header `title`, and nothing where there is none
abbrev pub title_in : List Header → List ℕ
title_in [] = []
title_in (h ∷ hs) = if bytes_eq h.key (codes "title") then h.value else title_in hs

-- headers, `---`, the lines of a body and `===`
pub record IsNode (Ids : Naming) (items : List ItemAt) (node : NodeLines) : Type 0 where
  pub headers : List ItemAt
  pub begins : ItemAt
  pub inner : List ItemAt
  pub ends : ItemAt
  pub cut : items ≡ headers ++ (begins ∷ (inner ++ ends ∷ []))
  pub headed : AreHeaders headers node.headers
  pub title : node.title ≡ title_in node.headers
  pub begun : (begins.item ≡ item.BodyBegins) × (node.line ≡ begins.line)
  pub body : AreEntries inner node.body
  pub ids : Ids node.title node.body
  pub ended : (ends.item ≡ item.NodeEnds) × (node.end_line ≡ ends.line)

-- one node after the other
pub data AreNodes (Ids : Naming) : List ItemAt → List NodeLines → Type 0 where
  no_node : AreNodes Ids [] []
  first_node : {items rest : List ItemAt} {node : NodeLines} {nodes : List NodeLines} →
      IsNode Ids items node → AreNodes Ids rest nodes → AreNodes Ids (items ++ rest) (node ∷ nodes)

-- hashtags of the file, and then nodes
pub record IsFile (Ids : Naming) (items : List ItemAt) (file : FileLines) : Type 0 where
  pub front : List ItemAt
  pub rest : List ItemAt
  pub cut : items ≡ front ++ rest
  pub tagged : AreTags front file.tags
  pub are_nodes : AreNodes Ids rest file.nodes

-- no line is other than UTF-8, and none has more than 65,536 bytes
abbrev pub IsReadable : List ℕ → Type 0
IsReadable bytes = All IsUtf8 (pieces_in bytes) × All (λ piece. length piece ≤ 65536) (pieces_in bytes)

-- the bytes of a file stand for these lines of nodes
pub record HasLines (Ids : Naming) (source : SourceFile) (file : FileLines) : Type 0 where
  pub named : file.name ≡ source.name
  pub items : List ItemAt
  pub readable : IsReadable source.bytes
  pub has_items : IsItems InHeaders (lines_of source.bytes).lines items
  pub is_file : IsFile Ids items file
