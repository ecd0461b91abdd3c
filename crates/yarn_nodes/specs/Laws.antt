-- Laws that tie what is read of a file's lines to what they stand for (docs/language.md, Nodes, Structure of a body and
-- Refusals of a project).
use Rattle.std.specs.Prelude.{◌≡◌, ◌↔◌, ℕ, List, [], ◌∷◌, ◌++◌, length, nat_lt, Bool, true, false, if◌then◌else◌, All, Option, Some, None, ⊤, ◌⊎◌, codes}
use Rattle.std.specs.List.{list_any}
use Rattle.std.specs.Str.{bytes_eq, chars}
use Rattle.yarn_base.specs.Name.{is_name_of}
use Rattle.yarn_base.specs.declared.SourceFile.{SourceFile}
use Rattle.yarn_lines.specs.declared.line.RawLine.{RawLine}
use Rattle.yarn_lines.specs.Lines.{lines_of}
use Rattle.yarn_expr.specs.declared.token.Token.{Token}
use Rattle.yarn_expr.specs.Literal.{is_fraction, is_large}
use Rattle.yarn_items.specs.declared.item.Mode.{Mode}
use Rattle.yarn_items.specs.declared.item.Mode.TheVariants.{InHeaders, InBody}
use Rattle.yarn_items.specs.declared.item.Header.{Header}
use Rattle.yarn_items.specs.declared.item.Item.{Item}
use Rattle.yarn_items.specs.declared.item.Item.TheVariants as item
use Rattle.yarn_items.specs.Item.{IsItem}
use Rattle.yarn_blocks.specs.Tree.{Stmts, deep_in, crowd_in}
use Rattle.yarn_blocks.specs.Block.{Block}
use Rattle.yarn_nodes.specs.declared.node.FileRead.{FileRead}
use Rattle.yarn_nodes.specs.declared.node.FileLines.{FileLines}
use Rattle.yarn_nodes.specs.declared.node.NodeLines.{NodeLines}
use Rattle.yarn_nodes.specs.declared.node.Titled.{Titled}
use Rattle.yarn_nodes.specs.Entries.{ItemAt}
use Rattle.yarn_nodes.specs.Ids.{Naming, HasIds, HasNoIds}
use Rattle.yarn_nodes.specs.Finds.{holes_in}
use Rattle.yarn_nodes.specs.Titles.{is_title}
use Rattle.yarn_nodes.specs.Lines.{IsItems, IsFile, IsReadable, HasLines}
use Rattle.yarn_nodes.specs.Reader.{file_of, notes_of}

-- lines have ids where these are wanted, and else none
abbrev pub naming : Bool → Naming
naming true = HasIds
naming false = HasNoIds

-- what is read of a file
abbrev pub lines_read : Bool → ℕ → SourceFile → FileRead
lines_read ids number source = file_of ids number source.name (lines_of source.bytes)

-- the lines of each body are a block
abbrev pub IsBlockBody : NodeLines → Type 0
IsBlockBody node = (b : Stmts) × Block node.body [] b

abbrev pub AreBlocks : FileLines → Type 0
AreBlocks file = All IsBlockBody file.nodes

-- where no line is bad or misplaced, the file stands for what is read of it, whose bodies are blocks
abbrev pub FilesStand : Type 0
FilesStand = (ids : Bool) (number : ℕ) (source : SourceFile) → IsReadable source.bytes →
    (lines_read ids number source).notes.bad ≡ None → (lines_read ids number source).notes.misplaced ≡ None →
    HasLines (naming ids) source (lines_read ids number source).file × AreBlocks (lines_read ids number source).file

-- what a file stands for, where its bodies are blocks, is read of it, and no line is bad or misplaced
abbrev pub StandingIsRead : Type 0
StandingIsRead = (ids : Bool) (number : ℕ) (source : SourceFile) (file : FileLines) → HasLines (naming ids) source file → AreBlocks file →
    ((lines_read ids number source).notes.bad ≡ None) × ((lines_read ids number source).notes.misplaced ≡ None)
    × ((lines_read ids number source).file ≡ file)

-- Places of lines.

-- the mode behind a line: `---` among headers begins a body, and `===` goes back to headers
abbrev pub mode_past : Mode → List ℕ → Mode
mode_past InHeaders text = if bytes_eq text (codes "---") then InBody else InHeaders
mode_past InBody text = if bytes_eq text (codes "===") then InHeaders else InBody

abbrev pub mode_at : Mode → List RawLine → Mode
mode_at mode [] = mode
mode_at mode (line ∷ lines) = mode_at (mode_past mode line.text) lines

-- no line is of that kind in its mode
abbrev pub NoLine : (Mode → List ℕ → Type 0) → Mode → List RawLine → Type 0
NoLine P mode [] = ⊤
NoLine P mode (line ∷ lines) = (P mode line.text → ⊥) × NoLine P (mode_past mode line.text) lines

abbrev pub HasNoLine : (Mode → List ℕ → Type 0) → SourceFile → Type 0
HasNoLine P source = NoLine P InHeaders (lines_of source.bytes).lines

-- the first line of that kind has that number
pub record IsFirstIn (P : Mode → List ℕ → Type 0) (mode : Mode) (lines : List RawLine) (number : ℕ) : Type 0 where
  pub ahead : List RawLine
  pub line : RawLine
  pub behind : List RawLine
  pub cut : lines ≡ ahead ++ line ∷ behind
  pub none_ahead : NoLine P mode ahead
  pub is : P (mode_at mode ahead) line.text
  pub at : line.number ≡ number

abbrev pub HasFirstLine : (Mode → List ℕ → Type 0) → SourceFile → ℕ → Type 0
HasFirstLine P source number = IsFirstIn P InHeaders (lines_of source.bytes).lines number

-- the text is no item in that mode
abbrev pub IsNothing : Mode → List ℕ → Type 0
IsNothing mode text = (tokens : List Token) (item : Item) → IsItem mode text tokens item → ⊥

-- the text is an item with a number that has a fraction
abbrev pub HasFraction : Mode → List ℕ → Type 0
HasFraction mode text = (tokens : List Token) × (item : Item) × (IsItem mode text tokens item × (list_any is_fraction tokens ≡ true))

-- the text is an item with a number above 9223372036854775807
abbrev pub HasLarge : Mode → List ℕ → Type 0
HasLarge mode text = (tokens : List Token) × (item : Item) × (IsItem mode text tokens item × (list_any is_large tokens ≡ true))

-- the text is an item with more than 16 substitutions
abbrev pub HasManyHoles : Mode → List ℕ → Type 0
HasManyHoles mode text = (tokens : List Token) × (item : Item) × (IsItem mode text tokens item × (nat_lt 16 (length (holes_in item)) ≡ true))

-- what is noted is the first line of its kind
pub record NotesFirst (P : Mode → List ℕ → Type 0) (source : SourceFile) (noted : Option ℕ) : Type 0 where
  pub some : (number : ℕ) → (noted ≡ Some number) ↔ HasFirstLine P source number
  pub none : (noted ≡ None) ↔ HasNoLine P source

abbrev pub LinesAreNoted : Type 0
LinesAreNoted = (source : SourceFile) →
    NotesFirst IsNothing source (notes_of (lines_of source.bytes)).bad
    × NotesFirst HasManyHoles source (notes_of (lines_of source.bytes)).many_holes
    × NotesFirst HasFraction source (notes_of (lines_of source.bytes)).fraction
    × NotesFirst HasLarge source (notes_of (lines_of source.bytes)).too_large

-- Places in bodies.

-- a file may begin with these items: with some more they are one whose bodies are blocks
pub record BeginFile (items : List ItemAt) : Type 0 where
  pub more : List ItemAt
  pub file : FileLines
  pub is : IsFile HasIds (items ++ more) file
  pub blocks : AreBlocks file

-- the items are those of a file whose bodies are blocks
pub record AreOfFile (items : List ItemAt) : Type 0 where
  pub file : FileLines
  pub is : IsFile HasIds items file
  pub blocks : AreBlocks file

-- the place where items stop to be those of a file: at the first with which no file begins; else, where a body's end
-- leaves it no block, at its `===`; else behind all of them
pub data IsMisplacedAt (items : List ItemAt) (end number : ℕ) : Type 0 where
  at_line : (before behind : List ItemAt) (x : ItemAt) → items ≡ before ++ x ∷ behind → BeginFile before →
      (BeginFile (before ++ x ∷ []) → ⊥) → x.line ≡ number → IsMisplacedAt items end number
  at_end : BeginFile items → (AreOfFile items → ⊥) → end ≡ number → IsMisplacedAt items end number

-- the lines of a file have items, which are misplaced there
pub record IsMisplacedIn (source : SourceFile) (number : ℕ) : Type 0 where
  pub items : List ItemAt
  pub has : IsItems InHeaders (lines_of source.bytes).lines items
  pub at : IsMisplacedAt items (lines_of source.bytes).end number

abbrev pub MisplacedIsNoted : Type 0
MisplacedIsNoted = (source : SourceFile) (number : ℕ) → (notes_of (lines_of source.bytes)).bad ≡ None →
    ((notes_of (lines_of source.bytes)).misplaced ≡ Some number) ↔ IsMisplacedIn source number

-- the first node whose block shows something, and what it shows
pub record IsFirstShown (shows : Stmts → Option ℕ) (nodes : List NodeLines) (number : ℕ) : Type 0 where
  pub before : List NodeLines
  pub node : NodeLines
  pub behind : List NodeLines
  pub cut : nodes ≡ before ++ node ∷ behind
  pub none_before : All (λ n. (b : Stmts) → Block n.body [] b → shows b ≡ None) before
  pub stmts : Stmts
  pub block : Block node.body [] stmts
  pub shown : shows stmts ≡ Some number

-- what is noted is the first that a block shows
pub record NotesShown (shows : Stmts → Option ℕ) (nodes : List NodeLines) (noted : Option ℕ) : Type 0 where
  pub some : (number : ℕ) → (noted ≡ Some number) ↔ IsFirstShown shows nodes number
  pub none : (noted ≡ None) ↔ All (λ n. (b : Stmts) → Block n.body [] b → shows b ≡ None) nodes

-- the first line that is too deep, and the first 65th option of a group, of a file that stands for nodes with blocks
abbrev pub BlocksAreNoted : Type 0
BlocksAreNoted = (ids : Bool) (source : SourceFile) (file : FileLines) → HasLines (naming ids) source file → AreBlocks file →
    NotesShown (deep_in 0) file.nodes (notes_of (lines_of source.bytes)).too_deep
    × NotesShown crowd_in file.nodes (notes_of (lines_of source.bytes)).too_many

-- Titles of nodes, and titles in items.

-- the values of the headers `title`
abbrev pub titles_among : List Header → List (List ℕ)
titles_among [] = []
titles_among (h ∷ hs) = if is_title h then h.value ∷ titles_among hs else titles_among hs

-- one header is a title, and its value is a name
pub record IsWellTitled (node : NodeLines) : Type 0 where
  pub value : List ℕ
  pub one : titles_among node.headers ≡ value ∷ []
  pub named : is_name_of (chars value) ≡ true

-- the titles since the last `===`, the latest first
abbrev pub titles_with : List (List ℕ) → Item → List (List ℕ)
titles_with ts (item.Header header) = if is_title header then header.value ∷ ts else ts
titles_with ts item.NodeEnds = []
titles_with ts item.BodyBegins = ts
titles_with ts (item.FileTag tag) = ts
titles_with ts (item.Line said) = ts
titles_with ts (item.Offer said asked) = ts
titles_with ts (item.Command own tags) = ts
titles_with ts (item.Game said) = ts

abbrev pub titles_at : List (List ℕ) → List ItemAt → List (List ℕ)
titles_at ts [] = ts
titles_at ts (x ∷ xs) = titles_at (titles_with ts x.item) xs

-- behind these titles of its node, a second title, a title that is no name, and a `---` behind no title
abbrev pub IsBadTitle : List (List ℕ) → Item → Type 0
IsBadTitle ts (item.Header header) = (is_title header ≡ true) × (((ts ≡ []) → ⊥) ⊎ (is_name_of (chars header.value) ≡ false))
IsBadTitle ts item.BodyBegins = ts ≡ []
IsBadTitle ts item.NodeEnds = ⊥
IsBadTitle ts (item.FileTag tag) = ⊥
IsBadTitle ts (item.Line said) = ⊥
IsBadTitle ts (item.Offer said asked) = ⊥
IsBadTitle ts (item.Command own tags) = ⊥
IsBadTitle ts (item.Game said) = ⊥

abbrev pub NoBadTitle : List (List ℕ) → List ItemAt → Type 0
NoBadTitle ts [] = ⊤
NoBadTitle ts (x ∷ xs) = (IsBadTitle ts x.item → ⊥) × NoBadTitle (titles_with ts x.item) xs

-- the first of these stands there
pub record IsBadTitleAt (ts : List (List ℕ)) (items : List ItemAt) (number : ℕ) : Type 0 where
  pub before : List ItemAt
  pub x : ItemAt
  pub behind : List ItemAt
  pub cut : items ≡ before ++ x ∷ behind
  pub none_before : NoBadTitle ts before
  pub bad : IsBadTitle (titles_at ts before) x.item
  pub at : x.line ≡ number

-- the headers `title`, with their lines
abbrev pub and_title : ℕ → Item → List Titled → List Titled
and_title line (item.Header header) later = if is_title header then record { line = line; title = header.value } ∷ later else later
and_title line item.BodyBegins later = later
and_title line item.NodeEnds later = later
and_title line (item.FileTag tag) later = later
and_title line (item.Line said) later = later
and_title line (item.Offer said asked) later = later
and_title line (item.Command own tags) later = later
and_title line (item.Game said) later = later

abbrev pub titles_in : List ItemAt → List Titled
titles_in [] = []
titles_in (x ∷ xs) = and_title x.line x.item (titles_in xs)

-- the lines of a file have items, among which that is so
pub record IsBadTitleIn (source : SourceFile) (number : ℕ) : Type 0 where
  pub items : List ItemAt
  pub has : IsItems InHeaders (lines_of source.bytes).lines items
  pub at : IsBadTitleAt [] items number

pub record HasFineTitles (source : SourceFile) : Type 0 where
  pub items : List ItemAt
  pub has : IsItems InHeaders (lines_of source.bytes).lines items
  pub fine : NoBadTitle [] items

-- what is noted of the titles of a file, and which are read of it
pub record NotesTitles (ids : Bool) (number : ℕ) (source : SourceFile) (file : FileLines) : Type 0 where
  pub some : (line : ℕ) → ((notes_of (lines_of source.bytes)).mistitled ≡ Some line) ↔ IsBadTitleIn source line
  pub none : ((notes_of (lines_of source.bytes)).mistitled ≡ None) ↔ HasFineTitles source
  pub well : ((notes_of (lines_of source.bytes)).mistitled ≡ None) ↔ All IsWellTitled file.nodes
  pub titles : (notes_of (lines_of source.bytes)).mistitled ≡ None → (items : List ItemAt) → IsItems InHeaders (lines_of source.bytes).lines items →
      (lines_read ids number source).titles ≡ titles_in items

-- the first bad title of a file that stands for nodes with blocks; where there is none, the titles read are all of its
-- headers `title`
abbrev pub TitlesAreNoted : Type 0
TitlesAreNoted = (ids : Bool) (number : ℕ) (source : SourceFile) (file : FileLines) → HasLines (naming ids) source file → AreBlocks file →
    NotesTitles ids number source file
