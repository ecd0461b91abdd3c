-- Laws of the canonical text: it stands for the file that it was printed from, and printing it again changes nothing
-- (docs/language.md, Canonical text).
use Rattle.std.specs.Prelude.{◌≡◌, ◌≤◌, ℕ, List, [], ◌∷◌, length, Bool, false, nat_eq, All, IsUtf8, Some, ⊤, codes}
use Rattle.std.specs.List.{list_any}
use Rattle.yarn_base.specs.declared.SourceFile.{SourceFile}
use Rattle.yarn_lines.specs.Lines.{pieces_in, begins_with}
use Rattle.yarn_items.specs.declared.item.Mode.TheVariants.{InBody}
use Rattle.yarn_items.specs.declared.item.Item.{Item}
use Rattle.yarn_items.specs.Text.{trimmed}
use Rattle.yarn_blocks.specs.declared.entry.What.{What}
use Rattle.yarn_blocks.specs.Layout.{stmts_without_lines}
use Rattle.yarn_blocks.specs.View.{stmts_of}
use Rattle.yarn_nodes.specs.Entries.{what_at}
use Rattle.yarn_nodes.specs.Ids.{HasNoIds}
use Rattle.yarn_nodes.specs.Lines.{HasItem}
use Rattle.yarn_tree.specs.declared.tree.Node.{Node}
use Rattle.yarn_tree.specs.declared.tree.File.{File}
use Rattle.yarn_tree.specs.Project.{StandsFor}
use Rattle.yarn_print.specs.Print.{what_text, print_of}

-- a line of a body is printed as a text that is the same item
abbrev pub LinesPrinted : Type 0
LinesPrinted = (text : List ℕ) (line : ℕ) (id : List ℕ) (item : Item) (w : What) → IsUtf8 text → HasItem InBody text item → what_at line id item ≡ Some w →
    HasItem InBody (what_text w) item

-- a text that stands on a line by itself: no end of a line in it, no blanks around it, and it counts
pub record StandsAlone (text : List ℕ) : Type 0 where
  pub one : list_any (λ b. nat_eq b 10) text ≡ false
  pub bare : trimmed text ≡ text
  pub some : text ≡ [] → ⊥
  pub counts : begins_with (codes "//") text ≡ false
  pub utf8 : IsUtf8 text

-- so does what is printed of a line of a body that stands so
abbrev pub PrintedAlone : Type 0
PrintedAlone = (text : List ℕ) (line : ℕ) (id : List ℕ) (item : Item) (w : What) → StandsAlone text → HasItem InBody text item → what_at line id item ≡ Some w →
    StandsAlone (what_text w)

-- two nodes differ in numbers of lines alone
pub record IsSameNode (a b : Node) : Type 0 where
  pub title : a.title ≡ b.title
  pub headers : a.headers ≡ b.headers
  pub body : stmts_without_lines (stmts_of a.body) ≡ stmts_without_lines (stmts_of b.body)

abbrev pub AreSameNodes : List Node → List Node → Type 0
AreSameNodes [] [] = ⊤
AreSameNodes [] (b ∷ bs) = ⊥
AreSameNodes (a ∷ nodes) [] = ⊥
AreSameNodes (a ∷ nodes) (b ∷ bs) = IsSameNode a b × AreSameNodes nodes bs

-- two files differ in numbers of lines alone
pub record SameButLines (a b : File) : Type 0 where
  pub name : a.name ≡ b.name
  pub tags : a.tags ≡ b.tags
  pub nodes : AreSameNodes a.nodes b.nodes

-- what is printed of a file that some source stands for, stands for the same file, where none of its lines is too long
abbrev pub PrintedStands : Type 0
PrintedStands = (source printed : SourceFile) (file : File) → StandsFor HasNoIds source file →
    printed.name ≡ source.name → printed.bytes ≡ print_of file → All (λ piece. length piece ≤ 65536) (pieces_in printed.bytes) →
    (again : File) × (StandsFor HasNoIds printed again × SameButLines file again)

-- files that differ in numbers of lines alone are printed the same
abbrev pub PrintsTheSame : Type 0
PrintsTheSame = (file other : File) → SameButLines file other → print_of file ≡ print_of other
