-- The items of lines, and the lines of bodies that they are (docs/language.md, Body lines).
use Rattle.std.specs.Prelude.{◌≡◌, ℕ, List, [], ◌∷◌, Option, Some, None, ⊤}
use Rattle.yarn_commands.specs.declared.command.Command.{Command}
use Rattle.yarn_commands.specs.declared.command.Command.TheVariants as command
use Rattle.yarn_items.specs.declared.item.Said.{Said}
use Rattle.yarn_items.specs.declared.item.Item.{Item}
use Rattle.yarn_items.specs.declared.item.Item.TheVariants as item
use Rattle.yarn_blocks.specs.declared.tree.Head.{Head}
use Rattle.yarn_blocks.specs.declared.tree.LineText.{LineText}
use Rattle.yarn_blocks.specs.declared.entry.Entry.{Entry}
use Rattle.yarn_blocks.specs.declared.entry.What.{What}
use Rattle.yarn_blocks.specs.declared.entry.What.TheVariants as what
use Rattle.yarn_blocks.specs.declared.entry.Simple.TheVariants as simple

-- an item, the number of its line, and its indent
pub record ItemAt : Type 0 where
  pub line : ℕ
  pub indent : ℕ
  pub item : Item

-- what is said on a line under that id
abbrev pub text_at : ℕ → List ℕ → Said → LineText
text_at line id said = record { line = line; id = id; text = said.text; holes = said.holes; tags = said.tags }

abbrev pub head_at : ℕ → List (List ℕ) → Head
head_at line tags = record { line = line; tags = tags }

-- the body line that a command is; its text, where it is one for the game, stands elsewhere
abbrev pub command_at : ℕ → List (List ℕ) → Command → Option What
command_at line tags (command.If e) = Some (what.If (head_at line tags) e)
command_at line tags (command.ElseIf e) = Some (what.ElseIf (head_at line tags) e)
command_at line tags command.Else = Some (what.Else (head_at line tags))
command_at line tags command.EndIf = Some (what.EndIf (head_at line tags))
command_at line tags (command.Set name op e) = Some (what.Statement (simple.Set (head_at line tags) name op e))
command_at line tags (command.Declare name value kind) = Some (what.Statement (simple.Declare (head_at line tags) name value kind))
command_at line tags (command.Jump title) = Some (what.Statement (simple.Jump (head_at line tags) title))
command_at line tags (command.JumpTo e) = Some (what.Statement (simple.JumpTo (head_at line tags) e))
command_at line tags command.Stop = Some (what.Statement (simple.Stop (head_at line tags)))
command_at line tags (command.Call e) = Some (what.Statement (simple.Call (head_at line tags) e))
command_at line tags command.Game = None

-- the body line that an item is on that line; the id is that of a line that is said and of an option
abbrev pub what_at : ℕ → List ℕ → Item → Option What
what_at line id (item.Line said) = Some (what.Statement (simple.Line (text_at line id said)))
what_at line id (item.Offer said asked) = Some (what.Offer (text_at line id said) asked)
what_at line id (item.Command own tags) = command_at line tags own
what_at line id (item.Game said) = Some (what.Statement (simple.Command (text_at line [] said)))
what_at line id (item.FileTag tag) = None
what_at line id (item.Header header) = None
what_at line id item.BodyBegins = None
what_at line id item.NodeEnds = None

-- what has an id: a line that is said and an option
abbrev pub said_by : What → Option LineText
said_by (what.Statement (simple.Line text)) = Some text
said_by (what.Offer text asked) = Some text
said_by _ = None

abbrev pub id_in : Option LineText → List ℕ
id_in (Some text) = text.id
id_in None = []

-- the entry of an item: its line, its indent, and what it is
pub record IsEntry (x : ItemAt) (entry : Entry) : Type 0 where
  pub line : entry.line ≡ x.line
  pub indent : entry.indent ≡ x.indent
  pub is : what_at x.line (id_in (said_by entry.what)) x.item ≡ Some entry.what

-- each item has its entry
abbrev pub AreEntries : List ItemAt → List Entry → Type 0
AreEntries [] [] = ⊤
AreEntries [] (entry ∷ entries) = ⊥
AreEntries (x ∷ items) [] = ⊥
AreEntries (x ∷ items) (entry ∷ entries) = IsEntry x entry × AreEntries items entries
