-- The ids of lines that are said and of options (docs/language.md, Ids).
use Rattle.std.specs.Prelude.{◌≡◌, ℕ, ◌+◌, List, [], ◌∷◌, ◌++◌, if◌then◌else◌, Option, Some, None}
use Rattle.yarn_items.specs.Text.{is_id}
use Rattle.yarn_blocks.specs.declared.entry.Entry.{Entry}
use Rattle.yarn_blocks.specs.declared.tree.LineText.{LineText}
use Rattle.yarn_blocks.specs.LineIds.{line_id}
use Rattle.yarn_nodes.specs.Entries.{said_by}

-- one more, where it has an id
abbrev pub and_said : Option LineText → ℕ → ℕ
and_said (Some text) n = n + 1
and_said None n = n

-- how many lines are said, and options offered
abbrev pub said_in : List Entry → ℕ
said_in [] = 0
said_in (entry ∷ entries) = and_said (said_by entry.what) (said_in entries)

-- the first hashtag that is an id, and else the other id
abbrev pub id_among : List (List ℕ) → List ℕ → List ℕ
id_among [] other = other
id_among (t ∷ ts) other = if is_id t then t else id_among ts other

-- what holds of the ids of a body in a node of that title
abbrev pub Naming : Type 1
Naming = List ℕ → List Entry → Type 0

-- each line that is said, and each option, has its id
abbrev pub HasIds : Naming
HasIds title body = (before behind : List Entry) (entry : Entry) (text : LineText) → body ≡ before ++ entry ∷ behind → said_by entry.what ≡ Some text →
    text.id ≡ id_among text.tags (line_id title (said_in before))

-- no line has an id, as in a file that is read alone
abbrev pub HasNoIds : Naming
HasNoIds title body = (before behind : List Entry) (entry : Entry) (text : LineText) → body ≡ before ++ entry ∷ behind → said_by entry.what ≡ Some text →
    text.id ≡ []
