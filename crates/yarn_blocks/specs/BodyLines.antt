-- The lines of a body as they are kept while no tree is made of them: statements as they stand in trees, each with its
-- line and its indent, and entries behind them.
use Rattle.std.specs.Prelude.{◌≡◌, List, [], ◌∷◌, length, Bool, true, false, ⊤}
use Rattle.std.specs.List.{list_all}
use Rattle.yarn_blocks.specs.declared.entry.Entry.{Entry}
use Rattle.yarn_blocks.specs.declared.entry.What.TheVariants as what
use Rattle.yarn_blocks.specs.declared.entry.Simple.{Simple}
use Rattle.yarn_blocks.specs.declared.entry.Simple.TheVariants as simple
use Rattle.yarn_blocks.specs.declared.body_line.Spot.{Spot}
use Rattle.yarn_blocks.specs.declared.tree.LineText.{LineText}
use Rattle.yarn_blocks.specs.declared.tree.Stmt.{Stmt, Line, Options', If', Set, Declare, Jump, JumpTo, Stop, Call, Command}

-- the statement is one line
abbrev pub is_leaf : Stmt → Bool
is_leaf (Options' n os) = false
is_leaf (If' n cs last e) = false
is_leaf _ = true

-- what the line of a statement is; what stands for one of several lines tells nothing
abbrev pub leaf_of : Stmt → Simple
leaf_of (Line text) = simple.Line text
leaf_of (Options' n os) = simple.Stop (record { line = 0; tags = [] })
leaf_of (If' n cs last e) = simple.Stop (record { line = 0; tags = [] })
leaf_of (Set head name op e) = simple.Set head name op e
leaf_of (Declare head name value kind) = simple.Declare head name value kind
leaf_of (Jump head title) = simple.Jump head title
leaf_of (JumpTo head e) = simple.JumpTo head e
leaf_of (Stop head) = simple.Stop head
leaf_of (Call head e) = simple.Call head e
leaf_of (Command text) = simple.Command text

abbrev pub entry_at : Stmt → Spot → Entry
entry_at s p = record { line = p.line; indent = p.indent; what = what.Statement (leaf_of s) }

abbrev pub entries_at : List Stmt → List Spot → List Entry
entries_at [] ps = []
entries_at (s ∷ ss) [] = []
entries_at (s ∷ ss) (p ∷ ps) = entry_at s p ∷ entries_at ss ps

-- a line has neither substitutions nor hashtags
abbrev pub IsBareText : LineText → Type 0
IsBareText text = (text.holes ≡ []) × (text.tags ≡ [])

-- the statement is such a line that is said
abbrev pub IsBare : Stmt → Type 0
IsBare (Line text) = IsBareText text
IsBare _ = ⊥

-- no place says so of another statement
abbrev pub AreMarked : List Stmt → List Spot → Type 0
AreMarked [] ps = ⊤
AreMarked (s ∷ ss) [] = ⊤
AreMarked (s ∷ ss) (p ∷ ps) = (p.is_bare ≡ true → IsBare s) × AreMarked ss ps

-- the statements are one line each, and have a place each
pub record AreLines (ss : List Stmt) (ps : List Spot) : Type 0 where
  pub as_many : length ss ≡ length ps
  pub leaves : list_all is_leaf ss ≡ true
  pub marked : AreMarked ss ps
