-- Laws of the lines of statements (docs/language.md, Structure of a body and Canonical text).
use Rattle.std.specs.Prelude.{◌≡◌, ℕ, List, [], map}
use Rattle.yarn_blocks.specs.declared.entry.Entry.{Entry}
use Rattle.yarn_blocks.specs.declared.entry.What.{What}
use Rattle.yarn_blocks.specs.declared.tree.Stmt.{Stmt}
use Rattle.yarn_blocks.specs.Tree.{Stmts}
use Rattle.yarn_blocks.specs.Block.{Block}
use Rattle.yarn_blocks.specs.Layout.{laid, entry_without_line, stmts_without_lines}
use Rattle.yarn_blocks.specs.View.{stmts_of}

abbrev pub what_in : Entry → What
what_in x = x.what

-- the lines of the statements that entries stand for, laid out, are a block that stands for these statements
abbrev pub LaidStands : Type 0
LaidStands = (xs : List Entry) (b : Stmts) (depth : ℕ) → Block xs [] b → Block (laid depth b) [] b

-- they have the contents of the entries, in their order
abbrev pub LaidKeepsLines : Type 0
LaidKeepsLines = (xs : List Entry) (b : Stmts) (depth : ℕ) → Block xs [] b → map what_in (laid depth b) ≡ map what_in xs

-- entries that differ in numbers of lines alone stand for statements that differ in these alone
abbrev pub LinesTellNothing : Type 0
LinesTellNothing = (xs ys : List Entry) (b : Stmts) → map entry_without_line xs ≡ map entry_without_line ys → Block xs [] b →
    (c : Stmts) × (Block ys [] c × (stmts_without_lines b ≡ stmts_without_lines c))

-- two trees of the program that are the same plain data are the same
abbrev pub OneTree : Type 0
OneTree = (a b : List Stmt) → stmts_of a ≡ stmts_of b → a ≡ b
