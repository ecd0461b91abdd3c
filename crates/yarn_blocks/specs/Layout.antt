-- The lines of statements in their order, laid out as they are printed (docs/language.md, Canonical text).
use Rattle.std.specs.Prelude.{ℕ, ◌+◌, ◌*◌, List, [], ◌∷◌, ◌++◌}
use Rattle.yarn_blocks.specs.declared.entry.Entry.{Entry}
use Rattle.yarn_blocks.specs.declared.entry.What.{What}
use Rattle.yarn_blocks.specs.declared.entry.What.TheVariants as what
use Rattle.yarn_blocks.specs.declared.entry.Simple.{Simple}
use Rattle.yarn_blocks.specs.declared.entry.Simple.TheVariants as simple
use Rattle.yarn_blocks.specs.Entries.{line_in}
use Rattle.yarn_blocks.specs.Tree.{Stmt, Leaf, Group, Choice, Stmts, Nil, Cons, Options, NoOptions, AndOption, Clauses, NoClauses, AndClause, Last, NoElse, ElseOf}

-- a line of this depth has four blanks before it for each level
abbrev pub at_depth : ℕ → What → Entry
at_depth depth w = record { line = line_in w; indent = 4 * depth; what = w }

-- the lines of statements of this depth; a clause line has the depth of its `if`, and the first clause is the `if` itself
abbrev mutual
  pub laid : ℕ → Stmts → List Entry
  laid depth Nil = []
  laid depth (Cons s b) = laid_one depth s ++ laid depth b

  pub laid_one : ℕ → Stmt → List Entry
  laid_one depth (Leaf s) = at_depth depth (what.Statement s) ∷ []
  laid_one depth (Group os) = laid_options depth os
  laid_one depth (Choice cs last e) = laid_clauses depth cs ++ (laid_last depth last ++ at_depth depth (what.EndIf e) ∷ [])

  pub laid_options : ℕ → Options → List Entry
  laid_options depth NoOptions = []
  laid_options depth (AndOption n body os) = at_depth depth (what.Offer n.text n.condition) ∷ (laid (depth + 1) body ++ laid_options depth os)

  pub laid_clauses : ℕ → Clauses → List Entry
  laid_clauses depth NoClauses = []
  laid_clauses depth (AndClause n body cs) = at_depth depth (what.If n.head n.condition) ∷ (laid (depth + 1) body ++ laid_others depth cs)

  pub laid_others : ℕ → Clauses → List Entry
  laid_others depth NoClauses = []
  laid_others depth (AndClause n body cs) = at_depth depth (what.ElseIf n.head n.condition) ∷ (laid (depth + 1) body ++ laid_others depth cs)

  pub laid_last : ℕ → Last → List Entry
  laid_last depth NoElse = []
  laid_last depth (ElseOf n body) = at_depth depth (what.Else n) ∷ laid (depth + 1) body

-- trees and lines with 0 for each number of a line
abbrev pub simple_without_line : Simple → Simple
simple_without_line (simple.Line text) = simple.Line (record text { line = 0 })
simple_without_line (simple.Set head name op e) = simple.Set (record head { line = 0 }) name op e
simple_without_line (simple.Declare head name value kind) = simple.Declare (record head { line = 0 }) name value kind
simple_without_line (simple.Jump head title) = simple.Jump (record head { line = 0 }) title
simple_without_line (simple.JumpTo head e) = simple.JumpTo (record head { line = 0 }) e
simple_without_line (simple.Stop head) = simple.Stop (record head { line = 0 })
simple_without_line (simple.Call head e) = simple.Call (record head { line = 0 }) e
simple_without_line (simple.Command text) = simple.Command (record text { line = 0 })

abbrev pub what_without_line : What → What
what_without_line (what.Statement s) = what.Statement (simple_without_line s)
what_without_line (what.Offer text condition) = what.Offer (record text { line = 0 }) condition
what_without_line (what.If head condition) = what.If (record head { line = 0 }) condition
what_without_line (what.ElseIf head condition) = what.ElseIf (record head { line = 0 }) condition
what_without_line (what.Else head) = what.Else (record head { line = 0 })
what_without_line (what.EndIf head) = what.EndIf (record head { line = 0 })

abbrev pub entry_without_line : Entry → Entry
entry_without_line x = record { line = 0; indent = x.indent; what = what_without_line x.what }

abbrev mutual
  pub stmts_without_lines : Stmts → Stmts
  stmts_without_lines Nil = Nil
  stmts_without_lines (Cons s b) = Cons (stmt_without_lines s) (stmts_without_lines b)

  pub stmt_without_lines : Stmt → Stmt
  stmt_without_lines (Leaf s) = Leaf (simple_without_line s)
  stmt_without_lines (Group os) = Group (options_without_lines os)
  stmt_without_lines (Choice cs last e) = Choice (clauses_without_lines cs) (last_without_lines last) (record e { line = 0 })

  pub options_without_lines : Options → Options
  options_without_lines NoOptions = NoOptions
  options_without_lines (AndOption n body os) =
      AndOption (record n { text = record n.text { line = 0 } }) (stmts_without_lines body) (options_without_lines os)

  pub clauses_without_lines : Clauses → Clauses
  clauses_without_lines NoClauses = NoClauses
  clauses_without_lines (AndClause n body cs) =
      AndClause (record n { head = record n.head { line = 0 } }) (stmts_without_lines body) (clauses_without_lines cs)

  pub last_without_lines : Last → Last
  last_without_lines NoElse = NoElse
  last_without_lines (ElseOf n body) = ElseOf (record n { line = 0 }) (stmts_without_lines body)
