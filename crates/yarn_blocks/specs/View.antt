-- A tree of the program as plain data.
use Rattle.std.specs.Prelude.{List, [], ◌∷◌, Option, Some, None}
use Rattle.yarn_blocks.specs.declared.tree.Stmt.{Stmt, Line, Options', If', Set, Declare, Jump, JumpTo, Stop, Call, Command, None', Some', Held-Stmt-If-1, Row_of-Stmt, end_of-Stmt, more_of-Stmt, Row_of-OptionItem, end_of-OptionItem, more_of-OptionItem, Row_of-Clause, end_of-Clause, more_of-Clause}
use Rattle.yarn_blocks.specs.declared.tree.OptionItem.{OptionItem}
use Rattle.yarn_blocks.specs.declared.tree.Clause.{Clause}
use Rattle.yarn_blocks.specs.declared.tree.ElseClause.{ElseClause}
use Rattle.yarn_blocks.specs.declared.entry.Simple.TheVariants as simple
use Rattle.yarn_blocks.specs.Tree as T

abbrev mutual
  pub stmt_of : Stmt → T.Stmt
  stmt_of (Line text) = T.Leaf (simple.Line text)
  stmt_of (Options' n os) = T.Group (options_in os)
  stmt_of (If' n cs last e) = T.Choice (clauses_in cs) (last_in last) e
  stmt_of (Set head name op e) = T.Leaf (simple.Set head name op e)
  stmt_of (Declare head name value kind) = T.Leaf (simple.Declare head name value kind)
  stmt_of (Jump head title) = T.Leaf (simple.Jump head title)
  stmt_of (JumpTo head e) = T.Leaf (simple.JumpTo head e)
  stmt_of (Stop head) = T.Leaf (simple.Stop head)
  stmt_of (Call head e) = T.Leaf (simple.Call head e)
  stmt_of (Command text) = T.Leaf (simple.Command text)

  pub stmts_in : {m : _} → Row_of-Stmt m → T.Stmts
  stmts_in end_of-Stmt = T.Nil
  stmts_in (more_of-Stmt s rest) = T.Cons (stmt_of s) (stmts_in rest)

  pub options_in : {m : _} → Row_of-OptionItem m → T.Options
  options_in end_of-OptionItem = T.NoOptions
  options_in (more_of-OptionItem text condition n body rest) = T.AndOption (record { text = text; condition = condition }) (stmts_in body) (options_in rest)

  pub clauses_in : {m : _} → Row_of-Clause m → T.Clauses
  clauses_in end_of-Clause = T.NoClauses
  clauses_in (more_of-Clause head condition n body rest) = T.AndClause (record { head = head; condition = condition }) (stmts_in body) (clauses_in rest)

  pub last_in : Held-Stmt-If-1 → T.Last
  last_in None' = T.NoElse
  last_in (Some' head n body) = T.ElseOf head (stmts_in body)

abbrev pub stmts_of : List Stmt → T.Stmts
stmts_of [] = T.Nil
stmts_of (s ∷ ss) = T.Cons (stmt_of s) (stmts_of ss)

abbrev pub options_of : List OptionItem → T.Options
options_of [] = T.NoOptions
options_of (o ∷ os) = T.AndOption (record { text = o.text; condition = o.condition }) (stmts_of o.body) (options_of os)

abbrev pub clauses_of : List Clause → T.Clauses
clauses_of [] = T.NoClauses
clauses_of (c ∷ cs) = T.AndClause (record { head = c.head; condition = c.condition }) (stmts_of c.body) (clauses_of cs)

abbrev pub last_of : Option ElseClause → T.Last
last_of None = T.NoElse
last_of (Some c) = T.ElseOf c.head (stmts_of c.body)
