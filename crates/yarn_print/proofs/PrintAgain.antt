-- Plain data as a tree of the program.
use Rattle.std.proofs.Common.{◌≡◌, List, [], ◌∷◌, Option, Some, None, refl, ap, ◌∙◌}
use mathlib.Core.Path.{ap₂}
use Rattle.yarn_blocks.specs.declared.tree.OptionItem.{OptionItem}
use Rattle.yarn_blocks.specs.declared.tree.Clause.{Clause}
use Rattle.yarn_blocks.specs.declared.tree.ElseClause.{ElseClause}
use Rattle.yarn_blocks.specs.declared.tree.Stmt.{Stmt, Line, Options, If, Set, Declare, Jump, JumpTo, Stop, Call, Command}
use Rattle.yarn_blocks.specs.declared.entry.Simple.{Simple}
use Rattle.yarn_blocks.specs.declared.entry.Simple.TheVariants as simple
use Rattle.yarn_blocks.specs.Tree as T
use Rattle.yarn_blocks.specs.View.{stmt_of, stmts_of, options_of, clauses_of, last_of}
use Rattle.yarn_blocks.proofs.Views.{options_view, if_view}

abbrev simple_again : Simple → Stmt
simple_again (simple.Line text) = Line text
simple_again (simple.Set head name op e) = Set head name op e
simple_again (simple.Declare head name value kind) = Declare head name value kind
simple_again (simple.Jump head title) = Jump head title
simple_again (simple.JumpTo head e) = JumpTo head e
simple_again (simple.Stop head) = Stop head
simple_again (simple.Call head e) = Call head e
simple_again (simple.Command text) = Command text

abbrev mutual
  pub stmt_again : T.Stmt → Stmt
  stmt_again (T.Leaf s) = simple_again s
  stmt_again (T.Group os) = Options (options_again os)
  stmt_again (T.Choice cs last e) = If (clauses_again cs) (last_again last) e

  pub stmts_again : T.Stmts → List Stmt
  stmts_again T.Nil = []
  stmts_again (T.Cons s b) = stmt_again s ∷ stmts_again b

  pub options_again : T.Options → List OptionItem
  options_again T.NoOptions = []
  options_again (T.AndOption n body os) = record { text = n.text; condition = n.condition; body = stmts_again body } ∷ options_again os

  pub clauses_again : T.Clauses → List Clause
  clauses_again T.NoClauses = []
  clauses_again (T.AndClause n body cs) = record { head = n.head; condition = n.condition; body = stmts_again body } ∷ clauses_again cs

  pub last_again : T.Last → Option ElseClause
  last_again T.NoElse = None
  last_again (T.ElseOf head body) = Some (record { head = head; body = stmts_again body })

simple_view : (s : Simple) → stmt_of (simple_again s) ≡ T.Leaf s
simple_view (simple.Line text) = refl
simple_view (simple.Set head name op e) = refl
simple_view (simple.Declare head name value kind) = refl
simple_view (simple.Jump head title) = refl
simple_view (simple.JumpTo head e) = refl
simple_view (simple.Stop head) = refl
simple_view (simple.Call head e) = refl
simple_view (simple.Command text) = refl

mutual
  stmt_view : (s : T.Stmt) → stmt_of (stmt_again s) ≡ s
  stmt_view (T.Leaf s) = simple_view s
  stmt_view (T.Group os) = options_view (options_again os) ∙ ap T.Group (items_view os)
  stmt_view (T.Choice cs last e) = if_view (clauses_again cs) (last_again last) e ∙ ap₂ (λ c l. T.Choice c l e) (clauses_view cs) (last_view last)

  pub stmts_view : (b : T.Stmts) → stmts_of (stmts_again b) ≡ b
  stmts_view T.Nil = refl
  stmts_view (T.Cons s b) = ap₂ T.Cons (stmt_view s) (stmts_view b)

  items_view : (os : T.Options) → options_of (options_again os) ≡ os
  items_view T.NoOptions = refl
  items_view (T.AndOption n body os) = ap₂ (T.AndOption n) (stmts_view body) (items_view os)

  clauses_view : (cs : T.Clauses) → clauses_of (clauses_again cs) ≡ cs
  clauses_view T.NoClauses = refl
  clauses_view (T.AndClause n body cs) = ap₂ (T.AndClause n) (stmts_view body) (clauses_view cs)

  last_view : (last : T.Last) → last_of (last_again last) ≡ last
  last_view T.NoElse = refl
  last_view (T.ElseOf head body) = ap (T.ElseOf head) (stmts_view body)
