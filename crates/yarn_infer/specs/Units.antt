-- The lines of a project that ask something of the kinds of its variables, in order of the text (docs/language.md, Typing).
use Rattle.std.specs.Prelude.{ℕ, suc, List, [], ◌∷◌, ◌++◌, Option, Some, None}
use Rattle.yarn_value.specs.Values.{kind_of}
use Rattle.yarn_expr.specs.declared.tree.Expr.{Expr}
use Rattle.yarn_blocks.specs.declared.entry.Simple.{Simple}
use Rattle.yarn_blocks.specs.declared.entry.Simple.TheVariants as simple
use Rattle.yarn_blocks.specs.Tree.{Stmt, Leaf, Group, Choice, Stmts, Nil, Cons, Options, NoOptions, AndOption, Clauses, NoClauses, AndClause, Last, NoElse, ElseOf}
use Rattle.yarn_tree.specs.Trees.{NodeTree, FileTree}
use Rattle.yarn_types.specs.Units.{Asked, Values, ValuesIf, Value, Condition, Title, Set, Declare, UnitAt}

abbrev pub unit_at : ℕ → ℕ → Asked → UnitAt
unit_at file line asked = record { place = record { file = file; line = line }; asked = asked }

-- a line whose substitutions are these; one without any asks nothing
abbrev pub values_unit : ℕ → ℕ → List Expr → List UnitAt
values_unit file line [] = []
values_unit file line (e ∷ es) = unit_at file line (Values (e ∷ es)) ∷ []

abbrev pub simple_units : ℕ → Simple → List UnitAt
simple_units file (simple.Line text) = values_unit file text.line text.holes
simple_units file (simple.Set head name op e) = unit_at file head.line (Set name op e) ∷ []
simple_units file (simple.Declare head name value kind) = unit_at file head.line (Declare name (kind_of value) kind) ∷ []
simple_units file (simple.Jump head title) = []
simple_units file (simple.JumpTo head e) = unit_at file head.line (Title e) ∷ []
simple_units file (simple.Stop head) = []
simple_units file (simple.Call head e) = unit_at file head.line (Value e) ∷ []
simple_units file (simple.Command text) = values_unit file text.line text.holes

-- an option line and a clause line count by themselves
abbrev pub offer_units : ℕ → ℕ → List Expr → Option Expr → List UnitAt
offer_units file line holes None = values_unit file line holes
offer_units file line holes (Some e) = unit_at file line (ValuesIf holes e) ∷ []

abbrev mutual
  pub stmts_units : ℕ → Stmts → List UnitAt
  stmts_units file Nil = []
  stmts_units file (Cons s b) = stmt_units file s ++ stmts_units file b

  pub stmt_units : ℕ → Stmt → List UnitAt
  stmt_units file (Leaf s) = simple_units file s
  stmt_units file (Group os) = options_units file os
  stmt_units file (Choice cs last e) = clauses_units file cs ++ last_units file last

  pub options_units : ℕ → Options → List UnitAt
  options_units file NoOptions = []
  options_units file (AndOption n body os) = offer_units file n.text.line n.text.holes n.condition ++ (stmts_units file body ++ options_units file os)

  pub clauses_units : ℕ → Clauses → List UnitAt
  clauses_units file NoClauses = []
  clauses_units file (AndClause n body cs) = unit_at file n.head.line (Condition n.condition) ∷ (stmts_units file body ++ clauses_units file cs)

  pub last_units : ℕ → Last → List UnitAt
  last_units file NoElse = []
  last_units file (ElseOf n body) = stmts_units file body

abbrev pub nodes_units : ℕ → List NodeTree → List UnitAt
nodes_units file [] = []
nodes_units file (node ∷ nodes) = stmts_units file node.body ++ nodes_units file nodes

-- the same of files, the first of which has that number
abbrev pub files_units : ℕ → List FileTree → List UnitAt
files_units file [] = []
files_units file (own ∷ files) = nodes_units file own.nodes ++ files_units (suc file) files

abbrev pub units_of : List FileTree → List UnitAt
units_of files = files_units 0 files
