-- Plain data as a tree of the program again, so two trees with the same plain data are the same.
use Rattle.std.proofs.Common.{◌≡◌, List, [], ◌∷◌, refl, sym, ap, ◌∙◌}
use mathlib.Core.Former.{Count, none_left, this, list_count}
use mathlib.Core.Path.{ap₂}
use Rattle.yarn_blocks.specs.declared.tree.Head.{Head}
use Rattle.yarn_blocks.specs.declared.tree.Stmt.{Stmt, Line, Options', If', Set, Declare, Jump, JumpTo, Stop, Call, Command, None', Some', Held-Stmt-If-1, Row_of-Stmt, end_of-Stmt, more_of-Stmt, Row_of-OptionItem, end_of-OptionItem, more_of-OptionItem, Row_of-Clause, end_of-Clause, more_of-Clause}
use Rattle.yarn_blocks.specs.declared.entry.Simple.{Simple}
use Rattle.yarn_blocks.specs.declared.entry.Simple.TheVariants as simple
use Rattle.yarn_blocks.specs.Tree as T
use Rattle.yarn_blocks.specs.View.{stmt_of, stmts_in, options_in, clauses_in, last_in, stmts_of}

-- rows of any length
abbrev StmtRow : Type 0
StmtRow = (n : Count) × Row_of-Stmt n

abbrev OptionRow : Type 0
OptionRow = (n : Count) × Row_of-OptionItem n

abbrev ClauseRow : Type 0
ClauseRow = (n : Count) × Row_of-Clause n

-- rows as a tree holds them
abbrev Length : Type 0
Length = List (Unit {0})

abbrev count : Length → Count
count a = list_count (this {0}) a none_left

abbrev HeldStmts : Type 0
HeldStmts = (a : Length) × Row_of-Stmt (count a)

abbrev HeldOptions : Type 0
HeldOptions = (a : Length) × Row_of-OptionItem (count a)

abbrev HeldClauses : Type 0
HeldClauses = (a : Length) × Row_of-Clause (count a)

abbrev one_stmt : Stmt → HeldStmts → HeldStmts
one_stmt s rest = (tt ∷ rest.0, more_of-Stmt s rest.1)

abbrev one_option : T.Offered → HeldStmts → HeldOptions → HeldOptions
one_option n body rest = (tt ∷ rest.0, more_of-OptionItem n.text n.condition body.0 body.1 rest.1)

abbrev one_clause : T.Asked → HeldStmts → HeldClauses → HeldClauses
one_clause n body rest = (tt ∷ rest.0, more_of-Clause n.head n.condition body.0 body.1 rest.1)

abbrev held_stmts : {n : Count} → Row_of-Stmt n → HeldStmts
held_stmts end_of-Stmt = ([], end_of-Stmt)
held_stmts (more_of-Stmt s rest) = one_stmt s (held_stmts rest)

abbrev held_options : {n : Count} → Row_of-OptionItem n → HeldOptions
held_options end_of-OptionItem = ([], end_of-OptionItem)
held_options (more_of-OptionItem text condition m body rest) = one_option (record { text = text; condition = condition }) (m, body) (held_options rest)

abbrev held_clauses : {n : Count} → Row_of-Clause n → HeldClauses
held_clauses end_of-Clause = ([], end_of-Clause)
held_clauses (more_of-Clause head condition m body rest) = one_clause (record { head = head; condition = condition }) (m, body) (held_clauses rest)

stmts_held : (a : Length) (row : Row_of-Stmt (count a)) → ◌≡◌ {A = HeldStmts} (held_stmts row) (a, row)
stmts_held [] end_of-Stmt = refl
stmts_held (u ∷ a) (more_of-Stmt s rest) = ap (one_stmt s) (stmts_held a rest)

options_held : (a : Length) (row : Row_of-OptionItem (count a)) → ◌≡◌ {A = HeldOptions} (held_options row) (a, row)
options_held [] end_of-OptionItem = refl
options_held (u ∷ a) (more_of-OptionItem text condition m body rest) = ap (one_option (record { text = text; condition = condition }) (m, body)) (options_held a rest)

clauses_held : (a : Length) (row : Row_of-Clause (count a)) → ◌≡◌ {A = HeldClauses} (held_clauses row) (a, row)
clauses_held [] end_of-Clause = refl
clauses_held (u ∷ a) (more_of-Clause head condition m body rest) = ap (one_clause (record { head = head; condition = condition }) (m, body)) (clauses_held a rest)

abbrev with_simple : Simple → Stmt
with_simple (simple.Line text) = Line text
with_simple (simple.Set head name op e) = Set head name op e
with_simple (simple.Declare head name value kind) = Declare head name value kind
with_simple (simple.Jump head title) = Jump head title
with_simple (simple.JumpTo head e) = JumpTo head e
with_simple (simple.Stop head) = Stop head
with_simple (simple.Call head e) = Call head e
with_simple (simple.Command text) = Command text

abbrev with_options : HeldOptions → Stmt
with_options os = Options' os.0 os.1

abbrev with_if : Head → HeldClauses → Held-Stmt-If-1 → Stmt
with_if e cs last = If' cs.0 cs.1 last e

abbrev with_else : Head → HeldStmts → Held-Stmt-If-1
with_else head body = Some' head body.0 body.1

abbrev and_stmt : Stmt → StmtRow → StmtRow
and_stmt s rest = (_, more_of-Stmt s rest.1)

abbrev and_option : T.Offered → HeldStmts → OptionRow → OptionRow
and_option n body rest = (_, more_of-OptionItem n.text n.condition body.0 body.1 rest.1)

abbrev and_clause : T.Asked → HeldStmts → ClauseRow → ClauseRow
and_clause n body rest = (_, more_of-Clause n.head n.condition body.0 body.1 rest.1)

abbrev mutual
  stmt_again : T.Stmt → Stmt
  stmt_again (T.Leaf s) = with_simple s
  stmt_again (T.Group os) = with_options (held_options (options_again os).1)
  stmt_again (T.Choice cs last e) = with_if e (held_clauses (clauses_again cs).1) (last_again last)

  stmts_again : T.Stmts → StmtRow
  stmts_again T.Nil = (_, end_of-Stmt)
  stmts_again (T.Cons s b) = and_stmt (stmt_again s) (stmts_again b)

  options_again : T.Options → OptionRow
  options_again T.NoOptions = (_, end_of-OptionItem)
  options_again (T.AndOption n body os) = and_option n (held_stmts (stmts_again body).1) (options_again os)

  clauses_again : T.Clauses → ClauseRow
  clauses_again T.NoClauses = (_, end_of-Clause)
  clauses_again (T.AndClause n body cs) = and_clause n (held_stmts (stmts_again body).1) (clauses_again cs)

  last_again : T.Last → Held-Stmt-If-1
  last_again T.NoElse = None'
  last_again (T.ElseOf head body) = with_else head (held_stmts (stmts_again body).1)

mutual
  stmt_same : (s : Stmt) → stmt_again (stmt_of s) ≡ s
  stmt_same (Line text) = refl
  stmt_same (Options' n os) = ap (λ (r : OptionRow). with_options (held_options r.1)) (options_same _ os) ∙ ap with_options (options_held n os)
  stmt_same (If' n cs last e) = ap₂ (with_if e) (ap (λ (r : ClauseRow). held_clauses r.1) (clauses_same _ cs) ∙ clauses_held n cs) (last_same last)
  stmt_same (Set head name op e) = refl
  stmt_same (Declare head name value kind) = refl
  stmt_same (Jump head title) = refl
  stmt_same (JumpTo head e) = refl
  stmt_same (Stop head) = refl
  stmt_same (Call head e) = refl
  stmt_same (Command text) = refl

  stmts_same : (n : Count) (row : Row_of-Stmt n) → ◌≡◌ {A = StmtRow} (stmts_again (stmts_in row)) (n, row)
  stmts_same n end_of-Stmt = refl
  stmts_same n (more_of-Stmt s rest) = ap₂ and_stmt (stmt_same s) (stmts_same _ rest)

  options_same : (n : Count) (row : Row_of-OptionItem n) → ◌≡◌ {A = OptionRow} (options_again (options_in row)) (n, row)
  options_same n end_of-OptionItem = refl
  options_same n (more_of-OptionItem text condition m body rest) =
      ap₂ (and_option (record { text = text; condition = condition })) (ap (λ (r : StmtRow). held_stmts r.1) (stmts_same _ body) ∙ stmts_held m body) (options_same _ rest)

  clauses_same : (n : Count) (row : Row_of-Clause n) → ◌≡◌ {A = ClauseRow} (clauses_again (clauses_in row)) (n, row)
  clauses_same n end_of-Clause = refl
  clauses_same n (more_of-Clause head condition m body rest) =
      ap₂ (and_clause (record { head = head; condition = condition })) (ap (λ (r : StmtRow). held_stmts r.1) (stmts_same _ body) ∙ stmts_held m body) (clauses_same _ rest)

  last_same : (last : Held-Stmt-If-1) → last_again (last_in last) ≡ last
  last_same None' = refl
  last_same (Some' head n body) = ap (with_else head) (ap (λ (r : StmtRow). held_stmts r.1) (stmts_same _ body) ∙ stmts_held n body)

abbrev list_again : T.Stmts → List Stmt
list_again T.Nil = []
list_again (T.Cons s b) = stmt_again s ∷ list_again b

list_same : (a : List Stmt) → list_again (stmts_of a) ≡ a
list_same [] = refl
list_same (s ∷ ss) = ap₂ (λ t l. t ∷ l) (stmt_same s) (list_same ss)

pub one_tree : (a b : List Stmt) → stmts_of a ≡ stmts_of b → a ≡ b
one_tree a b e = sym (list_same a) ∙ ap list_again e ∙ list_same b
