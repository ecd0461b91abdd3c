-- The view of each variant that holds a list, and of a list with one more at its end.
use Rattle.std.proofs.Common.{◌≡◌, List, [], ◌∷◌, ◌++◌, Option, Some, None, refl, ap, ◌∙◌, sym}
use mathlib.Core.Former.{Count}
use mathlib.Core.Path.{ap₂}
use Rattle.yarn_blocks.specs.declared.tree.OptionItem.{OptionItem}
use Rattle.yarn_blocks.specs.declared.tree.Clause.{Clause}
use Rattle.yarn_blocks.specs.declared.tree.ElseClause.{ElseClause}
use Rattle.yarn_blocks.specs.declared.tree.Stmt.{Stmt, Options, Options', If, If', Some', Row_of-Stmt, end_of-Stmt, more_of-Stmt, Row_of-OptionItem, end_of-OptionItem, more_of-OptionItem, Row_of-Clause, end_of-Clause, more_of-Clause, items-the_row-Stmt, items_shown-the_row-Stmt-0, items_hidden-the_row-Stmt-0, items-the_row-OptionItem, items_hidden-the_row-OptionItem-1, items-the_row-Clause, items_hidden-the_row-Clause-2}
use Rattle.yarn_blocks.specs.Tree as T
use Rattle.yarn_blocks.specs.Reading.{with_group}
use Rattle.yarn_blocks.specs.Tree.{stmts_then, options_then, clauses_then}
use Rattle.yarn_blocks.specs.View.{stmt_of, stmts_in, stmts_of, options_in, options_of, clauses_in, clauses_of, last_of}

abbrev option_row : Stmt → (n : Count) × Row_of-OptionItem n
option_row (Options' n os) = (_, os)
option_row _ = (_, end_of-OptionItem)

abbrev clause_row : Stmt → (n : Count) × Row_of-Clause n
clause_row (If' n cs last e) = (_, cs)
clause_row _ = (_, end_of-Clause)

abbrev else_row : Stmt → (n : Count) × Row_of-Stmt n
else_row (If' n cs (Some' head m body) e) = (_, body)
else_row _ = (_, end_of-Stmt)

stmts_row : (n : _) (row : Row_of-Stmt n) → stmts_in row ≡ stmts_of (items-the_row-Stmt n row)
stmts_row n end_of-Stmt = refl
stmts_row n (more_of-Stmt s rest) = ap (T.Cons (stmt_of s)) (stmts_row _ rest)

options_row : (n : _) (row : Row_of-OptionItem n) → options_in row ≡ options_of (items-the_row-OptionItem n row)
options_row n end_of-OptionItem = refl
options_row n (more_of-OptionItem text condition m body rest) =
    ap₂ (T.AndOption (record { text = text; condition = condition })) (stmts_row _ body ∙ ap stmts_of (sym (items_shown-the_row-Stmt-0 m body))) (options_row _ rest)

clauses_row : (n : _) (row : Row_of-Clause n) → clauses_in row ≡ clauses_of (items-the_row-Clause n row)
clauses_row n end_of-Clause = refl
clauses_row n (more_of-Clause head condition m body rest) =
    ap₂ (T.AndClause (record { head = head; condition = condition })) (stmts_row _ body ∙ ap stmts_of (sym (items_shown-the_row-Stmt-0 m body))) (clauses_row _ rest)

pub options_view : (os : List OptionItem) → stmt_of (Options os) ≡ T.Group (options_of os)
options_view os =
    let r = option_row (Options os) in
    ap T.Group (options_row r.0 r.1 ∙ ap options_of (items_hidden-the_row-OptionItem-1 os))

pub if_view : (cs : List Clause) (last : Option ElseClause) (e : _) → stmt_of (If cs last e) ≡ T.Choice (clauses_of cs) (last_of last) e
if_view cs None e =
    let r = clause_row (If cs None e) in
    ap (λ k. T.Choice k T.NoElse e) (clauses_row r.0 r.1 ∙ ap clauses_of (items_hidden-the_row-Clause-2 cs))
if_view cs (Some c) e =
    let r = clause_row (If cs (Some c) e) in
    let b = else_row (If cs (Some c) e) in
    ap₂ (λ k l. T.Choice k l e) (clauses_row r.0 r.1 ∙ ap clauses_of (items_hidden-the_row-Clause-2 cs))
    (ap (T.ElseOf c.head) (stmts_row b.0 b.1 ∙ ap stmts_of (items_hidden-the_row-Stmt-0 c.body)))

pub stmts_end : (ss : List Stmt) (s : Stmt) → stmts_of (ss ++ s ∷ []) ≡ stmts_then (stmts_of ss) (T.Cons (stmt_of s) T.Nil)
stmts_end [] s = refl
stmts_end (t ∷ ss) s = ap (T.Cons (stmt_of t)) (stmts_end ss s)

pub options_end : (os : List OptionItem) (o : OptionItem) → options_of (os ++ o ∷ []) ≡ options_then (options_of os) (T.AndOption (record { text = o.text; condition = o.condition }) (stmts_of o.body) T.NoOptions)
options_end [] o = refl
options_end (p ∷ os) o = ap (T.AndOption (record { text = p.text; condition = p.condition }) (stmts_of p.body)) (options_end os o)

pub clauses_end : (cs : List Clause) (c : Clause) → clauses_of (cs ++ c ∷ []) ≡ clauses_then (clauses_of cs) (T.AndClause (record { head = c.head; condition = c.condition }) (stmts_of c.body) T.NoClauses)
clauses_end [] c = refl
clauses_end (d ∷ cs) c = ap (T.AndClause (record { head = d.head; condition = d.condition }) (stmts_of d.body)) (clauses_end cs c)

pub group_end : (ss : List Stmt) (os : List OptionItem) → (os ≡ [] → ⊥) → stmts_of (ss ++ Options os ∷ []) ≡ with_group (stmts_of ss) (options_of os)
group_end ss [] h = absurd (h refl)
group_end ss (o ∷ os) h = stmts_end ss (Options (o ∷ os)) ∙ ap (λ s. stmts_then (stmts_of ss) (T.Cons s T.Nil)) (options_view (o ∷ os))

pub ruleset views = (stmts_end, options_end, clauses_end, group_end)
