-- The body of an `if` that is done.
use Rattle.std.specs.Prelude.{◌≡◌, ◌⊎◌, ℕ, List, [], Result, Ok, Err, ⊤}
use Rattle.std.specs.Borrow.{Bor}
use Rattle.yarn_blocks.specs.declared.tree.Stmt.{Stmt}
use Rattle.yarn_blocks.specs.Tree.{Stmts, Nil, Clauses, NoClauses, AndClause, Last, NoElse, ElseOf}
use Rattle.yarn_blocks.specs.View.{stmts_of}
use Rattle.yarn_value.specs.Pairs.{Pairs}
use Rattle.yarn_value.specs.Evaluation.{Faults}
use Rattle.yarn_meaning.specs.Does.{Halted, done, does_all, does_clauses, does_last}
use Rattle.yarn_walker.specs.States.{at, no_hosts}
use Rattle.yarn_walker.specs.declared.halt.Halt.{Halt}
use Rattle.yarn_walker.specs.declared.halt.Halt.TheVariants as halt

-- the clauses do what that body does, or an evaluation gives no value
abbrev pub Chooses : Clauses → Last → Pairs → Result (Bor (List Stmt)) Halt → Type 0
Chooses cs last store (Ok body) = (answers : List ℕ) → does_clauses no_hosts cs (at store answers) (λ st. does_last no_hosts last st) ≡ does_all no_hosts (stmts_of body.now) (at store answers)
Chooses cs last store (Err (halt.Fault line fault)) = (answers : List ℕ) → does_clauses no_hosts cs (at store answers) (λ st. does_last no_hosts last st) ≡ done (Halted line (Faults fault)) (at store answers)
Chooses cs last store (Err halt.Memory) = ⊤

-- the body of the `else`; nothing where there is none
abbrev pub else_body : Last → Stmts
else_body NoElse = Nil
else_body (ElseOf head body) = body

-- the body of a clause, or that of the `else`
abbrev pub IsBodyOf : Clauses → Last → Stmts → Type 0
IsBodyOf NoClauses last body = body ≡ else_body last
IsBodyOf (AndClause n own cs) last body = (body ≡ own) ⊎ IsBodyOf cs last body

abbrev pub IsPartOf : Clauses → Last → Result (Bor (List Stmt)) Halt → Type 0
IsPartOf cs last (Ok body) = IsBodyOf cs last (stmts_of body.now)
IsPartOf cs last (Err halt) = ⊤
