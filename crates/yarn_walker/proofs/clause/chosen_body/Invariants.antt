use Rattle.std.proofs.Common.{◌≡◌, ℕ, List, [], drop}
use Rattle.yarn_blocks.specs.Tree.{Stmts}
use Rattle.yarn_blocks.specs.View.{clauses_of, last_of}
use Rattle.yarn_meaning.specs.Does.{does_clauses, does_last}
use Rattle.yarn_walker.specs.States.{at, no_hosts}
use Rattle.yarn_walker.specs.Clauses.{IsBodyOf}
use Rattle.yarn_walker.proofs.clause.chosen_body.Given as goal

-- all clauses do what those that are left do, and a body of those is one of all
abbrev pub invariant-loop-clause : goal.invariant-loop-clause
invariant-loop-clause l =
    record {
      meaning : (answers : List ℕ) → does_clauses no_hosts (clauses_of l.clauses) (at l.store answers) (λ st. does_last no_hosts (last_of l.last) st)
          ≡ does_clauses no_hosts (clauses_of (drop l.clause-index l.clauses)) (at l.store answers) (λ st. does_last no_hosts (last_of l.last) st);
      part : (body : Stmts) → IsBodyOf (clauses_of (drop l.clause-index l.clauses)) (last_of l.last) body →
          IsBodyOf (clauses_of l.clauses) (last_of l.last) body;
    }
