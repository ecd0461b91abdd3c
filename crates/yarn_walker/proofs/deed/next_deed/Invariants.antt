use Rattle.std.proofs.Common.{◌≡◌, ℕ, List, []}
use Rattle.yarn_meaning.specs.Does.{does_all}
use Rattle.yarn_meaning.specs.Texts.{Table, TellsAll, said_in}
use Rattle.yarn_walker.specs.States.{at, no_hosts}
use Rattle.yarn_walker.specs.Frames.{rest_of}
use Rattle.yarn_walker.specs.Weight.{weight}
use Rattle.yarn_walker.proofs.deed.next_deed.Given as goal

-- all statements do what those that are left do, whose texts are among theirs
abbrev pub invariant-loop-statement : goal.invariant-loop-statement
invariant-loop-statement l =
    record {
      meaning : (answers : List ℕ) → does_all no_hosts (rest_of l.fn.rest) (at l.fn.store answers) ≡ does_all no_hosts (rest_of l.rest) (at l.store answers);
      texts : (table : Table) → TellsAll table (said_in (rest_of l.fn.rest)) → TellsAll table (said_in (rest_of l.rest));
    }

abbrev pub decreases-loop-statement : goal.decreases-loop-statement
decreases-loop-statement l = weight (rest_of l.rest)
