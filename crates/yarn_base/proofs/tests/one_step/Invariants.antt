-- The ledger of a count of steps is that of its blank.
use Rattle.yarn_base.proofs.tests.one_step.Given as goal

abbrev pub ghosts-counted : goal.ghosts-counted
ghosts-counted a = record { name = a.blank.name; parts = a.blank.parts }
