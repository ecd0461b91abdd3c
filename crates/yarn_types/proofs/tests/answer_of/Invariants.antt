-- The ledger of a count of steps is that of its blank.
use Rattle.yarn_types.proofs.tests.answer_of.Given as goal

abbrev pub ghosts-counted : goal.ghosts-counted
ghosts-counted a = record { name = a.blank.name; parts = a.blank.parts }
