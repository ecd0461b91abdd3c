-- The ledger of a count of steps is that of its blank.
use Rattle.yarn_infer.proofs.tests.answer_of.Given as goal

abbrev pub ghosts-counted : goal.ghosts-counted
ghosts-counted a = record { name = a.blank.name; parts = a.blank.parts }
