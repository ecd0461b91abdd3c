-- The ledger of a count of steps is that of its blank.
use Rattle.yarn_cli.proofs.typing.typing_of.Given as goal

abbrev pub ghosts-uncounted : goal.ghosts-uncounted
ghosts-uncounted a = record { name = a.blank.name; parts = a.blank.parts }
