use Rattle.std.proofs.Common.{◌≡◌, ◌+◌, drop}
use Rattle.yarn_markup.specs.Characters.{run_length}
use Rattle.yarn_markup.specs.Characters.{is_blank}
use Rattle.yarn_markup.proofs.character.blanks_length.Given as goal

abbrev pub invariant-loop-at : goal.invariant-loop-at
invariant-loop-at l = run_length is_blank l.text ≡ l.at + run_length is_blank (drop l.at l.text)
