use Rattle.std.proofs.Common.{◌≡◌, ◌+◌, drop}
use Rattle.yarn_markup.specs.Characters.{run_length}
use Rattle.yarn_markup.specs.Attributes.{is_speaker}
use Rattle.yarn_markup.proofs.character.name_length.Given as goal

abbrev pub invariant-loop-at : goal.invariant-loop-at
invariant-loop-at l = run_length is_speaker l.text ≡ l.at + run_length is_speaker (drop l.at l.text)
