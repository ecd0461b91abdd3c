use Rattle.std.proofs.Common.{◌≡◌, ◌+◌, drop}
use Rattle.yarn_markup.specs.Characters.{is_word, run_length}
use Rattle.yarn_markup.proofs.characters.word_length.Given as goal

abbrev pub invariant-loop-at : goal.invariant-loop-at
invariant-loop-at l = run_length is_word l.text ≡ l.at + run_length is_word (drop l.at l.text)
