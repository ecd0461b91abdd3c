use Rattle.std.proofs.Common.{◌≡◌, drop}
use Rattle.yarn_plural.specs.Steps.{find_word}
use Rattle.yarn_plural.specs.declared.token.TheConstants.{WORDS}
use Rattle.yarn_plural.proofs.token.Word.find.Given as goal

abbrev pub invariant-loop-word : goal.invariant-loop-word
invariant-loop-word l = find_word l.text (drop l.word-index WORDS) ≡ find_word l.text WORDS
