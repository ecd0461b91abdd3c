use Rattle.std.proofs.Common.{◌≡◌, length}
use Rattle.yarn_markup.specs.Characters.{past_blanks}
use Rattle.yarn_markup.proofs.characters.past_blanks.Given as goal

abbrev pub invariant-loop-rest : goal.invariant-loop-rest
invariant-loop-rest l = past_blanks l.rest ≡ past_blanks l.text

abbrev pub decreases-loop-rest : goal.decreases-loop-rest
decreases-loop-rest l = length l.rest
