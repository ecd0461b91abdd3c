use Rattle.std.proofs.Common.{◌≡◌, ◌++◌, drop, false}
use Rattle.yarn_markup.specs.Choice.{filled}
use Rattle.yarn_markup.proofs.filled.filled_characters.Given as goal

abbrev pub invariant-loop-c : goal.invariant-loop-c
invariant-loop-c l = filled l.value false l.characters ≡ l.own ++ filled l.value l.skips (drop l.c-index l.characters)
