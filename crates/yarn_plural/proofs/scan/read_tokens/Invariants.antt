use Rattle.std.proofs.Common.{length}
use Rattle.yarn_plural.proofs.TokenLemmas.{IsScanning}
use Rattle.yarn_plural.proofs.scan.read_tokens.Given as goal

abbrev pub invariant-loop-rest : goal.invariant-loop-rest
invariant-loop-rest l = IsScanning l.text l.tokens l.rest

abbrev pub decreases-loop-rest : goal.decreases-loop-rest
decreases-loop-rest l = length l.rest
