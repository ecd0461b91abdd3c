use Rattle.std.proofs.Common.{◌∷◌, subst, arith}
use Rattle.yarn_value.specs.Quoting.{IsBody}
use Rattle.yarn_value.proofs.QuotingLemmas.{no_body-letter}
use Rattle.yarn_value.proofs.quoting.escaped_part.Goals as goal

pub returns-in_default : goal.returns-in_default
returns-in_default c = λ body. no_body-letter c.in-Some.letter c.in-Some.rest.now (λ e. omega arith) (λ e. omega arith) (λ e. omega arith) (λ e. omega arith) (subst (λ l. IsBody (92 ∷ l)) c.in-Some.ensures.bytes body)
