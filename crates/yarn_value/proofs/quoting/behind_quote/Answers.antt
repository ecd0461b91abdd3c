use Rattle.std.proofs.Common.{subst}
use Rattle.yarn_value.specs.Quoting.{IsQuoted}
use Rattle.yarn_value.proofs.QuotingLemmas.{no_quoted-other}
use Rattle.yarn_value.proofs.quoting.behind_quote.Goals as goal

pub returns-else-first-eq34 : goal.returns-else-first-eq34
returns-else-first-eq34 c = record {
  cases = λ is_quoted. no_quoted-other c.in_ok-first.first c.in_ok-first.body.now c.if-first-eq34.false (subst IsQuoted c.in_ok-first.ensures.bytes is_quoted);
  utf8 = tt;
}
