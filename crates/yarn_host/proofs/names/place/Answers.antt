use Rattle.std.proofs.Common.{sym}
use Rattle.yarn_host.proofs.NameLemmas.{place_of-bound}
use Rattle.yarn_host.proofs.names.place.Goals as goal

pub returns-clause-within : goal.returns-clause-within
returns-clause-within c = place_of-bound c.args.signatures.now c.args.name.now c.in-Some.at (rw c.as_slice.ensures at (sym c.in-Some.ensures))
