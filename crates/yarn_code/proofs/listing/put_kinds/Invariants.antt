use Rattle.std.proofs.Common.{◌≡◌, ◌++◌, drop}
use Rattle.yarn_code.specs.Listing.{more_kinds}
use Rattle.yarn_code.proofs.listing.put_kinds.Given as goal

abbrev pub invariant-loop-kind : goal.invariant-loop-kind
invariant-loop-kind l = l.out ++ more_kinds (drop l.kind-index l.kinds) ≡ l.initial.out ++ more_kinds l.kinds
