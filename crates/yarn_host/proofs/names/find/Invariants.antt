use Rattle.std.proofs.Common.{◌≡◌, ◌+◌, drop, option_map}
use Rattle.yarn_host.specs.Names.{place_of}
use Rattle.yarn_host.proofs.names.find.Given as goal

abbrev pub invariant-loop-at : goal.invariant-loop-at
invariant-loop-at l = place_of l.signatures l.name ≡ option_map (λ k. l.at + k) (place_of (drop l.at l.signatures) l.name)
