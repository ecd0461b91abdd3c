use Rattle.std.proofs.Common.{◌≡◌, drop}
use Rattle.yarn_value.specs.Signatures.{signature_named}
use Rattle.yarn_host.proofs.names.named.Given as goal

abbrev pub invariant-loop-signature : goal.invariant-loop-signature
invariant-loop-signature l = signature_named l.signatures l.name ≡ signature_named (drop l.signature-index l.signatures) l.name
