-- A table of host functions, as contracts see it (docs/guide-hosts.md, The table).
use Rattle.std.specs.Prelude.{List}
use Rattle.yarn_value.specs.declared.signature.Signature.{Signature}
use Rattle.yarn_value.specs.Tape.{Tape}
use Rattle.yarn_host.specs.Meaning.{Meaning}

pub record Hosts : Type 0 where
  pub signatures : List Signature
  -- one for each signature
  pub meanings : List Meaning
  pub tape : Tape
