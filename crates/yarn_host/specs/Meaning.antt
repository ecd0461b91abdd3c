-- What is told of a host function (docs/guide-hosts.md, What is told of a function).
use Rattle.std.specs.Prelude.{ℕ, List, Bool, Option, None}
use Rattle.yarn_value.specs.declared.value.Value.{Value}

pub record Meaning : Type 0 where
  -- the replies left, where they are told
  pub left : Option (List Value)
  -- the arguments of each call, where they are told
  pub came : Option (List (List Value))
  -- how often a call failed
  pub faults : ℕ
  -- how often it was asked
  pub asked : ℕ
  -- the arguments that it accepts, at which it never fails
  pub accepts : List Value → Bool

-- neither its replies nor its arguments are told
abbrev pub untold : (List Value → Bool) → ℕ → ℕ → Meaning
untold accepts faults asked = record { left = None; came = None; faults = faults; asked = asked; accepts = accepts }
