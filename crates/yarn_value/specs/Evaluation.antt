-- What an evaluation comes to: a value, or why there is none (docs/language.md, The meaning).
use Rattle.std.specs.Prelude.{ℕ, List}
use Rattle.yarn_value.specs.declared.value.Value.{Value}
use Rattle.yarn_value.specs.declared.fault.RunFault.{RunFault}
use Rattle.yarn_value.specs.declared.signature.Signature.{Signature}
use Rattle.yarn_value.specs.Tape.{Tape}

-- what an expression knows beside the store
pub record Scope : Type 0 where
  -- the host functions
  pub functions : List Signature

-- why an evaluation gives no value
pub data Halt : Type 0 where
  Faults : RunFault → Halt
  -- a host function is asked with these arguments, and no reply is there
  Asks : List ℕ → List Value → Halt
  -- the function's reply is of another kind than its own, or a text of more than 65,536 bytes
  BadReply : List ℕ → Value → Halt

-- a value, or why there is none, with the replies that are left
pub data Evaluated (A : Type 0) : Type 0 where
  Gives : A → Tape → Evaluated A
  Halts : Halt → Tape → Evaluated A

abbrev pub given : {A R : Type 0} → Evaluated A → (A → Tape → R) → (Halt → Tape → R) → R
given (Gives v t) f g = f v t
given (Halts h t) f g = g h t

abbrev pub and_then : {A B : Type 0} → Evaluated A → (A → Tape → Evaluated B) → Evaluated B
and_then (Gives v t) f = f v t
and_then (Halts h t) f = Halts h t
