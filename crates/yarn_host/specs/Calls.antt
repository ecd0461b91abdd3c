-- What one call does to what is told of a host function (docs/guide-hosts.md, What a call does).
use Rattle.std.specs.Prelude.{◌≡◌, ◌≤◌, ◌⊎◌, ℕ, Some, slice_get, slice_set, List, [], ◌∷◌, false, Result, Ok, Err}
use Rattle.yarn_base.specs.Calls.{one_more}
use Rattle.yarn_base.specs.Causes.{Rose}
use Rattle.yarn_value.specs.declared.value.Value.{Value}
use Rattle.yarn_host.specs.declared.function.HostFault.{HostFault}
use Rattle.yarn_host.specs.declared.function.HostFault.TheVariants.{Failed, Memory}
use Rattle.yarn_host.specs.Known.{append_known, prepend_known}
use Rattle.yarn_host.specs.Meaning.{Meaning}

-- it was asked once, and gave the first reply left
pub record Gives (old new : Meaning) (args : List Value) (value : Value) : Type 0 where
  pub left : old.left ≡ prepend_known (value ∷ []) new.left
  pub came : new.came ≡ append_known old.came (args ∷ [])
  pub asked : new.asked ≡ one_more old.asked
  pub later : old.faults ≤ new.faults
  pub test : new.accepts ≡ old.accepts

-- it was asked once, and failed at arguments that it doesn't accept
pub record Fails (old new : Meaning) (args : List Value) : Type 0 where
  pub left : new.left ≡ old.left
  pub came : new.came ≡ append_known old.came (args ∷ [])
  pub asked : new.asked ≡ one_more old.asked
  pub rose : Rose old.faults new.faults
  pub later : old.faults ≤ new.faults
  pub refused : old.accepts args ≡ false
  pub test : new.accepts ≡ old.accepts

-- it was asked once, and for want of memory its reply was lost or it gave none
pub record Loses (old new : Meaning) (args : List Value) : Type 0 where
  pub left : (new.left ≡ old.left) ⊎ ((value : Value) × (old.left ≡ prepend_known (value ∷ []) new.left))
  pub came : (new.came ≡ old.came) ⊎ (new.came ≡ append_known old.came (args ∷ []))
  pub asked : new.asked ≡ one_more old.asked
  pub later : old.faults ≤ new.faults
  pub test : new.accepts ≡ old.accepts

-- what a call did, by its answer
abbrev pub Called : Meaning → Meaning → List Value → Result Value HostFault → Type 0
Called old new args (Ok value) = Gives old new args value
Called old new args (Err Failed) = Fails old new args
Called old new args (Err Memory) = Loses old new args

-- the function at one place was called, and no other
pub record CalledAt (old new : List Meaning) (at : ℕ) (args : List Value) (result : Result Value HostFault) : Type 0 where
  pub before : Meaning
  pub after : Meaning
  pub was : slice_get old at ≡ Some before
  pub now : new ≡ slice_set old at after
  pub called : Called before after args result
