-- What one `ask` does to a table (docs/guide-hosts.md, Asking).
use Rattle.std.specs.Prelude.{◌≡◌, ◌≢◌, ◌⊎◌, ℕ, List, [], ◌∷◌, ◌++◌, Option, Some, None, Result, Ok, Err}
use Rattle.yarn_value.specs.declared.value.Value.{Value}
use Rattle.yarn_value.specs.declared.reply.Reply.{Reply}
use Rattle.yarn_host.specs.declared.table.AskFault.{AskFault}
use Rattle.yarn_host.specs.declared.table.AskFault.TheVariants.{Failed, WrongType, Memory}
use Rattle.yarn_host.specs.Meaning.{Meaning}
use Rattle.yarn_host.specs.Names.{meaning_of, Suits, Misfits}
use Rattle.yarn_host.specs.Hosts.{Hosts}
use Rattle.yarn_host.specs.Calls.{Gives, Fails, Loses}

-- a function was there and is there, and this happened to it
abbrev pub Between : (Meaning → Meaning → Type 0) → Option Meaning → Option Meaning → Type 0
Between Goes None new = ⊥
Between Goes (Some old) None = ⊥
Between Goes (Some old) (Some new) = Goes old new

-- one entry of a tape
abbrev pub entry : List ℕ → List Value → Value → Reply
entry name args value = record { name = name; args = args; value = value }

-- what is told of the functions with other names is as before
abbrev pub OthersStay : Hosts → Hosts → List ℕ → Type 0
OthersStay old new name =
    (other : List ℕ) → other ≢ name →
    meaning_of new.signatures new.meanings other ≡ meaning_of old.signatures old.meanings other

-- this happened to the function with a name, and nothing to any other
pub record Asks (old new : Hosts) (name : List ℕ) (Goes : Meaning → Meaning → Type 0) : Type 0 where
  pub signatures : new.signatures ≡ old.signatures
  pub this : Between Goes (meaning_of old.signatures old.meanings name) (meaning_of new.signatures new.meanings name)
  pub others : OthersStay old new name

-- the function gave a value, which is last on the tape
pub record Replies (old new : Hosts) (name : List ℕ) (args : List Value) (value : Value) : Type 0 where
  pub asks : Asks old new name (λ before after. Gives before after args value)
  pub tape : new.tape ≡ old.tape ++ entry name args value ∷ []

-- the function failed
pub record FailsAt (old new : Hosts) (name : List ℕ) (args : List Value) : Type 0 where
  pub asks : Asks old new name (λ before after. Fails before after args)
  pub tape : new.tape ≡ old.tape

-- nothing happened, or the function was asked once and no reply came through
pub record LosesAt (old new : Hosts) (name : List ℕ) (args : List Value) : Type 0 where
  pub asks : (new ≡ old) ⊎ Asks old new name (λ before after. Loses before after args)
  pub tape : new.tape ≡ old.tape

-- what an ask did, by its answer: a reply that doesn't suit is on the tape all the same
abbrev pub Asked : Hosts → Hosts → List ℕ → List Value → Result Value AskFault → Type 0
Asked old new name args (Ok value) = Replies old new name args value × Suits old.signatures name value
Asked old new name args (Err Failed) = FailsAt old new name args
Asked old new name args (Err (WrongType value)) = Replies old new name args value × Misfits old.signatures name value
Asked old new name args (Err Memory) = LosesAt old new name args
