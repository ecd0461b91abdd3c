-- What an evaluation answers, where no function asks a host.
use Rattle.std.specs.Prelude.{◌≡◌, ℕ, [], Result, Ok, Err, ⊤}
use Rattle.yarn_value.specs.declared.fault.OpFault.{OpFault}
use Rattle.yarn_value.specs.declared.fault.OpFault.TheVariants as op
use Rattle.yarn_value.specs.Evaluation.{Evaluated, Gives, Halts, Faults}
use Rattle.yarn_walker.specs.declared.halt.Halt.{Halt}
use Rattle.yarn_walker.specs.declared.halt.Halt.TheVariants as halt

-- the value or the fault that is meant, or want of memory, which is free
abbrev pub Means : {A : Type 0} → Evaluated A → Result A OpFault → Type 0
Means meant (Ok value) = meant ≡ Gives value []
Means meant (Err (op.Run fault)) = meant ≡ Halts (Faults fault) []
Means meant (Err op.Memory) = ⊤

-- the same answer, with the line of a fault
abbrev pub IsAtLine : {A : Type 0} → ℕ → Result A OpFault → Result A Halt → Type 0
IsAtLine line (Ok value) result = result ≡ Ok value
IsAtLine line (Err (op.Run fault)) result = result ≡ Err (halt.Fault line fault)
IsAtLine line (Err op.Memory) result = result ≡ Err halt.Memory
