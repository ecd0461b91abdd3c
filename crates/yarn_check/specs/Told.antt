-- What an answer of the checker says of a program's faults (docs/instructions.md, Shapes).
use Rattle.std.specs.Prelude.{◌≡◌, ℕ, List, Option, Some, None, Result, Ok, Err, ⊤}
use Rattle.yarn_code.specs.declared.program.CodeNode.{CodeNode}
use Rattle.yarn_code.specs.declared.program.Program.{Program}
use Rattle.yarn_code.specs.Fields.{HasFields}
use Rattle.yarn_check.specs.Shapes.{IsValid}
use Rattle.yarn_check.specs.Faults as spec
use Rattle.yarn_check.specs.Pass.{Walked, Ended, Faulted, first_of, if_none, look_node, pass}
use Rattle.yarn_check.specs.declared.fault.CheckFault.{CheckFault}
use Rattle.yarn_check.specs.declared.fault.CheckFault.TheVariants as fault

-- the answer names the fault; want of memory says nothing of it
abbrev pub Names : Option spec.CheckFault → CheckFault → Type 0
Names o (fault.BadLabel node place) = o ≡ Some (spec.BadLabel node place)
Names o (fault.BackwardJump node place) = o ≡ Some (spec.BackwardJump node place)
Names o (fault.UnknownVariable name) = o ≡ Some (spec.UnknownVariable name)
Names o (fault.UnknownFunction name) = o ≡ Some (spec.UnknownFunction name)
Names o (fault.UnknownLine id) = o ≡ Some (spec.UnknownLine id)
Names o (fault.NoShape node place) = o ≡ Some (spec.NoShape node place)
Names o (fault.TooManyDeep node place) = o ≡ Some (spec.TooManyDeep node place)
Names o fault.Memory = ⊤

-- no fault, or that one
abbrev pub Tells : Option spec.CheckFault → Result (Unit {0}) CheckFault → Type 0
Tells o (Ok done) = o ≡ None
Tells o (Err f) = Names o f

-- the fault of a node to which the pass comes
abbrev pub fault_in : ℕ → Walked → Option spec.CheckFault
fault_in node (Ended cells) = None
fault_in node (Faulted f place) = Some (spec.told f node place)

abbrev pub pass_node : Program → ℕ → CodeNode → Option spec.CheckFault
pass_node p node n = fault_in node (pass p n)

-- the fault that a look at all instructions and then a pass over all nodes come to
abbrev pub whole_fault : Program → Option spec.CheckFault
whole_fault p = if_none (first_of (look_node p) 0 p.nodes) (first_of (pass_node p) 0 p.nodes)

-- the program isn't valid, and that is its first fault
pub record Refuses (p : Program) (f : spec.CheckFault) : Type 0 where
  pub invalid : IsValid p → ⊥
  pub first : spec.IsFirstFault p f

-- the answer to a program that isn't valid names its first fault; want of memory says nothing of the program
abbrev pub IsRefused : Program → CheckFault → Type 0
IsRefused p (fault.BadLabel node place) = Refuses p (spec.BadLabel node place)
IsRefused p (fault.BackwardJump node place) = Refuses p (spec.BackwardJump node place)
IsRefused p (fault.UnknownVariable name) = Refuses p (spec.UnknownVariable name)
IsRefused p (fault.UnknownFunction name) = Refuses p (spec.UnknownFunction name)
IsRefused p (fault.UnknownLine id) = Refuses p (spec.UnknownLine id)
IsRefused p (fault.NoShape node place) = Refuses p (spec.NoShape node place)
IsRefused p (fault.TooManyDeep node place) = Refuses p (spec.TooManyDeep node place)
IsRefused p fault.Memory = ⊤

-- valid, or refused
abbrev pub Judges : Program → Result (Unit {0}) CheckFault → Type 0
Judges p (Ok done) = IsValid p
Judges p (Err f) = IsRefused p f

-- what a checked program keeps: its fields are as they may be, and it is valid
pub record IsChecked (p : Program) : Type 0 where
  pub fields : HasFields p
  pub valid : IsValid p
