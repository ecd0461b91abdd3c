-- The pass is exact.
use Rattle.std.specs.Prelude.{◌≡◌, ◌<◌, ℕ, List, length, All, Some, None, Ok, Err, slice_get}
use Rattle.yarn_code.specs.declared.program.Instr.{Instr}
use Rattle.yarn_code.specs.declared.program.CodeNode.{CodeNode}
use Rattle.yarn_code.specs.declared.program.Program.{Program}
use Rattle.yarn_check.specs.Shapes.{Shapes, Agrees, PassesFirstLook, IsValid}
use Rattle.yarn_check.specs.Faults.{CheckFault, IsLookFault, NodeFault, IsFirstAt, IsFirstFault}
use Rattle.yarn_check.specs.Pass.{Coming, Ended, Faulted, pass, shapes_in, look, check}

-- of a node with an instruction
pub record IsPassOf (p : Program) (n : CodeNode) : Type 0 where
  -- where the pass ends, its shapes agree
  pub agrees : (cells : List Coming) → pass p n ≡ Ended cells → Agrees p n (shapes_in cells)
  -- where it stops, that is the first fault
  pub faults : (f : NodeFault) (place : ℕ) → pass p n ≡ Faulted f place → IsFirstAt p n place f
  -- where shapes agree, it ends with them
  pub ends : (shapes : Shapes) → Agrees p n shapes → (cells : List Coming) × (pass p n ≡ Ended cells) × (shapes_in cells ≡ shapes)
  -- where a fault is first, it stops there
  pub stops : (f : NodeFault) (place : ℕ) → IsFirstAt p n place f → pass p n ≡ Faulted f place
  -- where it stops, no shapes agree
  pub none : (f : NodeFault) (place : ℕ) → pass p n ≡ Faulted f place → (shapes : Shapes) → Agrees p n shapes → ⊥

abbrev pub PassIsExact : Type 0
PassIsExact = (p : Program) (n : CodeNode) → 0 < length n.code → IsPassOf p n

-- the first look at one instruction
pub record IsLookOf (p : Program) (n : CodeNode) (node place : ℕ) (i : Instr) : Type 0 where
  pub fine : look p n node place i ≡ None → PassesFirstLook p n place i
  pub none : PassesFirstLook p n place i → look p n node place i ≡ None
  pub fault : (f : CheckFault) → look p n node place i ≡ Some f → IsLookFault p n node place i f
  pub first : (f : CheckFault) → IsLookFault p n node place i f → look p n node place i ≡ Some f

abbrev pub LookIsExact : Type 0
LookIsExact = (p : Program) (n : CodeNode) (node place : ℕ) (i : Instr) → IsLookOf p n node place i

-- the shapes of each node agree
pub record AgreeAll (p : Program) (all : List Shapes) : Type 0 where
  pub counted : length all ≡ length p.nodes
  pub agree : (node : ℕ) (n : CodeNode) (shapes : Shapes) → slice_get p.nodes node ≡ Some n → slice_get all node ≡ Some shapes → Agrees p n shapes

-- of a program whose nodes have an instruction
pub record IsCheckOf (p : Program) : Type 0 where
  pub valid : (all : List Shapes) → check p ≡ Ok all → IsValid p × AgreeAll p all
  pub ok : IsValid p → (all : List Shapes) × (check p ≡ Ok all)
  pub fault : (f : CheckFault) → check p ≡ Err f → IsFirstFault p f
  pub first : (f : CheckFault) → IsFirstFault p f → check p ≡ Err f

abbrev pub CheckIsExact : Type 0
CheckIsExact = (p : Program) → All (λ n. 0 < length n.code) p.nodes → IsCheckOf p
