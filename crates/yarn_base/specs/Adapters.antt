-- The counts of the adapters, and what they make of std's answers (docs/outside.md, The adapters).
use Rattle.std.specs.Prelude.{◌≡◌, ℕ, zero, suc, Bool, true, false, Result, Ok, Err, None}
use Rattle.yarn_base.specs.Calls.{one_more}
use Rattle.yarn_base.specs.declared.fault.IoFault.{IoFault}
use Rattle.yarn_base.specs.declared.fault.IoFault.TheVariants.{Failed}
use Rattle.yarn_base.specs.declared.adapters.RealFiles.{RealFiles}
use Rattle.yarn_base.specs.declared.adapters.ReaderSource.{ReaderSource}
use Rattle.yarn_base.specs.declared.adapters.WriterSink.{WriterSink}

abbrev pub reader_faults : {R : Type 0} → ReaderSource R → ℕ
reader_faults s = s.faults

abbrev pub writer_faults : {W : Type 0} → WriterSink W → ℕ
writer_faults s = s.faults

-- no fault yet; the bound on the runtime adds its two associated types
pub record HasNoFault {R File Dir : Type 0} (files : RealFiles R File Dir) : Type 0 where
  pub read_faults : files.read_faults ≡ 0
  pub latest_fault : files.latest_fault ≡ None
  pub write_faults : files.write_faults ≡ 0

-- a fault, and the count rises by one
abbrev pub IsCounted : ℕ → ℕ → Result ℕ IoFault → Type 0
IsCounted before now result = (result ≡ Err Failed) × (now ≡ one_more before)

-- what is made of a writer's answer about a piece that is empty or not
abbrev pub IsTaken : {E : Type 0} → Result ℕ E → Bool → ℕ → ℕ → Result ℕ IoFault → Type 0
IsTaken (Ok zero) false before now result = IsCounted before now result
IsTaken (Ok zero) true before now result = (result ≡ Ok 0) × (now ≡ before)
IsTaken (Ok (suc n)) empty before now result = (result ≡ Ok (suc n)) × (now ≡ before)
IsTaken (Err e) empty before now result = IsCounted before now result
