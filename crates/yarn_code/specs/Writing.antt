-- What a call puts behind the bytes that are there.
use Rattle.std.specs.Prelude.{◌≡◌, ◌-◌, ℕ, List, [], ◌++◌, length, take, All}
use Rattle.std.specs.Str.{IsUtf8}
use Rattle.yarn_code.specs.declared.program.CodeNode.{CodeNode}
use Rattle.yarn_code.specs.Fields.{HasOperands}
use Rattle.yarn_code.specs.Format.{Format, IsSpelled, times, U8, U32, number_bytes, text_bytes}

-- behind the old bytes stand those that spell the value
pub record Writes {A : Type 0} (f : Format A) (x : A) (old new : List ℕ) : Type 0 where
  pub bytes : List ℕ
  pub split : new ≡ old ++ bytes
  pub spelled : IsSpelled f bytes x

-- so many of the parts are written, and with what spells the others all are
pub record HasWritten {A : Type 0} (part : List A → Format A) (xs : List A) (count : ℕ) (old new : List ℕ) : Type 0 where
  pub front : List ℕ
  pub split : new ≡ old ++ front
  pub goes_on : (more : List ℕ) → IsSpelled (times (length xs - count) part (take count xs)) more xs → IsSpelled (times (length xs) part []) (front ++ more) xs

-- an instruction's number and its line are put behind the old bytes
abbrev pub HasHead : ℕ → ℕ → List ℕ → List ℕ → Type 0
HasHead number line old new = new ≡ (old ++ number_bytes U8 number) ++ number_bytes U32 line

abbrev pub HasLabel : ℕ → ℕ → ℕ → List ℕ → List ℕ → Type 0
HasLabel number line label old new = (mid : List ℕ) × HasHead number line old mid × (new ≡ mid ++ number_bytes U32 label)

abbrev pub HasText : ℕ → ℕ → List ℕ → List ℕ → List ℕ → Type 0
HasText number line text old new = (mid : List ℕ) × HasHead number line old mid × (new ≡ mid ++ text_bytes text) × IsUtf8 text

abbrev pub HasCounted : ℕ → ℕ → ℕ → List ℕ → List ℕ → List ℕ → Type 0
HasCounted number line count text old new =
    (mid : List ℕ) × HasHead number line old mid × (new ≡ (mid ++ number_bytes U8 count) ++ text_bytes text) × IsUtf8 text

-- each instruction has operands as they may be
abbrev pub HasCode : CodeNode → Type 0
HasCode n = All (λ c. HasOperands c.instr) n.code
