-- The opcodes: the place of a row is its number (docs/formats.md, Program files, and docs/instructions.md).
use Rattle.std.specs.Prelude.{ℕ, ℤ, List, [], ◌∷◌, Bool, codes}
use Rattle.yarn_code.specs.declared.program.Instr.{Instr}
use Rattle.yarn_code.specs.declared.program.Instr.TheVariants as code

-- The operands of an instruction in order, and the instruction that they make. A number of values is at most 16; a
-- template has that many holes; a text that is pushed has at most 65,536 bytes; a name is any text.
pub data Operands : Type 0 where
  Makes : Instr → Operands
  Label : (ℕ → Operands) → Operands
  Count : (ℕ → Operands) → Operands
  Name : (List ℕ → Operands) → Operands
  Template : ℕ → (List ℕ → Operands) → Operands
  Pushed : (List ℕ → Operands) → Operands
  Whole : (ℤ → Operands) → Operands
  Truth : (Bool → Operands) → Operands

pub record Opcode : Type 0 where
  pub name : List ℕ
  pub operands : Operands

abbrev pub opcode : List ℕ → Operands → Opcode
opcode name operands = record { name = name; operands = operands }

abbrev pub opcodes : List Opcode
opcodes =
    opcode (codes "JUMP_TO") (Label λ label. Makes (code.JumpTo label))
    ∷ opcode (codes "JUMP") (Makes code.Jump)
    ∷ opcode (codes "RUN_LINE") (Count λ count. Name λ id. Makes (code.RunLine count id))
    ∷ opcode (codes "RUN_COMMAND") (Count λ count. Template count λ text. Makes (code.RunCommand count text))
    ∷ opcode (codes "ADD_OPTION") (Count λ count. Name λ id. Label λ label. Truth λ conditional. Makes (code.AddOption count id label conditional))
    ∷ opcode (codes "SHOW_OPTIONS") (Makes code.ShowOptions)
    ∷ opcode (codes "PUSH_STRING") (Pushed λ text. Makes (code.PushString text))
    ∷ opcode (codes "PUSH_FLOAT") (Whole λ number. Makes (code.PushFloat number))
    ∷ opcode (codes "PUSH_BOOL") (Truth λ value. Makes (code.PushBool value))
    ∷ opcode (codes "PUSH_NULL") (Makes code.PushNull)
    ∷ opcode (codes "JUMP_IF_FALSE") (Label λ label. Makes (code.JumpIfFalse label))
    ∷ opcode (codes "POP") (Makes code.Pop)
    ∷ opcode (codes "CALL_FUNC") (Count λ count. Name λ name. Makes (code.CallFunc count name))
    ∷ opcode (codes "PUSH_VARIABLE") (Name λ name. Makes (code.PushVariable name))
    ∷ opcode (codes "STORE_VARIABLE") (Name λ name. Makes (code.StoreVariable name))
    ∷ opcode (codes "STOP") (Makes code.Stop)
    ∷ opcode (codes "RUN_NODE") (Makes code.RunNode)
    ∷ []
