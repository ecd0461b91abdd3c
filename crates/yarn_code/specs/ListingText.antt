-- The listing of a program, written out (docs/formats.md, Listing). That it is the one text which the table of opcodes tells
-- is the law `listings_are_written_out`.
use Rattle.std.specs.Prelude.{◌≡◌, ◌↔◌, ℕ, List, [], ◌∷◌, codes}
use Rattle.std.specs.Fmt.{decimal, signed_decimal}
use Rattle.yarn_value.specs.Quoting.{quoted}
use Rattle.yarn_code.specs.declared.program.Instr.{Instr}
use Rattle.yarn_code.specs.declared.program.Instr.TheVariants as code
use Rattle.yarn_code.specs.declared.program.Program.{Program}
use Rattle.yarn_code.specs.Listing.{Words, truth_word, program_lines, IsListing}

-- the words of an instruction
abbrev pub words_of : Instr → Words
words_of (code.JumpTo label) = codes "JUMP_TO" ∷ decimal label ∷ []
words_of code.Jump = codes "JUMP" ∷ []
words_of (code.RunLine count id) = codes "RUN_LINE" ∷ decimal count ∷ id ∷ []
words_of (code.RunCommand count text) = codes "RUN_COMMAND" ∷ decimal count ∷ quoted text ∷ []
words_of (code.AddOption count id label conditional) = codes "ADD_OPTION" ∷ decimal count ∷ id ∷ decimal label ∷ truth_word conditional ∷ []
words_of code.ShowOptions = codes "SHOW_OPTIONS" ∷ []
words_of (code.PushString text) = codes "PUSH_STRING" ∷ quoted text ∷ []
words_of (code.PushFloat number) = codes "PUSH_FLOAT" ∷ signed_decimal number ∷ []
words_of (code.PushBool value) = codes "PUSH_BOOL" ∷ truth_word value ∷ []
words_of code.PushNull = codes "PUSH_NULL" ∷ []
words_of (code.JumpIfFalse label) = codes "JUMP_IF_FALSE" ∷ decimal label ∷ []
words_of code.Pop = codes "POP" ∷ []
words_of (code.CallFunc count name) = codes "CALL_FUNC" ∷ decimal count ∷ name ∷ []
words_of (code.PushVariable name) = codes "PUSH_VARIABLE" ∷ name ∷ []
words_of (code.StoreVariable name) = codes "STORE_VARIABLE" ∷ name ∷ []
words_of code.Stop = codes "STOP" ∷ []
words_of code.RunNode = codes "RUN_NODE" ∷ []

unfoldable pub listing_of : Program → List ℕ
listing_of p = program_lines words_of p

-- it is what the table of opcodes tells, and nothing else is
abbrev pub WrittenOut : Type 0
WrittenOut = (p : Program) (text : List ℕ) → IsListing p text ↔ (text ≡ listing_of p)
