-- What is written for an instruction spells it.
use Rattle.std.proofs.Common.{◌≡◌, ℕ, ℤ, ◌^◌, ◌<◌, ◌≤◌, Bool, true, false, List, ◌++◌, length, slice_get, Result, Ok, Err, OnOk, refl, sym, subst, arith, nat_le, nat_eq, pos, negsuc}
use Rattle.std.specs.Prelude.{FitsSigned}
use Rattle.std.specs.Int.{w64, cast_signed, cast_unsigned}
use Rattle.std.proofs.lemmas.Bool.Decides.{nat_tests}
use Rattle.std.proofs.lemmas.Int.{to_z-of_z}
use Rattle.yarn_value.specs.Numbers.{fits}
use Rattle.yarn_code.specs.declared.program.Instr.{Instr}
use Rattle.yarn_code.specs.declared.program.Instr.TheVariants as code
use Rattle.yarn_code.specs.declared.program.Coded.{Coded}
use Rattle.yarn_code.specs.Fields.{HasOperands, IsWord, IsCodedWords}
use Rattle.yarn_code.specs.Fields as fields
use Rattle.yarn_code.specs.Format.{Format, Ends, Number, Text, U8, U32, U64, number_bytes}
use Rattle.yarn_code.specs.Layout.{any, is_few, is_short, is_template, number_of_truth, operands_at, is_opcode, coded}
use Rattle.yarn_code.specs.Opcodes.{opcodes}
use Rattle.yarn_code.specs.Writing.{Writes, HasHead, HasLabel, HasText, HasCounted}
use Rattle.yarn_code.proofs.WritingLemmas.{Writes-end, Writes-then, number_written, text_written}

pub OnOk-map : {A E : Type 0} (r : Result A E) {P Q : Type 0} → (P → Q) → OnOk r P → OnOk r Q
OnOk-map (Ok x) f p = f p
OnOk-map (Err e) f p = tt

pub few_passes : (n : ℕ) → n ≤ 16 → is_few n ≡ true
few_passes n le = grind (arith, nat_tests)

pub short_passes : (t : List ℕ) → length t ≤ 65536 → is_short t ≡ true
short_passes t le = grind (arith, nat_tests)

pub short_word : (t : List ℕ) → length t ≤ 65536 → length t < 2 ^ 32
short_word t le = omega (arith, le)

pub few_byte : (n : ℕ) → n ≤ 16 → n < 2 ^ 8
few_byte n le = omega (arith, le)

pub truth_byte : (b : Bool) → number_of_truth b < 2 ^ 8
truth_byte true = omega arith
truth_byte false = omega arith

pub truth_passes : (b : Bool) → nat_le (number_of_truth b) 1 ≡ true
truth_passes true = refl
truth_passes false = refl

pub truth_back : (b : Bool) → nat_eq (number_of_truth b) 1 ≡ b
truth_back true = refl
truth_back false = refl

pub coded_written : (one : Coded) (number : ℕ) (a c d : List ℕ) → number < 2 ^ 8 → is_opcode number ≡ true → IsWord one.line → HasHead number one.line a c
    → Writes (operands_at (slice_get opcodes number)) one.instr c d → Writes coded one a d
unfolding coded
coded_written one number a c d small is line head operands =
    number_written U8 is_opcode _ number one a (a ++ number_bytes U8 number) d small is refl
    (number_written U32 any _ one.line one (a ++ number_bytes U8 number) c d line refl head
    (Writes-then (operands_at (slice_get opcodes number)) (λ i. Ends (record { line = one.line; instr = i })) one.instr one c d d operands (Writes-end one d)))

made : (one : Coded) (instr : Instr) (d : List ℕ) → one.instr ≡ instr → Writes (Ends instr) one.instr d d
made one instr d is = subst (λ i. Writes (Ends i) one.instr d d) is (Writes-end one.instr d)

abbrev AreFields : ℕ → Format Instr → Type 0
AreFields number f = operands_at (slice_get opcodes number) ≡ f

pub bare_written : (one : Coded) (number : ℕ) (instr : Instr) (a d : List ℕ) → AreFields number (Ends instr) → number < 2 ^ 8 → is_opcode number ≡ true
    → one.instr ≡ instr → IsCodedWords one → HasHead number one.line a d → Writes coded one a d
bare_written one number instr a d row small opcode is words head =
    coded_written one number a d d small opcode words.line head (subst (λ f. Writes f one.instr d d) (sym row) (made one instr d is))

pub label_written : (one : Coded) (number : ℕ) (make : ℕ → Instr) (label : ℕ) (a d : List ℕ) → AreFields number (Number U32 any λ n. Ends (make n)) → number < 2 ^ 8 → is_opcode number ≡ true
    → one.instr ≡ make label → IsCodedWords one → IsWord label → HasLabel number one.line label a d → Writes coded one a d
label_written one number make label a d row small opcode is words word (c, head, e) =
    coded_written one number a c d small opcode words.line head (subst (λ f. Writes f one.instr c d) (sym row)
    (number_written U32 any (λ n. Ends (make n)) label one.instr c d d word refl e (made one (make label) d is)))

pub named_written : (one : Coded) (number : ℕ) (test : List ℕ → Bool) (make : List ℕ → Instr) (text : List ℕ) (a d : List ℕ) → AreFields number (Text test λ t. Ends (make t)) → number < 2 ^ 8 → is_opcode number ≡ true
    → one.instr ≡ make text → IsCodedWords one → length text < 2 ^ 32 → test text ≡ true → HasText number one.line text a d → Writes coded one a d
named_written one number test make text a d row small opcode is words short passes (c, head, e, utf8) =
    coded_written one number a c d small opcode words.line head (subst (λ f. Writes f one.instr c d) (sym row)
    (text_written test (λ t. Ends (make t)) text one.instr c d d short utf8 passes e (made one (make text) d is)))

-- a count, a text, and what comes behind them
pub counted_then : (one : Coded) (number : ℕ) (test : ℕ → List ℕ → Bool) (next : ℕ → List ℕ → Format Instr) (count : ℕ) (text : List ℕ) (a c d : List ℕ) → AreFields number (Number U8 is_few λ n. Text (test n) λ t. next n t)
    → number < 2 ^ 8 → is_opcode number ≡ true → IsCodedWords one → count ≤ 16 → length text < 2 ^ 32 → test count text ≡ true → HasCounted number one.line count text a c
    → Writes (next count text) one.instr c d → Writes coded one a d
counted_then one number test next count text a c d row small opcode words few short passes (mid, head, e, utf8) rest =
    coded_written one number a mid d small opcode words.line head (subst (λ f. Writes f one.instr mid d) (sym row)
    (number_written U8 is_few (λ n. Text (test n) λ t. next n t) count one.instr mid (mid ++ number_bytes U8 count) d (few_byte count few) (few_passes count few) refl
    (text_written (test count) (next count) text one.instr (mid ++ number_bytes U8 count) c d short utf8 passes e rest)))

pub counted_written : (one : Coded) (number : ℕ) (test : ℕ → List ℕ → Bool) (make : ℕ → List ℕ → Instr) (count : ℕ) (text : List ℕ) (a d : List ℕ) → AreFields number (Number U8 is_few λ n. Text (test n) λ t. Ends (make n t))
    → number < 2 ^ 8 → is_opcode number ≡ true → one.instr ≡ make count text → IsCodedWords one → count ≤ 16 → length text < 2 ^ 32 → test count text ≡ true → HasCounted number one.line count text a d → Writes coded one a d
counted_written one number test make count text a d row small opcode is words few short passes has =
    counted_then one number test (λ n t. Ends (make n t)) count text a d d row small opcode words few short passes has (made one (make count text) d is)

-- a truth, and what it leads to
truth_then : (next : Bool → Format Instr) (b : Bool) (instr : Instr) (c d e : List ℕ) → d ≡ c ++ number_bytes U8 (number_of_truth b) → Writes (next b) instr d e
    → Writes (Number U8 (λ n. nat_le n 1) λ n. next (nat_eq n 1)) instr c e
truth_then next b instr c d e at rest =
    number_written U8 (λ n. nat_le n 1) (λ n. next (nat_eq n 1)) (number_of_truth b) instr c d e (truth_byte b) (truth_passes b) at
    (subst (λ t. Writes (next t) instr d e) (sym (truth_back b)) rest)

pub option_written : (one : Coded) (count label : ℕ) (id : List ℕ) (conditional : Bool) (a c d e : List ℕ) → one.instr ≡ code.AddOption count id label conditional → IsCodedWords one
    → count ≤ 16 → length id < 2 ^ 32 → IsWord label → HasCounted 4 one.line count id a c → d ≡ c ++ number_bytes U32 label → e ≡ d ++ number_bytes U8 (number_of_truth conditional) → Writes coded one a e
option_written one count label id conditional a c d e is words few short word has at_label at_truth =
    counted_then one 4 (λ n. any) (λ n t. Number U32 any λ l. Number U8 (λ b. nat_le b 1) λ b. Ends (code.AddOption n t l (nat_eq b 1))) count id a c e refl (omega arith) refl words few short refl has
    (number_written U32 any (λ l. Number U8 (λ b. nat_le b 1) λ b. Ends (code.AddOption count id l (nat_eq b 1))) label one.instr c d e word refl at_label
    (truth_then (λ b. Ends (code.AddOption count id label b)) conditional one.instr d e e at_truth (made one (code.AddOption count id label conditional) e is)))

pub bool_written : (one : Coded) (b : Bool) (a c d : List ℕ) → one.instr ≡ code.PushBool b → IsCodedWords one → HasHead 8 one.line a c → d ≡ c ++ number_bytes U8 (number_of_truth b) → Writes coded one a d
bool_written one b a c d is words head at =
    coded_written one 8 a c d (omega arith) refl words.line head
    (truth_then (λ v. Ends (code.PushBool v)) b one.instr c d d at (made one (code.PushBool b) d is))

-- ---- whole numbers

fits_signed : (z : ℤ) → fits z ≡ true → FitsSigned w64 z
fits_signed (pos n) is = grind (arith, nat_tests)
fits_signed (negsuc n) is = grind (arith, nat_tests)

pub whole_back : (z : ℤ) → fits z ≡ true → cast_signed w64 (cast_unsigned w64 z) ≡ z
whole_back z is = to_z-of_z w64 z (fits_signed z is)

pub whole_small : (z : ℤ) → fits z ≡ true → cast_unsigned w64 z < 2 ^ 64
whole_small (pos n) is = grind (arith, nat_tests)
whole_small (negsuc n) is = grind (arith, nat_tests)

pub float_written : (one : Coded) (z : ℤ) (a c d : List ℕ) → one.instr ≡ code.PushFloat z → IsCodedWords one → fits z ≡ true → HasHead 7 one.line a c → d ≡ c ++ number_bytes U64 (cast_unsigned w64 (cast_signed w64 (cast_unsigned w64 z))) → Writes coded one a d
float_written one z a c d is words fit head at =
    coded_written one 7 a c d (omega arith) refl words.line head
    (number_written U64 any (λ n. Ends (code.PushFloat (cast_signed w64 n))) (cast_unsigned w64 z) one.instr c d d (whole_small z fit) refl (subst (λ k. d ≡ c ++ number_bytes U64 (cast_unsigned w64 k)) (whole_back z fit) at)
    (subst (λ k. Writes (Ends (code.PushFloat k)) one.instr d d) (sym (whole_back z fit)) (made one (code.PushFloat z) d is)))

pub template_passes : (text : List ℕ) (holes : ℕ) → fields.IsText text holes → is_template holes text ≡ true
template_passes text holes is = is.template
