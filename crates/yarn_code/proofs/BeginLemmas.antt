-- The first fields of the parts of a program file, and what stands behind them.
use Rattle.std.proofs.Common.{◌≡◌, ℕ, ◌≤◌, Bool, true, false, List, [], length, take, drop, slice_get, Ok, Err, refl, sym, ap, ◌∙◌, ◌&&◌, nat_lt, nat_le, IsUtf8}
use Rattle.std.specs.Str.{chars, is_utf8}
use Rattle.std.proofs.lemmas.Bool.{le-ltb}
use Rattle.std.proofs.lemmas.Str.{IsUtf8-from_is_utf8, is_utf8-from_IsUtf8}
use Rattle.yarn_base.specs.Name.{is_name_of}
use Rattle.yarn_value.specs.declared.signature.Signature.{Signature}
use Rattle.yarn_value.specs.declared.value.Kind.{Kind}
use Rattle.yarn_code.specs.declared.program.Coded.{Coded}
use Rattle.yarn_code.specs.declared.program.CodeNode.{CodeNode}
use Rattle.yarn_code.specs.declared.program.Instr.{Instr}
use Rattle.yarn_code.specs.Format.{Format, ◌>>=◌, Ends, U8, U32, times}
use Rattle.yarn_code.specs.FormatReading.{any_number, any_text, number_at, text_at, read}
use Rattle.yarn_code.specs.Layout.{is_few, is_opcode, is_mark, is_host_name, kinds, kind_field, function_with, instructions, node_with, operands_at, coded, program_file}
use Rattle.yarn_code.specs.Opcodes.{opcodes}
use Rattle.yarn_code.proofs.ProgramParts.{behind_mark}

-- ---- texts

pub text_taken : (bytes rest front back text : List ℕ) (n : ℕ) → any_number U32 bytes ≡ Ok (n, rest) → n ≤ length rest → front ≡ take n rest → back ≡ drop n rest → text ≡ front → IsUtf8 front → any_text bytes ≡ Ok (text, back)
unfolding any_text
text_taken bytes rest front back text n e long f b t utf8 =
    let within : nat_lt (length rest) n ≡ false = le-ltb _ _ long in
    let is : is_utf8 (take n rest) ≡ true = ap is_utf8 (sym f) ∙ is_utf8-from_IsUtf8 front utf8 in
    rw (e, within, is, t ∙ f, b) refl

not_bytes : (bytes : List ℕ) → (IsUtf8 bytes → ⊥) → is_utf8 bytes ≡ false
not_bytes bytes h = by_test (is_utf8 bytes) refl
  where
    by_test : (t : Bool) → is_utf8 bytes ≡ t → t ≡ false
    by_test true e = absurd (h (IsUtf8-from_is_utf8 bytes e))
    by_test false e = refl

pub text_refused : (bytes rest front : List ℕ) (n : ℕ) → any_number U32 bytes ≡ Ok (n, rest) → n ≤ length rest → front ≡ take n rest → (IsUtf8 front → ⊥) → any_text bytes ≡ Err (length bytes)
unfolding any_text
text_refused bytes rest front n e long f not_utf8 =
    let within : nat_lt (length rest) n ≡ false = le-ltb _ _ long in
    let is = not_bytes front not_utf8 in
    rw (e, within, ap is_utf8 (sym f) ∙ is) refl

-- ---- functions

abbrev pub behind_params : List ℕ → List Kind → Format Signature
behind_params name params = kind_field >>= λ result. Ends (record { name = name; params = params; result = result })

pub function_begins : (free : List ℕ → Bool) (bytes name r1 : List ℕ) (count : ℕ) (r2 : List ℕ) → text_at (λ t. is_host_name t && free t) bytes ≡ Ok (name, r1) → number_at U8 is_few r1 ≡ Ok (count, r2)
    → read (function_with free) bytes ≡ read (times count kinds [] >>= behind_params name) r2
function_begins free bytes name r1 count r2 t n = rw (t, n) refl

-- ---- instructions

abbrev pub behind_operands : ℕ → Instr → Format Coded
behind_operands line instr = Ends (record { line = line; instr = instr })

pub coded_begins : (bytes : List ℕ) (number : ℕ) (r1 : List ℕ) (line : ℕ) (r2 : List ℕ) → number_at U8 is_opcode bytes ≡ Ok (number, r1) → any_number U32 r1 ≡ Ok (line, r2)
    → read coded bytes ≡ read (operands_at (slice_get opcodes number) >>= behind_operands line) r2
unfolding coded
coded_begins bytes number r1 line r2 n l = rw (n, l) refl

-- ---- nodes

abbrev pub behind_code : List ℕ → ℕ → List Coded → Format CodeNode
behind_code title file code = Ends (record { title = title; file = file; code = code })

pub node_begins : (files : ℕ) (free : List ℕ → Bool) (bytes title r1 : List ℕ) (file : ℕ) (r2 : List ℕ) (count : ℕ) (r3 : List ℕ) → text_at (λ t. is_name_of (chars t) && free t) bytes ≡ Ok (title, r1)
    → number_at U32 (λ n. nat_lt n files) r1 ≡ Ok (file, r2) → number_at U32 (λ n. nat_le 1 n) r2 ≡ Ok (count, r3)
    → read (node_with files free) bytes ≡ read (times count instructions [] >>= behind_code title file) r3
node_begins files free bytes title r1 file r2 count r3 t f n = rw (t, f, n) refl

-- ---- programs

pub program_begins : (bytes : List ℕ) (mark : ℕ) (rest : List ℕ) → number_at U32 is_mark bytes ≡ Ok (mark, rest) → read program_file bytes ≡ read (behind_mark mark) rest
unfolding program_file
program_begins bytes mark rest m = rw m refl
