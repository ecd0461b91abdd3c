-- Reading a format from left to right, up to the first field that isn't as it has to be. The laws of formats say what
-- that has to do with what bytes spell.
use Rattle.std.specs.Prelude.{ℕ, List, length, take, drop, nat_lt, Bool, if◌then◌else◌, Result, Ok, Err, ◌||◌, not}
use Rattle.std.specs.Str.{is_utf8}
use Rattle.std.specs.Int.{byte_len, from_be_bytes}
use Rattle.yarn_code.specs.Format as format
use Rattle.yarn_code.specs.Format.{Format, Size, U32, width}

-- a value and the bytes behind it; or how many bytes there are from the field on that is refused
abbrev pub Read : Type 0 → Type 0
Read A = Result (A × List ℕ) ℕ

-- the first step and what comes after it; nothing comes after a refusal
abbrev pub and_then : {A B : Type 0} → Result A ℕ → (A → Result B ℕ) → Result B ℕ
and_then (Ok x) after = after x
and_then (Err left) after = Err left

-- the value, where it passes a test; else the field at the front of the bytes is refused
abbrev pub passing : {A : Type 0} → List ℕ → (A → Bool) → A × List ℕ → Read A
passing bytes test x = if test x.0 then Ok x else Err (length bytes)

unfoldable pub any_number : Size → List ℕ → Read ℕ
any_number size bytes =
    if nat_lt (length bytes) (byte_len (width size)) then Err (length bytes)
    else Ok (from_be_bytes (width size) (take (byte_len (width size)) bytes), drop (byte_len (width size)) bytes)

abbrev pub number_at : Size → (ℕ → Bool) → List ℕ → Read ℕ
number_at size test bytes = and_then (any_number size bytes) λ x. passing bytes test x

-- the text of so many bytes
abbrev pub text_of : List ℕ → ℕ × List ℕ → Read (List ℕ)
text_of bytes n =
    if nat_lt (length n.1) n.0 || not (is_utf8 (take n.0 n.1)) then Err (length bytes) else Ok (take n.0 n.1, drop n.0 n.1)

unfoldable pub any_text : List ℕ → Read (List ℕ)
any_text bytes = and_then (any_number U32 bytes) λ n. text_of bytes n

abbrev pub text_at : (List ℕ → Bool) → List ℕ → Read (List ℕ)
text_at test bytes = and_then (any_text bytes) λ x. passing bytes test x

abbrev pub read : {A : Type 0} → Format A → List ℕ → Read A
read (format.Ends a) bytes = Ok (a, bytes)
read (format.Number size test next) bytes = and_then (number_at size test bytes) λ x. read (next x.0) x.1
read (format.Text test next) bytes = and_then (text_at test bytes) λ x. read (next x.0) x.1
