-- What decoding bytes gives, as one value: reading from left to right, up to the first field that isn't as it has to be
-- (docs/formats.md, Program files).
use Rattle.std.specs.Prelude.{◌≡◌, ◌-◌, ℕ, List, [], ◌∷◌, length, take, drop, codes, nat_le, bytes_eq, Bool, false, ◌&&◌, if◌then◌else◌, Result, Ok, Err, ⊤}
use Rattle.yarn_code.specs.declared.fault.CodeFault.{CodeFault}
use Rattle.yarn_code.specs.declared.fault.CodeFault.TheVariants as fault
use Rattle.yarn_code.specs.declared.program.Program.{Program}
use Rattle.yarn_code.specs.FormatReading.{Read, read}
use Rattle.yarn_code.specs.Layout.{program_file}

-- the program; or a newer format; or the place of what is refused
pub data Decoding : Type 0 where
  Decodes : Program → Decoding
  Newer : Decoding
  BadAt : ℕ → Decoding

abbrev pub begins_newer : List ℕ → Bool
begins_newer [] = false
begins_newer (digit ∷ rest) = nat_le 50 digit && nat_le digit 57

-- the bytes begin with `YSP` and one of the digits 2 to 9
abbrev pub is_newer : List ℕ → Bool
is_newer bytes = bytes_eq (take 3 bytes) (codes "YSP") && begins_newer (drop 3 bytes)

-- nothing follows the program
abbrev pub whole : ℕ → Program → List ℕ → Decoding
whole size program [] = Decodes program
whole size program (b ∷ rest) = BadAt (size - length (b ∷ rest))

abbrev pub of_read : ℕ → Read Program → Decoding
of_read size (Ok x) = whole size x.0 x.1
of_read size (Err left) = BadAt (size - left)

unfoldable pub decoding_of : List ℕ → Decoding
decoding_of bytes = if is_newer bytes then Newer else of_read (length bytes) (read program_file bytes)

-- an answer tells the decoding
abbrev pub IsTold : Decoding → Result Program CodeFault → Type 0
IsTold decoding (Ok program) = decoding ≡ Decodes program
IsTold decoding (Err fault.NewerFormat) = decoding ≡ Newer
IsTold decoding (Err (fault.BadProgram at)) = decoding ≡ BadAt at
IsTold decoding (Err fault.Memory) = ⊤
