-- What a source gave next.
use Rattle.std.specs.Prelude.{◌≡◌, ℕ, List, [], ◌∷◌, Option}
use Rattle.std.specs.Io.KnownBytes.{prepend_known, IsAtEnd}
use Rattle.yarn_code.specs.declared.next.Next.{Next}
use Rattle.yarn_code.specs.declared.next.Next.TheVariants.{Byte, End, Failed}

-- a byte was taken; or the bytes are at their end; or a read failed, and the bytes stay
abbrev pub IsNext : Option (List ℕ) → Option (List ℕ) → Next → Type 0
IsNext old new (Byte b) = old ≡ prepend_known (b ∷ []) new
IsNext old new End = (new ≡ old) × IsAtEnd new
IsNext old new Failed = new ≡ old
