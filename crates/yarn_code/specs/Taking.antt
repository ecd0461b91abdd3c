-- What was taken from the input, where it tells its bytes.
use Rattle.std.specs.Prelude.{◌≡◌, ℕ, List, ◌++◌, Option, Some, None, IfSome}
use Rattle.std.specs.Io.KnownBytes.{prepend_known}
use Rattle.yarn_code.specs.Answer.{Answered, answer_of, taken}

-- what is answered, and what is left then
abbrev pub TakesAs : Option Answered → List ℕ → Option (List ℕ) → Option ℕ → Type 0
TakesAs None bytes new result = (result ≡ None) × (new ≡ Some bytes)
TakesAs (Some a) bytes new result = (result ≡ Some a.number) × (new ≡ Some a.rest)

-- the next answer was taken, or none is there; bytes that aren't told stay so
abbrev pub TakesAnswer : Option (List ℕ) → Option (List ℕ) → Option ℕ → Type 0
TakesAnswer None new result = new ≡ None
TakesAnswer (Some bytes) new result = TakesAs (answer_of bytes) bytes new result

-- a front of the bytes that the answer takes was taken
pub record TakesPart (old new : Option (List ℕ)) : Type 0 where
  pub front : List ℕ
  pub split : old ≡ prepend_known front new
  pub within : IfSome old (λ bytes. (more : List ℕ) × (taken bytes ≡ front ++ more))
