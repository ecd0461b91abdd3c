-- What one step of reading a quoted string finds.
use Rattle.std.specs.Prelude.{◌≡◌, ◌<◌, ℕ, List, [], ◌∷◌, ◌++◌, length, IsUtf8, encode_utf8}
use Rattle.yarn_value.specs.Quoting.{escape, IsBody}
use Rattle.yarn_value.specs.declared.quoting.Part.{Part}
use Rattle.yarn_value.specs.declared.quoting.Part.TheVariants.{End, Char, Wrong}

pub record IsCharPart (body : List ℕ) (c : ℕ) (rest : List ℕ) : Type 0 where
  pub bytes : body ≡ escape (encode_utf8 c) ++ rest
  pub utf8 : IsUtf8 rest
  pub shorter : length rest < length body

abbrev pub IsPart : List ℕ → Part → Type 0
IsPart body End = body ≡ 34 ∷ []
IsPart body (Char c rest) = IsCharPart body c rest.now
IsPart body Wrong = ¬ IsBody body
