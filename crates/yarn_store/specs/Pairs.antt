-- Which pairs of a variable and its value are a store (docs/language.md, The meaning).
use Rattle.std.specs.Prelude.{◌≡◌, ◌<◌, ℕ, List, length, true, All}
use Rattle.std.specs.Str.{chars}
use Rattle.yarn_base.specs.Name.{is_variable_of}
use Rattle.yarn_value.specs.declared.value.Value.{Value}
use Rattle.yarn_value.specs.Values.{IsShort}
use Rattle.yarn_value.specs.Pairs.{Pair, AreDistinct}

-- a variable of fewer than 4,294,967,296 bytes, and a value that a variable may have
pub record IsPair (name : List ℕ) (value : Value) : Type 0 where
  pub variable : is_variable_of (chars name) ≡ true
  pub len : length name < 4294967296
  pub short : IsShort value

pub record IsStore (ps : List Pair) : Type 0 where
  pub distinct : AreDistinct ps
  pub pairs : All (λ p. IsPair p.0 p.1) ps
