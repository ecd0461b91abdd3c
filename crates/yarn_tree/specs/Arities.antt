-- A map from the names of the game's functions, a word of private functions.
use Rattle.std.specs.Prelude.{◌≡◌, ℕ, List}
use Rattle.std.specs.Borrow.{Bor}
use Rattle.std.specs.BTreeMap.{BTreeMap, get_by}
use Rattle.std.specs.Cmp.Lexicographic.{slice_cmp}
use Rattle.std.specs.Ordering.{nat_cmp}
use Rattle.yarn_value.specs.declared.signature.Signature.{Signature}
use Rattle.yarn_value.specs.Signatures.{declared_arity}

-- the map has the arity of each name
abbrev pub HasArities : BTreeMap (Bor (List ℕ)) ℕ → List Signature → Type 0
HasArities map signatures = (q : List ℕ) → get_by (λ key. slice_cmp nat_cmp q key.now) map ≡ declared_arity signatures q
