-- A map from the names of host functions, a word of private functions.
use Rattle.std.specs.Prelude.{◌≡◌, ℕ, List}
use Rattle.std.specs.Borrow.{Bor}
use Rattle.std.specs.BTreeMap.{BTreeMap, get_by}
use Rattle.std.specs.Cmp.Lexicographic.{slice_cmp}
use Rattle.std.specs.Option.{option_copied}
use Rattle.std.specs.Ordering.{nat_cmp}
use Rattle.yarn_value.specs.declared.signature.Signature.{Signature}
use Rattle.yarn_value.specs.Signatures.{signature_named}

-- the map has the first signature of each name
abbrev pub Finds : BTreeMap (Bor (List ℕ)) (Bor Signature) → List Signature → Type 0
Finds map signatures = (q : List ℕ) → option_copied (get_by (λ key. slice_cmp nat_cmp q key.now) map) ≡ signature_named signatures q
