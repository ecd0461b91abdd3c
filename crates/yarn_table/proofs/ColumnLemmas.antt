-- The first field of a name, found by looking at the fields in order.
use Rattle.std.proofs.Common.{◌≡◌, ◌<◌, ℕ, zero, suc, List, [], ◌∷◌, length, get_or, Option, Some, None, true, false, bytes_eq, refl, ap, ◌∙◌, arith}
use Rattle.csv.specs.Records.{field_at}
use Rattle.yarn_table.specs.Records.{Fields, column}

-- no field before this place has the name
abbrev pub NoneBefore : List ℕ → Fields → ℕ → Type 0
NoneBefore name fields at = (k : ℕ) → k < at → bytes_eq (get_or fields k []) name ≡ false

pub column_found : (name : List ℕ) (fields : Fields) (at : ℕ) → at < length fields → NoneBefore name fields at → bytes_eq (get_or fields at []) name ≡ true → column name fields ≡ Some at
column_found name [] at l before here = absurd (omega arith)
column_found name (f ∷ fs) zero l before here = rw here refl
column_found name (f ∷ fs) (suc at) l before here =
    let more = column_found name fs at (omega arith) (λ k b. before (suc k) (omega arith)) here in
    let first = before 0 (omega arith) in
    rw (first, more) refl

pub column_none : (name : List ℕ) (fields : Fields) → NoneBefore name fields (length fields) → column name fields ≡ None
column_none name [] before = refl
column_none name (f ∷ fs) before =
    let more = column_none name fs (λ k b. before (suc k) (omega arith)) in
    let first = before 0 (omega arith) in
    rw (first, more) refl

pub no_field : (fields : Fields) (at : ℕ) → field_at fields at ≡ None → get_or fields at [] ≡ []
unfolding field_at
no_field [] at e = refl
no_field (f ∷ fs) zero e = cc
no_field (f ∷ fs) (suc at) e = no_field fs at e
