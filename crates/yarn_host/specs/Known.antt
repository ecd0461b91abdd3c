-- Lists that may be told, and counts of 64 bits (docs/guide-hosts.md, What is told of a function).
use Rattle.std.specs.Prelude.{ℕ, zero, suc, List, ◌++◌, Option, option_map}
use Rattle.yarn_base.specs.Calls.{one_more}

-- the items, and then those that are told
abbrev pub prepend_known : {A : Type 0} → List A → Option (List A) → Option (List A)
prepend_known items known = option_map (λ rest. items ++ rest) known

-- those that are told, and then the items
abbrev pub append_known : {A : Type 0} → Option (List A) → List A → Option (List A)
append_known known items = option_map (λ front. front ++ items) known

-- a count after so many more
abbrev pub counted : ℕ → ℕ → ℕ
counted zero count = count
counted (suc more) count = one_more (counted more count)
