-- Parts of lists. The rule is docs/outside.md, "Texts, lists and boxes".
use Rattle.std.specs.Prelude.{◌≡◌, ℕ, List, ◌++◌, length, take, drop, Bool, true, Result, Ok}
use Rattle.yarn_base.specs.declared.memory.Memory.{Memory}

-- so many bytes, behind so many others
abbrev pub cut : ℕ → ℕ → List ℕ → List ℕ
cut from len bytes = take len (drop from bytes)

-- a text that is all of a string is so still with these bytes behind it, or it stays as it is
abbrev pub Pushes : Result Bool Memory → ℕ → ℕ → ℕ → List ℕ → List ℕ → List ℕ → Type 0
Pushes (Ok true) from old_len new_len old new more = (from ≡ 0) × (old_len ≡ length old) × (new ≡ old ++ more) × (new_len ≡ length new)
Pushes _ from old_len new_len old new more = (new_len ≡ old_len) × (new ≡ old)
