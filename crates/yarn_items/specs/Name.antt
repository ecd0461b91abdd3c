-- What the look for a name among the bytes of a line answers.
use Rattle.std.specs.Prelude.{◌≡◌, ℕ, List, true, false, Option, Some, None}
use denote.Ref.{Bor}
use Rattle.yarn_items.specs.Item.{is_name_text}

-- the name, where the bytes are one
abbrev pub IsNameIn : List ℕ → Option (Bor (List ℕ)) → Type 0
IsNameIn bytes None = is_name_text bytes ≡ false
IsNameIn bytes (Some name) = (is_name_text bytes ≡ true) × (name.now ≡ bytes)
