-- Names among bytes.
use Rattle.std.proofs.Common.{◌≡◌, ℕ, List, Bool, true, false, IsUtf8, refl}
use Rattle.std.proofs.lemmas.Str.{is_utf8-from_IsUtf8, IsUtf8-from_is_utf8}
use Rattle.std.specs.Str.{chars, is_utf8}
use Rattle.yarn_base.specs.Name.{is_name_of}
use Rattle.yarn_items.specs.Item.{is_name_text}

-- a text is a name where its characters are one
pub is_name_text-utf8 : (bytes : List ℕ) → IsUtf8 bytes → is_name_text bytes ≡ is_name_of (chars bytes)
is_name_text-utf8 bytes utf8 = rw (is_utf8-from_IsUtf8 bytes utf8) refl

-- and bytes that are no text are no name
pub is_name_text-bad : (bytes : List ℕ) → (IsUtf8 bytes → ⊥) → is_name_text bytes ≡ false
is_name_text-bad bytes bad = by_test (is_utf8 bytes) refl
  where
    by_test : (b : Bool) → is_utf8 bytes ≡ b → is_name_text bytes ≡ false
    by_test true is = absurd (bad (IsUtf8-from_is_utf8 bytes is))
    by_test false is = rw is refl

pub ruleset names = (is_name_text-utf8, is_name_text-bad)
