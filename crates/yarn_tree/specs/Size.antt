-- The first file that is too much: the 257th, one of more than 4,194,304 bytes, or the one with which all have more
-- than 33,554,432 (docs/language.md, Refusals of a project).
use Rattle.std.specs.Prelude.{ℕ, ◌+◌, List, [], ◌∷◌, length, nat_lt, Bool, ◌||◌, if◌then◌else◌, Option, Some, None}
use Rattle.yarn_base.specs.declared.Place.{Place}
use Rattle.yarn_base.specs.declared.SourceFile.{SourceFile}

abbrev pub is_big : SourceFile → Bool
is_big source = nat_lt 4194304 (length source.bytes)

-- a file behind that many, which have that many bytes
abbrev pub is_too_much : ℕ → ℕ → SourceFile → Bool
is_too_much before sum source = nat_lt 255 before || (is_big source || nat_lt 33554432 (sum + length source.bytes))

abbrev pub too_much : ℕ → ℕ → List SourceFile → Option Place
too_much before sum [] = None
too_much before sum (source ∷ sources) =
    if is_too_much before sum source then Some (record { file = before; line = 0 })
    else too_much (before + 1) (sum + length source.bytes) sources

-- a file that is read alone
abbrev pub big_alone : SourceFile → Option Place
big_alone source = if is_big source then Some (record { file = 0; line = 0 }) else None
