-- How far bytes of a text are written as they stand.
use Rattle.std.specs.Prelude.{ℕ, ◌+◌, List, [], ◌∷◌, Bool, not, ◌&&◌, ◌||◌, if◌then◌else◌, nat_eq, codes}
use Rattle.yarn_lines.specs.Lines.{begins_with}
use Rattle.yarn_items.specs.Text.{is_kept, begins_pair, begins_other}

-- a character of a line's text
abbrev pub is_char_at : List ℕ → Bool
is_char_at bytes = not (begins_pair bytes) && not (begins_other bytes)

-- how many of these stand at the front
abbrev pub chars_length : List ℕ → ℕ
chars_length [] = 0
chars_length (b ∷ bytes) = if is_char_at (b ∷ bytes) then chars_length bytes + 1 else 0

-- a pair or a substitution begins there
abbrev pub begins_more : List ℕ → Bool
begins_more bytes = begins_pair bytes || begins_with (codes "{") bytes

-- how many bytes of a pair with that character string tables don't have
abbrev pub lost_length : ℕ → ℕ
lost_length c = if is_kept c then 0 else 1

-- a substitution of a command for the game begins there, or a `\` that skips the next byte; where none skips this one
abbrev pub begins_hole : Bool → ℕ → Bool
begins_hole skips b = not skips && nat_eq b 123

abbrev pub begins_skip : Bool → ℕ → Bool
begins_skip skips b = not skips && nat_eq b 92

-- how many bytes stand before a substitution of a command for the game
abbrev pub game_length : Bool → List ℕ → ℕ
game_length skips [] = 0
game_length skips (b ∷ bytes) = if begins_hole skips b then 0 else game_length (begins_skip skips b) bytes + 1
