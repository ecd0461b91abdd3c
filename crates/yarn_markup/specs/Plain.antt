-- Texts that are their own plain text, without attributes.
use Rattle.std.specs.Prelude.{ℕ, nat_eq, Bool, not, ◌||◌}

-- none of `[`, `\`, `:`
abbrev pub is_ordinary : ℕ → Bool
is_ordinary c = not (nat_eq c 91 || (nat_eq c 92 || nat_eq c 58))
