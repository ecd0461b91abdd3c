-- How many numbers a range has (docs/guide-hosts.md, The functions of this crate).
use Rattle.std.specs.Prelude.{ℕ, ◌+◌, ℤ, ◌-ℤ◌, unsigned_abs}

-- how many numbers there are from a to b, where a isn't above b: up to 2^64
abbrev pub width_of : ℤ → ℤ → ℕ
width_of a b = unsigned_abs (b -ℤ a) + 1
