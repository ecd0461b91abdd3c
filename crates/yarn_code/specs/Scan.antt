-- How the number of a line is found byte by byte.
use Rattle.std.specs.Prelude.{ℕ, ◌+◌, ◌-◌, ◌*◌, ◌^◌, ◌<◌, ◌≤◌, nat_lt, ◌&&◌, if◌then◌else◌, ⊤}
use Rattle.yarn_value.specs.Numbers.{is_digit}
use Rattle.yarn_code.specs.Answer.{is_blank}
use Rattle.yarn_code.specs.declared.scan.Scan.{Scan}
use Rattle.yarn_code.specs.declared.scan.Scan.TheVariants.{Blank, Digits, Behind, Bad}

-- a digit behind others, at most nine
abbrev pub with_digit : ℕ → ℕ → ℕ → Scan
with_digit value count b = if is_digit b && nat_lt count 9 then Digits (value * 10 + (b - 48)) (count + 1) else Bad

-- what is known with one more byte
abbrev pub scanned : Scan → ℕ → Scan
scanned Blank b = if is_blank b then Blank else with_digit 0 0 b
scanned (Digits value count) b = if is_blank b then Behind value else with_digit value count b
scanned (Behind value) b = if is_blank b then Behind value else Bad
scanned Bad b = Bad

-- the number where the line ends
abbrev pub scan_number : Scan → ℕ
scan_number Blank = 0
scan_number (Digits value count) = value
scan_number (Behind value) = value
scan_number Bad = 0

-- the digits so far are at most nine, and their value is of so many
abbrev pub Fits : Scan → Type 0
Fits Blank = ⊤
Fits (Digits value count) = (value < 10 ^ count) × (count ≤ 9)
Fits (Behind value) = ⊤
Fits Bad = ⊤
