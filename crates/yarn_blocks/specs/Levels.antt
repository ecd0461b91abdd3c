-- The levels that are open, the innermost first.
use Rattle.std.specs.Prelude.{◌≡◌, ℕ, ◌+◌, nat_le, List, [], ◌∷◌, Bool, false, Option, Some, None}
use Rattle.yarn_blocks.specs.declared.level.Level.{Level}
use Rattle.yarn_blocks.specs.declared.level.Level.TheVariants.{OfOption, OfClause, OfElse}
use Rattle.yarn_blocks.specs.declared.level.Bounded.{Bounded}

-- the least indent of a line within what is open
abbrev pub low_of : List Level → ℕ
low_of [] = 0
low_of (OfOption k before ∷ ls) = k + 1
low_of (OfClause ∷ ls) = low_of ls
low_of (OfElse ∷ ls) = low_of ls

-- a line with this indent ends the innermost level
abbrev pub ends_level : ℕ → List Level → Bool
ends_level i [] = false
ends_level i (OfOption k before ∷ ls) = nat_le i k
ends_level i (OfClause ∷ ls) = false
ends_level i (OfElse ∷ ls) = false

abbrev pub levels_in : List Bounded → List Level
levels_in [] = []
levels_in (b ∷ bs) = b.level ∷ levels_in bs

-- each level has the least indent within it
abbrev pub LowsAreRight : List Bounded → Type 0
LowsAreRight [] = Unit {0}
LowsAreRight (b ∷ bs) = (b.low ≡ low_of (levels_in (b ∷ bs))) × LowsAreRight bs

abbrev pub first_of : List Bounded → Option Bounded
first_of [] = None
first_of (b ∷ bs) = Some b

abbrev pub low_first : List Bounded → ℕ
low_first [] = 0
low_first (b ∷ bs) = b.low

abbrev pub low_over : Level → ℕ → ℕ
low_over (OfOption k before) outside = k + 1
low_over OfClause outside = outside
low_over OfElse outside = outside
