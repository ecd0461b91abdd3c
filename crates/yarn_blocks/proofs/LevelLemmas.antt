-- The levels are as many as what is open, and fewer once one is closed.
use Rattle.std.proofs.Common.{◌≡◌, ℕ, suc, ◌<◌, true, List, [], ◌∷◌, length, refl, ap, arith}
use Rattle.yarn_blocks.specs.declared.level.Level.{Level}
use Rattle.yarn_blocks.specs.declared.level.Level.TheVariants.{OfOption, OfClause, OfElse}
use Rattle.yarn_blocks.specs.declared.level.Bounded.{Bounded}
use Rattle.yarn_blocks.specs.declared.outline.Outline.{Outline}
use Rattle.yarn_blocks.specs.Levels.{levels_in, ends_level}
use Rattle.yarn_blocks.specs.Outline.{closed_levels, closed_outline}

pub length-in : (bs : List Bounded) → length (levels_in bs) ≡ length bs
length-in [] = refl
length-in (b ∷ bs) = ap suc (length-in bs)

closed-less : (i : ℕ) (ls : List Level) (count : ℕ) → ends_level i ls ≡ true → length (closed_levels ls count).levels < length ls
closed-less i [] count e = absurd (cc)
closed-less i (OfOption k before ∷ ls) count e = omega arith
closed-less i (OfClause ∷ ls) count e = absurd (cc)
closed-less i (OfElse ∷ ls) count e = absurd (cc)

pub closed-shorter : (i : ℕ) (old new : Outline) → ends_level i old.levels ≡ true → new ≡ closed_outline old → length new.levels < length old.levels
closed-shorter i old new e same =
    let now : length new.levels ≡ length (closed_levels old.levels old.count).levels = ap (λ (o : Outline). length o.levels) same in
    let less : length (closed_levels old.levels old.count).levels < length old.levels = closed-less i old.levels old.count e in
    omega arith
