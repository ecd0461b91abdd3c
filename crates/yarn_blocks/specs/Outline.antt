-- The reading once more over marks, which keeps nothing of what is read: where it goes on, the first line that is too
-- deep, and the first 65th option.
use Rattle.std.specs.Prelude.{◌≡◌, ℕ, ◌+◌, List, [], ◌∷◌, length, Bool, true, false, nat_lt, if◌then◌else◌, Option, Some, None, Result, Ok, Err}
use Rattle.std.specs.Option.{option_or}
use Rattle.yarn_blocks.specs.declared.mark.Mark.{Mark}
use Rattle.yarn_blocks.specs.declared.mark.Shape.{Shape}
use Rattle.yarn_blocks.specs.declared.mark.Shape.TheVariants as shape
use Rattle.yarn_blocks.specs.declared.level.Level.{Level}
use Rattle.yarn_blocks.specs.declared.level.Level.TheVariants.{OfOption, OfClause, OfElse}
use Rattle.yarn_blocks.specs.declared.outline.Outline.{Outline}
use Rattle.yarn_blocks.specs.declared.outline.Stop.{Stop}
use Rattle.yarn_blocks.specs.declared.outline.Stop.TheVariants as stop
use Rattle.yarn_blocks.specs.declared.verdict.Excess.{Excess}
use Rattle.yarn_blocks.specs.declared.verdict.Verdict.{Verdict}
use Rattle.yarn_blocks.specs.declared.verdict.Verdict.TheVariants as verdict
use Rattle.yarn_blocks.specs.Levels.{low_of}
use Rattle.yarn_blocks.specs.Tree.{over_64, behind_64}

abbrev pub no_excess : Excess
no_excess = record { too_deep = None; too_many = None }

-- with a line at this depth
abbrev pub with_depth : Excess → ℕ → ℕ → Excess
with_depth notes depth line = record { too_deep = option_or notes.too_deep (over_64 depth line); too_many = notes.too_many }

-- with an option before which so many stand in its group
abbrev pub with_count : Excess → ℕ → ℕ → Excess
with_count notes before line = record { too_deep = notes.too_deep; too_many = option_or notes.too_many (behind_64 before line) }

-- one option more, where 65 stands for more too
abbrev pub one_more : ℕ → ℕ
one_more count = if nat_lt 64 count then count else count + 1

-- levels, and the count of the group that may go on in the innermost
pub record Rest : Type 0 where
  pub levels : List Level
  pub count : ℕ

abbrev pub settled_levels : ℕ → List Level → ℕ → Rest
settled_levels i [] count = record { levels = []; count = count }
settled_levels i (OfOption k before ∷ ls) count =
    if nat_lt k i then record { levels = OfOption k before ∷ ls; count = count } else settled_levels i ls (one_more before)
settled_levels i (OfClause ∷ ls) count = record { levels = OfClause ∷ ls; count = count }
settled_levels i (OfElse ∷ ls) count = record { levels = OfElse ∷ ls; count = count }

-- an `elseif` or an `else`
abbrev pub outline_clause : List Level → Excess → ℕ → Level → Option Outline
outline_clause [] notes line level = None
outline_clause (OfOption k before ∷ ls) notes line level = None
outline_clause (OfClause ∷ ls) notes line level = Some (record { levels = level ∷ ls; count = 0; excess = with_depth notes (length ls) line })
outline_clause (OfElse ∷ ls) notes line level = None

abbrev pub outline_end : List Level → Excess → ℕ → Option Outline
outline_end [] notes line = None
outline_end (OfOption k before ∷ ls) notes line = None
outline_end (OfClause ∷ ls) notes line = Some (record { levels = ls; count = 0; excess = with_depth notes (length ls) line })
outline_end (OfElse ∷ ls) notes line = Some (record { levels = ls; count = 0; excess = with_depth notes (length ls) line })

abbrev pub outline_taken : List Level → ℕ → Excess → ℕ → ℕ → Shape → Option Outline
outline_taken ls count notes line i shape.Statement = Some (record { levels = ls; count = 0; excess = with_depth notes (length ls) line })
outline_taken ls count notes line i shape.Offer =
    Some (record { levels = OfOption i count ∷ ls; count = 0; excess = with_count (with_depth notes (length ls) line) count line })
outline_taken ls count notes line i shape.If = Some (record { levels = OfClause ∷ ls; count = 0; excess = with_depth notes (length ls) line })
outline_taken ls count notes line i shape.ElseIf = outline_clause ls notes line OfClause
outline_taken ls count notes line i shape.Else = outline_clause ls notes line OfElse
outline_taken ls count notes line i shape.EndIf = outline_end ls notes line

abbrev pub outline_placed : List Level → ℕ → Excess → Mark → Option Outline
outline_placed ls count notes m = if nat_lt m.indent (low_of ls) then None else outline_taken ls count notes m.line m.indent m.shape

abbrev pub outline_settled : Rest → Excess → Mark → Option Outline
outline_settled rest notes m = outline_placed rest.levels rest.count notes m

abbrev pub outline_step : Outline → Mark → Option Outline
outline_step o m = outline_settled (settled_levels m.indent o.levels o.count) o.excess m

-- at the end no `if` is open
abbrev pub levels_end : List Level → Bool
levels_end [] = true
levels_end (OfOption k before ∷ ls) = levels_end ls
levels_end (OfClause ∷ ls) = false
levels_end (OfElse ∷ ls) = false

abbrev pub verdict_end : List Level → Excess → Verdict
verdict_end ls notes = if levels_end ls then verdict.Block notes else verdict.Unfinished

abbrev pub verdict_after : ℕ → ℕ → (Outline → Verdict) → Option Outline → Verdict
verdict_after at line more None = verdict.Bad at line
verdict_after at line more (Some o) = more o

abbrev pub verdict_from : ℕ → Outline → List Mark → Verdict
verdict_from at o [] = verdict_end o.levels o.excess
verdict_from at o (m ∷ ms) = verdict_after at m.line (λ p. verdict_from (at + 1) p ms) (outline_step o m)

abbrev pub verdict_in : List Mark → Verdict
verdict_in ms = verdict_from 0 (record { levels = []; count = 0; excess = no_excess }) ms

-- the same behind so many lines that are statements
abbrev pub verdict_behind : ℕ → List Mark → Verdict
verdict_behind before ms = verdict_from before (record { levels = []; count = 0; excess = no_excess }) ms

-- the innermost option ends
abbrev pub closed_levels : List Level → ℕ → Rest
closed_levels [] count = record { levels = []; count = count }
closed_levels (OfOption k before ∷ ls) count = record { levels = ls; count = one_more before }
closed_levels (OfClause ∷ ls) count = record { levels = OfClause ∷ ls; count = count }
closed_levels (OfElse ∷ ls) count = record { levels = OfElse ∷ ls; count = count }

abbrev pub with_rest : Rest → Excess → Outline
with_rest rest notes = record { levels = rest.levels; count = rest.count; excess = notes }

abbrev pub closed_outline : Outline → Outline
closed_outline o = with_rest (closed_levels o.levels o.count) o.excess

abbrev pub settled_outline : ℕ → Outline → Outline
settled_outline i o = with_rest (settled_levels i o.levels o.count) o.excess

-- what a step answers is what the reading answers, unless memory runs out
abbrev pub Stops : Stop → Option Outline → Type 0
Stops stop.Refused read = read ≡ None
Stops stop.Memory read = Unit {0}

abbrev pub Continues : Result Outline Stop → Option Outline → Type 0
Continues (Ok o) read = read ≡ Some o
Continues (Err e) read = Stops e read
