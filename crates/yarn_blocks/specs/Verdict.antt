-- Where the lines of a body can be no block, and what of a block is over a limit.
-- Source: docs/language.md, Structure of a body and Refusals of a project.
use Rattle.std.specs.Prelude.{◌≡◌, ℕ, List, [], ◌∷◌, ◌++◌, length, None}
use Rattle.yarn_blocks.specs.declared.entry.Entry.{Entry}
use Rattle.yarn_blocks.specs.declared.mark.Mark.{Mark}
use Rattle.yarn_blocks.specs.declared.verdict.Excess.{Excess}
use Rattle.yarn_blocks.specs.declared.verdict.Verdict.{Verdict}
use Rattle.yarn_blocks.specs.declared.verdict.Verdict.TheVariants as verdict
use Rattle.yarn_blocks.specs.Tree.{Stmts, deep_in, crowd_in}
use Rattle.yarn_blocks.specs.Entries.{marks_of, HaveLines}
use Rattle.yarn_blocks.specs.Block.{Block, Viable}

-- the entry with this place, from 0, and this line is the first with which the entries so far are a prefix of no block
pub record IsBadAt (xs : List Entry) (at line : ℕ) : Type 0 where
  pub front : List Entry
  pub entry : Entry
  pub rest : List Entry
  pub cut : xs ≡ front ++ entry ∷ rest
  pub place : at ≡ length front
  pub stands : line ≡ entry.line
  pub before : Viable front
  pub here : Viable (front ++ entry ∷ []) → ⊥

-- the entries are a prefix of a block, but no block
pub record IsUnfinished (xs : List Entry) : Type 0 where
  pub viable : Viable xs
  pub none : (b : Stmts) → Block xs [] b → ⊥

-- the entries are a block; the first line that is too deep in it, and that of the first 65th option of a group
pub record IsBlock (xs : List Entry) (excess : Excess) : Type 0 where
  pub stmts : Stmts
  pub block : Block xs [] stmts
  pub deep : excess.too_deep ≡ deep_in 0 stmts
  pub crowd : excess.too_many ≡ crowd_in stmts

abbrev pub IsVerdict : List Entry → Verdict → Type 0
IsVerdict xs (verdict.Block excess) = IsBlock xs excess
IsVerdict xs (verdict.Bad at line) = IsBadAt xs at line
IsVerdict xs verdict.Unfinished = IsUnfinished xs

-- it is the verdict on all entries that have these marks
abbrev pub IsVerdictOf : List Mark → Verdict → Type 0
IsVerdictOf ms v = (xs : List Entry) → marks_of xs ≡ ms → HaveLines xs → IsVerdict xs v

-- the entries are a block that is nowhere too deep
pub record IsShallow (xs : List Entry) : Type 0 where
  pub stmts : Stmts
  pub block : Block xs [] stmts
  pub shallow : deep_in 0 stmts ≡ None
