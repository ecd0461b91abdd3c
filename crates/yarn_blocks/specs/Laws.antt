-- Laws about lists of entries and of marks.
use Rattle.std.specs.Prelude.{◌≡◌, List, [], ◌++◌, Some, None, MatchOption}
use Rattle.yarn_blocks.specs.declared.entry.Entry.{Entry}
use Rattle.yarn_blocks.specs.declared.mark.Mark.{Mark}
use Rattle.yarn_blocks.specs.declared.verdict.Excess.{Excess}
use Rattle.yarn_blocks.specs.Tree.{Stmts}
use Rattle.yarn_blocks.specs.Entries.{marks_of, HaveLines}
use Rattle.yarn_blocks.specs.Block.{Block, Viable}
use Rattle.yarn_blocks.specs.Reading.{start, go, read}
use Rattle.yarn_blocks.specs.Outline.{verdict_in}
use Rattle.yarn_blocks.specs.Verdict.{IsBlock, IsVerdict, IsShallow}

-- one list stands for at most one block
abbrev pub OneBlock : Type 0
OneBlock = (xs : List Entry) (b c : Stmts) → Block xs [] b → Block xs [] c → b ≡ c

-- a block is read, as its statements
abbrev pub BlocksAreRead : Type 0
BlocksAreRead = (xs : List Entry) (b : Stmts) → Block xs [] b → read xs ≡ Some b

-- what is read is a block
abbrev pub ReadAreBlocks : Type 0
ReadAreBlocks = (xs : List Entry) (b : Stmts) → read xs ≡ Some b → Block xs [] b

-- where the reading refuses, no list that begins so is a block; where it goes on, some is
abbrev pub GoesOnWhereViable : Type 0
GoesOnWhereViable = (xs : List Entry) → MatchOption (go start xs) (Viable xs → ⊥) (λ _. Viable xs)

-- what begins entries that can become a block can become one: so a first bad entry is the only first one
abbrev pub FrontsAreViable : Type 0
FrontsAreViable = (front rest : List Entry) → Viable (front ++ rest) → Viable front

-- the verdict on the marks is that on the entries
abbrev pub MarksTell : Type 0
MarksTell = (xs : List Entry) → HaveLines xs → IsVerdict xs (verdict_in (marks_of xs))

-- entries with given marks, whose contents bear their lines
pub record WithMarks (ms : List Mark) : Type 0 where
  pub entries : List Entry
  pub marks : marks_of entries ≡ ms
  pub lines : HaveLines entries

-- each list of marks is that of some entries
abbrev pub MarksHaveEntries : Type 0
MarksHaveEntries = (ms : List Mark) → WithMarks ms

-- a block with nothing too deep is shallow
abbrev pub BlocksAreShallow : Type 0
BlocksAreShallow = (xs : List Entry) (excess : Excess) → IsBlock xs excess → excess.too_deep ≡ None → IsShallow xs
