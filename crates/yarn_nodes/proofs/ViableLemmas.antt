-- Marks that can become those of a block, and items with given marks.
use Rattle.std.proofs.Common.{◌≡◌, ℕ, ◌+◌, List, [], ◌∷◌, ◌++◌, true, false, Bool, cond, Option, Some, None, refl, sym, ap, ◌∙◌, subst, append-nil}
use Rattle.yarn_commands.specs.declared.command.Command.TheVariants as command
use Rattle.yarn_expr.specs.declared.tree.Expr.TheVariants as expr
use Rattle.yarn_items.specs.declared.item.Item.{Item}
use Rattle.yarn_items.specs.declared.item.Item.TheVariants as item
use Rattle.yarn_blocks.specs.declared.entry.Entry.{Entry}
use Rattle.yarn_blocks.specs.declared.mark.Mark.{Mark}
use Rattle.yarn_blocks.specs.declared.mark.Shape.{Shape}
use Rattle.yarn_blocks.specs.declared.mark.Shape.TheVariants as shape
use Rattle.yarn_blocks.specs.declared.verdict.Excess.{Excess}
use Rattle.yarn_blocks.specs.declared.verdict.Verdict.{Verdict}
use Rattle.yarn_blocks.specs.declared.verdict.Verdict.TheVariants as verdict
use Rattle.yarn_blocks.specs.Block.{Viable}
use Rattle.yarn_blocks.specs.Entries.{marks_of, line_in, HaveLines}
use Rattle.yarn_blocks.specs.Laws.{WithMarks}
use Rattle.yarn_blocks.specs.Layout.{entry_without_line}
use Rattle.yarn_blocks.specs.Outline.{levels_end, verdict_end, verdict_after, verdict_from, outline_step, verdict_in}
use Rattle.yarn_blocks.specs.Verdict.{IsVerdict, IsUnfinished}
use Rattle.yarn_blocks.proofs.MarkLemmas.{with_marks}
use Rattle.yarn_blocks.proofs.Outlines.{marks_tell}
use Rattle.yarn_blocks.proofs.Renumber.{bare, lines_tell_nothing}
use Rattle.yarn_nodes.specs.Entries.{ItemAt}
use Rattle.yarn_nodes.specs.Structure.{marks_past}
use Rattle.yarn_nodes.proofs.EntryLemmas.{IsBodyItem, marks-append}
use Rattle.yarn_nodes.proofs.VerdictLemmas.{block-judged}

-- A bad mark stays bad.

end-good : (ls : _) (notes : Excess) (at line : ℕ) → verdict_end ls notes ≡ verdict.Bad at line → ⊥
end-good ls notes at line = by_test (levels_end ls)
  where
    by_test : (t : Bool) → cond t (verdict.Block notes) verdict.Unfinished ≡ verdict.Bad at line → ⊥
    by_test true bad = absurd cc
    by_test false bad = absurd cc

from-stays : (n : ℕ) (o : _) (ms more : List Mark) (at line : ℕ) → verdict_from n o ms ≡ verdict.Bad at line → verdict_from n o (ms ++ more) ≡ verdict.Bad at line
from-stays n o [] more at line bad = absurd (end-good o.levels o.excess at line bad)
from-stays n o (m ∷ ms) more at line bad = by_step (λ p. from-stays (n + 1) p ms more at line) (outline_step o m) bad
  where
    by_step : ((p : _) → verdict_from (n + 1) p ms ≡ verdict.Bad at line → verdict_from (n + 1) p (ms ++ more) ≡ verdict.Bad at line) →
        (next : Option _) → verdict_after n m.line (λ p. verdict_from (n + 1) p ms) next ≡ verdict.Bad at line →
        verdict_after n m.line (λ p. verdict_from (n + 1) p (ms ++ more)) next ≡ verdict.Bad at line
    by_step later None is = is
    by_step later (Some p) is = later p is

pub bad-stays : (ms more : List Mark) (at line : ℕ) → verdict_in ms ≡ verdict.Bad at line → verdict_in (ms ++ more) ≡ verdict.Bad at line
bad-stays ms more at line bad = from-stays 0 _ ms more at line bad

-- the verdict isn't that a mark is bad
abbrev pub IsGood : Verdict → Type 0
IsGood v = (at line : ℕ) → v ≡ verdict.Bad at line → ⊥

from-last : (n : ℕ) (o : _) (ms : List Mark) (m : Mark) (at line : ℕ) → IsGood (verdict_from n o ms) → verdict_from n o (ms ++ m ∷ []) ≡ verdict.Bad at line →
    line ≡ m.line
from-last n o [] m at line good bad = by_step (outline_step o m) bad
  where
    by_step : (next : Option _) → verdict_after n m.line (λ p. verdict_end p.levels p.excess) next ≡ verdict.Bad at line → line ≡ m.line
    by_step None is = cc
    by_step (Some p) is = absurd (end-good p.levels p.excess at line is)
from-last n o (first ∷ ms) m at line good bad = by_step (λ p. from-last (n + 1) p ms m at line) (outline_step o first) good bad
  where
    by_step : ((p : _) → IsGood (verdict_from (n + 1) p ms) → verdict_from (n + 1) p (ms ++ m ∷ []) ≡ verdict.Bad at line → line ≡ m.line) →
        (next : Option _) → IsGood (verdict_after n first.line (λ p. verdict_from (n + 1) p ms) next) →
        verdict_after n first.line (λ p. verdict_from (n + 1) p (ms ++ m ∷ [])) next ≡ verdict.Bad at line → line ≡ m.line
    by_step later None good is = absurd (good n first.line refl)
    by_step later (Some p) good is = later p good is

-- the mark that makes good ones bad is told
pub bad-last : (ms : List Mark) (m : Mark) (at line : ℕ) → IsGood (verdict_in ms) → verdict_in (ms ++ m ∷ []) ≡ verdict.Bad at line → line ≡ m.line
bad-last ms m at line good bad = from-last 0 _ ms m at line good bad

-- Good marks can end.

-- entries with the lines that their contents bear
abbrev lined : List Entry → List Entry
lined [] = []
lined (e ∷ es) = record { line = line_in e.what; indent = e.indent; what = e.what } ∷ lined es

lined-lines : (es : List Entry) → HaveLines (lined es)
lined-lines [] = tt
lined-lines (e ∷ es) = (refl, lined-lines es)

lined-bare : (front es : List Entry) → bare (front ++ es) ≡ bare (front ++ lined es)
lined-bare [] [] = refl
lined-bare [] (e ∷ es) = ap (λ (l : List Entry). entry_without_line e ∷ l) (lined-bare [] es)
lined-bare (x ∷ front) es = ap (λ (l : List Entry). entry_without_line x ∷ l) (lined-bare front es)

lines-append : (a b : List Entry) → HaveLines a → HaveLines b → HaveLines (a ++ b)
lines-append [] b p q = q
lines-append (x ∷ a) b p q = (p.0, lines-append a b p.1 q)

-- with some more marks they are those of a block
pub record CanEnd (ms : List Mark) : Type 0 where
  pub more : List Mark
  pub excess : Excess
  pub is : verdict_in (ms ++ more) ≡ verdict.Block excess

viable-ends : (ms : List Mark) (w : WithMarks ms) → Viable w.entries → CanEnd ms
viable-ends ms w v =
    let back = lined v.more in
    let other = lines_tell_nothing (w.entries ++ v.more) (w.entries ++ back) v.stmts (lined-bare w.entries v.more) v.block in
    let judged = block-judged (w.entries ++ back) other.0 (lines-append w.entries back w.lines (lined-lines v.more)) other.1.0 in
    let same : ms ++ marks_of back ≡ marks_of (w.entries ++ back) =
    ap (λ (l : List Mark). l ++ marks_of back) (sym w.marks) ∙ sym (marks-append w.entries back) in
    record { more = marks_of back; excess = judged.excess; is = ap verdict_in same ∙ judged.is }

pub good-ends : (ms : List Mark) → IsGood (verdict_in ms) → CanEnd ms
good-ends ms good = by_verdict (verdict_in ms) refl (with_marks ms)
  where
    by_verdict : (v : Verdict) → verdict_in ms ≡ v → WithMarks ms → CanEnd ms
    by_verdict (verdict.Block excess) is w = record { more = []; excess = excess; is = ap verdict_in (append-nil ms) ∙ is }
    by_verdict (verdict.Bad at line) is w = absurd (good at line is)
    by_verdict verdict.Unfinished is w =
        let told : IsUnfinished w.entries = subst (IsVerdict w.entries) (ap verdict_in w.marks ∙ is) (marks_tell w.entries w.lines) in
        viable-ends ms w told.viable

-- Items with given marks.

abbrev pub item_of : Shape → Item
item_of shape.Statement = item.Command command.Stop []
item_of shape.Offer = item.Offer (record { text = []; holes = []; tags = [] }) None
item_of shape.If = item.Command (command.If (expr.Truth true)) []
item_of shape.ElseIf = item.Command (command.ElseIf (expr.Truth true)) []
item_of shape.Else = item.Command command.Else []
item_of shape.EndIf = item.Command command.EndIf []

abbrev pub item_at : Mark → ItemAt
item_at m = record { line = m.line; indent = m.indent; item = item_of m.shape }

pub shape-body : (s : Shape) → IsBodyItem (item_of s)
shape-body shape.Statement = λ e. absurd cc
shape-body shape.Offer = tt
shape-body shape.If = λ e. absurd cc
shape-body shape.ElseIf = λ e. absurd cc
shape-body shape.Else = λ e. absurd cc
shape-body shape.EndIf = λ e. absurd cc

shape-mark : (marks : List Mark) (line indent : ℕ) (s : Shape) →
    marks_past marks line indent (item_of s) ≡ marks ++ record { line = line; indent = indent; shape = s } ∷ []
shape-mark marks line indent shape.Statement = refl
shape-mark marks line indent shape.Offer = refl
shape-mark marks line indent shape.If = refl
shape-mark marks line indent shape.ElseIf = refl
shape-mark marks line indent shape.Else = refl
shape-mark marks line indent shape.EndIf = refl

pub item-mark : (marks : List Mark) (m : Mark) → marks_past marks m.line m.indent (item_of m.shape) ≡ marks ++ m ∷ []
item-mark marks m = shape-mark marks m.line m.indent m.shape
