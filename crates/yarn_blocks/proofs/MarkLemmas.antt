-- Entries with given marks, and the verdict on marks.
use Rattle.std.proofs.Common.{◌≡◌, ℕ, true, List, [], ◌∷◌, None, refl, sym, ap, ◌∙◌, subst}
use mathlib.Core.Path.{ap₂}
use Rattle.yarn_expr.specs.declared.tree.Expr.{Expr}
use Rattle.yarn_expr.specs.declared.tree.Expr.TheVariants as expr
use Rattle.yarn_blocks.specs.declared.tree.Head.{Head}
use Rattle.yarn_blocks.specs.declared.tree.LineText.{LineText}
use Rattle.yarn_blocks.specs.declared.entry.Entry.{Entry}
use Rattle.yarn_blocks.specs.declared.entry.What.{What}
use Rattle.yarn_blocks.specs.declared.entry.What.TheVariants as what
use Rattle.yarn_blocks.specs.declared.entry.Simple.TheVariants as simple
use Rattle.yarn_blocks.specs.declared.mark.Mark.{Mark}
use Rattle.yarn_blocks.specs.declared.mark.Shape.{Shape}
use Rattle.yarn_blocks.specs.declared.mark.Shape.TheVariants as shape
use Rattle.yarn_blocks.specs.declared.verdict.Verdict.{Verdict}
use Rattle.yarn_blocks.specs.Entries.{shape_of, line_in}
use Rattle.yarn_blocks.specs.Laws.{WithMarks}
use Rattle.yarn_blocks.specs.Outline.{verdict_in}
use Rattle.yarn_blocks.specs.Verdict.{IsVerdict, IsVerdictOf}
use Rattle.yarn_blocks.proofs.Outlines.{marks_tell}

abbrev head_at : ℕ → Head
head_at line = record { line = line; tags = [] }

abbrev text_at : ℕ → LineText
text_at line = record { line = line; id = []; text = []; holes = []; tags = [] }

abbrev truth : Expr
truth = expr.Truth true

abbrev what_at : Shape → ℕ → What
what_at shape.Statement line = what.Statement (simple.Stop (head_at line))
what_at shape.Offer line = what.Offer (text_at line) None
what_at shape.If line = what.If (head_at line) truth
what_at shape.ElseIf line = what.ElseIf (head_at line) truth
what_at shape.Else line = what.Else (head_at line)
what_at shape.EndIf line = what.EndIf (head_at line)

shape-at : (s : Shape) (line : ℕ) → shape_of (what_at s line) ≡ s
shape-at shape.Statement line = refl
shape-at shape.Offer line = refl
shape-at shape.If line = refl
shape-at shape.ElseIf line = refl
shape-at shape.Else line = refl
shape-at shape.EndIf line = refl

line-at : (s : Shape) (line : ℕ) → line ≡ line_in (what_at s line)
line-at shape.Statement line = refl
line-at shape.Offer line = refl
line-at shape.If line = refl
line-at shape.ElseIf line = refl
line-at shape.Else line = refl
line-at shape.EndIf line = refl

abbrev entry_at : Mark → Entry
entry_at m = record { line = m.line; indent = m.indent; what = what_at m.shape m.line }

abbrev mark_with : Mark → Shape → Mark
mark_with m s = record { line = m.line; indent = m.indent; shape = s }

pub with_marks : (ms : List Mark) → WithMarks ms
with_marks [] = record { entries = []; marks = refl; lines = tt }
with_marks (m ∷ ms) =
    let rest = with_marks ms in
    record {
      entries = entry_at m ∷ rest.entries;
      marks = ap₂ (λ n l. n ∷ l) (ap (mark_with m) (shape-at m.shape m.line)) rest.marks;
      lines = (line-at m.shape m.line, rest.lines);
    }

pub tells : (ms : List Mark) (v : Verdict) → v ≡ verdict_in ms → IsVerdictOf ms v
tells ms v e xs marks lines = subst (IsVerdict xs) (ap verdict_in marks ∙ sym e) (marks_tell xs lines)
