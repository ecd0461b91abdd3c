-- The reading of marks goes as the reading of entries does.
use Rattle.std.proofs.Common.{◌≡◌, ℕ, suc, ◌+◌, Bool, true, false, cond, List, [], ◌∷◌, length, Option, Some, None, refl, sym, ap, ◌∙◌, subst, arith}
use mathlib.Core.Path.{ap₂}
use Rattle.std.specs.Prelude.{nat_lt, nat_eq, if◌then◌else◌}
use Rattle.std.specs.Option.{option_or}
use Rattle.std.proofs.lemmas.Bool.Decides.{nat_tests}
use Rattle.yarn_blocks.specs.declared.tree.Head.{Head}
use Rattle.yarn_blocks.specs.declared.entry.Entry.{Entry}
use Rattle.yarn_blocks.specs.declared.entry.What.{What}
use Rattle.yarn_blocks.specs.declared.entry.What.TheVariants.{Statement, Offer, If, ElseIf, Else, EndIf}
use Rattle.yarn_blocks.specs.declared.level.Level.{Level}
use Rattle.yarn_blocks.specs.declared.level.Level.TheVariants.{OfOption, OfClause, OfElse}
use Rattle.yarn_blocks.specs.declared.outline.Outline.{Outline}
use Rattle.yarn_blocks.specs.Levels.{low_of}
use Rattle.yarn_blocks.specs.Entries.{mark_of, marks_of, shape_of, line_of, line_in, HaveLines}
use Rattle.yarn_blocks.specs.Tree.{Asked, Options}
use Rattle.yarn_blocks.specs.declared.verdict.Excess.{Excess}
use Rattle.yarn_blocks.specs.Reading.{Held, all_of, with_option, Frame, InOption, InClause, InElse, State, settled, least, next_clause, last_clause, end_of_if, taken, ended}
use Rattle.yarn_blocks.specs.Outline.{with_depth, with_count, one_more, Rest, settled_levels, outline_clause, outline_end, outline_taken, outline_settled, outline_step, verdict_end, verdict_after, verdict_from, verdict_in}
use Rattle.yarn_blocks.specs.Verdict.{IsVerdict}
use Rattle.yarn_blocks.proofs.HeldLemmas.{count_of, count-then}
use Rattle.yarn_blocks.proofs.Noted.{Noted, note, outside, with_notes, noted_placed, noted_step}
use Rattle.yarn_blocks.proofs.Viable.{noted_start}
use Rattle.yarn_blocks.proofs.Places.{answer_at_end, answer_after, answer_from, right}

-- as many, where 65 stands for more too
abbrev pub at_most_65 : ℕ → ℕ
at_most_65 n = if nat_lt 64 n then 65 else n

one_more-at_most : (n : ℕ) → at_most_65 (n + 1) ≡ one_more (at_most_65 n)
one_more-at_most n = grind (arith, nat_tests)

eq-at_most : (n : ℕ) → nat_eq (at_most_65 n) 64 ≡ nat_eq n 64
eq-at_most n = grind (arith, nat_tests)

abbrev pub level_of : Frame → Level
level_of (InOption k n before) = OfOption k (at_most_65 (count_of before.group))
level_of (InClause n cs before) = OfClause
level_of (InElse n cs before) = OfElse

abbrev pub levels_of : List Frame → List Level
levels_of [] = []
levels_of (f ∷ fs) = level_of f ∷ levels_of fs

abbrev pub outline_of : Noted → Outline
outline_of s = record { levels = levels_of s.frames; count = at_most_65 (count_of s.top.group); excess = s.notes }

abbrev pub outline_in : Option Noted → Option Outline
outline_in None = None
outline_in (Some s) = Some (outline_of s)

abbrev pub rest_of : State → Rest
rest_of s = record { levels = levels_of s.frames; count = at_most_65 (count_of s.top.group) }

length-levels : (fs : List Frame) → length (levels_of fs) ≡ length fs
length-levels [] = refl
length-levels (f ∷ fs) = ap suc (length-levels fs)

low-levels : (fs : List Frame) → least fs ≡ low_of (levels_of fs)
low-levels [] = refl
low-levels (InOption k n before ∷ fs) = refl
low-levels (InClause n cs before ∷ fs) = low-levels fs
low-levels (InElse n cs before ∷ fs) = low-levels fs

settled-levels : (i : ℕ) (fs : List Frame) (top : Held) → rest_of (settled i fs top) ≡ settled_levels i (levels_of fs) (at_most_65 (count_of top.group))
settled-levels i [] top = refl
settled-levels i (InOption k n before ∷ fs) top =
    at_test (nat_lt k i) (settled-levels i fs (with_option before n (all_of top))
    ∙ ap (settled_levels i (levels_of fs)) (ap at_most_65 (count-then before.group n (all_of top)) ∙ one_more-at_most (count_of before.group)))
  where
    at_test : (t : Bool) → rest_of (settled i fs (with_option before n (all_of top))) ≡ settled_levels i (levels_of fs) (one_more (at_most_65 (count_of before.group))) →
        rest_of (cond t (record { frames = InOption k n before ∷ fs; top = top }) (settled i fs (with_option before n (all_of top)))) ≡ cond t (record { levels = levels_of (InOption k n before ∷ fs); count = at_most_65 (count_of top.group) }) (settled_levels i (levels_of fs) (one_more (at_most_65 (count_of before.group))))
    at_test true more = refl
    at_test false more = more
settled-levels i (InClause n cs before ∷ fs) top = refl
settled-levels i (InElse n cs before ∷ fs) top = refl

-- an outline with these levels and notes, in which no group is open
abbrev outlined : List Level → Excess → Option Outline
outlined ls notes = Some (record { levels = ls; count = 0; excess = notes })

same_depth : (notes : Excess) (fs : List Frame) (line : ℕ) → with_depth notes (length fs) line ≡ with_depth notes (length (levels_of fs)) line
same_depth notes fs line = ap (λ k. with_depth notes k line) (sym (length-levels fs))

same_count : (notes : Excess) (fs : List Frame) (os : Options) (line : ℕ) →
    with_count (with_depth notes (length fs) line) (count_of os) line ≡ with_count (with_depth notes (length (levels_of fs)) line) (at_most_65 (count_of os)) line
same_count notes fs os line =
    ap₂ (λ (m : Excess) (t : Bool). record { too_deep = m.too_deep; too_many = option_or notes.too_many (cond t (Some line) None) }) (same_depth notes fs line) (sym (eq-at_most (count_of os)))

next-levels : (notes : Excess) (fs : List Frame) (top : Held) (n : Asked) → outline_in (with_notes (with_depth notes (outside fs) n.head.line) (next_clause fs top n)) ≡ outline_clause (levels_of fs) notes n.head.line OfClause
next-levels notes [] top n = refl
next-levels notes (InOption k m before ∷ fs) top n = refl
next-levels notes (InClause m cs before ∷ fs) top n = ap (outlined (OfClause ∷ levels_of fs)) (same_depth notes fs n.head.line)
next-levels notes (InElse m cs before ∷ fs) top n = refl

last-levels : (notes : Excess) (fs : List Frame) (top : Held) (n : Head) → outline_in (with_notes (with_depth notes (outside fs) n.line) (last_clause fs top n)) ≡ outline_clause (levels_of fs) notes n.line OfElse
last-levels notes [] top n = refl
last-levels notes (InOption k m before ∷ fs) top n = refl
last-levels notes (InClause m cs before ∷ fs) top n = ap (outlined (OfElse ∷ levels_of fs)) (same_depth notes fs n.line)
last-levels notes (InElse m cs before ∷ fs) top n = refl

end-levels : (notes : Excess) (fs : List Frame) (top : Held) (n : Head) → outline_in (with_notes (with_depth notes (outside fs) n.line) (end_of_if fs top n)) ≡ outline_end (levels_of fs) notes n.line
end-levels notes [] top n = refl
end-levels notes (InOption k m before ∷ fs) top n = refl
end-levels notes (InClause m cs before ∷ fs) top n = ap (outlined (levels_of fs)) (same_depth notes fs n.line)
end-levels notes (InElse m cs before ∷ fs) top n = ap (outlined (levels_of fs)) (same_depth notes fs n.line)

taken-levels : (notes : Excess) (s : State) (i : ℕ) (w : What) →
    outline_in (with_notes (note notes s.frames s.top w) (taken s i w)) ≡ outline_taken (levels_of s.frames) (at_most_65 (count_of s.top.group)) notes (line_in w) i (shape_of w)
taken-levels notes s i (Statement n) = ap (outlined (levels_of s.frames)) (same_depth notes s.frames (line_of n))
taken-levels notes s i (Offer text condition) = ap (outlined (OfOption i (at_most_65 (count_of s.top.group)) ∷ levels_of s.frames)) (same_count notes s.frames s.top.group text.line)
taken-levels notes s i (If head condition) = ap (outlined (OfClause ∷ levels_of s.frames)) (same_depth notes s.frames head.line)
taken-levels notes s i (ElseIf head condition) = next-levels notes s.frames s.top (record { head = head; condition = condition })
taken-levels notes s i (Else head) = last-levels notes s.frames s.top head
taken-levels notes s i (EndIf head) = end-levels notes s.frames s.top head

placed-levels : (notes : Excess) (s : State) (x : Entry) → x.line ≡ line_in x.what → outline_in (noted_placed notes s x) ≡ outline_settled (rest_of s) notes (mark_of x)
placed-levels notes s x line =
    at_test (nat_lt x.indent (least s.frames))
    ∙ ap (λ l. cond (nat_lt x.indent l) None (outline_taken (levels_of s.frames) (at_most_65 (count_of s.top.group)) notes x.line x.indent (shape_of x.what))) (low-levels s.frames)
  where
    at_test : (t : Bool) → outline_in (with_notes (note notes s.frames s.top x.what) (cond t None (taken s x.indent x.what))) ≡ cond t None (outline_taken (levels_of s.frames) (at_most_65 (count_of s.top.group)) notes x.line x.indent (shape_of x.what))
    at_test true = refl
    at_test false = taken-levels notes s x.indent x.what ∙ ap (λ l. outline_taken (levels_of s.frames) (at_most_65 (count_of s.top.group)) notes l x.indent (shape_of x.what)) (sym line)

step-levels : (s : Noted) (x : Entry) → x.line ≡ line_in x.what → outline_in (noted_step s x) ≡ outline_step (outline_of s) (mark_of x)
step-levels s x line =
    placed-levels s.notes (settled x.indent s.frames s.top) x line
    ∙ ap (λ (r : Rest). outline_settled r s.notes (mark_of x)) (settled-levels x.indent s.frames s.top)

end-found : (fs : List Frame) (top : Held) (notes : Excess) → answer_at_end notes (ended fs top) ≡ verdict_end (levels_of fs) notes
end-found [] top notes = refl
end-found (InOption k n before ∷ fs) top notes = end-found fs (with_option before n (all_of top)) notes
end-found (InClause n cs before ∷ fs) top notes = refl
end-found (InElse n cs before ∷ fs) top notes = refl

answer-found : (xs : List Entry) (at : ℕ) (s : Noted) → HaveLines xs → answer_from at s xs ≡ verdict_from at (outline_of s) (marks_of xs)
answer-found [] at s h = end-found s.frames s.top s.notes
answer-found (x ∷ xs) at s h =
    at_step (noted_step s x) (λ t. answer-found xs (at + 1) t h.1) ∙ ap (verdict_after at x.line (λ p. verdict_from (at + 1) p (marks_of xs))) (step-levels s x h.0)
  where
    at_step : (o : Option Noted) → ((t : Noted) → answer_from (at + 1) t xs ≡ verdict_from (at + 1) (outline_of t) (marks_of xs)) →
        answer_after at x.line (λ t. answer_from (at + 1) t xs) o ≡ verdict_after at x.line (λ p. verdict_from (at + 1) p (marks_of xs)) (outline_in o)
    at_step None more = refl
    at_step (Some t) more = more t

-- what is found of the marks is so of the entries
pub marks_tell : (xs : List Entry) → HaveLines xs → IsVerdict xs (verdict_in (marks_of xs))
marks_tell xs h = subst (IsVerdict xs) (answer-found xs 0 noted_start h) (right xs)
