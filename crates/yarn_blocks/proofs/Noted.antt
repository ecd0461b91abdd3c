-- The reading with notes: the first line that is too deep, and the first 65th option.
use Rattle.std.proofs.Common.{◌≡◌, ℕ, List, [], ◌∷◌, length, Option, Some, None, refl}
use Rattle.std.specs.Prelude.{option_and_then}
use Rattle.yarn_blocks.specs.declared.entry.Entry.{Entry}
use Rattle.yarn_blocks.specs.declared.entry.What.{What}
use Rattle.yarn_blocks.specs.declared.entry.What.TheVariants.{Statement, Offer, If, ElseIf, Else, EndIf}
use Rattle.yarn_blocks.specs.Entries.{line_of}
use Rattle.yarn_blocks.specs.Tree.{Stmts}
use Rattle.yarn_blocks.specs.declared.verdict.Excess.{Excess}
use Rattle.yarn_blocks.specs.Reading.{Held, Frame, State, settled, placed, step, go, finish}
use Rattle.yarn_blocks.specs.Outline.{with_depth, with_count}
use Rattle.yarn_blocks.proofs.HeldLemmas.{count_of}

pub record Noted : Type 0 where
  pub frames : List Frame
  pub top : Held
  pub notes : Excess

pub record Body : Type 0 where
  pub stmts : Stmts
  pub notes : Excess

-- how deep the innermost `if` stands
abbrev pub outside : List Frame → ℕ
outside [] = 0
outside (f ∷ fs) = length fs

abbrev pub note : Excess → List Frame → Held → What → Excess
note notes fs top (Statement n) = with_depth notes (length fs) (line_of n)
note notes fs top (Offer text condition) = with_count (with_depth notes (length fs) text.line) (count_of top.group) text.line
note notes fs top (If head condition) = with_depth notes (length fs) head.line
note notes fs top (ElseIf head condition) = with_depth notes (outside fs) head.line
note notes fs top (Else head) = with_depth notes (outside fs) head.line
note notes fs top (EndIf head) = with_depth notes (outside fs) head.line

abbrev pub with_notes : Excess → Option State → Option Noted
with_notes notes None = None
with_notes notes (Some s) = Some (record { frames = s.frames; top = s.top; notes = notes })

abbrev pub noted_placed : Excess → State → Entry → Option Noted
noted_placed notes s x = with_notes (note notes s.frames s.top x.what) (placed s x)

abbrev pub noted_step : Noted → Entry → Option Noted
noted_step s x = noted_placed s.notes (settled x.indent s.frames s.top) x

abbrev pub body_with : Excess → Option Stmts → Option Body
body_with notes None = None
body_with notes (Some b) = Some (record { stmts = b; notes = notes })

abbrev pub state_in : Noted → State
state_in s = record { frames = s.frames; top = s.top }

-- what the entries give from there
abbrev pub noted_resume : Noted → List Entry → Option Body
noted_resume s [] = body_with s.notes (finish (state_in s))
noted_resume s (x ∷ xs) = option_and_then (λ t. noted_resume t xs) (noted_step s x)

-- the same without notes
abbrev pub resume : State → List Entry → Option Stmts
resume s [] = finish s
resume s (x ∷ xs) = option_and_then (λ t. resume t xs) (step s x)

pub resume-go : (xs : List Entry) (s : State) → option_and_then finish (go s xs) ≡ resume s xs
resume-go [] s = refl
resume-go (x ∷ xs) s = at_step (step s x) (resume-go xs)
  where
    at_step : (o : Option State) → ((s : State) → option_and_then finish (go s xs) ≡ resume s xs) → option_and_then finish (option_and_then (λ t. go t xs) o) ≡ option_and_then (λ t. resume t xs) o
    at_step None more = refl
    at_step (Some t) more = more t

abbrev pub stmts_in : Option Body → Option Stmts
stmts_in None = None
stmts_in (Some body) = Some body.stmts

-- notes change nothing
pub resume-notes : (xs : List Entry) (s : Noted) → stmts_in (noted_resume s xs) ≡ resume (state_in s) xs
resume-notes [] s = at_end (finish (state_in s))
  where
    at_end : (o : Option Stmts) → stmts_in (body_with s.notes o) ≡ o
    at_end None = refl
    at_end (Some b) = refl
resume-notes (x ∷ xs) s =
    at_step (placed (settled x.indent s.frames s.top) x) (note s.notes (settled x.indent s.frames s.top).frames (settled x.indent s.frames s.top).top x.what) (resume-notes xs)
  where
    at_step : (o : Option State) (notes : Excess) → ((t : Noted) → stmts_in (noted_resume t xs) ≡ resume (state_in t) xs) →
        stmts_in (option_and_then (λ t. noted_resume t xs) (with_notes notes o)) ≡ option_and_then (λ t. resume t xs) o
    at_step None notes more = refl
    at_step (Some t) notes more = more (record { frames = t.frames; top = t.top; notes = notes })
