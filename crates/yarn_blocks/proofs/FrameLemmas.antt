-- The frames are fewer once an option is closed, and shallow entries are read.
use Rattle.std.proofs.Common.{◌≡◌, ℕ, suc, ◌<◌, true, List, [], ◌∷◌, length, Option, Some, None, refl, sym, ap, ◌∙◌, subst, arith}
use Rattle.yarn_blocks.specs.declared.entry.Entry.{Entry}
use Rattle.yarn_blocks.specs.declared.verdict.Excess.{Excess}
use Rattle.yarn_blocks.specs.declared.frame.Frame.{Frame}
use Rattle.yarn_blocks.specs.declared.frame.Frame.TheVariants.{InOption, InClause, InElse}
use Rattle.yarn_blocks.specs.declared.reading.Reading.{Reading}
use Rattle.yarn_blocks.specs.declared.reading.Fault.{Fault}
use Rattle.yarn_blocks.specs.declared.reading.Fault.TheVariants.{Refused}
use Rattle.yarn_blocks.specs.Tree.{Stmts}
use Rattle.yarn_blocks.specs.Block.{Block}
use Rattle.yarn_blocks.specs.Reading.{State, read}
use Rattle.yarn_blocks.specs.Frames.{frames_of, held_of, ends_frame}
use Rattle.yarn_blocks.specs.Building.{state_of, closed, closed_in, Refuses}
use Rattle.yarn_blocks.specs.Verdict.{IsBlock, IsShallow}
use Rattle.yarn_blocks.proofs.Viable.{block-read, read-block}

length-frames : (fs : List Frame) → length (frames_of fs) ≡ length fs
length-frames [] = refl
length-frames (f ∷ fs) = ap suc (length-frames fs)

closed-less : (i : ℕ) (fs : List Frame) (r : Reading) → ends_frame i fs ≡ true → length (closed_in (frames_of fs) (held_of r.top)).frames < length (frames_of fs)
closed-less i [] r e = absurd (cc)
closed-less i (InOption k text condition before ∷ fs) r e = omega arith
closed-less i (InClause head condition cs before ∷ fs) r e = absurd (cc)
closed-less i (InElse head cs before ∷ fs) r e = absurd (cc)

pub closed-shorter : (i : ℕ) (old new : Reading) → ends_frame i old.frames ≡ true → state_of new ≡ closed (state_of old) → length new.frames < length old.frames
closed-shorter i old new e same =
    let now : length (frames_of new.frames) ≡ length (closed (state_of old)).frames = ap (λ (s : State). length s.frames) same in
    let less : length (closed (state_of old)).frames < length (frames_of old.frames) = closed-less i old.frames old e in
    omega (arith, length-frames new.frames, length-frames old.frames)

-- what `build` reads, by the parts of the lines
pub not_refused : (xs : List Entry) (o : Option Stmts) (f : Fault) → read xs ≡ o → f ≡ Refused → Refuses f o → IsShallow xs → ⊥
not_refused xs o f same is e shallow =
    let none : o ≡ None = subst (λ f. Refuses f o) is e in
    let some : read xs ≡ Some shallow.stmts = block-read shallow.block in
    absurd (cc)

pub built : (xs : List Entry) (o : Option Stmts) (b : Stmts) → read xs ≡ o → o ≡ Some b → Block xs [] b
built xs o b same e = read-block xs b (same ∙ e)

pub block-shallow : (xs : List Entry) (excess : Excess) → IsBlock xs excess → excess.too_deep ≡ None → IsShallow xs
block-shallow xs excess block none = record { stmts = block.stmts; block = block.block; shallow = sym block.deep ∙ none }
