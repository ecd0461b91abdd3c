-- What is found of the entries is so: a block with its notes, or the first place after which nothing could be right.
use Rattle.std.proofs.Common.{◌≡◌, ℕ, ◌+◌, List, [], ◌∷◌, ◌++◌, length, Option, Some, None, refl, sym, ap, ◌∙◌, subst, append_assoc, append-nil, length-append}
use Rattle.std.specs.Prelude.{option_and_then}
use Rattle.yarn_blocks.specs.declared.entry.Entry.{Entry}
use Rattle.yarn_blocks.specs.Tree.{Stmts, deep_in, crowd_in}
use Rattle.yarn_blocks.specs.Block.{Block, Viable}
use Rattle.yarn_blocks.specs.declared.verdict.Excess.{Excess}
use Rattle.yarn_blocks.specs.declared.verdict.Verdict.{Verdict}
use Rattle.yarn_blocks.specs.declared.verdict.Verdict.TheVariants as verdict
use Rattle.yarn_blocks.specs.Reading.{State, start, go, settled, placed, finish, read}
use Rattle.yarn_blocks.specs.Verdict.{IsVerdict}
use Rattle.yarn_blocks.proofs.Noted.{Noted, Body, note, with_notes, noted_step, body_with, state_in, noted_resume}
use Rattle.yarn_blocks.proofs.Viable.{noted_start, block-noted, block-read, read-block, goes_on-viable, refused-not_viable}

-- what begins entries that can become a block can
pub Viable-front : (a b : List Entry) → Viable (a ++ b) → Viable a
Viable-front a b v = record { more = b ++ v.more; stmts = v.stmts; block = subst (λ l. Block l [] v.stmts) (append_assoc a b v.more) v.block }

-- the answer of the reading with notes
abbrev pub answer_at_end : Excess → Option Stmts → Verdict
answer_at_end notes None = verdict.Unfinished
answer_at_end notes (Some b) = verdict.Block notes

abbrev pub answer_after : ℕ → ℕ → (Noted → Verdict) → Option Noted → Verdict
answer_after at line more None = verdict.Bad at line
answer_after at line more (Some s) = more s

abbrev pub answer_from : ℕ → Noted → List Entry → Verdict
answer_from at s [] = answer_at_end s.notes (finish (state_in s))
answer_from at s (x ∷ xs) = answer_after at x.line (λ t. answer_from (at + 1) t xs) (noted_step s x)

-- the reading with notes goes on from the start
abbrev pub noted_go : Noted → List Entry → Option Noted
noted_go s [] = Some s
noted_go s (x ∷ xs) = option_and_then (λ t. noted_go t xs) (noted_step s x)

noted-append : (xs ys : List Entry) (s : Noted) → noted_go s (xs ++ ys) ≡ option_and_then (λ t. noted_go t ys) (noted_go s xs)
noted-append [] ys s = refl
noted-append (x ∷ xs) ys s = at_step (noted_step s x) (noted-append xs ys)
  where
    at_step : (o : Option Noted) → ((s : Noted) → noted_go s (xs ++ ys) ≡ option_and_then (λ t. noted_go t ys) (noted_go s xs)) → option_and_then (λ t. noted_go t (xs ++ ys)) o ≡ option_and_then (λ t. noted_go t ys) (option_and_then (λ t. noted_go t xs) o)
    at_step None more = refl
    at_step (Some t) more = more t

noted-one : (front : List Entry) (x : Entry) (s : Noted) → noted_go noted_start front ≡ Some s → noted_go noted_start (front ++ x ∷ []) ≡ noted_step s x
noted-one front x s e = noted-append front (x ∷ []) noted_start ∙ ap (option_and_then (λ t. noted_go t (x ∷ []))) e ∙ at_step (noted_step s x)
  where
    at_step : (o : Option Noted) → option_and_then (λ t. noted_go t []) o ≡ o
    at_step None = refl
    at_step (Some t) = refl

noted-resume : (xs : List Entry) (s : Noted) → noted_resume s xs ≡ option_and_then (λ t. noted_resume t []) (noted_go s xs)
noted-resume [] s = refl
noted-resume (x ∷ xs) s = at_step (noted_step s x) (noted-resume xs)
  where
    at_step : (o : Option Noted) → ((s : Noted) → noted_resume s xs ≡ option_and_then (λ t. noted_resume t []) (noted_go s xs)) → option_and_then (λ t. noted_resume t xs) o ≡ option_and_then (λ t. noted_resume t []) (option_and_then (λ t. noted_go t xs) o)
    at_step None more = refl
    at_step (Some t) more = more t

abbrev pub state_or : Option Noted → Option State
state_or None = None
state_or (Some s) = Some (state_in s)

-- notes change nothing
go-notes : (xs : List Entry) (s : Noted) → state_or (noted_go s xs) ≡ go (state_in s) xs
go-notes [] s = refl
go-notes (x ∷ xs) s =
    at_step (placed (settled x.indent s.frames s.top) x) (note s.notes (settled x.indent s.frames s.top).frames (settled x.indent s.frames s.top).top x.what) (go-notes xs)
  where
    at_step : (o : Option State) (notes : Excess) → ((t : Noted) → state_or (noted_go t xs) ≡ go (state_in t) xs) →
        state_or (option_and_then (λ t. noted_go t xs) (with_notes notes o)) ≡ option_and_then (λ t. go t xs) o
    at_step None notes more = refl
    at_step (Some t) notes more = more (record { frames = t.frames; top = t.top; notes = notes })

viable-so_far : (front : List Entry) (s : Noted) → noted_go noted_start front ≡ Some s → Viable front
viable-so_far front s e = goes_on-viable front (state_in s) (sym (go-notes front noted_start) ∙ ap state_or e)

refused-now : (front : List Entry) → noted_go noted_start front ≡ None → Viable front → ⊥
refused-now front e = refused-not_viable front (sym (go-notes front noted_start) ∙ ap state_or e)

abbrev notes_or : Excess → Option Body → Excess
notes_or other None = other
notes_or other (Some body) = body.notes

answered : (xs front : List Entry) (s : Noted) (at : ℕ) → at ≡ length front → noted_go noted_start front ≡ Some s → IsVerdict (front ++ xs) (answer_from at s xs)
answered [] front s at n e = subst (λ l. IsVerdict l (answer_at_end s.notes (finish (state_in s)))) (sym (append-nil front)) (at_end (finish (state_in s)) refl)
  where
    state : go start front ≡ Some (state_in s)
    state = sym (go-notes front noted_start) ∙ ap state_or e

    at_end : (o : Option Stmts) → finish (state_in s) ≡ o → IsVerdict front (answer_at_end s.notes o)
    at_end (Some b) f =
        let all : read front ≡ Some b = ap (option_and_then finish) state ∙ f in
        let block : Block front [] b = read-block front b all in
        let body : noted_resume noted_start front ≡ Some (record { stmts = b; notes = s.notes }) =
        noted-resume front noted_start ∙ ap (option_and_then (λ t. noted_resume t [])) e ∙ ap (body_with s.notes) f in
        let same : s.notes ≡ record { too_deep = deep_in 0 b; too_many = crowd_in b } = ap (notes_or s.notes) (sym body ∙ block-noted block) in
        record { stmts = b; block = block; deep = ap (λ (m : Excess). m.too_deep) same; crowd = ap (λ (m : Excess). m.too_many) same }
    at_end None f = record {
      viable = viable-so_far front s e;
      none = λ b block. let none : read front ≡ None = ap (option_and_then finish) state ∙ f in let some = block-read block in absurd (cc);
    }
answered (x ∷ xs) front s at n e = at_step (noted_step s x) refl (λ t. answered xs (front ++ x ∷ []) t (at + 1))
  where
    at_step : (o : Option Noted) → noted_step s x ≡ o → ((t : Noted) → at + 1 ≡ length (front ++ x ∷ []) → noted_go noted_start (front ++ x ∷ []) ≡ Some t → IsVerdict ((front ++ x ∷ []) ++ xs) (answer_from (at + 1) t xs)) →
        IsVerdict (front ++ x ∷ xs) (answer_after at x.line (λ t. answer_from (at + 1) t xs) o)
    at_step None f more = record {
      front = front;
      entry = x;
      rest = xs;
      cut = refl;
      place = n;
      stands = refl;
      before = viable-so_far front s e;
      here = refused-now (front ++ x ∷ []) (noted-one front x s e ∙ f);
    }
    at_step (Some t) f more =
        subst (λ l. IsVerdict l (answer_from (at + 1) t xs)) (append_assoc front (x ∷ []) xs) (more t (ap (λ k. k + 1) n ∙ sym (length-append front (x ∷ []))) (noted-one front x s e ∙ f))

-- what the reading answers is so
pub right : (xs : List Entry) → IsVerdict xs (answer_from 0 noted_start xs)
right xs = answered xs [] noted_start 0 refl refl
