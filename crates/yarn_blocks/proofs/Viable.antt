-- The reading goes on exactly where what was read can become a block.
use Rattle.std.proofs.Common.{◌≡◌, ℕ, ◌≤◌, Bool, true, false, cond, List, [], ◌∷◌, ◌++◌, Option, Some, None, refl, sym, ap, ◌∙◌, subst, arith, append-nil}
use mathlib.Core.Path.{ap₂}
use Rattle.std.specs.Prelude.{nat_lt, option_and_then, MatchOption}
use Rattle.std.proofs.lemmas.Bool.Decides.{nat_tests}
use Rattle.yarn_blocks.specs.declared.tree.Head.{Head}
use Rattle.yarn_blocks.specs.declared.entry.Entry.{Entry}
use Rattle.yarn_blocks.specs.declared.entry.What.{What}
use Rattle.yarn_blocks.specs.declared.entry.What.TheVariants.{Statement, Offer, If, ElseIf, Else, EndIf}
use Rattle.yarn_blocks.specs.Tree.{Asked, Choice, Stmts, NoElse, ElseOf, deep_in, crowd_in}
use Rattle.yarn_blocks.specs.Block.{Block, Viable}
use Rattle.yarn_blocks.specs.Reading.{Held, nothing_held, all_of, with_stmt, with_option, with_clause, Frame, InOption, InClause, InElse, State, start, settled, least, next_clause, last_clause, end_of_if, taken, placed, step, go, read}
use Rattle.yarn_blocks.specs.Outline.{no_excess}
use Rattle.yarn_blocks.proofs.HeldLemmas.{whole, crowd-fresh}
use Rattle.yarn_blocks.proofs.Noted.{Noted, noted_resume, resume, resume-go, resume-notes, stmts_in}
use Rattle.yarn_blocks.proofs.Only.{From, Ends, ends-option, step-within, only}
use Rattle.yarn_blocks.proofs.Found.{Gives, found}

abbrev pub noted_start : Noted
noted_start = record { frames = []; top = nothing_held; notes = no_excess }

all-from : (xs : List Entry) → From 0 xs
all-from [] = tt
all-from (x ∷ xs) = (omega arith, all-from xs)

-- a block is read, with its statements and its notes
pub block-noted : {xs : List Entry} {b : Stmts} → Block xs [] b → noted_resume noted_start xs ≡ Some (record { stmts = b; notes = record { too_deep = deep_in 0 b; too_many = crowd_in b } })
block-noted {xs = xs} {b = b} r =
    ap (noted_resume noted_start) (sym (append-nil xs))
    ∙ only r noted_start (all-from xs)
    ∙ ap₂ (λ s c. Some (record { stmts = s; notes = record { too_deep = deep_in 0 b; too_many = c } })) (whole r) (crowd-fresh b)

pub block-read : {xs : List Entry} {b : Stmts} → Block xs [] b → read xs ≡ Some b
block-read {xs = xs} {b = b} r =
    resume-go xs start ∙ sym (resume-notes xs noted_start) ∙ ap stmts_in (block-noted r)

given-some : (xs : List Entry) (b : Stmts) → read xs ≡ Some b → Gives b (resume start xs)
given-some xs b e = subst (Gives b) (sym e ∙ resume-go xs start) refl

-- what is read is a block
pub read-block : (xs : List Entry) (b : Stmts) → read xs ≡ Some b → Block xs [] b
read-block xs b e =
    let r = found b xs start (given-some xs b e) in
    let none : r.back ≡ [] = r.goes.0 in
    let cut : xs ≡ r.front = r.cut ∙ ap (λ l. r.front ++ l) none ∙ append-nil r.front in
    let same : r.stmts ≡ b = sym (whole r.block) ∙ r.goes.1 in
    let here : Block r.front [] r.stmts = subst (λ l. Block r.front l r.stmts) none r.block in
    let there : Block xs [] r.stmts = subst (λ l. Block l [] r.stmts) (sym cut) here in
    subst (Block xs []) same there

-- one list stands for one block
pub one_block : {xs : List Entry} {b c : Stmts} → Block xs [] b → Block xs [] c → b ≡ c
one_block {b = b} {c = c} r q = ap (stmts_or b) (sym (block-read r) ∙ block-read q)
  where
    stmts_or : Stmts → Option Stmts → Stmts
    stmts_or other None = other
    stmts_or other (Some b) = b

-- the indents of open options rise inwards
abbrev pub Rises : List Frame → Type 0
Rises [] = Unit {0}
Rises (InOption k n before ∷ fs) = (least fs ≤ k) × Rises fs
Rises (InClause m sofar before ∷ fs) = Rises fs
Rises (InElse m sofar before ∷ fs) = Rises fs

-- an `endif`
abbrev pub no_head : Head
no_head = record { line = 0; tags = [] }

abbrev pub ending : ℕ → Entry
ending indent = record { line = 0; indent = indent; what = EndIf no_head }

-- entries that end each open `if`
abbrev pub endings : List Frame → List Entry
endings [] = []
endings (InOption k n before ∷ fs) = endings fs
endings (InClause m sofar before ∷ fs) = ending (least fs) ∷ endings fs
endings (InElse m sofar before ∷ fs) = ending (least fs) ∷ endings fs

endings-low : (fs : List Frame) (k : ℕ) → Rises fs → least fs ≤ k → Ends k (endings fs)
endings-low [] k r h = tt
endings-low (InOption j n before ∷ fs) k r h = endings-low fs k r.1 (omega (arith, r.0))
endings-low (InClause m sofar before ∷ fs) k r h = h
endings-low (InElse m sofar before ∷ fs) k r h = h

abbrev pub IsRead : Option Stmts → Type 0
IsRead None = ⊥
IsRead (Some b) = Unit {0}

endings-read : (fs : List Frame) (top : Held) → Rises fs → IsRead (resume (record { frames = fs; top = top }) (endings fs))
endings-read [] top r = tt
endings-read (InOption k n before ∷ fs) top r =
    subst IsRead (sym (ends-option (endings fs) k n before fs top (endings-low fs k r.1 r.0))) (endings-read fs (with_option before n (all_of top)) r.1)
endings-read (InClause m sofar before ∷ fs) top r =
    subst IsRead (sym (ap (option_and_then (λ t. resume t (endings fs))) (step-within (record { frames = InClause m sofar before ∷ fs; top = top }) (ending (least fs)) (EndIf no_head) (omega arith) refl)))
    (endings-read fs (with_stmt before (Choice (with_clause sofar m (all_of top)) NoElse no_head)) r)
endings-read (InElse m sofar before ∷ fs) top r =
    subst IsRead (sym (ap (option_and_then (λ t. resume t (endings fs))) (step-within (record { frames = InElse m sofar before ∷ fs; top = top }) (ending (least fs)) (EndIf no_head) (omega arith) refl)))
    (endings-read fs (with_stmt before (Choice sofar (ElseOf m (all_of top)) no_head)) r)

-- each state that is reached rises
abbrev RisesIn : Option State → Type 0
RisesIn None = Unit {0}
RisesIn (Some s) = Rises s.frames

settled-rises : (i : ℕ) (fs : List Frame) (top : Held) → Rises fs → Rises (settled i fs top).frames
settled-rises i [] top r = tt
settled-rises i (InOption k n before ∷ fs) top r = at_test (nat_lt k i) (settled-rises i fs (with_option before n (all_of top)) r.1)
  where
    at_test : (t : Bool) → Rises (settled i fs (with_option before n (all_of top))).frames → Rises (cond t (record { frames = InOption k n before ∷ fs; top = top }) (settled i fs (with_option before n (all_of top)))).frames
    at_test true more = r
    at_test false more = more
settled-rises i (InClause m sofar before ∷ fs) top r = r
settled-rises i (InElse m sofar before ∷ fs) top r = r

next-rises : (fs : List Frame) (top : Held) (n : Asked) → Rises fs → RisesIn (next_clause fs top n)
next-rises [] top n r = tt
next-rises (InOption k m before ∷ fs) top n r = tt
next-rises (InClause m sofar before ∷ fs) top n r = r
next-rises (InElse m sofar before ∷ fs) top n r = tt

last-rises : (fs : List Frame) (top : Held) (n : Head) → Rises fs → RisesIn (last_clause fs top n)
last-rises [] top n r = tt
last-rises (InOption k m before ∷ fs) top n r = tt
last-rises (InClause m sofar before ∷ fs) top n r = r
last-rises (InElse m sofar before ∷ fs) top n r = tt

end-rises : (fs : List Frame) (top : Held) (n : Head) → Rises fs → RisesIn (end_of_if fs top n)
end-rises [] top n r = tt
end-rises (InOption k m before ∷ fs) top n r = tt
end-rises (InClause m sofar before ∷ fs) top n r = r
end-rises (InElse m sofar before ∷ fs) top n r = r

taken-rises : (s : State) (i : ℕ) (w : What) → Rises s.frames → least s.frames ≤ i → RisesIn (taken s i w)
taken-rises s i (Statement n) r h = r
taken-rises s i (Offer text condition) r h = (h, r)
taken-rises s i (If head condition) r h = r
taken-rises s i (ElseIf head condition) r h = next-rises s.frames s.top (record { head = head; condition = condition }) r
taken-rises s i (Else head) r h = last-rises s.frames s.top head r
taken-rises s i (EndIf head) r h = end-rises s.frames s.top head r

placed-rises : (s : State) (x : Entry) → Rises s.frames → RisesIn (placed s x)
placed-rises s x r = at_test (nat_lt x.indent (least s.frames)) refl
  where
    at_test : (t : Bool) → nat_lt x.indent (least s.frames) ≡ t → RisesIn (cond t None (taken s x.indent x.what))
    at_test true is = tt
    at_test false is = taken-rises s x.indent x.what r (grind (arith, nat_tests))

go-rises : (xs : List Entry) (s : State) → Rises s.frames → RisesIn (go s xs)
go-rises [] s r = r
go-rises (x ∷ xs) s r = at_step (step s x) (placed-rises (settled x.indent s.frames s.top) x (settled-rises x.indent s.frames s.top r)) (go-rises xs)
  where
    at_step : (o : Option State) → RisesIn o → ((s : State) → Rises s.frames → RisesIn (go s xs)) → RisesIn (option_and_then (λ t. go t xs) o)
    at_step None h more = tt
    at_step (Some t) h more = more t h

resume-append : (xs ys : List Entry) (s : State) → resume s (xs ++ ys) ≡ option_and_then (λ t. resume t ys) (go s xs)
resume-append [] ys s = refl
resume-append (x ∷ xs) ys s = at_step (step s x) (resume-append xs ys)
  where
    at_step : (o : Option State) → ((s : State) → resume s (xs ++ ys) ≡ option_and_then (λ t. resume t ys) (go s xs)) → option_and_then (λ t. resume t (xs ++ ys)) o ≡ option_and_then (λ t. resume t ys) (option_and_then (λ t. go t xs) o)
    at_step None more = refl
    at_step (Some t) more = more t

-- where the reading goes on, the entries can become a block
pub goes_on-viable : (xs : List Entry) (s : State) → go start xs ≡ Some s → Viable xs
goes_on-viable xs s e = at_body (resume s (endings s.frames)) refl (endings-read s.frames s.top (subst RisesIn e (go-rises xs start tt)))
  where
    at_body : (o : Option Stmts) → resume s (endings s.frames) ≡ o → IsRead o → Viable xs
    at_body None is h = absurd h
    at_body (Some body) is h = record {
      more = endings s.frames;
      stmts = body;
      block = read-block (xs ++ endings s.frames) body (
          resume-go (xs ++ endings s.frames) start ∙ resume-append xs (endings s.frames) start ∙ ap (option_and_then (λ t. resume t (endings s.frames))) e ∙ is);
    }

-- where it refuses, they can't
pub refused-not_viable : (xs : List Entry) → go start xs ≡ None → Viable xs → ⊥
refused-not_viable xs e v =
    let all : read (xs ++ v.more) ≡ None = resume-go (xs ++ v.more) start ∙ resume-append xs v.more start ∙ ap (option_and_then (λ t. resume t v.more)) e in
    let some = block-read v.block in
    subst IsRead (sym some ∙ all) tt

pub viable : (xs : List Entry) → MatchOption (go start xs) (Viable xs → ⊥) (λ _. Viable xs)
viable xs = at_state (go start xs) refl
  where
    at_state : (o : Option State) → go start xs ≡ o → MatchOption o (Viable xs → ⊥) (λ _. Viable xs)
    at_state None e = refused-not_viable xs e
    at_state (Some s) e = goes_on-viable xs s e
