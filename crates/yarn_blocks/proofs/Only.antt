-- What is a block is read.
use Rattle.std.proofs.Common.{◌≡◌, ℕ, suc, ◌+◌, ◌<◌, ◌≤◌, Bool, true, false, cond, List, [], ◌∷◌, ◌++◌, length, Option, Some, None, refl, sym, ap, ◌∙◌, arith, append_assoc, add-one}
use mathlib.Core.Path.{ap₂}
use Rattle.std.specs.Prelude.{nat_lt, option_and_then}
use Rattle.std.specs.Option.{option_or}
use Rattle.std.proofs.lemmas.Bool.{ltb-true, lt-ltb}
use Rattle.std.proofs.lemmas.Bool.Decides.{nat_tests}
use Rattle.yarn_blocks.specs.declared.tree.Head.{Head}
use Rattle.yarn_blocks.specs.declared.entry.Entry.{Entry}
use Rattle.yarn_blocks.specs.declared.entry.What.{What}
use Rattle.yarn_blocks.specs.declared.entry.What.TheVariants.{Statement, Offer, If, ElseIf, Else, EndIf}
use Rattle.yarn_blocks.specs.Entries.{line_of}
use Rattle.yarn_blocks.specs.Tree.{Offered, Asked, Stmt, Leaf, Choice, Stmts, Cons, Options, NoOptions, AndOption, Clauses, NoClauses, AndClause, Last, NoElse, ElseOf, options_then, clauses_then, and_option, over_64, deep_in, deep_clauses, deep_last, behind_64, crowd_in, crowd_clauses, crowd_last}
use Rattle.yarn_blocks.specs.Block.{run_of, Block, empty, statement, option, choice, Tail, ends, otherwise, next}
use Rattle.yarn_blocks.specs.declared.verdict.Excess.{Excess}
use Rattle.yarn_blocks.specs.Reading.{Held, nothing_held, all_of, with_stmt, with_option, with_clause, Frame, InOption, InClause, InElse, State, settled, least, taken, placed, step}
use Rattle.yarn_blocks.specs.Outline.{with_depth, with_count}
use Rattle.yarn_blocks.proofs.HeldLemmas.{or-assoc, clauses-assoc, plus, plus-and_option, whole, deep-and_option, count_of, count-then, crowd_after, crowd-fresh, crowd-and_option}
use Rattle.yarn_blocks.proofs.Noted.{Noted, note, with_notes, noted_placed, noted_step, state_in, noted_resume, resume}

-- each entry has at least this indent
abbrev pub From : ℕ → List Entry → Type 0
From low [] = Unit {0}
From low (x ∷ xs) = (low ≤ x.indent) × From low xs

-- the first entry has at most this indent
abbrev pub Ends : ℕ → List Entry → Type 0
Ends k [] = Unit {0}
Ends k (x ∷ xs) = x.indent ≤ k

pub From-front : (low : ℕ) (a b : List Entry) → From low (a ++ b) → From low a
From-front low [] b h = tt
From-front low (x ∷ a) b h = (h.0, From-front low a b h.1)

pub From-back : (low : ℕ) (a b : List Entry) → From low (a ++ b) → From low b
From-back low [] b h = h
From-back low (x ∷ a) b h = From-back low a b h.1

abbrev tail_of : List Entry → List Entry
tail_of [] = []
tail_of (x ∷ xs) = xs

-- the run that is found is deep, and what is behind it ends it
pub run-deep : (k : ℕ) (run rest : List Entry) → run_of k (run ++ rest) ≡ run → From (k + 1) run
run-deep k [] rest e = tt
run-deep k (x ∷ run) rest e = at_test (nat_lt k x.indent) refl e (run-deep k run rest)
  where
    at_test : (t : Bool) → nat_lt k x.indent ≡ t → cond t (x ∷ run_of k (run ++ rest)) [] ≡ x ∷ run → (run_of k (run ++ rest) ≡ run → From (k + 1) run) → From (k + 1) (x ∷ run)
    at_test true is e more = (let h : k < x.indent = ltb-true k x.indent is in omega arith, more (ap tail_of e))
    at_test false is e more = absurd (cc)

pub run-ends : (k : ℕ) (run rest : List Entry) → run_of k (run ++ rest) ≡ run → Ends k rest
run-ends k [] [] e = tt
run-ends k [] (y ∷ ys) e = at_test (nat_lt k y.indent) refl e
  where
    at_test : (t : Bool) → nat_lt k y.indent ≡ t → cond t (y ∷ run_of k ys) [] ≡ [] → y.indent ≤ k
    at_test true is e = absurd (cc)
    at_test false is e = grind (arith, nat_tests)
run-ends k (x ∷ run) rest e = at_test (nat_lt k x.indent) refl e (run-ends k run rest)
  where
    at_test : (t : Bool) → nat_lt k x.indent ≡ t → cond t (x ∷ run_of k (run ++ rest)) [] ≡ x ∷ run → (run_of k (run ++ rest) ≡ run → Ends k rest) → Ends k rest
    at_test true is e more = more (ap tail_of e)
    at_test false is e more = absurd (cc)

test-above : (k i : ℕ) → k + 1 ≤ i → nat_lt k i ≡ true
test-above k i h = lt-ltb k i (omega arith)

pub test-below : (k i : ℕ) → i ≤ k → nat_lt k i ≡ false
test-below k i h = grind (arith, nat_tests)

settled-within : (fs : List Frame) (i : ℕ) (top : Held) → least fs ≤ i → settled i fs top ≡ record { frames = fs; top = top }
settled-within [] i top h = refl
settled-within (InOption k n before ∷ fs) i top h = rw (test-above k i h) refl
settled-within (InClause n cs before ∷ fs) i top h = refl
settled-within (InElse n cs before ∷ fs) i top h = refl

-- an entry that is deep enough ends nothing
pub step-within : (s : State) (x : Entry) (w : What) → least s.frames ≤ x.indent → x.what ≡ w → step s x ≡ taken s x.indent w
step-within s x w h e =
    ap (λ t. placed t x) (settled-within s.frames x.indent s.top h)
    ∙ (ap (λ b. cond b None (taken s x.indent x.what)) (test-below x.indent (least s.frames) h) ∙ ap (taken s x.indent) e)

noted-within : (s : Noted) (x : Entry) (w : What) → least s.frames ≤ x.indent → x.what ≡ w → noted_step s x ≡ with_notes (note s.notes s.frames s.top w) (taken (state_in s) x.indent w)
noted-within s x w h e =
    ap (λ t. noted_placed s.notes t x) (settled-within s.frames x.indent s.top h)
    ∙ (ap (λ b. with_notes (note s.notes s.frames s.top x.what) (cond b None (taken (state_in s) x.indent x.what))) (test-below x.indent (least s.frames) h)
    ∙ ap (λ v. with_notes (note s.notes s.frames s.top v) (taken (state_in s) x.indent v)) e)

-- an entry that isn't deeper ends an option, and so does the end
pub ends-option : (ys : List Entry) (k : ℕ) (n : Offered) (before : Held) (fs : List Frame) (top : Held) → Ends k ys →
    resume (record { frames = InOption k n before ∷ fs; top = top }) ys ≡ resume (record { frames = fs; top = with_option before n (all_of top) }) ys
ends-option [] k n before fs top h = refl
ends-option (y ∷ ys) k n before fs top h = rw (test-below k y.indent h) refl

noted-ends : (ys : List Entry) (k : ℕ) (n : Offered) (before : Held) (fs : List Frame) (top : Held) (notes : Excess) → Ends k ys →
    noted_resume (record { frames = InOption k n before ∷ fs; top = top; notes = notes }) ys ≡ noted_resume (record { frames = fs; top = with_option before n (all_of top); notes = notes }) ys
noted-ends [] k n before fs top notes h = refl
noted-ends (y ∷ ys) k n before fs top notes h = rw (test-below k y.indent h) refl

-- the statements are read after what was read
abbrev pub after : Noted → Stmts → Noted
after s b = record {
  frames = s.frames;
  top = plus s.top b;
  notes = record { too_deep = option_or s.notes.too_deep (deep_in (length s.frames) b); too_many = option_or s.notes.too_many (crowd_after (count_of s.top.group) b) };
}

-- two states that differ in their notes alone
same_notes : (fs : List Frame) (top : Held) (behind : List Entry) {d e c o : Option ℕ} → d ≡ e → c ≡ o →
    noted_resume (record { frames = fs; top = top; notes = record { too_deep = d; too_many = c } }) behind ≡ noted_resume (record { frames = fs; top = top; notes = record { too_deep = e; too_many = o } }) behind
same_notes fs top behind p q = ap₂ (λ d c. noted_resume (record { frames = fs; top = top; notes = record { too_deep = d; too_many = c } }) behind) p q

-- four notes in a row are one
or-four : {A : Type 0} (a b c d : Option A) → option_or (option_or (option_or a b) c) d ≡ option_or a (option_or b (option_or c d))
or-four a b c d = or-assoc (option_or a b) c d ∙ or-assoc a b (option_or c d)

or-none : {A : Type 0} (a : Option A) → option_or a None ≡ a
or-none None = refl
or-none (Some x) = refl

-- the first deep line of what is left of an `if`
abbrev pub tail_deep : ℕ → Clauses → Last → Head → Option ℕ
tail_deep depth cs last e = option_or (deep_clauses depth cs) (option_or (deep_last depth last) (over_64 depth e.line))

-- its first 65th option
abbrev pub tail_crowd : Clauses → Last → Option ℕ
tail_crowd cs last = option_or (crowd_clauses cs) (crowd_last last)

option-deep : (deep : Option ℕ) (depth : ℕ) (n : Offered) (body b : Stmts) → option_or (option_or (option_or deep (over_64 depth n.text.line)) (deep_in (suc depth) body)) (deep_in depth b) ≡ option_or deep (deep_in depth (and_option n body b))
option-deep deep depth n body b =
    or-four deep (over_64 depth n.text.line) (deep_in (suc depth) body) (deep_in depth b)
    ∙ ap (λ k. option_or deep (option_or (over_64 depth n.text.line) (option_or (deep_in k body) (deep_in depth b)))) (sym (add-one depth))
    ∙ ap (option_or deep) (sym (deep-and_option depth n body b))

next-deep : (deep : Option ℕ) (depth : ℕ) (n : Asked) (b : Stmts) (cs : Clauses) (last : Last) (e : Head) → option_or (option_or (option_or deep (over_64 depth n.head.line)) (deep_in (suc depth) b)) (tail_deep depth cs last e) ≡ option_or deep (tail_deep depth (AndClause n b cs) last e)
next-deep deep depth n b cs last e =
    let more : Option ℕ = option_or (deep_last depth last) (over_64 depth e.line) in
    or-four deep (over_64 depth n.head.line) (deep_in (suc depth) b) (tail_deep depth cs last e)
    ∙ ap (λ k. option_or deep (option_or (over_64 depth n.head.line) (option_or (deep_in k b) (tail_deep depth cs last e)))) (sym (add-one depth))
    ∙ ap (option_or deep) (sym (or-assoc (over_64 depth n.head.line) (option_or (deep_in (depth + 1) b) (deep_clauses depth cs)) more ∙ ap (option_or (over_64 depth n.head.line)) (or-assoc (deep_in (depth + 1) b) (deep_clauses depth cs) more)))

choice-deep : (deep : Option ℕ) (depth : ℕ) (n : Asked) (b : Stmts) (cs : Clauses) (last : Last) (e : Head) (c : Stmts) →
    option_or (option_or (option_or (option_or deep (over_64 depth n.head.line)) (deep_in (suc depth) b)) (tail_deep depth cs last e)) (deep_in depth c) ≡ option_or deep (deep_in depth (Cons (Choice (AndClause n b cs) last e) c))
choice-deep deep depth n b cs last e c =
    ap (λ o. option_or o (deep_in depth c)) (next-deep deep depth n b cs last e) ∙ or-assoc deep (tail_deep depth (AndClause n b cs) last e) (deep_in depth c)

else-deep : (deep : Option ℕ) (depth : ℕ) (n : Head) (b : Stmts) (e : Head) → option_or (option_or (option_or deep (over_64 depth n.line)) (deep_in (suc depth) b)) (over_64 depth e.line) ≡ option_or deep (tail_deep depth NoClauses (ElseOf n b) e)
else-deep deep depth n b e =
    or-four deep (over_64 depth n.line) (deep_in (suc depth) b) (over_64 depth e.line)
    ∙ ap (λ k. option_or deep (option_or (over_64 depth n.line) (option_or (deep_in k b) (over_64 depth e.line)))) (sym (add-one depth))
    ∙ ap (option_or deep) (sym (or-assoc (over_64 depth n.line) (deep_in (depth + 1) b) (over_64 depth e.line)))

option-crowd : (crowd : Option ℕ) (group : Options) (n : Offered) (body b : Stmts) →
    option_or (option_or (option_or crowd (behind_64 (count_of group) n.text.line)) (crowd_after 0 body)) (crowd_after (count_of (options_then group (AndOption n body NoOptions))) b) ≡ option_or crowd (crowd_after (count_of group) (and_option n body b))
option-crowd crowd group n body b =
    or-four crowd (behind_64 (count_of group) n.text.line) (crowd_after 0 body) (crowd_after (count_of (options_then group (AndOption n body NoOptions))) b)
    ∙ ap₂ (λ u k. option_or crowd (option_or (behind_64 (count_of group) n.text.line) (option_or u (crowd_after k b)))) (crowd-fresh body) (count-then group n body)
    ∙ ap (option_or crowd) (sym (crowd-and_option (count_of group) n body b))

next-crowd : (crowd : Option ℕ) (n : Asked) (b : Stmts) (cs : Clauses) (last : Last) → option_or (option_or crowd (crowd_after 0 b)) (tail_crowd cs last) ≡ option_or crowd (tail_crowd (AndClause n b cs) last)
next-crowd crowd n b cs last =
    or-assoc crowd (crowd_after 0 b) (tail_crowd cs last)
    ∙ ap (λ u. option_or crowd (option_or u (tail_crowd cs last))) (crowd-fresh b)
    ∙ ap (option_or crowd) (sym (or-assoc (crowd_in b) (crowd_clauses cs) (crowd_last last)))

choice-crowd : (crowd : Option ℕ) (n : Asked) (b : Stmts) (cs : Clauses) (last : Last) (e : Head) (c : Stmts) →
    option_or (option_or (option_or crowd (crowd_after 0 b)) (tail_crowd cs last)) (crowd_after 0 c) ≡ option_or crowd (crowd_in (Cons (Choice (AndClause n b cs) last e) c))
choice-crowd crowd n b cs last e c =
    ap₂ (λ u v. option_or u v) (next-crowd crowd n b cs last) (crowd-fresh c) ∙ or-assoc crowd (tail_crowd (AndClause n b cs) last) (crowd_in c)

mutual
  pub only : {xs behind : List Entry} {b : Stmts} → Block xs behind b → (s : Noted) → From (least s.frames) xs → noted_resume s (xs ++ behind) ≡ noted_resume (after s b) behind
  only (empty {behind = behind}) s low = same_notes s.frames s.top behind (sym (or-none s.notes.too_deep)) (sym (or-none s.notes.too_many))
  only (statement {x = x} {n = n} {xs = xs} {behind = behind} {b = b} w r) s low =
      ap (option_and_then (λ t. noted_resume t (xs ++ behind))) (noted-within s x (Statement n) low.0 w)
      ∙ only r (record { frames = s.frames; top = with_stmt s.top (Leaf n); notes = with_depth s.notes (length s.frames) (line_of n) }) low.1
      ∙ same_notes s.frames (plus s.top (Cons (Leaf n) b)) behind (or-assoc s.notes.too_deep (over_64 (length s.frames) (line_of n)) (deep_in (length s.frames) b)) (ap (option_or s.notes.too_many) (crowd-fresh b))
  only (option {x = x} {n = n} {run = run} {xs = xs} {behind = behind} {body = body} {b = b} w e first r) s low =
      let found : run_of x.indent (run ++ (xs ++ behind)) ≡ run = ap (run_of x.indent) (sym (append_assoc run xs behind)) ∙ e in
      let n1 : Excess = with_count (with_depth s.notes (length s.frames) n.text.line) (count_of s.top.group) n.text.line in
      let inside : Noted = record { frames = InOption x.indent n s.top ∷ s.frames; top = nothing_held; notes = n1 } in
      let n2 : Excess = record { too_deep = option_or n1.too_deep (deep_in (suc (length s.frames)) body); too_many = option_or n1.too_many (crowd_after 0 body) } in
      ap (option_and_then (λ t. noted_resume t ((run ++ xs) ++ behind))) (noted-within s x (Offer n.text n.condition) low.0 w)
      ∙ ap (noted_resume inside) (append_assoc run xs behind)
      ∙ only first inside (run-deep x.indent run (xs ++ behind) found)
      ∙ noted-ends (xs ++ behind) x.indent n s.top s.frames (plus nothing_held body) n2 (run-ends x.indent run (xs ++ behind) found)
      ∙ ap (λ v. noted_resume (record { frames = s.frames; top = with_option s.top n v; notes = n2 }) (xs ++ behind)) (whole first)
      ∙ only r (record { frames = s.frames; top = with_option s.top n body; notes = n2 }) (From-back (least s.frames) run xs low.1)
      ∙ ap (λ h. noted_resume (record { frames = s.frames; top = h; notes = record { too_deep = option_or n2.too_deep (deep_in (length s.frames) b); too_many = option_or n2.too_many (crowd_after (count_of (options_then s.top.group (AndOption n body NoOptions))) b) } }) behind) (sym (plus-and_option s.top n body b))
      ∙ same_notes s.frames (plus s.top (and_option n body b)) behind (option-deep s.notes.too_deep (length s.frames) n body b) (option-crowd s.notes.too_many s.top.group n body b)
  only (choice {x = x} {n = n} {e = e} {xs = xs} {rest = rest} {ys = ys} {behind = behind} {b = b} {c = c} {cs = cs} {last = last} w first more r) s low =
      let n1 : Excess = with_depth s.notes (length s.frames) n.head.line in
      let inside : Noted = record { frames = InClause n NoClauses s.top ∷ s.frames; top = nothing_held; notes = n1 } in
      let n2 : Excess = record { too_deep = option_or n1.too_deep (deep_in (suc (length s.frames)) b); too_many = option_or n1.too_many (crowd_after 0 b) } in
      let n3 : Excess = record { too_deep = option_or n2.too_deep (tail_deep (length s.frames) cs last e); too_many = option_or n2.too_many (tail_crowd cs last) } in
      let whole_if : Stmt = Choice (AndClause n b cs) last e in
      ap (option_and_then (λ t. noted_resume t ((xs ++ (rest ++ ys)) ++ behind))) (noted-within s x (If n.head n.condition) low.0 w)
      ∙ ap (noted_resume inside) (append_assoc xs (rest ++ ys) behind ∙ ap (λ l. xs ++ l) (append_assoc rest ys behind))
      ∙ only first inside (From-front (least s.frames) xs (rest ++ ys) low.1)
      ∙ only_tail more s.frames s.top n NoClauses (plus nothing_held b) n2 (From-front (least s.frames) rest ys (From-back (least s.frames) xs (rest ++ ys) low.1))
      ∙ ap (λ v. noted_resume (record { frames = s.frames; top = with_stmt s.top (Choice (AndClause n v cs) last e); notes = n3 }) (ys ++ behind)) (whole first)
      ∙ only r (record { frames = s.frames; top = with_stmt s.top whole_if; notes = n3 }) (From-back (least s.frames) rest ys (From-back (least s.frames) xs (rest ++ ys) low.1))
      ∙ same_notes s.frames (plus s.top (Cons whole_if c)) behind (choice-deep s.notes.too_deep (length s.frames) n b cs last e c) (choice-crowd s.notes.too_many n b cs last e c)

  pub only_tail : {xs behind : List Entry} {cs : Clauses} {last : Last} {e : Head} → Tail xs behind cs last e → (fs : List Frame) (before : Held) (m : Asked) (sofar : Clauses) (top : Held) (notes : Excess) → From (least fs) xs →
      noted_resume (record { frames = InClause m sofar before ∷ fs; top = top; notes = notes }) (xs ++ behind)
      ≡ noted_resume (record { frames = fs; top = with_stmt before (Choice (clauses_then sofar (AndClause m (all_of top) cs)) last e); notes = record { too_deep = option_or notes.too_deep (tail_deep (length fs) cs last e); too_many = option_or notes.too_many (tail_crowd cs last) } }) behind
  only_tail (ends {x = x} {e = e} {behind = behind} w) fs before m sofar top notes low =
      ap (option_and_then (λ t. noted_resume t behind)) (noted-within (record { frames = InClause m sofar before ∷ fs; top = top; notes = notes }) x (EndIf e) low.0 w)
      ∙ same_notes fs (with_stmt before (Choice (with_clause sofar m (all_of top)) NoElse e)) behind refl (sym (or-none notes.too_many))
  only_tail (otherwise {x = x} {y = y} {n = n} {e = e} {xs = xs} {behind = behind} {b = b} w first v) fs before m sofar top notes low =
      let clauses : Clauses = with_clause sofar m (all_of top) in
      let n1 : Excess = with_depth notes (length fs) n.line in
      let inside : Noted = record { frames = InElse n clauses before ∷ fs; top = nothing_held; notes = n1 } in
      let n2 : Excess = record { too_deep = option_or n1.too_deep (deep_in (suc (length fs)) b); too_many = option_or n1.too_many (crowd_after 0 b) } in
      ap (option_and_then (λ t. noted_resume t ((xs ++ y ∷ []) ++ behind))) (noted-within (record { frames = InClause m sofar before ∷ fs; top = top; notes = notes }) x (Else n) low.0 w)
      ∙ ap (noted_resume inside) (append_assoc xs (y ∷ []) behind)
      ∙ only first inside (From-front (least fs) xs (y ∷ []) low.1)
      ∙ ap (option_and_then (λ t. noted_resume t behind)) (noted-within (record { frames = InElse n clauses before ∷ fs; top = plus nothing_held b; notes = n2 }) y (EndIf e) (From-back (least fs) xs (y ∷ []) low.1).0 v)
      ∙ ap (λ u. noted_resume (record { frames = fs; top = with_stmt before (Choice clauses (ElseOf n u) e); notes = with_depth n2 (length fs) e.line }) behind) (whole first)
      ∙ same_notes fs (with_stmt before (Choice clauses (ElseOf n b) e)) behind (else-deep notes.too_deep (length fs) n b e) (ap (option_or notes.too_many) (crowd-fresh b))
  only_tail (next {x = x} {n = n} {e = e} {xs = xs} {rest = rest} {behind = behind} {b = b} {cs = cs} {last = last} w first more) fs before m sofar top notes low =
      let clauses : Clauses = with_clause sofar m (all_of top) in
      let n1 : Excess = with_depth notes (length fs) n.head.line in
      let inside : Noted = record { frames = InClause n clauses before ∷ fs; top = nothing_held; notes = n1 } in
      let n2 : Excess = record { too_deep = option_or n1.too_deep (deep_in (suc (length fs)) b); too_many = option_or n1.too_many (crowd_after 0 b) } in
      let n3 : Excess = record { too_deep = option_or n2.too_deep (tail_deep (length fs) cs last e); too_many = option_or n2.too_many (tail_crowd cs last) } in
      ap (option_and_then (λ t. noted_resume t ((xs ++ rest) ++ behind))) (noted-within (record { frames = InClause m sofar before ∷ fs; top = top; notes = notes }) x (ElseIf n.head n.condition) low.0 w)
      ∙ ap (noted_resume inside) (append_assoc xs rest behind)
      ∙ only first inside (From-front (least fs) xs rest low.1)
      ∙ only_tail more fs before n clauses (plus nothing_held b) n2 (From-back (least fs) xs rest low.1)
      ∙ ap (λ u. noted_resume (record { frames = fs; top = with_stmt before (Choice (clauses_then clauses (AndClause n u cs)) last e); notes = n3 }) behind) (whole first)
      ∙ ap (λ k. noted_resume (record { frames = fs; top = with_stmt before (Choice k last e); notes = n3 }) behind) (clauses-assoc sofar (AndClause m (all_of top) NoClauses) (AndClause n b cs))
      ∙ same_notes fs (with_stmt before (Choice (clauses_then sofar (AndClause m (all_of top) (AndClause n b cs))) last e)) behind (next-deep notes.too_deep (length fs) n b cs last e) (next-crowd notes.too_many n b cs last)
