-- Writing the lines of a listing one after another.
use Rattle.std.proofs.Common.{◌≡◌, ℕ, zero, suc, ◌+◌, ◌<◌, ◌≤◌, List, [], ◌∷◌, ◌++◌, length, drop, slice_get, get_or, Some, Result, Ok, Err, IfOk, refl, sym, ap, subst, ◌∙◌, append_assoc, arith}
use Rattle.std.proofs.lemmas.List.{append-nil}
use Rattle.std.specs.Prelude.{codes}
use Rattle.std.specs.Fmt.{decimal}
use Rattle.yarn_code.specs.declared.program.Instr.{Instr}
use Rattle.yarn_code.specs.declared.program.Coded.{Coded}
use Rattle.yarn_code.specs.declared.program.CodeNode.{CodeNode}
use Rattle.yarn_code.specs.declared.program.Program.{Program}
use Rattle.yarn_base.specs.declared.memory.Memory.{Memory}
use Rattle.yarn_code.specs.Listing.{Words, spaced, line, each, file_line, variable_line, function_line, base_line, instruction_line, node_lines, program_lines, Tells, IsListing, OneListing}
use Rattle.yarn_code.specs.ListingSteps.{AddsTold}
use Rattle.yarn_code.proofs.WritingLemmas.{item_here}
use Rattle.yarn_code.specs.ListingText.{words_of, listing_of}
use Rattle.yarn_code.proofs.WordLemmas.{words_tell, words_only}

-- the parts from a place on are still to be written
abbrev pub Awaits : {A : Type 0} → (ℕ → A → List ℕ) → List A → ℕ → List ℕ → List ℕ → Type 0
Awaits told xs i old new = new ++ each told i (drop i xs) ≡ old ++ each told 0 xs

drop_next : {A : Type 0} (xs : List A) (i : ℕ) (x : A) → slice_get xs i ≡ Some x → drop i xs ≡ x ∷ drop (suc i) xs
drop_next [] i x at = absurd cc
drop_next (y ∷ xs) zero x at = cc
drop_next (y ∷ xs) (suc i) x at = drop_next xs i x at

drop_more : {A : Type 0} (xs : List A) (i : ℕ) (x : A) → slice_get xs i ≡ Some x → drop i xs ≡ x ∷ drop (i + 1) xs
drop_more xs i x at = let e : i + 1 ≡ suc i = omega arith in rw e (drop_next xs i x at)

drop_all : {A : Type 0} (xs : List A) (n : ℕ) → length xs ≤ n → drop n xs ≡ []
drop_all [] zero le = refl
drop_all [] (suc n) le = refl
drop_all (x ∷ xs) zero le = absurd (omega (arith, le))
drop_all (x ∷ xs) (suc n) le = drop_all xs n (omega (arith, le))

pub Awaits-next : {A : Type 0} (told : ℕ → A → List ℕ) (xs items : List A) (i : ℕ) (x : A) (old mid new : List ℕ)
    → items ≡ xs → i < length items → x ≡ get_or items i x → Awaits told xs i old mid → new ≡ mid ++ told i x → Awaits told xs (i + 1) old new
Awaits-next told xs items i x old mid new same lt is so_far adds =
    let rest = each told (i + 1) (drop (i + 1) xs) in
    ap (λ l. l ++ rest) adds ∙ append_assoc mid (told i x) rest
    ∙ ap (λ l. mid ++ each told i l) (sym (drop_more xs i x (item_here xs items i x same lt is))) ∙ so_far

pub Awaits-none : {A : Type 0} (told : ℕ → A → List ℕ) (xs items : List A) (i : ℕ) (old new : List ℕ)
    → items ≡ xs → length items ≤ i → Awaits told xs i old new → new ≡ old ++ each told 0 xs
Awaits-none told xs items i old new same le so_far =
    sym (append-nil new) ∙ ap (λ l. new ++ each told i l) (sym (drop_all xs i (subst (λ l. length l ≤ i) same le))) ∙ so_far

-- ---- lines of several calls

pub coded_line : (at l : ℕ) (words : Words) (old a b new : List ℕ) → a ≡ old ++ (codes "  " ++ (decimal at ++ (codes " " ++ decimal l)))
    → b ≡ a ++ spaced words → new ≡ b ++ codes "\n" → new ≡ old ++ (codes "  " ++ line (decimal at) (decimal l ∷ words))
coded_line at l words old a b new first second third =
    let front = 32 ∷ 32 ∷ (decimal at ++ (32 ∷ decimal l)) in
    let s = spaced words in
    third ∙ ap (λ k. k ++ 10 ∷ []) second ∙ ap (λ k. (k ++ s) ++ 10 ∷ []) first ∙ append_assoc (old ++ front) s (10 ∷ []) ∙ append_assoc old front (s ++ 10 ∷ [])
    ∙ ap (λ k. old ++ 32 ∷ 32 ∷ k) (append_assoc (decimal at) (32 ∷ decimal l) (s ++ 10 ∷ []))
    ∙ ap (λ k. old ++ 32 ∷ 32 ∷ (decimal at ++ 32 ∷ k)) (sym (append_assoc (decimal l) s (10 ∷ [])))

pub both_added : (old first second a new : List ℕ) → a ≡ old ++ first → new ≡ a ++ second → new ≡ old ++ (first ++ second)
both_added old first second a new is told = told ∙ ap (λ k. k ++ second) is ∙ append_assoc old first second

pub program_listed : (p : Program) (a b c d e f : List ℕ) → a ≡ codes "program YSP1\n" → b ≡ a ++ each file_line 0 p.files → c ≡ b ++ each variable_line 0 p.variables
    → d ≡ c ++ each function_line 0 p.functions → AddsTold (λ words. each (node_lines words) 0 p.nodes) d e → f ≡ e ++ each base_line 0 p.lines → IsListing p f
program_listed p a b c d e f head files variables functions nodes lines = record {
  words = words_of;
  tell = words_tell;
  lines =
      let u = each file_line 0 p.files in
      let v = each variable_line 0 p.variables in
      let w = each function_line 0 p.functions in
      let x = each (node_lines words_of) 0 p.nodes in
      let y = each base_line 0 p.lines in
      let first : b ≡ codes "program YSP1\n" ++ u = files ∙ ap (λ k. k ++ u) head in
      both_added (codes "program YSP1\n") u (v ++ (w ++ (x ++ y))) b f first
      (both_added b v (w ++ (x ++ y)) c f variables (both_added c w (x ++ y) d f functions (both_added d x y e f (nodes words_of words_tell) lines)));
}

-- ---- a program has one listing

each_same : {A : Type 0} (told other : ℕ → A → List ℕ) → ((at : ℕ) (x : A) → told at x ≡ other at x) → (at : ℕ) (xs : List A) → each told at xs ≡ each other at xs
each_same told other same at [] = refl
each_same told other same at (x ∷ xs) = ap (λ l. l ++ each told (at + 1) xs) (same at x) ∙ ap (λ l. other at x ++ l) (each_same told other same (at + 1) xs)

program_same : (words : Instr → Words) → ((i : Instr) → Tells i (words i)) → (p : Program) → program_lines words p ≡ program_lines words_of p
program_same words tell p =
    ap (λ l. line (codes "program") (codes "YSP1" ∷ []) ++ (each file_line 0 p.files ++ (each variable_line 0 p.variables ++ (each function_line 0 p.functions ++ (l ++ each base_line 0 p.lines)))))
    (each_same (node_lines words) (node_lines words_of) node_same 0 p.nodes)
  where
    code_same : (at : ℕ) (c : Coded) → instruction_line words at c ≡ instruction_line words_of at c
    code_same at c = ap (λ w. codes "  " ++ line (decimal at) (decimal c.line ∷ w)) (words_only c.instr (words c.instr) (tell c.instr))

    node_same : (at : ℕ) (n : CodeNode) → node_lines words at n ≡ node_lines words_of at n
    node_same at n =
        ap (λ l. line (codes "node") (n.title ∷ decimal n.file ∷ []) ++ l)
        (each_same (instruction_line words) (instruction_line words_of) code_same 0 n.code)

pub one_listing : OneListing
one_listing p a b x y = x.lines ∙ program_same x.words x.tell p ∙ sym (program_same y.words y.tell p) ∙ sym y.lines

-- ---- written out

pub listing_is : (p : Program) (text : List ℕ) → IsListing p text → text ≡ listing_of p
unfolding listing_of
listing_is p text is = is.lines ∙ program_same is.words is.tell p

pub listing_lists : (p : Program) (text : List ℕ) → text ≡ listing_of p → IsListing p text
unfolding listing_of
listing_lists p text is = record { words = words_of; tell = words_tell; lines = is }

pub listing_told : (p : Program) (listed : Result (List ℕ) Memory) → IfOk listed (IsListing p) → IfOk listed (λ text. text ≡ listing_of p)
listing_told p (Ok text) is = listing_is p text is
listing_told p (Err fault) is = tt
