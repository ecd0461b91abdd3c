-- The lines of a block's statements, laid out, are a block again, and they are its lines.
use Rattle.std.proofs.Common.{◌≡◌, ℕ, ◌+◌, ◌*◌, ◌≤◌, List, [], ◌∷◌, ◌++◌, refl, sym, ap, ◌∙◌, subst, arith, append_assoc, append-nil}
use mathlib.Core.Path.{ap₂}
use Rattle.std.specs.Prelude.{map}
use Rattle.std.proofs.lemmas.List.{map-append}
use Rattle.yarn_blocks.specs.declared.tree.Head.{Head}
use Rattle.yarn_blocks.specs.declared.entry.Entry.{Entry}
use Rattle.yarn_blocks.specs.declared.entry.What.TheVariants as what
use Rattle.yarn_blocks.specs.Tree.{Offered, Asked, Stmt, Leaf, Group, Choice, Stmts, Nil, Cons, Options, NoOptions, AndOption, Clauses, NoClauses, AndClause, Last, NoElse, ElseOf, and_option}
use Rattle.yarn_blocks.specs.Block.{run_of, Block, empty, statement, option, choice, Tail, ends, otherwise, next}
use Rattle.yarn_blocks.specs.Layout.{at_depth, laid, laid_one, laid_options, laid_clauses, laid_others, laid_last}
use Rattle.yarn_blocks.specs.LayoutLaws.{what_in}
use Rattle.yarn_blocks.proofs.Only.{From, Ends}
use Rattle.yarn_blocks.proofs.Found.{From-append, run-found}

-- what is left of an `if`
abbrev laid_tail : ℕ → Clauses → Last → Head → List Entry
laid_tail depth cs last e = laid_others depth cs ++ (laid_last depth last ++ at_depth depth (what.EndIf e) ∷ [])

-- an option joins the group that follows it
laid-and_option : (depth : ℕ) (n : Offered) (body b : Stmts) → laid depth (and_option n body b) ≡ at_depth depth (what.Offer n.text n.condition) ∷ (laid (depth + 1) body ++ laid depth b)
laid-and_option depth n body Nil = ap (λ l. at_depth depth (what.Offer n.text n.condition) ∷ l) (append-nil (laid (depth + 1) body ++ []))
laid-and_option depth n body (Cons (Leaf m) b) =
    ap (λ l. at_depth depth (what.Offer n.text n.condition) ∷ (l ++ laid depth (Cons (Leaf m) b))) (append-nil (laid (depth + 1) body))
laid-and_option depth n body (Cons (Group os) b) =
    ap (λ l. at_depth depth (what.Offer n.text n.condition) ∷ l) (append_assoc (laid (depth + 1) body) (laid_options depth os) (laid depth b))
laid-and_option depth n body (Cons (Choice cs last e) b) =
    ap (λ l. at_depth depth (what.Offer n.text n.condition) ∷ (l ++ laid depth (Cons (Choice cs last e) b))) (append-nil (laid (depth + 1) body))

-- the cuts of an `if`
laid-choice : (depth : ℕ) (n : Asked) (body : Stmts) (cs : Clauses) (last : Last) (e : Head) (b : Stmts) →
    laid depth (Cons (Choice (AndClause n body cs) last e) b) ≡ at_depth depth (what.If n.head n.condition) ∷ (laid (depth + 1) body ++ (laid_tail depth cs last e ++ laid depth b))
laid-choice depth n body cs last e b =
    let first : List Entry = laid (depth + 1) body in
    let left : List Entry = laid_last depth last ++ at_depth depth (what.EndIf e) ∷ [] in
    ap (λ l. at_depth depth (what.If n.head n.condition) ∷ l)
    (append_assoc (first ++ laid_others depth cs) left (laid depth b)
    ∙ append_assoc first (laid_others depth cs) (left ++ laid depth b)
    ∙ ap (λ l. first ++ l) (sym (append_assoc (laid_others depth cs) left (laid depth b))))

mutual
  -- each line is as deep as its statements
  from_stmts : (b : Stmts) (low depth : ℕ) → low ≤ 4 * depth → From low (laid depth b)
  from_stmts Nil low depth h = tt
  from_stmts (Cons s b) low depth h = From-append low (laid_one depth s) (laid depth b) (from_stmt s low depth h) (from_stmts b low depth h)

  from_stmt : (s : Stmt) (low depth : ℕ) → low ≤ 4 * depth → From low (laid_one depth s)
  from_stmt (Leaf n) low depth h = (h, tt)
  from_stmt (Group os) low depth h = from_options os low depth h
  from_stmt (Choice cs last e) low depth h =
      From-append low (laid_clauses depth cs) (laid_last depth last ++ at_depth depth (what.EndIf e) ∷ []) (from_clauses cs low depth h)
      (From-append low (laid_last depth last) (at_depth depth (what.EndIf e) ∷ []) (from_last last low depth h) (h, tt))

  from_options : (os : Options) (low depth : ℕ) → low ≤ 4 * depth → From low (laid_options depth os)
  from_options NoOptions low depth h = tt
  from_options (AndOption n body os) low depth h =
      (h, From-append low (laid (depth + 1) body) (laid_options depth os) (from_stmts body low (depth + 1) (omega (arith, h))) (from_options os low depth h))

  from_clauses : (cs : Clauses) (low depth : ℕ) → low ≤ 4 * depth → From low (laid_clauses depth cs)
  from_clauses NoClauses low depth h = tt
  from_clauses (AndClause n body cs) low depth h =
      (h, From-append low (laid (depth + 1) body) (laid_others depth cs) (from_stmts body low (depth + 1) (omega (arith, h))) (from_others cs low depth h))

  from_others : (cs : Clauses) (low depth : ℕ) → low ≤ 4 * depth → From low (laid_others depth cs)
  from_others NoClauses low depth h = tt
  from_others (AndClause n body cs) low depth h =
      (h, From-append low (laid (depth + 1) body) (laid_others depth cs) (from_stmts body low (depth + 1) (omega (arith, h))) (from_others cs low depth h))

  from_last : (last : Last) (low depth : ℕ) → low ≤ 4 * depth → From low (laid_last depth last)
  from_last NoElse low depth h = tt
  from_last (ElseOf n body) low depth h = (h, from_stmts body low (depth + 1) (omega (arith, h)))

-- the first line isn't deeper than its statements
ends_stmts : (k depth : ℕ) (b : Stmts) (rest : List Entry) → 4 * depth ≤ k → Ends k rest → Ends k (laid depth b ++ rest)
ends_stmts k depth Nil rest h e = e
ends_stmts k depth (Cons (Leaf n) b) rest h e = h
ends_stmts k depth (Cons (Group NoOptions) b) rest h e = ends_stmts k depth b rest h e
ends_stmts k depth (Cons (Group (AndOption n body os)) b) rest h e = h
ends_stmts k depth (Cons (Choice NoClauses NoElse end) b) rest h e = h
ends_stmts k depth (Cons (Choice NoClauses (ElseOf n body) end) b) rest h e = h
ends_stmts k depth (Cons (Choice (AndClause n body cs) last end) b) rest h e = h

ends_tail : (k depth : ℕ) (cs : Clauses) (last : Last) (end : Head) (rest : List Entry) → 4 * depth ≤ k → Ends k (laid_tail depth cs last end ++ rest)
ends_tail k depth NoClauses NoElse end rest h = h
ends_tail k depth NoClauses (ElseOf n body) end rest h = h
ends_tail k depth (AndClause n body cs) last end rest h = h

ends_deeper : (depth : ℕ) (rest : List Entry) → Ends (4 * depth) rest → Ends (4 * (depth + 1)) rest
ends_deeper depth [] e = tt
ends_deeper depth (x ∷ rest) e = omega (arith, e)

-- the run of an option is its body
run-laid : (depth : ℕ) (body b : Stmts) (rest : List Entry) → Ends (4 * depth) rest → run_of (4 * depth) ((laid (depth + 1) body ++ laid depth b) ++ rest) ≡ laid (depth + 1) body
run-laid depth body b rest h =
    ap (run_of (4 * depth)) (append_assoc (laid (depth + 1) body) (laid depth b) rest)
    ∙ run-found (4 * depth) (laid (depth + 1) body) (laid depth b ++ rest) (from_stmts body (4 * depth + 1) (depth + 1) (omega arith)) (ends_stmts (4 * depth) depth b rest (omega arith) h)

mutual
  stands : {xs behind : List Entry} {b : Stmts} → Block xs behind b → (depth : ℕ) (rest : List Entry) → Ends (4 * depth) rest → Block (laid depth b) rest b
  stands empty depth rest h = empty
  stands (statement w r) depth rest h = statement refl (stands r depth rest h)
  stands (option {n = n} {body = body} {b = b} w e first r) depth rest h =
      subst (λ l. Block l rest (and_option n body b)) (sym (laid-and_option depth n body b))
      (option refl (run-laid depth body b rest h)
      (stands first (depth + 1) (laid depth b ++ rest) (ends_stmts (4 * (depth + 1)) depth b rest (omega arith) (ends_deeper depth rest h)))
      (stands r depth rest h))
  stands (choice {n = n} {e = e} {b = b} {c = c} {cs = cs} {last = last} w first more r) depth rest h =
      subst (λ l. Block l rest (Cons (Choice (AndClause n b cs) last e) c)) (sym (laid-choice depth n b cs last e c))
      (choice refl
      (stands first (depth + 1) (laid_tail depth cs last e ++ (laid depth c ++ rest)) (ends_tail (4 * (depth + 1)) depth cs last e (laid depth c ++ rest) (omega arith)))
      (stands_tail more depth (laid depth c ++ rest) (ends_stmts (4 * depth) depth c rest (omega arith) h))
      (stands r depth rest h))

  stands_tail : {xs behind : List Entry} {cs : Clauses} {last : Last} {e : Head} → Tail xs behind cs last e → (depth : ℕ) (rest : List Entry) → Ends (4 * depth) rest → Tail (laid_tail depth cs last e) rest cs last e
  stands_tail (ends w) depth rest h = ends refl
  stands_tail (otherwise {e = e} w first v) depth rest h = otherwise refl (stands first (depth + 1) (at_depth depth (what.EndIf e) ∷ rest) (omega arith)) refl
  stands_tail (next {n = n} {e = e} {b = b} {cs = cs} {last = last} w first more) depth rest h =
      subst (λ l. Tail (at_depth depth (what.ElseIf n.head n.condition) ∷ l) rest (AndClause n b cs) last e)
      (sym (append_assoc (laid (depth + 1) b) (laid_others depth cs) (laid_last depth last ++ at_depth depth (what.EndIf e) ∷ [])))
      (next refl (stands first (depth + 1) (laid_tail depth cs last e ++ rest) (ends_tail (4 * (depth + 1)) depth cs last e rest (omega arith))) (stands_tail more depth rest h))

pub laid_stands : (xs : List Entry) (b : Stmts) (depth : ℕ) → Block xs [] b → Block (laid depth b) [] b
laid_stands xs b depth r = stands r depth [] tt

-- lists that map to the same, one behind another
pub map_join : {A B : Type 0} (f : A → B) (a b c d : List A) → map f a ≡ map f c → map f b ≡ map f d → map f (a ++ b) ≡ map f (c ++ d)
map_join f a b c d p q = map-append f a b ∙ ap₂ (λ s t. s ++ t) p q ∙ sym (map-append f c d)

mutual
  keeps : {xs behind : List Entry} {b : Stmts} → Block xs behind b → (depth : ℕ) → map what_in (laid depth b) ≡ map what_in xs
  keeps empty depth = refl
  keeps (statement w r) depth = ap₂ (λ s t. s ∷ t) (sym w) (keeps r depth)
  keeps (option {n = n} {run = run} {xs = xs} {body = body} {b = b} w e first r) depth =
      ap (map what_in) (laid-and_option depth n body b)
      ∙ ap₂ (λ s t. s ∷ t) (sym w) (map_join what_in (laid (depth + 1) body) (laid depth b) run xs (keeps first (depth + 1)) (keeps r depth))
  keeps (choice {n = n} {e = e} {xs = xs} {rest = rest} {ys = ys} {b = b} {c = c} {cs = cs} {last = last} w first more r) depth =
      ap (map what_in) (laid-choice depth n b cs last e c)
      ∙ ap₂ (λ s t. s ∷ t) (sym w)
      (map_join what_in (laid (depth + 1) b) (laid_tail depth cs last e ++ laid depth c) xs (rest ++ ys) (keeps first (depth + 1))
      (map_join what_in (laid_tail depth cs last e) (laid depth c) rest ys (keeps_tail more depth) (keeps r depth)))

  keeps_tail : {xs behind : List Entry} {cs : Clauses} {last : Last} {e : Head} → Tail xs behind cs last e → (depth : ℕ) → map what_in (laid_tail depth cs last e) ≡ map what_in xs
  keeps_tail (ends w) depth = ap (λ s. s ∷ []) (sym w)
  keeps_tail (otherwise {y = y} {e = e} {xs = xs} {b = b} w first v) depth =
      ap₂ (λ s t. s ∷ t) (sym w) (map_join what_in (laid (depth + 1) b) (at_depth depth (what.EndIf e) ∷ []) xs (y ∷ []) (keeps first (depth + 1)) (ap (λ s. s ∷ []) (sym v)))
  keeps_tail (next {n = n} {e = e} {xs = xs} {rest = rest} {b = b} {cs = cs} {last = last} w first more) depth =
      ap (λ l. map what_in (at_depth depth (what.ElseIf n.head n.condition) ∷ l)) (append_assoc (laid (depth + 1) b) (laid_others depth cs) (laid_last depth last ++ at_depth depth (what.EndIf e) ∷ []))
      ∙ ap₂ (λ s t. s ∷ t) (sym w) (map_join what_in (laid (depth + 1) b) (laid_tail depth cs last e) xs rest (keeps first (depth + 1)) (keeps_tail more depth))

pub laid_keeps_lines : (xs : List Entry) (b : Stmts) (depth : ℕ) → Block xs [] b → map what_in (laid depth b) ≡ map what_in xs
laid_keeps_lines xs b depth r = keeps r depth
