-- Lines and options with hashtags put behind those that they have: entries of bodies, and the statements that they stand for.
use Rattle.std.proofs.Common.{◌≡◌, ℕ, ◌+◌, List, [], ◌∷◌, ◌++◌, map, nat_lt, cond, Bool, true, false, Option, refl, sym, ap, ◌∙◌, subst}
use mathlib.Core.Path.{ap₂}
use Rattle.std.specs.Option.{option_or}
use Rattle.std.proofs.lemmas.List.{map-append}
use Rattle.yarn_blocks.specs.declared.tree.Head.{Head}
use Rattle.yarn_blocks.specs.declared.tree.LineText.{LineText}
use Rattle.yarn_blocks.specs.declared.entry.Entry.{Entry}
use Rattle.yarn_blocks.specs.declared.entry.Simple.{Simple}
use Rattle.yarn_blocks.specs.declared.entry.Simple.TheVariants as simple
use Rattle.yarn_blocks.specs.declared.entry.What.{What}
use Rattle.yarn_blocks.specs.declared.entry.What.TheVariants.{Statement, Offer, If, ElseIf, Else, EndIf}
use Rattle.yarn_blocks.specs.Entries.{line_of}
use Rattle.yarn_blocks.specs.Tree.{Offered, Stmt, Leaf, Group, Choice, Stmts, Nil, Cons, Options, NoOptions, AndOption, Clauses, NoClauses, AndClause, Last, NoElse, ElseOf, and_option, over_64, deep_in, deep_one, deep_options, deep_clauses, deep_last, behind_64, crowd_in, crowd_one, crowd_options, crowd_clauses, crowd_last}
use Rattle.yarn_blocks.specs.Block.{run_of, Block, empty, statement, option, choice, Tail, ends, otherwise, next}
use Rattle.yarn_tree.specs.Uses.{Use, UseAt, uses_of_simple, uses_of_what, uses_in_body, at_place}
use Rattle.yarn_meaning.specs.Texts.{said_by, said_in, said_in_one, said_in_options, said_in_clauses, said_in_last}
use Rattle.yarn_tag.specs.TagLaws.{HaveId, SameText, SameStmts, no_more, and_more, SameStmt, line, other, group, choice as same_choice, SameOptions, no_option, and_option as same_option, SameClauses, no_clause, and_clause, SameLast, no_else, else_of}

-- the hashtags that are put on each line
module _ (extra : ℕ → List (List ℕ)) where
  abbrev pub again_text : LineText → LineText
  again_text text = record { line = text.line; text = text.text; holes = text.holes; id = text.id; tags = text.tags ++ extra text.line }

  abbrev pub again_simple : Simple → Simple
  again_simple (simple.Line text) = simple.Line (again_text text)
  again_simple (simple.Set head name op e) = simple.Set head name op e
  again_simple (simple.Declare head name value kind) = simple.Declare head name value kind
  again_simple (simple.Jump head title) = simple.Jump head title
  again_simple (simple.JumpTo head e) = simple.JumpTo head e
  again_simple (simple.Stop head) = simple.Stop head
  again_simple (simple.Call head e) = simple.Call head e
  again_simple (simple.Command text) = simple.Command text

  abbrev pub again_what : What → What
  again_what (Statement s) = Statement (again_simple s)
  again_what (Offer text asked) = Offer (again_text text) asked
  again_what (If head e) = If head e
  again_what (ElseIf head e) = ElseIf head e
  again_what (Else head) = Else head
  again_what (EndIf head) = EndIf head

  abbrev pub again_entry : Entry → Entry
  again_entry x = record { line = x.line; indent = x.indent; what = again_what x.what }

  abbrev pub again_body : List Entry → List Entry
  again_body xs = map again_entry xs

  abbrev pub again_offered : Offered → Offered
  again_offered n = record { text = again_text n.text; condition = n.condition }

  abbrev mutual
    pub again_stmts : Stmts → Stmts
    again_stmts Nil = Nil
    again_stmts (Cons s b) = Cons (again_stmt s) (again_stmts b)

    pub again_stmt : Stmt → Stmt
    again_stmt (Leaf s) = Leaf (again_simple s)
    again_stmt (Group os) = Group (again_options os)
    again_stmt (Choice cs last e) = Choice (again_clauses cs) (again_last last) e

    pub again_options : Options → Options
    again_options NoOptions = NoOptions
    again_options (AndOption n body os) = AndOption (again_offered n) (again_stmts body) (again_options os)

    pub again_clauses : Clauses → Clauses
    again_clauses NoClauses = NoClauses
    again_clauses (AndClause n body cs) = AndClause n (again_stmts body) (again_clauses cs)

    pub again_last : Last → Last
    again_last NoElse = NoElse
    again_last (ElseOf head body) = ElseOf head (again_stmts body)

  -- ---- blocks

  run-again : (k : ℕ) (xs : List Entry) → run_of k (again_body xs) ≡ again_body (run_of k xs)
  run-again k [] = refl
  run-again k (x ∷ xs) = of (nat_lt k x.indent) (run-again k xs)
    where
      of : (t : Bool) → run_of k (again_body xs) ≡ again_body (run_of k xs) →
          cond t (again_entry x ∷ run_of k (again_body xs)) [] ≡ again_body (cond t (x ∷ run_of k xs) [])
      of true later = ap (λ (l : List Entry). again_entry x ∷ l) later
      of false later = refl

  option-again : (n : Offered) (body b : Stmts) → again_stmts (and_option n body b) ≡ and_option (again_offered n) (again_stmts body) (again_stmts b)
  option-again n body Nil = refl
  option-again n body (Cons (Leaf m) b) = refl
  option-again n body (Cons (Group os) b) = refl
  option-again n body (Cons (Choice cs last e) b) = refl

  two : (a b : List Entry) → again_body (a ++ b) ≡ again_body a ++ again_body b
  two a b = map-append again_entry a b

  three : (a b c : List Entry) → again_body (a ++ (b ++ c)) ≡ again_body a ++ (again_body b ++ again_body c)
  three a b c = two a (b ++ c) ∙ ap (λ (l : List Entry). again_body a ++ l) (two b c)

  mutual
    pub block-again : {xs behind : List Entry} {b : Stmts} → Block xs behind b → Block (again_body xs) (again_body behind) (again_stmts b)
    block-again empty = empty
    block-again (statement w r) = statement (ap again_what w) (block-again r)
    block-again (option {x} {n} {run} {xs} {behind} {body} {b} w e inner r) =
        subst (λ (l : List Entry). Block (again_entry x ∷ l) (again_body behind) (again_stmts (and_option n body b))) (sym (two run xs))
        (subst (λ (t : Stmts). Block (again_entry x ∷ (again_body run ++ again_body xs)) (again_body behind) t) (sym (option-again n body b))
        (option (ap again_what w)
        (ap (run_of x.indent) (sym (two (run ++ xs) behind ∙ ap (λ (l : List Entry). l ++ again_body behind) (two run xs)))
        ∙ run-again x.indent ((run ++ xs) ++ behind)
        ∙ ap again_body e)
        (subst (λ (l : List Entry). Block (again_body run) l (again_stmts body)) (two xs behind) (block-again inner)) (block-again r)))
    block-again (choice {x} {n} {e} {xs} {rest} {ys} {behind} {b} {c} {cs} {last} w inner left r) =
        subst (λ (l : List Entry). Block (again_entry x ∷ l) (again_body behind) (again_stmts (Cons (Choice (AndClause n b cs) last e) c))) (sym (three xs rest ys))
        (choice (ap again_what w)
        (subst (λ (l : List Entry). Block (again_body xs) l (again_stmts b)) (three rest ys behind) (block-again inner))
        (subst (λ (l : List Entry). Tail (again_body rest) l (again_clauses cs) (again_last last) e) (two ys behind) (tail-again left)) (block-again r))

    tail-again : {xs behind : List Entry} {cs : Clauses} {last : Last} {e : Head} → Tail xs behind cs last e →
        Tail (again_body xs) (again_body behind) (again_clauses cs) (again_last last) e
    tail-again (ends w) = ends (ap again_what w)
    tail-again (otherwise {x} {y} {n} {e} {xs} {behind} {b} w inner v) =
        subst (λ (l : List Entry). Tail (again_entry x ∷ l) (again_body behind) NoClauses (ElseOf n (again_stmts b)) e) (sym (two xs (y ∷ [])))
        (otherwise (ap again_what w) (block-again inner) (ap again_what v))
    tail-again (next {x} {n} {e} {xs} {rest} {behind} {b} {cs} {last} w inner left) =
        subst (λ (l : List Entry). Tail (again_entry x ∷ l) (again_body behind) (AndClause n (again_stmts b) (again_clauses cs)) (again_last last) e) (sym (two xs rest))
        (next (ap again_what w) (subst (λ (l : List Entry). Block (again_body xs) l (again_stmts b)) (two rest behind) (block-again inner)) (tail-again left))

  -- ---- what blocks show

  line-again : (s : Simple) → line_of (again_simple s) ≡ line_of s
  line-again (simple.Line text) = refl
  line-again (simple.Set head name op e) = refl
  line-again (simple.Declare head name value kind) = refl
  line-again (simple.Jump head title) = refl
  line-again (simple.JumpTo head e) = refl
  line-again (simple.Stop head) = refl
  line-again (simple.Call head e) = refl
  line-again (simple.Command text) = refl

  mutual
    pub deep-again : (depth : ℕ) (b : Stmts) → deep_in depth (again_stmts b) ≡ deep_in depth b
    deep-again depth Nil = refl
    deep-again depth (Cons s b) = ap₂ option_or (deep-one depth s) (deep-again depth b)

    deep-one : (depth : ℕ) (s : Stmt) → deep_one depth (again_stmt s) ≡ deep_one depth s
    deep-one depth (Leaf s) = ap (over_64 depth) (line-again s)
    deep-one depth (Group os) = deep-options depth os
    deep-one depth (Choice cs last e) = ap₂ option_or (deep-clauses depth cs) (ap (λ (o : Option ℕ). option_or o (over_64 depth e.line)) (deep-last depth last))

    deep-options : (depth : ℕ) (os : Options) → deep_options depth (again_options os) ≡ deep_options depth os
    deep-options depth NoOptions = refl
    deep-options depth (AndOption n body os) =
        ap (option_or (over_64 depth n.text.line)) (ap₂ option_or (deep-again (depth + 1) body) (deep-options depth os))

    deep-clauses : (depth : ℕ) (cs : Clauses) → deep_clauses depth (again_clauses cs) ≡ deep_clauses depth cs
    deep-clauses depth NoClauses = refl
    deep-clauses depth (AndClause n body cs) =
        ap (option_or (over_64 depth n.head.line)) (ap₂ option_or (deep-again (depth + 1) body) (deep-clauses depth cs))

    deep-last : (depth : ℕ) (last : Last) → deep_last depth (again_last last) ≡ deep_last depth last
    deep-last depth NoElse = refl
    deep-last depth (ElseOf n body) = ap (option_or (over_64 depth n.line)) (deep-again (depth + 1) body)

  mutual
    pub crowd-again : (b : Stmts) → crowd_in (again_stmts b) ≡ crowd_in b
    crowd-again Nil = refl
    crowd-again (Cons s b) = ap₂ option_or (crowd-one s) (crowd-again b)

    crowd-one : (s : Stmt) → crowd_one (again_stmt s) ≡ crowd_one s
    crowd-one (Leaf s) = refl
    crowd-one (Group os) = crowd-options 0 os
    crowd-one (Choice cs last e) = ap₂ option_or (crowd-clauses cs) (crowd-last last)

    crowd-options : (before : ℕ) (os : Options) → crowd_options before (again_options os) ≡ crowd_options before os
    crowd-options before NoOptions = refl
    crowd-options before (AndOption n body os) =
        ap (option_or (behind_64 before n.text.line)) (ap₂ option_or (crowd-again body) (crowd-options (before + 1) os))

    crowd-clauses : (cs : Clauses) → crowd_clauses (again_clauses cs) ≡ crowd_clauses cs
    crowd-clauses NoClauses = refl
    crowd-clauses (AndClause n body cs) = ap₂ option_or (crowd-again body) (crowd-clauses cs)

    crowd-last : (last : Last) → crowd_last (again_last last) ≡ crowd_last last
    crowd-last NoElse = refl
    crowd-last (ElseOf n body) = crowd-again body

  -- ---- lines and options

  simple-said : (s : Simple) → said_by (again_simple s) ≡ map again_text (said_by s)
  simple-said (simple.Line text) = refl
  simple-said (simple.Set head name op e) = refl
  simple-said (simple.Declare head name value kind) = refl
  simple-said (simple.Jump head title) = refl
  simple-said (simple.JumpTo head e) = refl
  simple-said (simple.Stop head) = refl
  simple-said (simple.Call head e) = refl
  simple-said (simple.Command text) = refl

  both : (a b : List LineText) (c d : List LineText) → c ≡ map again_text a → d ≡ map again_text b → c ++ d ≡ map again_text (a ++ b)
  both a b c d one more = ap₂ (λ (x y : List LineText). x ++ y) one more ∙ sym (map-append again_text a b)

  mutual
    pub said-again : (b : Stmts) → said_in (again_stmts b) ≡ map again_text (said_in b)
    said-again Nil = refl
    said-again (Cons s b) = both (said_in_one s) (said_in b) _ _ (said-one s) (said-again b)

    said-one : (s : Stmt) → said_in_one (again_stmt s) ≡ map again_text (said_in_one s)
    said-one (Leaf s) = simple-said s
    said-one (Group os) = said-options os
    said-one (Choice cs last e) = both (said_in_clauses cs) (said_in_last last) _ _ (said-clauses cs) (said-last last)

    said-options : (os : Options) → said_in_options (again_options os) ≡ map again_text (said_in_options os)
    said-options NoOptions = refl
    said-options (AndOption n body os) =
        ap (λ (l : List LineText). again_text n.text ∷ l) (both (said_in body) (said_in_options os) _ _ (said-again body) (said-options os))

    said-clauses : (cs : Clauses) → said_in_clauses (again_clauses cs) ≡ map again_text (said_in_clauses cs)
    said-clauses NoClauses = refl
    said-clauses (AndClause n body cs) = both (said_in body) (said_in_clauses cs) _ _ (said-again body) (said-clauses cs)

    said-last : (last : Last) → said_in_last (again_last last) ≡ map again_text (said_in_last last)
    said-last NoElse = refl
    said-last (ElseOf head body) = said-again body

  -- the hashtags that are put give each an id
  abbrev pub Each : List LineText → Type 0
  Each [] = Unit {0}
  Each (text ∷ texts) = HaveId text.tags (text.tags ++ extra text.line) × Each texts

  pub each-parts : (a b : List LineText) → Each (a ++ b) → Each a × Each b
  each-parts [] b all = (tt, all)
  each-parts (text ∷ a) b all = let rest = each-parts a b all.1 in ((all.0, rest.0), rest.1)

  same-text : (text : LineText) → HaveId text.tags (text.tags ++ extra text.line) → SameText text (again_text text)
  same-text text have = record { line = refl; id = refl; text = refl; holes = refl; tags = have }

  same-simple : (s : Simple) → Each (said_by s) → SameStmt (Leaf s) (Leaf (again_simple s))
  same-simple (simple.Line text) all = line (same-text text all.0)
  same-simple (simple.Set head name op e) all = other refl
  same-simple (simple.Declare head name value kind) all = other refl
  same-simple (simple.Jump head title) all = other refl
  same-simple (simple.JumpTo head e) all = other refl
  same-simple (simple.Stop head) all = other refl
  same-simple (simple.Call head e) all = other refl
  same-simple (simple.Command text) all = other refl

  mutual
    pub same-stmts : (b : Stmts) → Each (said_in b) → SameStmts b (again_stmts b)
    same-stmts Nil all = no_more
    same-stmts (Cons s b) all = let p = each-parts (said_in_one s) (said_in b) all in and_more (same-stmt s p.0) (same-stmts b p.1)

    same-stmt : (s : Stmt) → Each (said_in_one s) → SameStmt s (again_stmt s)
    same-stmt (Leaf s) all = same-simple s all
    same-stmt (Group os) all = group (same-options os all)
    same-stmt (Choice cs last e) all =
        let p = each-parts (said_in_clauses cs) (said_in_last last) all in same_choice (same-clauses cs p.0) (same-last last p.1)

    same-options : (os : Options) → Each (said_in_options os) → SameOptions os (again_options os)
    same-options NoOptions all = no_option
    same-options (AndOption n body os) all =
        let p = each-parts (said_in body) (said_in_options os) all.1 in same_option (same-text n.text all.0) refl (same-stmts body p.0) (same-options os p.1)

    same-clauses : (cs : Clauses) → Each (said_in_clauses cs) → SameClauses cs (again_clauses cs)
    same-clauses NoClauses all = no_clause
    same-clauses (AndClause n body cs) all =
        let p = each-parts (said_in body) (said_in_clauses cs) all in and_clause (same-stmts body p.0) (same-clauses cs p.1)

    same-last : (last : Last) → Each (said_in_last last) → SameLast last (again_last last)
    same-last NoElse all = no_else
    same-last (ElseOf head body) all = else_of (same-stmts body all)

  -- ---- what bodies use

  simple-uses : (s : Simple) → uses_of_simple (again_simple s) ≡ uses_of_simple s
  simple-uses (simple.Line text) = refl
  simple-uses (simple.Set head name op e) = refl
  simple-uses (simple.Declare head name value kind) = refl
  simple-uses (simple.Jump head title) = refl
  simple-uses (simple.JumpTo head e) = refl
  simple-uses (simple.Stop head) = refl
  simple-uses (simple.Call head e) = refl
  simple-uses (simple.Command text) = refl

  what-uses : (w : What) → uses_of_what (again_what w) ≡ uses_of_what w
  what-uses (Statement s) = simple-uses s
  what-uses (Offer text asked) = refl
  what-uses (If head e) = refl
  what-uses (ElseIf head e) = refl
  what-uses (Else head) = refl
  what-uses (EndIf head) = refl

  pub body-uses : (file : ℕ) (xs : List Entry) → uses_in_body file (again_body xs) ≡ uses_in_body file xs
  body-uses file [] = refl
  body-uses file (x ∷ xs) =
      ap₂ (λ (us : List Use) (more : List UseAt). at_place (record { file = file; line = x.line }) us ++ more) (what-uses x.what) (body-uses file xs)
