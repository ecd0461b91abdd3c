-- Statements that are read after what is held.
use Rattle.std.proofs.Common.{◌≡◌, ℕ, ◌+◌, Option, Some, None, refl, sym, ap, ◌∙◌}
use Rattle.std.specs.Option.{option_or}
use Rattle.yarn_blocks.specs.Tree.{Offered, Stmt, Leaf, Group, Choice, Stmts, Nil, Cons, Options, NoOptions, AndOption, Clauses, NoClauses, AndClause, stmts_then, options_then, clauses_then, and_option, over_64, deep_in, deep_options, behind_64, crowd_in, crowd_options}
use Rattle.yarn_blocks.specs.Block.{Block, empty, statement, option, choice}
use Rattle.yarn_blocks.specs.Reading.{Held, nothing_held, with_group, all_of, with_stmt, with_option}
use Rattle.yarn_blocks.specs.declared.entry.Entry.{Entry}
use Rattle.std.proofs.Common.{List}

pub or-assoc : {A : Type 0} (a b c : Option A) → option_or (option_or a b) c ≡ option_or a (option_or b c)
or-assoc None b c = refl
or-assoc (Some x) b c = refl

pub stmts-assoc : (a b c : Stmts) → stmts_then (stmts_then a b) c ≡ stmts_then a (stmts_then b c)
stmts-assoc Nil b c = refl
stmts-assoc (Cons s a) b c = ap (Cons s) (stmts-assoc a b c)

pub stmts-nil : (a : Stmts) → stmts_then a Nil ≡ a
stmts-nil Nil = refl
stmts-nil (Cons s a) = ap (Cons s) (stmts-nil a)

pub options-assoc : (a b c : Options) → options_then (options_then a b) c ≡ options_then a (options_then b c)
options-assoc NoOptions b c = refl
options-assoc (AndOption n body a) b c = ap (AndOption n body) (options-assoc a b c)

pub clauses-assoc : (a b c : Clauses) → clauses_then (clauses_then a b) c ≡ clauses_then a (clauses_then b c)
clauses-assoc NoClauses b c = refl
clauses-assoc (AndClause n body a) b c = ap (AndClause n body) (clauses-assoc a b c)

abbrev pub plus_one : Held → Stmt → Held
plus_one h (Leaf n) = with_stmt h (Leaf n)
plus_one h (Group os) = record { done = h.done; group = options_then h.group os }
plus_one h (Choice cs last e) = with_stmt h (Choice cs last e)

-- what is held, with statements behind it, whose first group goes on with the held one
abbrev pub plus : Held → Stmts → Held
plus h Nil = h
plus h (Cons s b) = plus (plus_one h s) b

pub plus-and_option : (h : Held) (n : Offered) (body b : Stmts) → plus h (and_option n body b) ≡ plus (with_option h n body) b
plus-and_option h n body Nil = refl
plus-and_option h n body (Cons (Leaf m) b) = refl
plus-and_option h n body (Cons (Group os) b) =
    ap (λ g. plus (record { done = h.done; group = g }) b) (sym (options-assoc h.group (AndOption n body NoOptions) os))
plus-and_option h n body (Cons (Choice cs last e) b) = refl

-- no group begins the list
abbrev pub NoGroupFirst : Stmts → Type 0
NoGroupFirst Nil = Unit {0}
NoGroupFirst (Cons (Leaf n) b) = Unit {0}
NoGroupFirst (Cons (Group os) b) = ⊥
NoGroupFirst (Cons (Choice cs last e) b) = Unit {0}

abbrev pub IsMaximal : Stmt → Stmts → Type 0
IsMaximal (Leaf n) b = Unit {0}
IsMaximal (Group NoOptions) b = ⊥
IsMaximal (Group (AndOption n body os)) b = NoGroupFirst b
IsMaximal (Choice cs last e) b = Unit {0}

-- groups aren't empty, and no two are next to one another
abbrev pub IsGrouped : Stmts → Type 0
IsGrouped Nil = Unit {0}
IsGrouped (Cons s b) = IsMaximal s b × IsGrouped b

and_option-grouped : (n : Offered) (body b : Stmts) → IsGrouped b → IsGrouped (and_option n body b)
and_option-grouped n body Nil h = (tt, tt)
and_option-grouped n body (Cons (Leaf m) b) h = (tt, h)
and_option-grouped n body (Cons (Group NoOptions) b) h = absurd h.0
and_option-grouped n body (Cons (Group (AndOption m c os)) b) h = (h.0, h.1)
and_option-grouped n body (Cons (Choice cs last e) b) h = (tt, h)

pub Block-grouped : {xs behind : List Entry} {b : Stmts} → Block xs behind b → IsGrouped b
Block-grouped empty = tt
Block-grouped (statement w r) = (tt, Block-grouped r)
Block-grouped (option {n = n} {body = body} {b = b} w e inner r) = and_option-grouped n body b (Block-grouped r)
Block-grouped (choice w first rest r) = (tt, Block-grouped r)

abbrev Joins : Options → Stmts → Type 0
Joins NoOptions b = Unit {0}
Joins (AndOption n body os) b = NoGroupFirst b

all_of-plus : (b : Stmts) (done : Stmts) (os : Options) → IsGrouped b → Joins os b → all_of (plus (record { done = done; group = os }) b) ≡ stmts_then (with_group done os) b
all_of-plus Nil done os g j = sym (stmts-nil (with_group done os))
all_of-plus (Cons (Leaf n) b) done os g j =
    all_of-plus b (stmts_then (with_group done os) (Cons (Leaf n) Nil)) NoOptions g.1 tt ∙ stmts-assoc (with_group done os) (Cons (Leaf n) Nil) b
all_of-plus (Cons (Group NoOptions) b) done os g j = absurd g.0
all_of-plus (Cons (Group (AndOption n body ps)) b) done NoOptions g j =
    all_of-plus b done (AndOption n body ps) g.1 g.0 ∙ stmts-assoc done (Cons (Group (AndOption n body ps)) Nil) b
all_of-plus (Cons (Group (AndOption n body ps)) b) done (AndOption m c os) g j = absurd j
all_of-plus (Cons (Choice cs last e) b) done os g j =
    all_of-plus b (stmts_then (with_group done os) (Cons (Choice cs last e) Nil)) NoOptions g.1 tt ∙ stmts-assoc (with_group done os) (Cons (Choice cs last e) Nil) b

-- what a block gives from nothing is the block's statements
pub whole : {xs behind : List Entry} {b : Stmts} → Block xs behind b → all_of (plus nothing_held b) ≡ b
whole {b = b} r = all_of-plus b Nil NoOptions (Block-grouped r) tt

or-alone : {A : Type 0} (a b c : Option A) → option_or (option_or a (option_or b None)) c ≡ option_or a (option_or b c)
or-alone a b c = or-assoc a (option_or b None) c ∙ ap (option_or a) (or-assoc b None c)

pub deep-and_option : (depth : ℕ) (n : Offered) (body b : Stmts) → deep_in depth (and_option n body b) ≡ option_or (over_64 depth n.text.line) (option_or (deep_in (depth + 1) body) (deep_in depth b))
deep-and_option depth n body Nil = or-alone (over_64 depth n.text.line) (deep_in (depth + 1) body) None
deep-and_option depth n body (Cons (Leaf m) b) = or-alone (over_64 depth n.text.line) (deep_in (depth + 1) body) (deep_in depth (Cons (Leaf m) b))
deep-and_option depth n body (Cons (Group os) b) =
    or-assoc (over_64 depth n.text.line) (option_or (deep_in (depth + 1) body) (deep_options depth os)) (deep_in depth b)
    ∙ ap (option_or (over_64 depth n.text.line)) (or-assoc (deep_in (depth + 1) body) (deep_options depth os) (deep_in depth b))
deep-and_option depth n body (Cons (Choice cs last e) b) = or-alone (over_64 depth n.text.line) (deep_in (depth + 1) body) (deep_in depth (Cons (Choice cs last e) b))

-- as many options as the group has
abbrev pub count_of : Options → ℕ
count_of NoOptions = 0
count_of (AndOption n body os) = count_of os + 1

pub count-then : (os : Options) (n : Offered) (body : Stmts) → count_of (options_then os (AndOption n body NoOptions)) ≡ count_of os + 1
count-then NoOptions n body = refl
count-then (AndOption m c os) n body = ap (λ k. k + 1) (count-then os n body)

-- the first 65th option, where the first group goes on with one of so many options
abbrev pub crowd_after : ℕ → Stmts → Option ℕ
crowd_after before Nil = None
crowd_after before (Cons (Leaf n) b) = crowd_in b
crowd_after before (Cons (Group os) b) = option_or (crowd_options before os) (crowd_in b)
crowd_after before (Cons (Choice cs last e) b) = crowd_in (Cons (Choice cs last e) b)

pub crowd-fresh : (b : Stmts) → crowd_after 0 b ≡ crowd_in b
crowd-fresh Nil = refl
crowd-fresh (Cons (Leaf n) b) = refl
crowd-fresh (Cons (Group os) b) = refl
crowd-fresh (Cons (Choice cs last e) b) = refl

pub crowd-and_option : (before : ℕ) (n : Offered) (body b : Stmts) → crowd_after before (and_option n body b) ≡ option_or (behind_64 before n.text.line) (option_or (crowd_in body) (crowd_after (before + 1) b))
crowd-and_option before n body Nil = or-alone (behind_64 before n.text.line) (crowd_in body) None
crowd-and_option before n body (Cons (Leaf m) b) = or-alone (behind_64 before n.text.line) (crowd_in body) (crowd_in b)
crowd-and_option before n body (Cons (Group os) b) =
    or-assoc (behind_64 before n.text.line) (option_or (crowd_in body) (crowd_options (before + 1) os)) (crowd_in b)
    ∙ ap (option_or (behind_64 before n.text.line)) (or-assoc (crowd_in body) (crowd_options (before + 1) os) (crowd_in b))
crowd-and_option before n body (Cons (Choice cs last e) b) = or-alone (behind_64 before n.text.line) (crowd_in body) (crowd_in (Cons (Choice cs last e) b))
