-- What a statement does, with the statements behind it.
use Rattle.std.proofs.Common.{◌≡◌, ℕ, ◌+◌, ◌<◌, ◌≤◌, inl, inr, List, [], ◌∷◌, ◌++◌, Ok, Err, refl, sym, ap, ◌∙◌, subst, append_assoc, map, arith}
use Rattle.std.specs.Prelude.{All, Vec}
use Rattle.std.specs.declared.alloc.Global.{Global}
use Rattle.std.proofs.lemmas.List.Elements.{All-nil, All-cons, All-head, All-tail, All-append}
use Rattle.yarn_blocks.specs.Tree.{Leaf, Group, Choice, Stmts, Nil, Cons, Options, NoOptions, AndOption, Clauses, NoClauses, AndClause, Last, NoElse, ElseOf, stmts_then}
use Rattle.yarn_value.specs.declared.value.Value.{Value}
use Rattle.yarn_expr.specs.declared.tree.Expr.{Expr}
use Rattle.yarn_blocks.specs.declared.tree.Head.{Head}
use Rattle.yarn_blocks.specs.declared.tree.LineText.{LineText}
use Rattle.yarn_blocks.specs.declared.entry.Simple.TheVariants as simple
use Rattle.yarn_code.specs.declared.event.Event.TheVariants as event
use Rattle.yarn_code.specs.Moments.{State, Moment, moment}
use Rattle.yarn_value.specs.Pairs.{Pairs}
use Rattle.yarn_meaning.specs.Eval.{eval}
use Rattle.yarn_value.specs.Evaluation.{Evaluated, Gives, Halts, and_then}
use Rattle.yarn_meaning.specs.Does.{Exit, Through, Jumps, Stops, Halted, Waiting, Done, done, prefixed, goes_on, and_on, showing, using, waits, group_line, title_in, does, does_all, does_option, does_clauses, does_last}
use Rattle.yarn_meaning.specs.Texts.{Table, Tells, TellsAll, said_in, said_in_one, said_in_options, said_in_clauses, said_in_last}
use Rattle.yarn_walker.specs.States.{at, no_hosts}
use Rattle.yarn_walker.specs.Weight.{weight, weight_clauses, weight_last}
use Rattle.yarn_walker.specs.Clauses.{Chooses, IsBodyOf, else_body}
use Rattle.yarn_walker.specs.Offers.{all_shown, texts_of, AreOf, Offers}
use Rattle.yarn_walker.specs.Deeds.{Does, title_given}
use Rattle.yarn_walker.proofs.OfferLemmas.{MeansAt, using_halts}
use Rattle.yarn_walker.specs.declared.offer.Offer.{Offer}
use Rattle.yarn_walker.specs.declared.halt.Halt.{Halt}
use Rattle.yarn_walker.specs.declared.halt.Halt.TheVariants as halt

-- ---- one list behind another

goes_on_prefixed : (x : Exit) (ms ns : List Moment) (st : State) (b : Stmts) (next : State → Done) →
    goes_on x (ms ++ ns) st b next ≡ prefixed ms (goes_on x ns st b next)
goes_on_prefixed Through ms ns st b next =
    ap (λ l. record { moments = l; exit = (next st).exit; state = (next st).state }) (append_assoc ms ns (next st).moments)
goes_on_prefixed (Jumps line title) ms ns st b next = refl
goes_on_prefixed (Stops line) ms ns st b next = refl
goes_on_prefixed (Halted line halt) ms ns st b next = refl
goes_on_prefixed Waiting ms ns st b next = refl

pub prefixed_then : (ms : List Moment) (d : Done) (b : Stmts) (next : State → Done) → and_on (prefixed ms d) b next ≡ prefixed ms (and_on d b next)
prefixed_then ms d b next = goes_on_prefixed d.exit ms d.moments d.state b next

goes_on_then : (x : Exit) (ms : List Moment) (st : State) (a b all : Stmts) (f g h : State → Done) →
    ((s : State) → h s ≡ and_on (f s) b g) → goes_on x ms st all h ≡ and_on (goes_on x ms st a f) b g
goes_on_then Through ms st a b all f g h e = ap (prefixed ms) (e st) ∙ sym (prefixed_then ms (f st) b g)
goes_on_then (Jumps line title) ms st a b all f g h e = refl
goes_on_then (Stops line) ms st a b all f g h e = refl
goes_on_then (Halted line halt) ms st a b all f g h e = refl
goes_on_then Waiting ms st a b all f g h e = refl

-- a body with the statements behind it does what they do one after the other
pub body_then : (body b : Stmts) (st : State) → does_all no_hosts (stmts_then body b) st ≡ and_on (does_all no_hosts body st) b (λ st1. does_all no_hosts b st1)
body_then Nil b st = refl
body_then (Cons s a) b st =
    let d : Done = does no_hosts s st in
    goes_on_then d.exit d.moments d.state a b (stmts_then a b) (λ st1. does_all no_hosts a st1) (λ st1. does_all no_hosts b st1)
    (λ st1. does_all no_hosts (stmts_then a b) st1) (λ st1. body_then a b st1)

weight_then : (body b : Stmts) → weight (stmts_then body b) ≡ weight body + weight b
weight_then Nil b = omega arith
weight_then (Cons s a) b = let e = weight_then a b in omega arith

said_then : (body b : Stmts) → said_in (stmts_then body b) ≡ said_in body ++ said_in b
said_then Nil b = refl
said_then (Cons s a) b = ap (λ l. said_in_one s ++ l) (said_then a b) ∙ sym (append_assoc (said_in_one s) (said_in a) (said_in b))

All-split : {X : Type 0} (P : X → Type 0) (xs ys : List X) → All P (xs ++ ys) → All P xs × All P ys
All-split P [] ys all = (All-nil P, all)
All-split P (x ∷ xs) ys all =
    let split : All P xs × All P ys = All-split P xs ys (All-tail P x (xs ++ ys) all) in
    (All-cons P x xs (All-head P x (xs ++ ys) all) split.0, split.1)

-- ---- a line

pub line_told : (table : Table) (text : LineText) (b : Stmts) →
    TellsAll table (said_in (Cons (Leaf (simple.Line text)) b)) → Tells table text × TellsAll table (said_in b)
line_told table text b told = (All-head (Tells table) text (said_in b) told, All-tail (Tells table) text (said_in b) told)

-- a line without substitutions is said
pub plain_does : (text : LineText) (b : Stmts) (store : Pairs) → text.holes ≡ [] → (answers : List ℕ) →
    does_all no_hosts (Cons (Leaf (simple.Line text)) b) (at store answers) ≡ showing (event.Line text.id []) (at store answers) (does_all no_hosts b (at store answers))
plain_does text b store plain answers = rw plain refl

-- ---- a group

pub group_does : (os : Options) (b : Stmts) (store : Pairs) (offers : Vec Offer Global) → Offers os store (Ok offers) → (answers : List ℕ) →
    does_all no_hosts (Cons (Group os) b) (at store answers)
    ≡ showing (event.Options (all_shown offers.items)) (at store answers)
    (and_on (waits (group_line os) (all_shown offers.items) (at store answers) (λ n st1. does_option no_hosts os n st1)) b (λ st1. does_all no_hosts b st1))
group_does os b store offers means answers =
    ap (λ d. and_on d b (λ st1. does_all no_hosts b st1))
    (means answers (λ cs st1. showing (event.Options cs) st1 (waits (group_line os) cs st1 (λ n st2. does_option no_hosts os n st2))))
    ∙ prefixed_then (moment (event.Options (all_shown offers.items)) (at store answers) ∷ [])
    (waits (group_line os) (all_shown offers.items) (at store answers) (λ n st1. does_option no_hosts os n st1)) b (λ st1. does_all no_hosts b st1)

pub group_halts : (os : Options) (b : Stmts) (store : Pairs) (e : Halt) → Offers os store (Err e) → Does (Cons (Group os) b) store (Err e) b store
group_halts os b store (halt.Fault line fault) means =
    λ answers. ap (λ d. and_on d b (λ st1. does_all no_hosts b st1))
    (means answers (λ cs st1. showing (event.Options cs) st1 (waits (group_line os) cs st1 (λ n st2. does_option no_hosts os n st2))))
group_halts os b store halt.Memory means = tt

texts_told : (table : Table) (os : Options) → TellsAll table (said_in_options os) → TellsAll table (texts_of os)
texts_told table NoOptions told = All-nil (Tells table)
texts_told table (AndOption n body os) told =
    let rest : TellsAll table (said_in body ++ said_in_options os) = All-tail (Tells table) n.text (said_in body ++ said_in_options os) told in
    All-cons (Tells table) n.text (texts_of os) (All-head (Tells table) n.text (said_in body ++ said_in_options os) told)
    (texts_told table os (All-split (Tells table) (said_in body) (said_in_options os) rest).1)

offers_told : (table : Table) (offers : List Offer) → TellsAll table (map (λ offer. offer.text.now) offers) →
    All (λ (offer : Offer). Tells table offer.text.now) offers
offers_told table [] told = All-nil (λ (offer : Offer). Tells table offer.text.now)
offers_told table (offer ∷ offers) told =
    let texts : List LineText = map (λ o. o.text.now) offers in
    All-cons (λ (o : Offer). Tells table o.text.now) offer offers (All-head (Tells table) offer.text.now texts told)
    (offers_told table offers (All-tail (Tells table) offer.text.now texts told))

pub group_told : (table : Table) (os : Options) (b : Stmts) (offers : List Offer) → AreOf os offers → TellsAll table (said_in (Cons (Group os) b)) →
    (All (λ (offer : Offer). Tells table offer.text.now) offers × TellsAll table (said_in_options os)) × TellsAll table (said_in b)
group_told table os b offers are told =
    let split : TellsAll table (said_in_options os) × TellsAll table (said_in b) = All-split (Tells table) (said_in_options os) (said_in b) told in
    ((offers_told table offers (subst (TellsAll table) (sym are) (texts_told table os split.0)), split.0), split.1)

-- ---- an `if`

pub if_does : (cs : Clauses) (last : Last) (e : Head) (body b : Stmts) (store : Pairs) →
    ((answers : List ℕ) → does_clauses no_hosts cs (at store answers) (λ st. does_last no_hosts last st) ≡ does_all no_hosts body (at store answers)) →
    (answers : List ℕ) → does_all no_hosts (Cons (Choice cs last e) b) (at store answers) ≡ does_all no_hosts (stmts_then body b) (at store answers)
if_does cs last e body b store chosen answers =
    ap (λ d. and_on d b (λ st1. does_all no_hosts b st1)) (chosen answers) ∙ sym (body_then body b (at store answers))

pub if_halts : (cs : Clauses) (last : Last) (end : Head) (b : Stmts) (store : Pairs) (e : Halt) → Chooses cs last store (Err e) →
    Does (Cons (Choice cs last end) b) store (Err e) b store
if_halts cs last end b store (halt.Fault line fault) chosen = λ answers. ap (λ d. and_on d b (λ st1. does_all no_hosts b st1)) (chosen answers)
if_halts cs last end b store halt.Memory chosen = tt

weight_else : (last : Last) → weight (else_body last) ≡ weight_last last
weight_else NoElse = refl
weight_else (ElseOf head body) = refl

weight_body : (cs : Clauses) (last : Last) (body : Stmts) → IsBodyOf cs last body → weight body ≤ weight_clauses cs + weight_last last
weight_body NoClauses last body is = let e = ap weight is in let f = weight_else last in omega arith
weight_body (AndClause n own cs) last body (inl is) = let e = ap weight is in omega arith
weight_body (AndClause n own cs) last body (inr is) = let e = weight_body cs last body is in omega arith

pub if_less : (cs : Clauses) (last : Last) (e : Head) (body b : Stmts) → IsBodyOf cs last body → weight (stmts_then body b) < weight (Cons (Choice cs last e) b)
if_less cs last e body b is = let w = weight_then body b in let v = weight_body cs last body is in omega arith

said_else : (last : Last) → said_in (else_body last) ≡ said_in_last last
said_else NoElse = refl
said_else (ElseOf head body) = refl

body_told : (table : Table) (cs : Clauses) (last : Last) (body : Stmts) → IsBodyOf cs last body →
    TellsAll table (said_in_clauses cs) → TellsAll table (said_in_last last) → TellsAll table (said_in body)
body_told table NoClauses last body is clauses_told last_told = subst (TellsAll table) (sym (ap said_in is ∙ said_else last)) last_told
body_told table (AndClause n own cs) last body (inl is) clauses_told last_told =
    subst (λ b. TellsAll table (said_in b)) (sym is) (All-split (Tells table) (said_in own) (said_in_clauses cs) clauses_told).0
body_told table (AndClause n own cs) last body (inr is) clauses_told last_told =
    body_told table cs last body is (All-split (Tells table) (said_in own) (said_in_clauses cs) clauses_told).1 last_told

pub if_told : (table : Table) (cs : Clauses) (last : Last) (e : Head) (body b : Stmts) → IsBodyOf cs last body →
    TellsAll table (said_in (Cons (Choice cs last e) b)) → TellsAll table (said_in (stmts_then body b))
if_told table cs last e body b is told =
    let split : TellsAll table (said_in_clauses cs ++ said_in_last last) × TellsAll table (said_in b) =
    All-split (Tells table) (said_in_clauses cs ++ said_in_last last) (said_in b) told in
    let own : TellsAll table (said_in_clauses cs) × TellsAll table (said_in_last last) = All-split (Tells table) (said_in_clauses cs) (said_in_last last) split.0 in
    subst (TellsAll table) (sym (said_then body b))
    (All-append (Tells table) (said_in body) (said_in b) (body_told table cs last body is own.0 own.1) split.1)

-- ---- a jump to a title that is evaluated

title_used : (line : ℕ) (meant : Evaluated Value) (st : State) →
    using line meant st (λ v st1. done (Jumps line (title_in v)) st1)
    ≡ using line (and_then meant (λ v t. Gives (title_in v) t)) st (λ title st1. done (Jumps line title) st1)
title_used line (Gives v t) st = refl
title_used line (Halts h t) st = refl

pub jump_does : (head : Head) (expr : Expr) (b : Stmts) (store : Pairs) (title : List ℕ) →
    MeansAt (title_given expr store) head.line (Ok title) → (answers : List ℕ) →
    does_all no_hosts (Cons (Leaf (simple.JumpTo head expr)) b) (at store answers) ≡ done (Jumps head.line title) (at store answers)
jump_does head expr b store title means answers =
    ap (λ d. and_on d b (λ st1. does_all no_hosts b st1))
    (title_used head.line (eval no_hosts store expr []) (at store answers)
    ∙ ap (λ x. using head.line x (at store answers) (λ t st1. done (Jumps head.line t) st1)) means)

pub jump_halts : (head : Head) (expr : Expr) (b : Stmts) (store : Pairs) (e : Halt) → MeansAt (title_given expr store) head.line (Err e) →
    Does (Cons (Leaf (simple.JumpTo head expr)) b) store (Err e) b store
jump_halts head expr b store (halt.Fault line fault) means =
    λ answers. ap (λ d. and_on d b (λ st1. does_all no_hosts b st1))
    (title_used head.line (eval no_hosts store expr []) (at store answers)
    ∙ using_halts (title_given expr store) head.line line fault store (λ t st1. done (Jumps head.line t) st1) means answers)
jump_halts head expr b store halt.Memory means = tt
