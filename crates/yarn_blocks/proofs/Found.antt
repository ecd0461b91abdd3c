-- What is read is a block.
use Rattle.std.proofs.Common.{◌≡◌, ℕ, ◌+◌, ◌≤◌, Bool, true, false, cond, List, [], ◌∷◌, ◌++◌, Option, Some, None, refl, sym, ap, ◌∙◌, subst, arith, append_assoc}
use Rattle.std.specs.Prelude.{nat_lt, option_and_then}
use Rattle.std.proofs.lemmas.Bool.{lt-ltb}
use Rattle.std.proofs.lemmas.Bool.Decides.{nat_tests}
use Rattle.yarn_blocks.specs.declared.tree.Head.{Head}
use Rattle.yarn_blocks.specs.declared.entry.Entry.{Entry}
use Rattle.yarn_blocks.specs.declared.entry.Simple.{Simple}
use Rattle.yarn_blocks.specs.declared.entry.What.{What}
use Rattle.yarn_blocks.specs.declared.entry.What.TheVariants.{Statement, Offer, If, ElseIf, Else, EndIf}
use Rattle.yarn_blocks.specs.Tree.{Offered, Asked, Leaf, Choice, Stmts, Nil, Cons, Clauses, NoClauses, AndClause, Last, NoElse, ElseOf, clauses_then, and_option}
use Rattle.yarn_blocks.specs.Block.{run_of, Block, empty, statement, option, choice, Tail, ends, otherwise, next}
use Rattle.yarn_blocks.specs.Reading.{Held, nothing_held, all_of, with_stmt, with_option, with_clause, Frame, InOption, InClause, InElse, State, settled, least, next_clause, last_clause, end_of_if, taken, placed, ended}
use Rattle.yarn_blocks.proofs.HeldLemmas.{clauses-assoc, plus, plus-and_option, whole}
use Rattle.yarn_blocks.proofs.Only.{From, Ends, test-below}
use Rattle.yarn_blocks.proofs.Noted.{resume}

-- The entries begin with a block, whose entries are deep enough. What is held with its statements, and what is behind it, are as said.
pub record Begins (low : ℕ) (top : Held) (xs : List Entry) (Goes : Stmts → List Entry → Type 0) : Type 0 where
  pub front : List Entry
  pub back : List Entry
  pub stmts : Stmts
  pub cut : xs ≡ front ++ back
  pub block : Block front back stmts
  pub deep : From low front
  pub goes : Goes (all_of (plus top stmts)) back

-- what is left of an `if`, and what is behind it
pub record EndsIf (low : ℕ) (back : List Entry) (Goes : Clauses → Last → Head → List Entry → Type 0) : Type 0 where
  pub left : List Entry
  pub behind : List Entry
  pub clauses : Clauses
  pub last : Last
  pub end : Head
  pub cut : back ≡ left ++ behind
  pub tail : Tail left behind clauses last end
  pub deep : From low left
  pub goes : Goes clauses last end behind

pub record EndsElse (low : ℕ) (back : List Entry) (Goes : Head → List Entry → Type 0) : Type 0 where
  pub entry : Entry
  pub end : Head
  pub behind : List Entry
  pub cut : back ≡ entry ∷ behind
  pub is : entry.what ≡ EndIf end
  pub deep : low ≤ entry.indent
  pub goes : Goes end behind

-- the innermost block is read, and these entries are behind it: with them the frames stand for the statements
abbrev pub Goes : Stmts → List Frame → Stmts → List Entry → Type 0
Goes b [] t back = (back ≡ []) × (t ≡ b)
Goes b (InOption k n before ∷ fs) t back = Ends k back × Begins (least fs) (with_option before n t) back (Goes b fs)
Goes b (InClause m sofar before ∷ fs) t back =
    EndsIf (least fs) back (λ cs last e behind. Begins (least fs) (with_stmt before (Choice (clauses_then sofar (AndClause m t cs)) last e)) behind (Goes b fs))
Goes b (InElse m sofar before ∷ fs) t back =
    EndsElse (least fs) back (λ e behind. Begins (least fs) (with_stmt before (Choice sofar (ElseOf m t) e)) behind (Goes b fs))

-- the frames with these entries stand for the statements
abbrev pub Stands : Stmts → List Frame → Held → List Entry → Type 0
Stands b fs top xs = Begins (least fs) top xs (Goes b fs)

-- nothing of the innermost block is left
stops : (b : Stmts) (fs : List Frame) (top : Held) (xs : List Entry) → Goes b fs (all_of top) xs → Stands b fs top xs
stops b fs top xs g = record { front = []; back = xs; stmts = Nil; cut = refl; block = empty; deep = tt; goes = g }

cons_cut : (x : Entry) (xs front back : List Entry) → xs ≡ front ++ back → x ∷ xs ≡ (x ∷ front) ++ back
cons_cut x xs front back e = ap (λ l. x ∷ l) e

pub From-append : (low : ℕ) (a b : List Entry) → From low a → From low b → From low (a ++ b)
From-append low [] b h k = k
From-append low (x ∷ a) b h k = (h.0, From-append low a b h.1 k)

From-less : (low high : ℕ) (a : List Entry) → low ≤ high → From high a → From low a
From-less low high [] h d = tt
From-less low high (x ∷ a) h d = (omega (arith, d.0), From-less low high a h d.1)

-- a statement more
prepend_statement : (b : Stmts) (fs : List Frame) (top : Held) (x : Entry) (n : Simple) (xs : List Entry) → x.what ≡ Statement n → least fs ≤ x.indent → Stands b fs (with_stmt top (Leaf n)) xs → Stands b fs top (x ∷ xs)
prepend_statement b fs top x n xs w h r =
    record { front = x ∷ r.front; back = r.back; stmts = Cons (Leaf n) r.stmts; cut = cons_cut x xs r.front r.back r.cut; block = statement w r.block; deep = (h, r.deep); goes = r.goes }

pub run-found : (k : ℕ) (run rest : List Entry) → From (k + 1) run → Ends k rest → run_of k (run ++ rest) ≡ run
run-found k [] [] h e = refl
run-found k [] (y ∷ ys) h e = rw (test-below k y.indent e) refl
run-found k (x ∷ run) rest h e =
    let above : nat_lt k x.indent ≡ true = lt-ltb k x.indent (omega (arith, h.0)) in
    rw above (ap (λ l. x ∷ l) (run-found k run rest h.1 e))

-- an option with its body more
prepend_option : (b : Stmts) (fs : List Frame) (top : Held) (x : Entry) (n : Offered) (run rest : List Entry) (body : Stmts) → x.what ≡ Offer n.text n.condition → least fs ≤ x.indent → Block run rest body → From (x.indent + 1) run → Ends x.indent rest →
    Stands b fs (with_option top n body) rest → Stands b fs top (x ∷ (run ++ rest))
prepend_option b fs top x n run rest body w h inner deep end r =
    let inner' : Block run (r.front ++ r.back) body = subst (λ l. Block run l body) r.cut inner in
    let found : run_of x.indent ((run ++ r.front) ++ r.back) ≡ run =
    ap (run_of x.indent) (append_assoc run r.front r.back ∙ ap (λ l. run ++ l) (sym r.cut)) ∙ run-found x.indent run rest deep end in
    record {
      front = x ∷ (run ++ r.front);
      back = r.back;
      stmts = and_option n body r.stmts;
      cut = ap (λ l. x ∷ (run ++ l)) r.cut ∙ ap (λ l. x ∷ l) (sym (append_assoc run r.front r.back));
      block = option w found inner' r.block;
      deep = (h, From-append (least fs) run r.front (From-less (least fs) (x.indent + 1) run (omega arith) deep) r.deep);
      goes = subst (λ t. Goes b fs (all_of t) r.back) (sym (plus-and_option top n body r.stmts)) r.goes;
    }

-- a whole `if` more
prepend_choice : (b : Stmts) (fs : List Frame) (top : Held) (x : Entry) (n : Asked) (e : Head) (xs left rest : List Entry) (body : Stmts) (cs : Clauses) (last : Last) → x.what ≡ If n.head n.condition → least fs ≤ x.indent → Block xs (left ++ rest) body → Tail left rest cs last e → From (least fs) xs → From (least fs) left →
    Stands b fs (with_stmt top (Choice (AndClause n body cs) last e)) rest → Stands b fs top (x ∷ (xs ++ (left ++ rest)))
prepend_choice b fs top x n e xs left rest body cs last w h first more deep deep' r =
    record {
      front = x ∷ (xs ++ (left ++ r.front));
      back = r.back;
      stmts = Cons (Choice (AndClause n body cs) last e) r.stmts;
      cut = ap (λ l. x ∷ l) (ap (λ l. xs ++ (left ++ l)) r.cut ∙ ap (λ l. xs ++ l) (sym (append_assoc left r.front r.back)) ∙ sym (append_assoc xs (left ++ r.front) r.back));
      block = choice w (subst (λ l. Block xs (left ++ l) body) r.cut first) (subst (λ l. Tail left l cs last e) r.cut more) r.block;
      deep = (h, From-append (least fs) xs (left ++ r.front) deep (From-append (least fs) left r.front deep' r.deep));
      goes = r.goes;
    }

-- the same where the first entry is at hand and the rest is open
in_option : (b : Stmts) (fs : List Frame) (top : Held) (x : Entry) (n : Offered) (xs : List Entry) → x.what ≡ Offer n.text n.condition → least fs ≤ x.indent → Stands b (InOption x.indent n top ∷ fs) nothing_held xs → Stands b fs top (x ∷ xs)
in_option b fs top x n xs w h r =
    let more : Stands b fs (with_option top n r.stmts) r.back = subst (λ t. Stands b fs (with_option top n t) r.back) (whole r.block) r.goes.1 in
    subst (λ l. Stands b fs top (x ∷ l)) (sym r.cut) (prepend_option b fs top x n r.front r.back r.stmts w h r.block r.deep r.goes.0 more)

in_if : (b : Stmts) (fs : List Frame) (top : Held) (x : Entry) (n : Asked) (xs : List Entry) → x.what ≡ If n.head n.condition → least fs ≤ x.indent → Stands b (InClause n NoClauses top ∷ fs) nothing_held xs → Stands b fs top (x ∷ xs)
in_if b fs top x n xs w h r =
    let g = r.goes in
    let more : Stands b fs (with_stmt top (Choice (AndClause n r.stmts g.clauses) g.last g.end)) g.behind = subst (λ t. Stands b fs (with_stmt top (Choice (AndClause n t g.clauses) g.last g.end)) g.behind) (whole r.block) g.goes in
    let all : xs ≡ r.front ++ (g.left ++ g.behind) = r.cut ∙ ap (λ l. r.front ++ l) g.cut in
    subst (λ l. Stands b fs top (x ∷ l)) (sym all)
    (prepend_choice b fs top x n g.end r.front g.left g.behind r.stmts g.clauses g.last w h (subst (λ l. Block r.front l r.stmts) g.cut r.block) g.tail r.deep g.deep more)

in_else_if : (b : Stmts) (fs : List Frame) (m : Asked) (sofar : Clauses) (before top : Held) (x : Entry) (n : Asked) (xs : List Entry) → x.what ≡ ElseIf n.head n.condition → least fs ≤ x.indent →
    Stands b (InClause n (with_clause sofar m (all_of top)) before ∷ fs) nothing_held xs → Stands b (InClause m sofar before ∷ fs) top (x ∷ xs)
in_else_if b fs m sofar before top x n xs w h r =
    let g = r.goes in
    let more0 : Stands b fs (with_stmt before (Choice (clauses_then (with_clause sofar m (all_of top)) (AndClause n r.stmts g.clauses)) g.last g.end)) g.behind = subst (λ t. Stands b fs (with_stmt before (Choice (clauses_then (with_clause sofar m (all_of top)) (AndClause n t g.clauses)) g.last g.end)) g.behind) (whole r.block) g.goes in
    let more : Stands b fs (with_stmt before (Choice (clauses_then sofar (AndClause m (all_of top) (AndClause n r.stmts g.clauses))) g.last g.end)) g.behind = subst (λ k. Stands b fs (with_stmt before (Choice k g.last g.end)) g.behind) (clauses-assoc sofar (AndClause m (all_of top) NoClauses) (AndClause n r.stmts g.clauses)) more0 in
    stops b (InClause m sofar before ∷ fs) top (x ∷ xs) (record {
      left = x ∷ (r.front ++ g.left);
      behind = g.behind;
      clauses = AndClause n r.stmts g.clauses;
      last = g.last;
      end = g.end;
      cut = ap (λ l. x ∷ l) (r.cut ∙ ap (λ l. r.front ++ l) g.cut ∙ sym (append_assoc r.front g.left g.behind));
      tail = next w (subst (λ l. Block r.front l r.stmts) g.cut r.block) g.tail;
      deep = (h, From-append (least fs) r.front g.left r.deep g.deep);
      goes = more;
    })

in_else : (b : Stmts) (fs : List Frame) (m : Asked) (sofar : Clauses) (before top : Held) (x : Entry) (n : Head) (xs : List Entry) → x.what ≡ Else n → least fs ≤ x.indent →
    Stands b (InElse n (with_clause sofar m (all_of top)) before ∷ fs) nothing_held xs → Stands b (InClause m sofar before ∷ fs) top (x ∷ xs)
in_else b fs m sofar before top x n xs w h r =
    let g = r.goes in
    let more : Stands b fs (with_stmt before (Choice (with_clause sofar m (all_of top)) (ElseOf n r.stmts) g.end)) g.behind = subst (λ t. Stands b fs (with_stmt before (Choice (with_clause sofar m (all_of top)) (ElseOf n t) g.end)) g.behind) (whole r.block) g.goes in
    stops b (InClause m sofar before ∷ fs) top (x ∷ xs) (record {
      left = x ∷ (r.front ++ g.entry ∷ []);
      behind = g.behind;
      clauses = NoClauses;
      last = ElseOf n r.stmts;
      end = g.end;
      cut = ap (λ l. x ∷ l) (r.cut ∙ ap (λ l. r.front ++ l) g.cut ∙ sym (append_assoc r.front (g.entry ∷ []) g.behind));
      tail = otherwise w (subst (λ l. Block r.front l r.stmts) g.cut r.block) g.is;
      deep = (h, From-append (least fs) r.front (g.entry ∷ []) r.deep (g.deep, tt));
      goes = more;
    })

in_end : (b : Stmts) (fs : List Frame) (m : Asked) (sofar : Clauses) (before top : Held) (x : Entry) (n : Head) (xs : List Entry) → x.what ≡ EndIf n → least fs ≤ x.indent →
    Stands b fs (with_stmt before (Choice (with_clause sofar m (all_of top)) NoElse n)) xs → Stands b (InClause m sofar before ∷ fs) top (x ∷ xs)
in_end b fs m sofar before top x n xs w h r =
    stops b (InClause m sofar before ∷ fs) top (x ∷ xs) (record {
      left = x ∷ [];
      behind = xs;
      clauses = NoClauses;
      last = NoElse;
      end = n;
      cut = refl;
      tail = ends w;
      deep = (h, tt);
      goes = r;
    })

in_end_else : (b : Stmts) (fs : List Frame) (m : Head) (sofar : Clauses) (before top : Held) (x : Entry) (n : Head) (xs : List Entry) → x.what ≡ EndIf n → least fs ≤ x.indent →
    Stands b fs (with_stmt before (Choice sofar (ElseOf m (all_of top)) n)) xs → Stands b (InElse m sofar before ∷ fs) top (x ∷ xs)
in_end_else b fs m sofar before top x n xs w h r =
    stops b (InElse m sofar before ∷ fs) top (x ∷ xs) (record { entry = x; end = n; behind = xs; cut = refl; is = w; deep = h; goes = r })

-- what ends the options at the top stands as before
unsettled : (b : Stmts) (x : Entry) (xs : List Entry) (fs : List Frame) (top : Held) →
    Stands b (settled x.indent fs top).frames (settled x.indent fs top).top (x ∷ xs) → Stands b fs top (x ∷ xs)
unsettled b x xs [] top r = r
unsettled b x xs (InOption k n before ∷ fs) top r = at_test (nat_lt k x.indent) refl r (unsettled b x xs fs (with_option before n (all_of top)))
  where
    at_test : (t : Bool) → nat_lt k x.indent ≡ t →
        Stands b (cond t (record { frames = InOption k n before ∷ fs; top = top }) (settled x.indent fs (with_option before n (all_of top)))).frames (cond t (record { frames = InOption k n before ∷ fs; top = top }) (settled x.indent fs (with_option before n (all_of top)))).top (x ∷ xs) →
        (Stands b (settled x.indent fs (with_option before n (all_of top))).frames (settled x.indent fs (with_option before n (all_of top))).top (x ∷ xs) → Stands b fs (with_option before n (all_of top)) (x ∷ xs)) →
        Stands b (InOption k n before ∷ fs) top (x ∷ xs)
    at_test true is r more = r
    at_test false is r more = stops b (InOption k n before ∷ fs) top (x ∷ xs) (grind (arith, nat_tests), more r)
unsettled b x xs (InClause m sofar before ∷ fs) top r = r
unsettled b x xs (InElse m sofar before ∷ fs) top r = r

-- the entries give these statements
abbrev pub Gives : Stmts → Option Stmts → Type 0
Gives b None = ⊥
Gives b (Some c) = c ≡ b

found-end : (b : Stmts) (fs : List Frame) (top : Held) → Gives b (ended fs top) → Stands b fs top []
found-end b [] top e = stops b [] top [] (refl, e)
found-end b (InOption k n before ∷ fs) top e = stops b (InOption k n before ∷ fs) top [] (tt, found-end b fs (with_option before n (all_of top)) e)
found-end b (InClause m sofar before ∷ fs) top e = absurd e
found-end b (InElse m sofar before ∷ fs) top e = absurd e

-- what the rest of the entries says at each state it says
abbrev Holds : Stmts → List Entry → Type 0
Holds b xs = (s : State) → Gives b (resume s xs) → Stands b s.frames s.top xs

found-next : (b : Stmts) (xs : List Entry) → Holds b xs → (fs : List Frame) (top : Held) (x : Entry) (n : Asked) → x.what ≡ ElseIf n.head n.condition → least fs ≤ x.indent →
    Gives b (option_and_then (λ t. resume t xs) (next_clause fs top n)) → Stands b fs top (x ∷ xs)
found-next b xs more [] top x n w h e = absurd e
found-next b xs more (InOption k m before ∷ fs) top x n w h e = absurd e
found-next b xs more (InClause m sofar before ∷ fs) top x n w h e =
    in_else_if b fs m sofar before top x n xs w h (more (record { frames = InClause n (with_clause sofar m (all_of top)) before ∷ fs; top = nothing_held }) e)
found-next b xs more (InElse m sofar before ∷ fs) top x n w h e = absurd e

found-last : (b : Stmts) (xs : List Entry) → Holds b xs → (fs : List Frame) (top : Held) (x : Entry) (n : Head) → x.what ≡ Else n → least fs ≤ x.indent →
    Gives b (option_and_then (λ t. resume t xs) (last_clause fs top n)) → Stands b fs top (x ∷ xs)
found-last b xs more [] top x n w h e = absurd e
found-last b xs more (InOption k m before ∷ fs) top x n w h e = absurd e
found-last b xs more (InClause m sofar before ∷ fs) top x n w h e =
    in_else b fs m sofar before top x n xs w h (more (record { frames = InElse n (with_clause sofar m (all_of top)) before ∷ fs; top = nothing_held }) e)
found-last b xs more (InElse m sofar before ∷ fs) top x n w h e = absurd e

found-ends : (b : Stmts) (xs : List Entry) → Holds b xs → (fs : List Frame) (top : Held) (x : Entry) (n : Head) → x.what ≡ EndIf n → least fs ≤ x.indent →
    Gives b (option_and_then (λ t. resume t xs) (end_of_if fs top n)) → Stands b fs top (x ∷ xs)
found-ends b xs more [] top x n w h e = absurd e
found-ends b xs more (InOption k m before ∷ fs) top x n w h e = absurd e
found-ends b xs more (InClause m sofar before ∷ fs) top x n w h e =
    in_end b fs m sofar before top x n xs w h (more (record { frames = fs; top = with_stmt before (Choice (with_clause sofar m (all_of top)) NoElse n) }) e)
found-ends b xs more (InElse m sofar before ∷ fs) top x n w h e =
    in_end_else b fs m sofar before top x n xs w h (more (record { frames = fs; top = with_stmt before (Choice sofar (ElseOf m (all_of top)) n) }) e)

found-taken : (b : Stmts) (xs : List Entry) → Holds b xs → (s : State) (x : Entry) (w : What) → x.what ≡ w → least s.frames ≤ x.indent →
    Gives b (option_and_then (λ t. resume t xs) (taken s x.indent w)) → Stands b s.frames s.top (x ∷ xs)
found-taken b xs more s x (Statement n) is h e = prepend_statement b s.frames s.top x n xs is h (more (record { frames = s.frames; top = with_stmt s.top (Leaf n) }) e)
found-taken b xs more s x (Offer text condition) is h e =
    let n : Offered = record { text = text; condition = condition } in
    in_option b s.frames s.top x n xs is h (more (record { frames = InOption x.indent n s.top ∷ s.frames; top = nothing_held }) e)
found-taken b xs more s x (If head condition) is h e =
    let n : Asked = record { head = head; condition = condition } in
    in_if b s.frames s.top x n xs is h (more (record { frames = InClause n NoClauses s.top ∷ s.frames; top = nothing_held }) e)
found-taken b xs more s x (ElseIf head condition) is h e = found-next b xs more s.frames s.top x (record { head = head; condition = condition }) is h e
found-taken b xs more s x (Else head) is h e = found-last b xs more s.frames s.top x head is h e
found-taken b xs more s x (EndIf head) is h e = found-ends b xs more s.frames s.top x head is h e

found-placed : (b : Stmts) (xs : List Entry) → Holds b xs → (s : State) (x : Entry) → Gives b (option_and_then (λ t. resume t xs) (placed s x)) → Stands b s.frames s.top (x ∷ xs)
found-placed b xs more s x e = at_test (nat_lt x.indent (least s.frames)) refl e
  where
    at_test : (t : Bool) → nat_lt x.indent (least s.frames) ≡ t → Gives b (option_and_then (λ t. resume t xs) (cond t None (taken s x.indent x.what))) → Stands b s.frames s.top (x ∷ xs)
    at_test true is e = absurd e
    at_test false is e = found-taken b xs more s x x.what refl (grind (arith, nat_tests)) e

pub found : (b : Stmts) (xs : List Entry) → Holds b xs
found b [] s e = found-end b s.frames s.top e
found b (x ∷ xs) s e =
    unsettled b x xs s.frames s.top (found-placed b xs (found b xs) (settled x.indent s.frames s.top) x e)
