-- The machine follows statements.
use Rattle.std.proofs.Common.{◌≡◌, ℕ, zero, suc, ◌+◌, true, if◌then◌else◌, List, [], ◌∷◌, ◌++◌, length, refl, sym, subst, arith}
use Rattle.yarn_value.specs.declared.value.Value.TheVariants.{Truth}
use Rattle.yarn_value.specs.declared.value.Kind.TheVariants as kind
use Rattle.yarn_blocks.specs.Tree as T
use Rattle.yarn_blocks.specs.Tree.{Leaf, Group, Choice, Nil, Cons, NoOptions, AndOption, NoClauses, AndClause, NoElse, ElseOf, Offered}
use Rattle.yarn_types.specs.KindSets.{only}
use Rattle.yarn_types.specs.Typings.{kinds_in}
use Rattle.yarn_code.specs.declared.event.Event.TheVariants as event
use Rattle.yarn_code.specs.Moments.{State, with_tape}
use Rattle.yarn_value.specs.Pairs.{Pairs}
use Rattle.yarn_meaning.specs.Eval.{eval}
use Rattle.yarn_meaning.specs.Does.{Done, is_true, showing, waits, group_line, does, does_all, does_option, does_clauses, does_last}
use Rattle.yarn_code.specs.Answers.{is_open, any_open}
use Rattle.yarn_meaning.specs.First.{Exits, after}
use Rattle.yarn_code.specs.declared.program.Instr.TheVariants as instr
use Rattle.yarn_code.specs.declared.program.Coded.{Coded}
use Rattle.yarn_code.specs.Parts.{coded}
use Rattle.yarn_code.specs.declared.program.Program.{Program}
use Rattle.yarn_compile.specs.Code.{Terms, expr_code, heads_size, ask_size, size, size_all, bodies_size, clauses_size, last_size, heads_code, ask_code, stmt_code, stmts_code, bodies_code, clauses_code, last_code}
use Rattle.yarn_kinds.specs.Typed.{variables_in}
use Rattle.yarn_code.specs.MachineState.{StackEntry, Value as Val, Destination, Stack, Offer, choices, Options, Rests, MachineState, machine}
use Rattle.yarn_code.specs.Machine.{label_at, Quiet, next}
use Rattle.yarn_kinds.proofs.Asked.{conditions}
use Rattle.yarn_compile.proofs.Follows.{Stands, first_stands, rest_stands, front_stands, back_stands, stands_as, running, Site, here_of, scope_in, Follows, quiet, shows_same, at_place, step}
use Rattle.yarn_compile.proofs.Kinded.{own_kind}
use Rattle.yarn_compile.proofs.Fitted.{in_set_kinded}
use Rattle.yarn_compile.proofs.ExpressionsCompute.{expr_follows}
use Rattle.yarn_compile.proofs.CodeSizes.{length-heads, length-ask, length-stmt, length-stmts, length-bodies, length-clauses}
use Rattle.yarn_compile.proofs.Ways.{after_using, either, Outs, Way, exits, moved, before, after_and_on, comes_by, comes_as}
use Rattle.yarn_compile.proofs.Sound.{FitsAll, FitsOne, FitsOptions, FitsClauses, FitsLast}
use Rattle.yarn_compile.proofs.Waiting.{shown}
use Rattle.yarn_compile.proofs.SimplesFollow.{simple_follows}
use Rattle.yarn_compile.proofs.HeadsFollow.{labelled, heads_follow}

module _ (terms : Terms) (p : Program) (site : Site terms p) (n : ℕ) (Good : Pairs → Type 0) (outs : Outs terms p site n Good) where
  abbrev title : List ℕ
  title = site.node.node.title

  abbrev at_ : ℕ → Stack → State → MachineState
  at_ pc stack st = running (here_of site) pc stack [] st

  abbrev all_size : T.Stmts → ℕ
  all_size = size_all terms site.node.node.title

  abbrev WayAt : ℕ → Stack → Type 0
  WayAt pc stack = Way terms p site n Good outs pc stack

  abbrev out : (pc : ℕ) (stack : Stack) → Way terms p site n Good outs pc stack → Exits
  out = exits terms p site n Good outs

  -- a way behind a step, and at a place under another name
  abbrev stepped : (pc pc' : ℕ) (stack stack' : Stack) →
      ((st : State) → next p (running (here_of site) pc stack [] st) ≡ Quiet (running (here_of site) pc' stack' [] st)) → WayAt pc' stack' →
      WayAt pc stack
  stepped pc pc' stack stack' e way = moved terms p site n Good outs pc pc' stack stack' (comes_by terms p site pc pc' stack stack' e) way

  abbrev renamed : (pc pc' : ℕ) (stack : Stack) → pc ≡ pc' → WayAt pc' stack → WayAt pc stack
  renamed pc pc' stack e way = moved terms p site n Good outs pc pc' stack stack (comes_as terms p site pc pc' stack e) way

  abbrev FollowsStmt : ℕ → (State → Done) → ℕ → Stack → Type 0
  FollowsStmt long f pc stack =
      (st : State) (way : Way terms p site n Good outs (pc + long) stack) → Good st.store →
      Follows p n (running (here_of site) pc stack [] st) (after (f st) (exits terms p site n Good outs (pc + long) stack way))

  mutual
    pub stmt_follows : (s : T.Stmt) (pc : ℕ) (stack : Stack) → FitsOne terms s →
        Stands site.code pc (stmt_code terms title pc s) → FollowsStmt (size terms title s) (does (scope_in site) s) pc stack
    stmt_follows (Leaf s) pc stack fit laid st way good = simple_follows terms p site n Good outs s pc stack fit laid st way good
    stmt_follows (Group os) pc stack fit laid st way good =
        let line : ℕ = group_line os in
        let ps : ℕ = pc + heads_size terms os in
        let bodies : ℕ = pc + heads_size terms os + 2 in
        let end : ℕ = pc + heads_size terms os + 2 + bodies_size terms title os in
        let heads = heads_code terms title bodies os in
        let cb = bodies_code terms title bodies end os in
        let pop : Coded = coded line instr.Pop in
        let tail : List Coded = coded line instr.ShowOptions ∷ coded line instr.Jump ∷ (cb ++ pop ∷ []) in
        let lh = length-heads terms title bodies os in
        let es : pc + length heads ≡ ps = omega arith in
        let hs = stands_as es (back_stands heads tail laid) in
        let eb : ps + 1 + 1 ≡ bodies = omega arith in
        let hb = stands_as eb (rest_stands (rest_stands hs)) in
        let lb = length-bodies terms title bodies end os in
        let ee : bodies + length cb ≡ end = omega arith in
        let he = stands_as ee (back_stands cb (pop ∷ []) hb) in
        let len : end + 1 ≡ pc + (heads_size terms os + 2 + bodies_size terms title os + 1) = omega arith in
        let body : ℕ → State → Done = λ i st1. does_option (scope_in site) os i st1 in
        let x : Exits = out (pc + (heads_size terms os + 2 + bodies_size terms title os + 1)) stack way in
        heads_follow terms p site n x outs.halts Good outs.keeps os fit pc bodies stack [] [] st
        (λ cs st1. showing (event.Options cs) st1 (waits line cs st1 body)) good (front_stands heads tail laid) (λ cs st1 good1 same.
        let offers : List Offer = labelled terms title bodies os cs in
        subst (λ l. Follows p n (running (here_of site) ps stack offers st1) (after (showing (event.Options l) st1 (waits line l st1 body)) x)) same
        (shows_same p n _ (machine (here_of site) (ps + 1) stack [] (Rests (Options offers)) st1) (event.Options (choices offers))
        (after (waits line (choices offers) st1 body) x)
        (step terms p site ps stack offers st1 line instr.ShowOptions (first_stands hs))
        (shown terms p site n x outs.halts Good ps line stack offers instr.ShowOptions body (first_stands hs) (λ i st2 good2 can.
        let top : StackEntry = Destination (label_at i offers) in
        quiet p n _ (at_ (label_at i offers) (top ∷ stack) st2) _
        (step terms p site (ps + 1) (top ∷ stack) [] st2 line instr.Jump (first_stands (rest_stands hs)))
        (option_follows os bodies end top stack fit (front_stands cb (pop ∷ []) hb) i cs can st2
        (stepped end (end + 1) (top ∷ stack) stack (λ st3. step terms p site end (top ∷ stack) [] st3 line instr.Pop (first_stands he))
        (renamed (end + 1) _ stack len way)) good2)) st1 good1 (any_open (choices offers)) refl)))
    stmt_follows (Choice cs last e) pc stack fit laid st way good =
        let pl : ℕ = pc + clauses_size terms title cs in
        let end : ℕ = pc + clauses_size terms title cs + last_size terms title last in
        let c = clauses_code terms title pc end cs in
        let l = last_code terms title pl last in
        let lc = length-clauses terms title pc end cs in
        let el : pc + length c ≡ pl = omega arith in
        let hl = stands_as el (back_stands c l laid) in
        let len : end ≡ pc + (clauses_size terms title cs + last_size terms title last) = omega arith in
        let ends : WayAt end stack = renamed end _ stack len way in
        clauses_follow cs pc end stack fit.0 (front_stands c l laid) st (λ st1. does_last (scope_in site) last st1) ends good
        (λ st1 good1. last_follows last pl stack fit.1 hl st1 ends good1)

    pub stmts_follow : (b : T.Stmts) (pc : ℕ) (stack : Stack) → FitsAll terms b →
        Stands site.code pc (stmts_code terms title pc b) → FollowsStmt (size_all terms title b) (does_all (scope_in site) b) pc stack
    stmts_follow Nil pc stack fit laid st way good =
        let e : pc + 0 ≡ pc = omega arith in
        at_place p n _ _ _ stack [] st _ e (way.follows st good)
    stmts_follow (Cons s b) pc stack fit laid st way good =
        let cs = stmt_code terms title pc s in
        let ls = length-stmt terms title pc s in
        let pb : ℕ = pc + size terms title s in
        let e : pc + length cs ≡ pb = omega arith in
        let rest = stands_as e (back_stands cs _ laid) in
        let len : pb + all_size b ≡ pc + (size terms title s + all_size b) = omega arith in
        let follows : (st1 : State) → Good st1.store → Follows p n (at_ pb stack st1) (after (does_all (scope_in site) b st1) (out _ stack way)) =
        λ st1 good1. stmts_follow b pb stack fit.1 rest st1 (renamed _ _ stack len way) good1 in
        after_and_on terms p site n Good outs b pb _ stack way follows rest fit.1 (sym len) _ (does (scope_in site) s st)
        (stmt_follows s pc stack fit.0 (front_stands cs _ laid) st
        (before terms p site n Good outs b pb _ stack way follows rest fit.1 (sym len)) good)

    -- the body of an option, and its jump to the end
    option_follows : (os : T.Options) (pc end : ℕ) (top : StackEntry) (stack : Stack) → FitsOptions terms os →
        Stands site.code pc (bodies_code terms title pc end os) →
        (i : ℕ) (cs : List _) → is_open i (choices (labelled terms title pc os cs)) ≡ true →
        (st : State) (way : Way terms p site n Good outs end (top ∷ stack)) →
        Good st.store →
        Follows p n (running (here_of site) (label_at i (labelled terms title pc os cs)) (top ∷ stack) [] st)
        (after (does_option (scope_in site) os i st) (exits terms p site n Good outs end (top ∷ stack) way))
    option_follows NoOptions pc end top stack fit laid i cs can st way good = absurd cc
    option_follows (AndOption o body os) pc end top stack fit laid i [] can st way good = absurd cc
    option_follows (AndOption o body os) pc end top stack fit laid zero (c ∷ cs) can st way good =
        let cb = stmts_code terms title pc body in
        let pj : ℕ = pc + all_size body in
        let tail : List Coded = coded o.text.line (instr.JumpTo end) ∷ bodies_code terms title (pc + (all_size body + 1)) end os in
        let lb = length-stmts terms title pc body in
        let e : pc + length cb ≡ pj = omega arith in
        let hj = stands_as e (back_stands cb tail laid) in
        stmts_follow body pc (top ∷ stack) fit.1 (front_stands cb tail laid) st
        (stepped pj end (top ∷ stack) (top ∷ stack)
        (λ st1. step terms p site pj (top ∷ stack) [] st1 o.text.line (instr.JumpTo end) (first_stands hj)) way) good
    option_follows (AndOption o body os) pc end top stack fit laid (suc i) (c ∷ cs) can st way good =
        let cb = stmts_code terms title pc body in
        let pr : ℕ = pc + (all_size body + 1) in
        let more = bodies_code terms title pr end os in
        let lb = length-stmts terms title pc body in
        let e : pc + length cb + 1 ≡ pr = omega arith in
        let hr = stands_as e (rest_stands (back_stands cb (coded o.text.line (instr.JumpTo end) ∷ more) laid)) in
        option_follows os pr end top stack fit.2 hr i cs can st way good

    -- the clauses of an `if`, each with its jump to the end; behind them stands what is done otherwise
    clauses_follow : (cs : T.Clauses) (pc end : ℕ) (stack : Stack) → FitsClauses terms cs →
        Stands site.code pc (clauses_code terms title pc end cs) →
        (st : State) (otherwise : State → Done) (way : Way terms p site n Good outs end stack) → Good st.store →
        ((st1 : State) → Good st1.store →
        Follows p n (running (here_of site) (pc + clauses_size terms title cs) stack [] st1)
        (after (otherwise st1) (exits terms p site n Good outs end stack way))) →
        Follows p n (running (here_of site) pc stack [] st)
        (after (does_clauses (scope_in site) cs st otherwise) (exits terms p site n Good outs end stack way))
    clauses_follow NoClauses pc end stack fit laid st otherwise way good other =
        let e : pc + 0 ≡ pc = omega arith in
        at_place p n _ _ _ stack [] st _ e (other st good)
    clauses_follow (AndClause q body cs) pc end stack fit laid st otherwise way good other =
        let line : ℕ = q.head.line in
        let ce = expr_code terms line q.condition in
        let pe : ℕ = pc + length ce in
        let pb : ℕ = pc + ask_size terms q in
        let pj : ℕ = pc + ask_size terms q + all_size body in
        let to : ℕ = pc + ask_size terms q + all_size body + 1 in
        let pr : ℕ = pc + ask_size terms q + all_size body + 2 in
        let ask = ask_code terms title to q in
        let cb = stmts_code terms title pb body in
        let more = clauses_code terms title pr end cs in
        let tail : List Coded = coded line (instr.JumpTo end) ∷ coded line instr.Pop ∷ more in
        let ha = front_stands ask (cb ++ tail) laid in
        let hq = back_stands ce (coded line (instr.JumpIfFalse to) ∷ coded line instr.Pop ∷ []) ha in
        let la = length-ask terms title to q in
        let e1 : pc + length ask ≡ pb = omega arith in
        let hb = stands_as e1 (back_stands ask (cb ++ tail) laid) in
        let lb = length-stmts terms title pb body in
        let e2 : pb + length cb ≡ pj = omega arith in
        let hj = stands_as e2 (back_stands cb tail hb) in
        let e3 : pj + 1 + 1 ≡ pr = omega arith in
        let hr = stands_as e3 (rest_stands (rest_stands hj)) in
        let e4 : pe + 1 + 1 ≡ pb = omega arith in
        let len : pr + clauses_size terms title cs ≡ pc + (ask_size terms q + all_size body + 2 + clauses_size terms title cs) = omega arith in
        after_using terms p site n (out end stack way) outs.halts _ line (eval (scope_in site) st.store q.condition st.tape) st
        (λ v st1. if is_true v then does_all (scope_in site) body st1 else does_clauses (scope_in site) cs st1 otherwise)
        (expr_follows terms p site n line st (outs.keeps st.store good) q.condition
        (in_set_kinded (only kind.Truth) (own_kind terms q.condition) fit.0) pc stack [] st.tape
        (λ v t. after (if is_true v then does_all (scope_in site) body (with_tape t st) else does_clauses (scope_in site) cs
        (with_tape t st) otherwise) (out end stack way)) (front_stands ce _ ha) (λ v t gives.
        let st1 = with_tape t st in
        let truth = conditions (scope_in site) (variables_in terms.entries) (kinds_in terms.entries) st.store q.condition st.tape t v
        (outs.keeps st.store good) fit.0 gives in
        let goes : next p (at_ pe (Val v ∷ stack) st1) ≡ Quiet (at_ (if is_true v then pe + 1 else to) (Val v ∷ stack) st1) =
        subst (λ y. next p (at_ pe (Val y ∷ stack) st1) ≡ Quiet (at_ (if is_true y then pe + 1 else to) (Val y ∷ stack) st1)) (sym truth.1)
        (step terms p site pe (Val (Truth truth.0) ∷ stack) [] st1 line (instr.JumpIfFalse to) (first_stands hq)) in
        either terms p site n (out end stack way) (is_true v) _ (pe + 1) to (Val v ∷ stack) st1 (does_all (scope_in site) body st1)
        (does_clauses (scope_in site) cs st1 otherwise) goes
        (quiet p n _ (at_ (pe + 1 + 1) stack st1) _ (step terms p site (pe + 1) (Val v ∷ stack) [] st1 line instr.Pop (first_stands (rest_stands hq)))
        (at_place p n _ _ _ stack [] st1 _ (sym e4) (stmts_follow body pb stack fit.1 (front_stands cb tail hb) st1
        (stepped pj end stack stack (λ st2. step terms p site pj stack [] st2 line (instr.JumpTo end) (first_stands hj)) way) good)))
        (quiet p n _ (at_ (to + 1) stack st1) _ (step terms p site to (Val v ∷ stack) [] st1 line instr.Pop (first_stands (rest_stands hj)))
        (at_place p n _ _ _ stack [] st1 _ (sym e3)
        (clauses_follow cs pr end stack fit.2 hr st1 otherwise way good
        (λ st2 good2. at_place p n _ _ _ stack [] st2 _ (sym len) (other st2 good2)))))))

    -- the `else`
    last_follows : (last : T.Last) (pc : ℕ) (stack : Stack) → FitsLast terms last →
        Stands site.code pc (last_code terms title pc last) →
        FollowsStmt (last_size terms title last) (does_last (scope_in site) last) pc stack
    last_follows NoElse pc stack fit laid st way good =
        let e : pc + 0 ≡ pc = omega arith in
        at_place p n _ _ _ stack [] st _ e (way.follows st good)
    last_follows (ElseOf head body) pc stack fit laid st way good = stmts_follow body pc stack fit laid st way good
