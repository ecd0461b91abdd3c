-- The machine follows the options of a group before their bodies: substitutions, conditions, and the options that are added.
use Rattle.std.proofs.Common.{◌≡◌, ℕ, ◌+◌, Bool, true, false, List, [], ◌∷◌, ◌++◌, length, Option, Some, None, is_some, refl, sym, ap, ◌∙◌, subst, arith, append_assoc, append-nil}
use Rattle.std.specs.Prelude.{slice_get}
use Rattle.std.specs.List.{list_all}
use Rattle.std.proofs.lemmas.Bool.{and_parts}
use Rattle.yarn_value.specs.declared.value.Value.{Value}
use Rattle.yarn_value.specs.declared.value.Value.TheVariants.{Truth}
use Rattle.yarn_value.specs.declared.value.Kind.TheVariants as kind
use Rattle.yarn_expr.specs.declared.tree.Expr.{Expr}
use Rattle.yarn_blocks.specs.Tree as T
use Rattle.yarn_blocks.specs.Tree.{NoOptions, AndOption, Offered}
use Rattle.yarn_types.specs.KindSets.{only}
use Rattle.yarn_types.specs.Typings.{kinds_in}
use Rattle.yarn_types.specs.Fits.{is_in}
use Rattle.yarn_code.specs.declared.event.Choice.{Choice}
use Rattle.yarn_code.specs.Moments.{State, Behaviour, stands, with_tape}
use Rattle.yarn_value.specs.Pairs.{Pairs}
use Rattle.yarn_value.specs.Tape.{Tape}
use Rattle.yarn_meaning.specs.Eval.{eval, eval_all}
use Rattle.yarn_value.specs.Evaluation.{Halt, Evaluated, Gives, given, and_then}
use Rattle.yarn_meaning.specs.Does.{Done, asked, choice_of, with_choices, is_true}
use Rattle.yarn_meaning.specs.First.{Exits, after, halts_at}
use Rattle.yarn_code.specs.declared.program.Instr.TheVariants as instr
use Rattle.yarn_code.specs.declared.program.Coded.{Coded}
use Rattle.yarn_code.specs.Parts.{coded}
use Rattle.yarn_code.specs.declared.program.Program.{Program}
use Rattle.yarn_compile.specs.Code.{Terms, expr_code, exprs_code, condition_code, head_size, heads_size, size_all, head_code, heads_code}
use Rattle.yarn_kinds.specs.Typed.{variables_in}
use Rattle.yarn_code.specs.MachineState.{Value as Val, Stack, Offer, choices}
use Rattle.yarn_code.specs.Machine.{offer, Quiet, Stuck, next}
use Rattle.yarn_code.specs.Listed.{pushed}
use Rattle.yarn_kinds.proofs.Asked.{conditions}
use Rattle.yarn_kinds.proofs.Fitting.{FitsLine, offer_asks}
use Rattle.yarn_compile.proofs.Follows.{Stands, first_stands, front_stands, back_stands, stands_as, running, Site, here_of, scope_in, take_pushed, Follows, quiet, at_place, step, via}
use Rattle.yarn_compile.proofs.Kinded.{own_kind, is_kinded, KeepsOwn}
use Rattle.yarn_compile.proofs.Fitted.{in_set_kinded, each_kinded}
use Rattle.yarn_compile.proofs.ExpressionsCompute.{expr_follows, exprs_follow}
use Rattle.yarn_compile.proofs.CodeSizes.{length-head}
use Rattle.yarn_compile.proofs.Ways.{after_using}
use Rattle.yarn_compile.proofs.Sound.{FitsOptions}

-- the options of a group with the places of their bodies
module _ (terms : Terms) (title : List ℕ) where
  abbrev pub labelled : ℕ → T.Options → List Choice → List Offer
  labelled body NoOptions cs = []
  labelled body (AndOption o stmts os) [] = []
  labelled body (AndOption o stmts os) (c ∷ cs) = offer c.id c.values c.available body ∷ labelled (body + (size_all terms title stmts + 1)) os cs

-- what the fitting of an option says
holes_fit : (terms : Terms) (holes : List Expr) (c : Option Expr) →
    FitsLine terms.signatures terms.entries (offer_asks holes c) →
    list_all (is_kinded terms) holes ≡ true
holes_fit terms holes None h = h
holes_fit terms holes (Some e) h = (and_parts (list_all (is_kinded terms) holes) (is_in (only kind.Truth) (own_kind terms e)) h).0

-- a condition is a truth
abbrev AskedKinded : Terms → Option Expr → Type 0
AskedKinded terms None = Unit {0}
AskedKinded terms (Some e) = is_in (only kind.Truth) (own_kind terms e) ≡ true

asked_fit : (terms : Terms) (holes : List Expr) (c : Option Expr) →
    FitsLine terms.signatures terms.entries (offer_asks holes c) → AskedKinded terms c
asked_fit terms holes None h = tt
asked_fit terms holes (Some e) h =
    (and_parts (list_all (is_kinded terms) holes) (is_in (only kind.Truth) (own_kind terms e)) h).1

module _ (terms : Terms) (p : Program) (site : Site terms p) (n : ℕ) (x : Exits) (halting : (line : ℕ) (h : Halt) (st : State) → x.halts line h st ≡ stands (halts_at site.node line h) st) (Good : Pairs → Type 0) (keeps : (store : Pairs) → Good store → KeepsOwn terms store) where
  abbrev title : List ℕ
  title = site.node.node.title

  -- a condition, and the instruction that adds the option
  asked_follows : (c : Option Expr) → AskedKinded terms c →
      (pc line count label : ℕ) (id : List ℕ) (vs : List Value) (stack : Stack) (pending : List Offer) (t : Tape) (st : State) (go : Bool → Tape →
      Behaviour) → Good st.store →
      length vs ≡ count → Stands site.code pc (condition_code terms line c) →
      slice_get site.code (pc + length (condition_code terms line c)) ≡ Some (coded line (instr.AddOption count id label (is_some c))) →
      ((can : Bool) (t1 : Tape) →
      Follows p n (running (here_of site) (pc + length (condition_code terms line c) + 1) stack (pending ++ offer id vs can label ∷ [])
      (with_tape t1 st)) (go can t1)) →
      Follows p n (running (here_of site) pc (pushed vs stack) pending (with_tape t st))
      (given (asked (scope_in site) c st.store t) go (λ h t1. stands (halts_at site.node line h) (with_tape t1 st)))
  asked_follows None there pc line count label id vs stack pending t st go good len laid last f =
      let e : pc + 0 ≡ pc = omega arith in
      at_place p n _ _ _ (pushed vs stack) pending (with_tape t st) _ e
      (quiet p n _ (running (here_of site) (pc + 0 + 1) stack (pending ++ offer id vs true label ∷ []) (with_tape t st)) _
      (step terms p site (pc + 0) (pushed vs stack) pending (with_tape t st) line (instr.AddOption count id label false) last
      ∙ take_pushed vs count stack Stuck
      (λ vs1 rest. Quiet (running (here_of site) (pc + 0 + 1) rest (pending ++ offer id vs1 true label ∷ []) (with_tape t st))) len) (f true t))
  asked_follows (Some e) there pc line count label id vs stack pending t st go good len laid last f =
      let pe : ℕ = pc + length (expr_code terms line e) in
      let kinded = in_set_kinded (only kind.Truth) (own_kind terms e) there in
      via p n _ (eval (scope_in site) st.store e t) (λ v t1. Gives (is_true v) t1) go (λ h t1. stands (halts_at site.node line h) (with_tape t1 st))
      (expr_follows terms p site n line st (keeps st.store good) e kinded pc (pushed vs stack) pending t (λ v t1. go (is_true v) t1) laid
      (λ v t1 gives.
      let truth = conditions (scope_in site) (variables_in terms.entries) (kinds_in terms.entries) st.store e t t1 v
      (keeps st.store good) there gives in
      let on : next p (running (here_of site) pe (Val (Truth truth.0) ∷ pushed vs stack) pending (with_tape t1 st)) ≡ Quiet
      (running (here_of site) (pe + 1) stack (pending ++ offer id vs truth.0 label ∷ []) (with_tape t1 st)) =
      step terms p site pe (Val (Truth truth.0) ∷ pushed vs stack) pending (with_tape t1 st) line (instr.AddOption count id label true) last
      ∙ take_pushed vs count stack Stuck
      (λ vs1 rest. Quiet (running (here_of site) (pe + 1) rest (pending ++ offer id vs1 truth.0 label ∷ []) (with_tape t1 st))) len in
      quiet p n _ (running (here_of site) (pe + 1) stack (pending ++ offer id vs (is_true v) label ∷ []) (with_tape t1 st)) _
      (subst (λ x. next p (running (here_of site) pe (Val x ∷ pushed vs stack) pending (with_tape t1 st)) ≡ Quiet
      (running (here_of site) (pe + 1) stack (pending ++ offer id vs (is_true x) label ∷ []) (with_tape t1 st))) (sym truth.1) on)
      (f (is_true v) t1)))

  -- one option
  head_follows : (o : Offered) → FitsLine terms.signatures terms.entries (offer_asks o.text.holes o.condition) →
      (pc label : ℕ) (stack : Stack) (pending : List Offer) (st : State) (go : Choice → Tape → Behaviour) → Good st.store →
      Stands site.code pc (head_code terms title label o) →
      ((c : Choice) (t : Tape) →
      Follows p n (running (here_of site) (pc + head_size terms o) stack (pending ++ offer c.id c.values c.available label ∷ []) (with_tape t st))
      (go c t)) →
      Follows p n (running (here_of site) pc stack pending st)
      (given (choice_of (scope_in site) o st.store st.tape) go (λ h t. stands (halts_at site.node o.text.line h) (with_tape t st)))
  head_follows o fit pc label stack pending st go good laid f =
      let line : ℕ = o.text.line in
      let id : List ℕ = o.text.id in
      let halt : Halt → Tape → Behaviour = λ h t. stands (halts_at site.node line h) (with_tape t st) in
      let cs = exprs_code terms line o.text.holes in
      let ck = condition_code terms line o.condition in
      let i : Coded = coded line (instr.AddOption (length o.text.holes) id label (is_some o.condition)) in
      let h = back_stands cs (ck ++ i ∷ []) laid in
      let hi = back_stands ck (i ∷ []) h in
      let len : pc + length cs + length ck + 1 ≡ pc + (length cs + length ck + 1) = omega arith in
      let made : List Value → Bool → Choice = λ vs can. record { id = id; values = vs; available = can } in
      let more : List Value → Tape → Evaluated Choice =
      λ vs t1. and_then (asked (scope_in site) o.condition st.store t1) (λ can t2. Gives (made vs can) t2) in
      via p n _ (eval_all (scope_in site) st.store o.text.holes st.tape) more go halt
      (exprs_follow terms p site n line st (keeps st.store good) o.text.holes
      (each_kinded terms o.text.holes (holes_fit terms o.text.holes o.condition fit)) pc stack pending st.tape (λ vs t1. given (more vs t1) go halt)
      (front_stands cs _ laid) (λ vs t1 gives count.
      via p n _ (asked (scope_in site) o.condition st.store t1) (λ can t2. Gives (made vs can) t2) go halt
      (asked_follows o.condition (asked_fit terms o.text.holes o.condition fit) (pc + length cs) line
      (length o.text.holes) label id vs stack pending t1 st (λ can t2. go (made vs can) t2) good count (front_stands ck _ h) (first_stands hi)
      (λ can t2.
      at_place p n _ _ _ stack (pending ++ offer id vs can label ∷ []) (with_tape t2 st) _ (sym len) (f (made vs can) t2)))))

  at_pending : (pc : ℕ) (stack : Stack) (pending pending' : List Offer) (st : State) (b : Behaviour) → pending ≡ pending' →
      Follows p n (running (here_of site) pc stack pending st) b → Follows p n (running (here_of site) pc stack pending' st) b
  at_pending pc stack pending pending' st b e f = subst (λ x. Follows p n (running (here_of site) pc stack x st) b) e f

  -- all options of a group, behind those that were added before
  pub heads_follow : (os : T.Options) → FitsOptions terms os →
      (pc body : ℕ) (stack : Stack) (pending : List Offer) (before : List Choice) (st : State) (next : List Choice → State → Done) → Good st.store →
      Stands site.code pc (heads_code terms title body os) →
      ((cs : List Choice) (st1 : State) → Good st1.store → choices (labelled terms title body os cs) ≡ cs →
      Follows p n (running (here_of site) (pc + heads_size terms os) stack (pending ++ labelled terms title body os cs) st1)
      (after (next (before ++ cs) st1) x)) →
      Follows p n (running (here_of site) pc stack pending st) (after (with_choices (scope_in site) os before st next) x)
  heads_follow NoOptions fit pc body stack pending before st next good laid f =
      let e : pc + 0 ≡ pc = omega arith in
      at_place p n _ _ _ stack pending st _ e (at_pending (pc + 0) stack _ _ st _ (append-nil pending)
      (subst (λ cs. Follows p n (running (here_of site) (pc + 0) stack (pending ++ []) st) (after (next cs st) x)) (append-nil before)
      (f [] st good refl)))
  heads_follow (AndOption o stmts os) fit pc body stack pending before st next good laid f =
      let head = head_code terms title body o in
      let body' : ℕ = body + (size_all terms title stmts + 1) in
      let more = heads_code terms title body' os in
      let lh = length-head terms title body o in
      let eh : pc + length head ≡ pc + head_size terms o = omega arith in
      let hm = stands_as eh (back_stands head more laid) in
      let len : pc + head_size terms o + heads_size terms os ≡ pc + (head_size terms o + heads_size terms os) = omega arith in
      after_using terms p site n x halting _ o.text.line (choice_of (scope_in site) o st.store st.tape) st
      (λ c st1. with_choices (scope_in site) os (before ++ c ∷ []) st1 next)
      (head_follows o fit.0 pc body stack pending st (λ c t. after (with_choices (scope_in site) os (before ++ c ∷ []) (with_tape t st) next) x) good
      (front_stands head more laid) (λ c t.
      let o1 : Offer = offer c.id c.values c.available body in
      heads_follow os fit.2 (pc + head_size terms o) body' stack (pending ++ o1 ∷ []) (before ++ c ∷ []) (with_tape t st) next good hm
      (λ cs st1 good1 same.
      at_pending _ stack _ _ st1 _ (sym (append_assoc pending (o1 ∷ []) (labelled terms title body' os cs)))
      (subst (λ l. Follows p n
      (running (here_of site) (pc + head_size terms o + heads_size terms os) stack
      (pending ++ labelled terms title body (AndOption o stmts os) (c ∷ cs)) st1) (after (next l st1) x))
      (sym (append_assoc before (c ∷ []) cs)) (at_place p n _ _ _ stack _ st1 _ (sym len) (f (c ∷ cs) st1 good1 (ap (λ l. c ∷ l) same)))))))
