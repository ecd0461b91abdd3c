-- The machine follows expressions.
use Rattle.std.proofs.Common.{◌≡◌, ℕ, suc, ◌+◌, Bool, true, false, if◌then◌else◌, ◌&&◌, List, [], ◌∷◌, ◌++◌, length, map, Result, Ok, Err, Option, Some, None, is_some, refl, sym, ap, ◌∙◌, subst, arith, length-append}
use Rattle.std.specs.Prelude.{slice_get, pos, unwrap_or}
use Rattle.std.proofs.lemmas.List.{length-map}
use Rattle.yarn_value.specs.declared.value.Value.{Value}
use Rattle.yarn_value.specs.declared.value.Value.TheVariants.{Number, Str, Truth}
use Rattle.yarn_value.specs.declared.value.Kind.{Kind}
use Rattle.yarn_value.specs.declared.value.Kind.TheVariants as kind
use Rattle.yarn_value.specs.declared.fault.RunFault.{RunFault}
use Rattle.yarn_value.specs.declared.operation.Op.{Op}
use Rattle.yarn_value.specs.declared.signature.Signature.{Signature}
use Rattle.yarn_value.specs.Values.{kind_of}
use Rattle.yarn_value.specs.Builtins.{Row, applied, builtin_named}
use Rattle.yarn_value.specs.Operations.{same_text, operation}
use Rattle.yarn_value.specs.Calls.{known_result, row_result}
use Rattle.yarn_expr.specs.declared.tree.Expr.{Expr}
use Rattle.yarn_expr.specs.declared.tree.Expr.TheOpen.{Expr-F}
use Rattle.yarn_expr.specs.declared.tree.Expr.TheViews.{roll-Expr}
use Rattle.yarn_expr.specs.declared.tree.Expr.TheFolds.{fold-roll-Expr, map-Expr, ind-Expr}
use Rattle.yarn_types.specs.Typings.{kinds_in}
use Rattle.yarn_value.specs.Signatures.{signature_named}
use Rattle.yarn_types.specs.Fits.{unary_kind}
use Rattle.yarn_code.specs.Moments.{State, Behaviour, stands, with_tape}
use Rattle.yarn_code.specs.Moments as moments
use Rattle.yarn_value.specs.Pairs.{Pairs, value_under}
use Rattle.yarn_value.specs.Tape.{Tape}
use Rattle.yarn_meaning.specs.Eval.{stored, called, operated, unary_op, binary_op, each, eval_step, eval, eval_all}
use Rattle.yarn_value.specs.Evaluation.{Halt, Faults, Asks, BadReply, Evaluated, Gives, Halts, given, and_then}
use Rattle.yarn_value.specs.Replies.{is_reply_of, same_values, replied}
use Rattle.yarn_meaning.specs.First.{halts_at}
use Rattle.yarn_code.specs.declared.program.Instr.TheVariants as instr
use Rattle.yarn_code.specs.declared.program.Coded.{Coded}
use Rattle.yarn_code.specs.Parts.{coded}
use Rattle.yarn_code.specs.declared.program.Program.{Program}
use Rattle.yarn_compile.specs.Code.{Terms, kind_of_node, unary_name, binary_name, TypedCode, code_of_all, code_step, typed_expr, expr_code, exprs_code}
use Rattle.yarn_kinds.specs.Typed.{variables_in}
use Rattle.yarn_kinds.specs.Strict.{strict_then, strict_value, strict_outcome, strict_called, strict_each, strict_step, strict}
use Rattle.yarn_kinds.proofs.Names.{Each}
use Rattle.yarn_kinds.proofs.Values.{kinds}
use Rattle.yarn_kinds.proofs.Strict.{makes_nothing_up}
use Rattle.yarn_code.specs.MachineState.{Value as Val, Stack, Offer, Asks as AsksHost, MachineState, machine}
use Rattle.yarn_code.specs.Machine.{Quiet, StandsAt, Stuck, when_some, scope_at, pushes, calls, next}
use Rattle.yarn_code.specs.Listed.{pushed}
use Rattle.yarn_compile.proofs.Follows.{Stands, first_stands, front_stands, back_stands, running, Site, here_of, scope_in, take_pushed, coded_node, Follows, quiet, halts, at_place, via, breaks_here, step}
use Rattle.yarn_compile.proofs.Rows.{operators_have_rows}
use Rattle.yarn_compile.proofs.Kinded.{own_kind, KeepsOwn, left_kinded, right_kinded, in_kinded, AllKinded, args_kinded, kind_in_code}

-- two steps of an evaluation that gives a value
pub chained : {A B : Type 0} (ev : Evaluated A) (f : A → Tape → Evaluated B) (v : A) (t : Tape) (r : Evaluated B) → ev ≡ Gives v t → f v t ≡ r →
    and_then ev f ≡ r
chained ev f v t r e h = ap (λ o. and_then o f) e ∙ h

-- functions matter to a reply by the one signature alone
same_reply : (functions known : List Signature) (name : List ℕ) (vs : List Value) (t : Tape) →
    signature_named functions name ≡ signature_named known name → replied functions name vs t ≡ replied known name vs t
same_reply functions known name vs [] e = refl
same_reply functions known name vs (r ∷ t) e =
    ap (λ s. if same_text r.name name && same_values r.args vs then
    (if is_reply_of s r.value then Gives r.value t else Halts (BadReply name r.value) t) else Halts (Asks name vs) (r ∷ t)) e

-- two steps of an evaluation in which nothing is made up
exact_then : {A B : Type 0} (s : Option (Evaluated A)) (ev : Evaluated A) (g : A → Tape → Option (Evaluated B)) (f : A → Tape → Evaluated B) (v : A)
    (t : Tape) →
    s ≡ Some ev → strict_then s g ≡ Some (and_then ev f) → ev ≡ Gives v t → g v t ≡ Some (f v t)
exact_then s ev g f v t is whole e = sym (ap (λ x. strict_then x g) (is ∙ ap (λ x. Some x) e)) ∙ whole ∙ ap (λ x. Some (and_then x f)) e

exact_on : {A B : Type 0} (s : Option (Evaluated A)) (ev : Evaluated A) (g : A → Tape → Option (Evaluated B)) (f : A → Tape → Evaluated B) →
    s ≡ Some ev → ((v : A) (t : Tape) → g v t ≡ Some (f v t)) → strict_then s g ≡ Some (and_then ev f)
exact_on s (Gives v t) g f is h = ap (λ x. strict_then x g) is ∙ h v t
exact_on s (Halts x t) g f is h = ap (λ x. strict_then x g) is

-- ---- expressions that have a kind

module _ (terms : Terms) (p : Program) (site : Site terms p) (store : Pairs) (keeps : KeepsOwn terms store) where
  -- the kind is that of the value
  pub value_kind : (e : Expr) (t left : Tape) (v : Value) →
      is_some (own_kind terms e) ≡ true → eval (scope_in site) store e t ≡ Gives v left →
      own_kind terms e ≡ Some (kind_of v)
  value_kind e t left v there is = of_kind (own_kind terms e) refl there
    where
      of_kind : (o : Option Kind) → own_kind terms e ≡ o → is_some o ≡ true → o ≡ Some (kind_of v)
      of_kind None h there' = cc
      of_kind (Some k) h there' =
          ap Some (sym (kinds (scope_in site) (variables_in terms.entries) (kinds_in terms.entries) store e k t left v keeps h is))

  -- and nothing is made up
  exact_in : (e : Expr) (t : Tape) → is_some (own_kind terms e) ≡ true →
      strict (scope_in site) store e t ≡ Some (eval (scope_in site) store e t)
  exact_in e t there = of_kind (own_kind terms e) refl there
    where
      of_kind : (o : Option Kind) → own_kind terms e ≡ o → is_some o ≡ true →
          strict (scope_in site) store e t ≡ Some (eval (scope_in site) store e t)
      of_kind None h there' = cc
      of_kind (Some k) h there' = makes_nothing_up (scope_in site) (variables_in terms.entries) (kinds_in terms.entries) store e k t keeps h

  -- the same of one layer
  exact_as : (e : Expr) (s : Tape → Option (Evaluated Value)) (ev : Tape → Evaluated Value) → strict (scope_in site) store e ≡ s →
      eval (scope_in site) store e ≡ ev →
      is_some (own_kind terms e) ≡ true → (t : Tape) → s t ≡ Some (ev t)
  exact_as e s ev es ee there t = sym (ap (λ f. f t) es) ∙ exact_in e t there ∙ ap (λ f. Some (f t)) ee

  exact_each : (es : List Expr) → Each (λ e. is_some (own_kind terms e) ≡ true) es → (t : Tape) →
      strict_each (map (strict (scope_in site) store) es) t ≡ Some (eval_all (scope_in site) store es t)
  exact_each [] h t = refl
  exact_each (e ∷ es) h t =
      exact_on (strict (scope_in site) store e t) (eval (scope_in site) store e t)
      (λ v t1. strict_then (strict_each (map (strict (scope_in site) store) es) t1) (λ vs t2. Some (Gives (v ∷ vs) t2)))
      (λ v t1. and_then (eval_all (scope_in site) store es t1) (λ vs t2. Gives (v ∷ vs) t2)) (exact_in e t h.0)
      (λ v t1. exact_on (strict_each (map (strict (scope_in site) store) es) t1) (eval_all (scope_in site) store es t1)
      (λ vs t2. Some (Gives (v ∷ vs) t2)) (λ vs t2. Gives (v ∷ vs) t2)
      (exact_each es h.1 t1) (λ vs t2. refl))

-- builtins know at a site what the machine knows there
module _ (terms : Terms) (p : Program) (site : Site terms p) where
  same_known : (store : Pairs) (result : Kind) (args : List Value) →
      known_result (scope_at p (here_of site)) store result args ≡ known_result (scope_in site) store result args
  same_known store kind.Str args = refl
  same_known store kind.Truth [] = refl
  same_known store kind.Truth (Number n ∷ vs) = refl
  same_known store kind.Truth (Truth b ∷ vs) = refl
  same_known store kind.Truth (Str text ∷ []) = refl
  same_known store kind.Truth (Str text ∷ w ∷ vs) = refl
  same_known store kind.Number [] = refl
  same_known store kind.Number (Number n ∷ vs) = refl
  same_known store kind.Number (Truth b ∷ vs) = refl
  same_known store kind.Number (Str text ∷ []) = refl
  same_known store kind.Number (Str text ∷ w ∷ vs) = refl

  same_builtin : (store : Pairs) (o : Option Op) (result : Kind) (args : List Value) →
      row_result (scope_at p (here_of site)) store o result args ≡ row_result (scope_in site) store o result args
  same_builtin store None result args = same_known store result args
  same_builtin store (Some op) result args = refl

module _ (terms : Terms) (p : Program) (site : Site terms p) (n : ℕ) (line : ℕ) (st : State) where
  abbrev at : ℕ → Stack → List Offer → Tape → MachineState
  at pc stack pending t = running (here_of site) pc stack pending (with_tape t st)

  abbrev halt : Halt → Tape → Behaviour
  halt h t = stands (halts_at site.node line h) (with_tape t st)

  -- where the code stands, the machine evaluates, and pushes the value
  abbrev pub Computes : List Coded → (Tape → Evaluated Value) → Type 0
  Computes cs ev =
      (pc : ℕ) (stack : Stack) (pending : List Offer) (t : Tape) (go : Value → Tape → Behaviour) → Stands site.code pc cs →
      ((v : Value) (t1 : Tape) → ev t ≡ Gives v t1 →
      Follows p n (running (here_of site) (pc + length cs) (Val v ∷ stack) pending (with_tape t1 st)) (go v t1)) →
      Follows p n (running (here_of site) pc stack pending (with_tape t st))
      (given (ev t) go (λ h t1. stands (halts_at site.node line h) (with_tape t1 st)))

  -- what a builtin gave is pushed, or its fault ends the run
  row_follows : (o : Option (Result Value RunFault)) (ev : Evaluated Value) (pc : ℕ) (below stack : Stack) (pending : List Offer) (t : Tape)
      (go : Value → Tape → Behaviour) →
      strict_outcome o t ≡ Some ev →
      next p (at pc below pending t) ≡ when_some o Stuck
      (λ result. pushes p (coded_node site.node site.code) line result stack (at pc below pending t)) →
      ((v : Value) (t1 : Tape) → ev ≡ Gives v t1 → Follows p n (at (pc + 1) (Val v ∷ stack) pending t1) (go v t1)) →
      Follows p n (at pc below pending t) (given ev go halt)
  row_follows None ev pc below stack pending t go h e f = absurd cc
  row_follows (Some (Ok v)) ev pc below stack pending t go h e f =
      let is : Gives v t ≡ ev = cc in
      subst (λ x. Follows p n (at pc below pending t) (given x go halt)) is
      (quiet p n (at pc below pending t) (at (pc + 1) (Val v ∷ stack) pending t) (go v t) e (f v t (sym is)))
  row_follows (Some (Err fault)) ev pc below stack pending t go h e f =
      let is : Halts (Faults fault) t ≡ ev = cc in
      subst (λ x. Follows p n (at pc below pending t) (given x go halt)) is
      (breaks_here terms p site n (at pc below pending t) (at pc below pending t) line fault e)

  -- a host function is asked
  abbrev asks_at : ℕ → List ℕ → List Value → Stack → List Offer → Tape → MachineState
  asks_at pc name vs stack pending t = machine (here_of site) pc stack pending (AsksHost name vs) (with_tape t st)

  -- the reply is of the question or not, and of the function's kind or not
  reply_by : (b c : Bool) (v : Value) (pc : ℕ) (name : List ℕ) (vs : List Value) (stack : Stack) (pending : List Offer) (t left : Tape)
      (go : Value → Tape → Behaviour) →
      next p (asks_at pc name vs stack pending t)
      ≡ (if b then (if c then Quiet (at pc (Val v ∷ stack) pending left) else StandsAt (moments.BadReply name v)
      (asks_at pc name vs stack pending left))
      else StandsAt (moments.Asks name vs) (asks_at pc name vs stack pending t)) →
      ((v1 : Value) (t1 : Tape) → (if b then (if c then Gives v left else Halts (BadReply name v) left) else Halts (Asks name vs) t) ≡ Gives v1 t1 →
      Follows p n (at pc (Val v1 ∷ stack) pending t1) (go v1 t1)) →
      Follows p n (asks_at pc name vs stack pending t)
      (given (if b then (if c then Gives v left else Halts (BadReply name v) left) else Halts (Asks name vs) t) go halt)
  reply_by true true v pc name vs stack pending t left go e f = quiet p n _ (at pc (Val v ∷ stack) pending left) (go v left) e (f v left refl)
  reply_by true false v pc name vs stack pending t left go e f = halts p n _ (asks_at pc name vs stack pending left) (moments.BadReply name v) e
  reply_by false c v pc name vs stack pending t left go e f = halts p n _ (asks_at pc name vs stack pending t) (moments.Asks name vs) e

  reply_follows : (t : Tape) (pc : ℕ) (name : List ℕ) (vs : List Value) (stack : Stack) (pending : List Offer) (go : Value → Tape → Behaviour) →
      ((v : Value) (t1 : Tape) → replied p.functions name vs t ≡ Gives v t1 → Follows p n (at pc (Val v ∷ stack) pending t1) (go v t1)) →
      Follows p n (asks_at pc name vs stack pending t) (given (replied p.functions name vs t) go halt)
  reply_follows [] pc name vs stack pending go f = halts p n _ (asks_at pc name vs stack pending []) (moments.Asks name vs) refl
  reply_follows (r ∷ t) pc name vs stack pending go f =
      reply_by (same_text r.name name && same_values r.args vs)
      (is_reply_of (signature_named p.functions name) r.value) r.value pc name vs stack pending (r ∷ t) t go refl f

  -- a call of a builtin or of a host function
  pub call_follows : (o : Option Row) (pc count : ℕ) (name : List ℕ) (vs : List Value) (stack : Stack) (pending : List Offer) (t : Tape)
      (go : Value → Tape → Behaviour) → builtin_named name ≡ o →
      slice_get site.code pc ≡ Some (coded line (instr.CallFunc count name)) → length vs ≡ count →
      strict_called (scope_in site) st.store o name vs t ≡ Some (called (scope_in site) st.store o name vs t) →
      ((v : Value) (t1 : Tape) → called (scope_in site) st.store o name vs t ≡ Gives v t1 →
      Follows p n (at (pc + 1) (Val v ∷ stack) pending t1) (go v t1)) →
      Follows p n (at pc (pushed vs stack) pending t) (given (called (scope_in site) st.store o name vs t) go halt)
  call_follows (Some row) pc count name vs stack pending t go e laid len there f =
      let w : MachineState = at pc (pushed vs stack) pending t in
      let called_now = step terms p site pc (pushed vs stack) pending (with_tape t st) line (instr.CallFunc count name) laid
      ∙ take_pushed vs count stack Stuck (λ vs1 rest. calls p (coded_node site.node site.code) line (builtin_named name) name vs1 rest w) len
      ∙ ap (λ o. calls p (coded_node site.node site.code) line o name vs stack w) e
      ∙ ap (λ o. when_some o Stuck (λ result. pushes p (coded_node site.node site.code) line result stack w))
      (same_builtin terms p site st.store row.op row.result vs) in
      row_follows (row_result (scope_in site) st.store row.op row.result vs) (called (scope_in site) st.store (Some row) name vs t) pc
      (pushed vs stack) stack pending t go there called_now f
  call_follows None pc count name vs stack pending t go e laid len there f =
      let w : MachineState = at pc (pushed vs stack) pending t in
      let called_now = step terms p site pc (pushed vs stack) pending (with_tape t st) line (instr.CallFunc count name) laid
      ∙ take_pushed vs count stack Stuck (λ vs1 rest. calls p (coded_node site.node site.code) line (builtin_named name) name vs1 rest w) len
      ∙ ap (λ o. calls p (coded_node site.node site.code) line o name vs stack w) e in
      let same = same_reply p.functions terms.signatures name vs t (site.known pc count line name laid e) in
      quiet p n _ (asks_at (pc + 1) name vs stack pending t) _ called_now
      (subst (λ ev. Follows p n (asks_at (pc + 1) name vs stack pending t) (given ev go halt)) same
      (reply_follows t (pc + 1) name vs stack pending go (λ v t1 is. f v t1 (sym same ∙ is))))

  -- an operator
  operator_follows : (op : Op) (pc count : ℕ) (name : List ℕ) (vs : List Value) (stack : Stack) (pending : List Offer) (t : Tape) (go : Value →
      Tape → Behaviour) → builtin_named name ≡ Some (applied name op) →
      slice_get site.code pc ≡ Some (coded line (instr.CallFunc count name)) → length vs ≡ count →
      strict_outcome (operation op vs) t ≡ Some (operated op vs t) →
      ((v : Value) (t1 : Tape) → operated op vs t ≡ Gives v t1 → Follows p n (at (pc + 1) (Val v ∷ stack) pending t1) (go v t1)) →
      Follows p n (at pc (pushed vs stack) pending t) (given (operated op vs t) go halt)
  operator_follows op pc count name vs stack pending t go e laid len there f =
      call_follows (Some (applied name op)) pc count name vs stack pending t go e laid len there f

  pub computes_unary : (op : Op) (name : List ℕ) (cs : List Coded) (ev : Tape → Evaluated Value) → builtin_named name ≡ Some (applied name op) →
      ((v : Value) (t t1 : Tape) → ev t ≡ Gives v t1 → strict_outcome (operation op (v ∷ [])) t1 ≡ Some (operated op (v ∷ []) t1)) → Computes cs ev →
      Computes (cs ++ coded line (instr.CallFunc 1 name) ∷ []) (λ t. and_then (ev t) (λ v t1. operated op (v ∷ []) t1))
  computes_unary op name cs ev e there c pc stack pending t go laid f =
      let i : Coded = coded line (instr.CallFunc 1 name) in
      let last = first_stands (back_stands cs (i ∷ []) laid) in
      let len : pc + length cs + 1 ≡ pc + length (cs ++ i ∷ []) = omega (arith, length-append cs (i ∷ [])) in
      via p n _ (ev t) (λ v t1. operated op (v ∷ []) t1) go halt
      (c pc stack pending t (λ v t1. given (operated op (v ∷ []) t1) go halt) (front_stands cs (i ∷ []) laid) (λ v t1 e1.
      operator_follows op (pc + length cs) 1 name (v ∷ []) stack pending t1 go e last refl (there v t t1 e1) (λ w t2 e2.
      at_place p n _ _ _ (Val w ∷ stack) pending (with_tape t2 st) (go w t2) (sym len)
      (f w t2 (chained (ev t) (λ v t1. operated op (v ∷ []) t1) v t1 (Gives w t2) e1 e2)))))

  pub computes_binary : (op : Value → Op) (name : List ℕ) (cl cr : List Coded) (evl evr : Tape → Evaluated Value) →
      ((v : Value) (t t1 : Tape) → evl t ≡ Gives v t1 → builtin_named name ≡ Some (applied name (op v))) →
      ((v w : Value) (t t1 t2 : Tape) → evl t ≡ Gives v t1 → evr t1 ≡ Gives w t2 →
      strict_outcome (operation (op v) (v ∷ w ∷ [])) t2 ≡ Some (operated (op v) (v ∷ w ∷ []) t2)) →
      Computes cl evl → Computes cr evr →
      Computes (cl ++ (cr ++ coded line (instr.CallFunc 2 name) ∷ []))
      (λ t. and_then (evl t) (λ v t1. and_then (evr t1) (λ w t2. operated (op v) (v ∷ w ∷ []) t2)))
  computes_binary op name cl cr evl evr e there l r pc stack pending t go laid f =
      let i : Coded = coded line (instr.CallFunc 2 name) in
      let hr = back_stands cl (cr ++ i ∷ []) laid in
      let last = first_stands (back_stands cr (i ∷ []) hr) in
      let len : pc + length cl + length cr + 1 ≡ pc + length (cl ++ (cr ++ i ∷ [])) =
      omega (arith, length-append cl (cr ++ i ∷ []), length-append cr (i ∷ [])) in
      via p n _ (evl t) (λ v t1. and_then (evr t1) (λ w t2. operated (op v) (v ∷ w ∷ []) t2)) go halt
      (l pc stack pending t (λ v t1. given (and_then (evr t1) (λ w t2. operated (op v) (v ∷ w ∷ []) t2)) go halt) (front_stands cl _ laid) (λ v t1 e1.
      via p n _ (evr t1) (λ w t2. operated (op v) (v ∷ w ∷ []) t2) go halt
      (r (pc + length cl) (Val v ∷ stack) pending t1 (λ w t2. given (operated (op v) (v ∷ w ∷ []) t2) go halt) (front_stands cr _ hr) (λ w t2 e2.
      operator_follows (op v) (pc + length cl + length cr) 2 name (v ∷ w ∷ []) stack pending t2 go (e v t t1 e1) last refl (there v w t t1 t2 e1 e2)
      (λ x t3 e3.
      at_place p n _ _ _ (Val x ∷ stack) pending (with_tape t3 st) (go x t3) (sym len)
      (f x t3 (chained (evl t) (λ v t1. and_then (evr t1) (λ w t2. operated (op v) (v ∷ w ∷ []) t2)) v t1 (Gives x t3) e1
      (chained (evr t1) (λ w t2. operated (op v) (v ∷ w ∷ []) t2) w t2 (Gives x t3) e2 e3))))))))

  -- the values of expressions, one after another
  abbrev pub Computed : Expr → Type 0
  Computed e = Computes (expr_code terms line e) (eval (scope_in site) st.store e)

  pub exprs_follow_each : (es : List Expr) → Each Computed es → (pc : ℕ) (stack : Stack) (pending : List Offer) (t : Tape) (go : List Value →
      Tape → Behaviour) → Stands site.code pc (exprs_code terms line es) →
      ((vs : List Value) (t1 : Tape) → eval_all (scope_in site) st.store es t ≡ Gives vs t1 → length vs ≡ length es →
      Follows p n (at (pc + length (exprs_code terms line es)) (pushed vs stack) pending t1) (go vs t1)) →
      Follows p n (at pc stack pending t) (given (eval_all (scope_in site) st.store es t) go halt)
  exprs_follow_each [] c pc stack pending t go laid f =
      let e : pc + 0 ≡ pc = omega arith in
      at_place p n _ (pc + 0) pc stack pending (with_tape t st) (go [] t) e (f [] t refl refl)
  exprs_follow_each (e ∷ es) c pc stack pending t go laid f =
      let ce = expr_code terms line e in
      let cs = exprs_code terms line es in
      let len : pc + length ce + length cs ≡ pc + length (ce ++ cs) = omega (arith, length-append ce cs) in
      let more : Value → Tape → Evaluated (List Value) = λ v t1. and_then (eval_all (scope_in site) st.store es t1) (λ vs t2. Gives (v ∷ vs) t2) in
      via p n _ (eval (scope_in site) st.store e t) more go halt
      (c.0 pc stack pending t (λ v t1. given (more v t1) go halt) (front_stands ce cs laid) (λ v t1 e1.
      via p n _ (eval_all (scope_in site) st.store es t1) (λ vs t2. Gives (v ∷ vs) t2) go halt
      (exprs_follow_each es c.1 (pc + length ce) (Val v ∷ stack) pending t1 (λ vs t2. go (v ∷ vs) t2) (back_stands ce cs laid) (λ vs t2 e2 count.
      at_place p n _ _ _ (pushed vs (Val v ∷ stack)) pending (with_tape t2 st) (go (v ∷ vs) t2) (sym len)
      (f (v ∷ vs) t2 (chained (eval (scope_in site) st.store e t) more v t1 (Gives (v ∷ vs) t2) e1
      (chained (eval_all (scope_in site) st.store es t1) (λ vs t2. Gives (v ∷ vs) t2) vs t2 (Gives (v ∷ vs) t2) e2 refl)) (ap suc count))))))

  code_of_each : (es : List Expr) → code_of_all (map (typed_expr terms line) es) ≡ exprs_code terms line es
  code_of_each [] = refl
  code_of_each (e ∷ es) = ap (λ l. expr_code terms line e ++ l) (code_of_each es)

  each_of : (es : List Expr) (t : Tape) → each (map (eval (scope_in site) st.store) es) t ≡ eval_all (scope_in site) st.store es t
  each_of [] t = refl
  each_of (e ∷ es) t = λ i. and_then (eval (scope_in site) st.store e t) (λ v t1. and_then (each_of es t1 i) (λ vs t2. Gives (v ∷ vs) t2))

  computes_call : (name : List ℕ) (es : List Expr) →
      ((vs : List Value) (t t1 : Tape) → eval_all (scope_in site) st.store es t ≡ Gives vs t1 →
      strict_called (scope_in site) st.store (builtin_named name) name vs t1 ≡ Some
      (called (scope_in site) st.store (builtin_named name) name vs t1)) → Each Computed es →
      Computes (exprs_code terms line es ++ coded line (instr.CallFunc (length es) name) ∷ [])
      (λ t. and_then (eval_all (scope_in site) st.store es t) (λ vs t1. called (scope_in site) st.store (builtin_named name) name vs t1))
  computes_call name es there c pc stack pending t go laid f =
      let cs = exprs_code terms line es in
      let i : Coded = coded line (instr.CallFunc (length es) name) in
      let last = first_stands (back_stands cs (i ∷ []) laid) in
      let len : pc + length cs + 1 ≡ pc + length (cs ++ i ∷ []) = omega (arith, length-append cs (i ∷ [])) in
      let calls_it : List Value → Tape → Evaluated Value = λ vs t1. called (scope_in site) st.store (builtin_named name) name vs t1 in
      via p n _ (eval_all (scope_in site) st.store es t) calls_it go halt
      (exprs_follow_each es c pc stack pending t (λ vs t1. given (calls_it vs t1) go halt) (front_stands cs (i ∷ []) laid) (λ vs t1 e1 count.
      call_follows (builtin_named name) (pc + length cs) (length es) name vs stack pending t1 go refl last count (there vs t t1 e1) (λ v t2 e2.
      at_place p n _ _ _ (Val v ∷ stack) pending (with_tape t2 st) (go v t2) (sym len)
      (f v t2 (chained (eval_all (scope_in site) st.store es t) calls_it vs t1 (Gives v t2) e1 e2)))))

  -- ---- all expressions that have a kind

  abbrev P : Expr → Type 0
  P e = is_some (own_kind terms e) ≡ true → Computed e

  computed_as : (e : Expr) (c : TypedCode) (ev : Tape → Evaluated Value) → typed_expr terms line e ≡ c →
      eval (scope_in site) st.store e ≡ ev → Computes c.code ev → Computed e
  computed_as e c ev ec ee h = subst (λ x. Computes x.code (eval (scope_in site) st.store e)) (sym ec) (subst (λ x. Computes c.code x) (sym ee) h)

  each_computed : (es : List ((e : Expr) × P e)) → AllKinded (map (own_kind terms) (map (λ z. z.0) es)) → Each Computed (map (λ z. z.0) es)
  each_computed [] h = tt
  each_computed (e ∷ es) h = (e.1 h.0, each_computed es h.1)

  module _ (keeps : KeepsOwn terms st.store) where
    left_row : (op : _) (e : Expr) (v : Value) (t t1 : Tape) → is_some (own_kind terms e) ≡ true → eval (scope_in site) st.store e t ≡ Gives v t1 →
        builtin_named (binary_name op (typed_expr terms line e).kind) ≡ Some
        (applied (binary_name op (typed_expr terms line e).kind) (binary_op op v))
    left_row op e v t t1 there gives =
        let k = kind_in_code terms line e ∙ value_kind terms p site st.store keeps e t t1 v there gives in
        subst (λ o. builtin_named (binary_name op o) ≡ Some (applied (binary_name op o) (binary_op op v))) (sym k) (operators_have_rows.binary op v)

    -- a variable that is there
    variable_follows : (x : List ℕ) (o : Option Value) → value_under st.store x ≡ o →
        ((t : Tape) → strict_value o t ≡ Some (Gives (stored st.store x) t)) →
        Computes (coded line (instr.PushVariable x) ∷ []) (λ t. Gives (stored st.store x) t)
    variable_follows x None e there pc stack pending t go laid f = let no = there t in absurd cc
    variable_follows x (Some v) e there pc stack pending t go laid f =
        let w : MachineState = at pc stack pending t in
        let is : v ≡ stored st.store x = sym (ap (λ o. unwrap_or o (Number (pos 0))) e) in
        quiet p n _ (at (pc + 1) (Val v ∷ stack) pending t) (go (stored st.store x) t)
        (step terms p site pc stack pending (with_tape t st) line (instr.PushVariable x) (first_stands laid)
        ∙ ap (λ o. when_some o Stuck (λ v1. Quiet (at (pc + 1) (Val v1 ∷ stack) pending t))) e)
        (subst (λ v1. Follows p n (at (pc + 1) (Val v1 ∷ stack) pending t) (go (stored st.store x) t)) (sym is) (f (stored st.store x) t refl))

    each_there : (es : List Expr) → AllKinded (map (own_kind terms) es) → Each (λ e. is_some (own_kind terms e) ≡ true) es
    each_there [] h = tt
    each_there (e ∷ es) h = (h.0, each_there es h.1)

    at_layer : (y : Expr-F ((e : Expr) × P e)) → P (roll-Expr (map-Expr ((e : Expr) × P e) Expr (λ z. z.0) y))
    at_layer (Expr-F.Number x) h =
        computed_as _ _ _ (fold-roll-Expr _ (code_step terms line) (Expr-F.Number x))
        (fold-roll-Expr _ (eval_step (scope_in site) st.store) (Expr-F.Number x))
        (λ pc stack pending t go laid f. quiet p n _ (at (pc + 1) (Val (Number x) ∷ stack) pending t) (go (Number x) t)
        (step terms p site pc stack pending (with_tape t st) line (instr.PushFloat x) (first_stands laid)) (f (Number x) t refl))
    at_layer (Expr-F.Str x) h =
        computed_as _ _ _ (fold-roll-Expr _ (code_step terms line) (Expr-F.Str x))
        (fold-roll-Expr _ (eval_step (scope_in site) st.store) (Expr-F.Str x))
        (λ pc stack pending t go laid f. quiet p n _ (at (pc + 1) (Val (Str x) ∷ stack) pending t) (go (Str x) t)
        (step terms p site pc stack pending (with_tape t st) line (instr.PushString x) (first_stands laid)) (f (Str x) t refl))
    at_layer (Expr-F.Truth x) h =
        computed_as _ _ _ (fold-roll-Expr _ (code_step terms line) (Expr-F.Truth x))
        (fold-roll-Expr _ (eval_step (scope_in site) st.store) (Expr-F.Truth x))
        (λ pc stack pending t go laid f. quiet p n _ (at (pc + 1) (Val (Truth x) ∷ stack) pending t) (go (Truth x) t)
        (step terms p site pc stack pending (with_tape t st) line (instr.PushBool x) (first_stands laid)) (f (Truth x) t refl))
    at_layer (Expr-F.Variable x) h =
        let es = fold-roll-Expr _ (strict_step (scope_in site) st.store) (Expr-F.Variable x) in
        let ee = fold-roll-Expr _ (eval_step (scope_in site) st.store) (Expr-F.Variable x) in
        let exact : (t : Tape) → strict_value (value_under st.store x) t ≡ Some (Gives (stored st.store x) t) =
        exact_as terms p site st.store keeps (roll-Expr (Expr-F.Variable x)) _ _ es ee h in
        computed_as _ _ _ (fold-roll-Expr _ (code_step terms line) (Expr-F.Variable x)) ee (variable_follows x (value_under st.store x) refl exact)
    at_layer (Expr-F.Group e) h =
        let there = subst (λ k. is_some k ≡ true) (fold-roll-Expr _ (kind_of_node terms) (Expr-F.Group e.0)) h in
        computed_as _ _ _ (fold-roll-Expr _ (code_step terms line) (Expr-F.Group e.0))
        (fold-roll-Expr _ (eval_step (scope_in site) st.store) (Expr-F.Group e.0)) (e.1 there)
    at_layer (Expr-F.Unary op e) h =
        let there = subst (λ k. is_some k ≡ true) (fold-roll-Expr _ (kind_of_node terms) (Expr-F.Unary op e.0)) h in
        let inner = in_kinded (unary_kind op) (unary_kind op) (own_kind terms e.0) there in
        let es = fold-roll-Expr _ (strict_step (scope_in site) st.store) (Expr-F.Unary op e.0) in
        let ee = fold-roll-Expr _ (eval_step (scope_in site) st.store) (Expr-F.Unary op e.0) in
        let exact = exact_as terms p site st.store keeps (roll-Expr (Expr-F.Unary op e.0)) _ _ es ee h in
        computed_as _ _ _ (fold-roll-Expr _ (code_step terms line) (Expr-F.Unary op e.0)) ee
        (computes_unary (unary_op op) (unary_name op) (expr_code terms line e.0) (eval (scope_in site) st.store e.0) (operators_have_rows.unary op)
        (λ v t t1 e1. exact_then _ _ (λ v1 t2. strict_outcome (operation (unary_op op) (v1 ∷ [])) t2)
        (λ v1 t2. operated (unary_op op) (v1 ∷ []) t2) v t1 (exact_in terms p site st.store keeps e.0 t inner) (exact t) e1)
        (e.1 inner))
    at_layer (Expr-F.Binary op l r) h =
        let there = subst (λ k. is_some k ≡ true) (fold-roll-Expr _ (kind_of_node terms) (Expr-F.Binary op l.0 r.0)) h in
        let left = left_kinded op (own_kind terms l.0) (own_kind terms r.0) there in
        let right = right_kinded op (own_kind terms l.0) (own_kind terms r.0) there in
        let es = fold-roll-Expr _ (strict_step (scope_in site) st.store) (Expr-F.Binary op l.0 r.0) in
        let ee = fold-roll-Expr _ (eval_step (scope_in site) st.store) (Expr-F.Binary op l.0 r.0) in
        let exact = exact_as terms p site st.store keeps (roll-Expr (Expr-F.Binary op l.0 r.0)) _ _ es ee h in
        let strict_r : Tape → Option (Evaluated Value) = strict (scope_in site) st.store r.0 in
        let eval_r : Tape → Evaluated Value = eval (scope_in site) st.store r.0 in
        computed_as _ _ _ (fold-roll-Expr _ (code_step terms line) (Expr-F.Binary op l.0 r.0)) ee
        (computes_binary (binary_op op) (binary_name op (typed_expr terms line l.0).kind) (expr_code terms line l.0) (expr_code terms line r.0)
        (eval (scope_in site) st.store l.0) eval_r
        (λ v t t1 gives. left_row op l.0 v t t1 left gives)
        (λ v w t t1 t2 e1 e2.
        let on_left = exact_then _ _ (λ v1 t3. strict_then (strict_r t3) (λ w1 t4. strict_outcome (operation (binary_op op v1) (v1 ∷ w1 ∷ [])) t4))
        (λ v1 t3. and_then (eval_r t3) (λ w1 t4. operated (binary_op op v1) (v1 ∷ w1 ∷ []) t4))
        v t1 (exact_in terms p site st.store keeps l.0 t left) (exact t) e1 in
        exact_then _ _ (λ w1 t4. strict_outcome (operation (binary_op op v) (v ∷ w1 ∷ [])) t4)
        (λ w1 t4. operated (binary_op op v) (v ∷ w1 ∷ []) t4) w t2 (exact_in terms p site st.store keeps r.0 t1 right) on_left e2)
        (l.1 left) (r.1 right))
    at_layer (Expr-F.Call name ys) h =
        let es : List Expr = map (λ z. z.0) ys in
        let there = subst (λ k. is_some k ≡ true) (fold-roll-Expr _ (kind_of_node terms) (Expr-F.Call name es)) h in
        let all = args_kinded (builtin_named name) (signature_named terms.signatures name) (map (own_kind terms) es) there in
        let parts = each_computed ys all in
        let ec = fold-roll-Expr TypedCode (code_step terms line) (Expr-F.Call name es) in
        let whole : (typed_expr terms line (roll-Expr (Expr-F.Call name es))).code ≡ exprs_code terms line es ++ coded line
        (instr.CallFunc (length es) name) ∷ [] =
        ap (λ c. c.code) ec
        ∙ (λ i. code_of_each es i ++ coded line (instr.CallFunc (length-map es (typed_expr terms line) i) name) ∷ []) in
        let strict_calls : List Value → Tape → Option (Evaluated Value) =
        λ vs t1. strict_called (scope_in site) st.store (builtin_named name) name vs t1 in
        let calls_it : List Value → Tape → Evaluated Value = λ vs t1. called (scope_in site) st.store (builtin_named name) name vs t1 in
        let ee : eval (scope_in site) st.store (roll-Expr (Expr-F.Call name es)) ≡
        (λ t. and_then (eval_all (scope_in site) st.store es t) (λ vs t1. called (scope_in site) st.store (builtin_named name) name vs t1)) =
        fold-roll-Expr (Tape → Evaluated Value) (eval_step (scope_in site) st.store) (Expr-F.Call name es)
        ∙ (λ i t. and_then (each_of es t i) (λ vs t1. called (scope_in site) st.store (builtin_named name) name vs t1)) in
        let exact = exact_as terms p site st.store keeps (roll-Expr (Expr-F.Call name es)) _ _
        (fold-roll-Expr (Tape → Option (Evaluated Value)) (strict_step (scope_in site) st.store) (Expr-F.Call name es)) ee h in
        subst (λ c. Computes c (eval (scope_in site) st.store (roll-Expr (Expr-F.Call name es)))) (sym whole)
        (subst (λ ev. Computes (exprs_code terms line es ++ coded line (instr.CallFunc (length es) name) ∷ []) ev) (sym ee)
        (computes_call name es
        (λ vs t t1 e1. exact_then _ _ strict_calls calls_it vs t1 (exact_each terms p site st.store keeps es (each_there es all) t)
        (exact t) e1) parts))

    pub expr_follows : (e : Expr) → is_some (own_kind terms e) ≡ true → Computed e
    expr_follows = ind-Expr P (λ x y is'. subst (λ z. P (roll-Expr z)) is' (at_layer y))

    each_follows : (es : List Expr) → Each (λ e. is_some (own_kind terms e) ≡ true) es → Each Computed es
    each_follows [] h = tt
    each_follows (e ∷ es) h = (expr_follows e h.0, each_follows es h.1)

    pub exprs_follow : (es : List Expr) → Each (λ e. is_some (own_kind terms e) ≡ true) es →
        (pc : ℕ) (stack : Stack) (pending : List Offer) (t : Tape) (go : List Value → Tape → Behaviour) →
        Stands site.code pc (exprs_code terms line es) →
        ((vs : List Value) (t1 : Tape) → eval_all (scope_in site) st.store es t ≡ Gives vs t1 → length vs ≡ length es →
        Follows p n (at (pc + length (exprs_code terms line es)) (pushed vs stack) pending t1) (go vs t1)) →
        Follows p n (at pc stack pending t) (given (eval_all (scope_in site) st.store es t) go halt)
    exprs_follow es h = exprs_follow_each es (each_follows es h)
