-- The machine follows statements that are one line.
use Rattle.std.proofs.Common.{◌≡◌, ℕ, ◌+◌, true, List, [], ◌∷◌, ◌++◌, length, Option, Some, None, is_some, refl, sym, ap, ◌∙◌, subst, arith, length-append}
use Rattle.std.specs.List.{list_all}
use Rattle.yarn_value.specs.declared.value.Value.{Value}
use Rattle.yarn_value.specs.declared.value.Value.TheVariants.{Str}
use Rattle.yarn_value.specs.declared.value.Kind.TheVariants as kind
use Rattle.yarn_value.specs.Values.{kind_of}
use Rattle.yarn_expr.specs.declared.tree.BinaryOp.TheVariants.{Eq}
use Rattle.yarn_expr.specs.declared.tree.Expr.{Expr}
use Rattle.yarn_blocks.specs.declared.entry.Simple.{Simple}
use Rattle.yarn_blocks.specs.declared.entry.Simple.TheVariants as simple
use Rattle.yarn_blocks.specs.declared.tree.LineText.{LineText}
use Rattle.yarn_types.specs.KindSets.{only}
use Rattle.yarn_types.specs.Typings.{kinds_in}
use Rattle.yarn_types.specs.Units.{kind_set}
use Rattle.yarn_value.specs.Pairs.{put, Pairs}
use Rattle.yarn_value.specs.Templates.{Part, template_of, expanded}
use Rattle.yarn_code.specs.declared.event.Event.{Event}
use Rattle.yarn_code.specs.declared.event.Event.TheVariants as event
use Rattle.yarn_code.specs.Moments.{State, Behaviour, moment, emit, stands, with_tape, with_value}
use Rattle.yarn_meaning.specs.Eval.{eval, eval_all}
use Rattle.yarn_value.specs.Visits.{count_name}
use Rattle.yarn_value.specs.Evaluation.{given}
use Rattle.yarn_meaning.specs.Filled.{of_parts, filled}
use Rattle.yarn_meaning.specs.Does.{Done, done, Through, Jumps, showing, says, set_value, does_simple, title_in}
use Rattle.yarn_meaning.specs.First.{after, halts_at}
use Rattle.yarn_code.specs.declared.program.Instr.TheVariants as instr
use Rattle.yarn_code.specs.declared.program.Instr.{Instr}
use Rattle.yarn_code.specs.Parts.{coded, line_of}
use Rattle.yarn_code.specs.declared.program.Program.{Program}
use Rattle.yarn_compile.specs.Code.{Terms, kind_of_name, expr_code, exprs_code, exit_code, store_code, simple_code}
use Rattle.yarn_kinds.specs.Typed.{variables_in}
use Rattle.yarn_code.specs.MachineState.{Value as Val, Stack, Rest, Line, Command, Rests, MachineState, machine}
use Rattle.yarn_code.specs.Machine.{Quiet, Shows, Stuck, when_some, act, next}
use Rattle.yarn_code.specs.Listed.{pushed}
use Rattle.yarn_kinds.proofs.Asked.{titles}
use Rattle.yarn_code.specs.Kinds.{HasKind}
use Rattle.yarn_compile.proofs.Follows.{Stands, first_stands, rest_stands, front_stands, back_stands, running, Site, here_of, scope_in, take_pushed, coded_node, Follows, quiet, shows_same, at_place, step}
use Rattle.yarn_compile.proofs.Kinded.{own_kind, is_kinded}
use Rattle.yarn_compile.proofs.Fitted.{in_set_kinded, joined_kind, each_kinded, set_expr, set_code-is, set_value-is, set_kind-is}
use Rattle.yarn_compile.proofs.ExpressionsCompute.{value_kind, expr_follows, exprs_follow}
use Rattle.yarn_compile.proofs.Leaving.{exit_follows, stop_follows, run_follows}
use Rattle.yarn_compile.proofs.Sound.{FitsSimple}
use Rattle.yarn_compile.proofs.Ways.{after_using, Outs, Way, exits}

filled_is : (text : List ℕ) (vs : List Value) → filled text vs ≡ of_parts (template_of text (length vs)) text vs
unfolding filled
filled_is text vs = refl

module _ (terms : Terms) (p : Program) (site : Site terms p) (n : ℕ) (Good : Pairs → Type 0) (outs : Outs terms p site n Good) where
  abbrev title : List ℕ
  title = site.node.node.title

  abbrev at : ℕ → Stack → State → MachineState
  at pc stack st = running (here_of site) pc stack [] st

  -- from statements on, where what follows them is followed
  abbrev pub FollowsStmt : ℕ → (State → Done) → ℕ → Stack → Type 0
  FollowsStmt size f pc stack =
      (st : State) (way : Way terms p site n Good outs (pc + size) stack) → Good st.store →
      Follows p n (running (here_of site) pc stack [] st) (after (f st) (exits terms p site n Good outs (pc + size) stack way))

  counted_good : (store : Pairs) (v : Value) → Good store → kind_of v ≡ kind.Number → Good (put store (count_name title) v)
  counted_good store v good k = outs.puts store (count_name title) v good (subst (HasKind store (count_name title)) (sym k) (outs.counts store good))

  -- ---- lines and commands

  says_follow : (text : LineText) (i : Instr) (shown : List Value → Event) (rest : List Value → Rest) →
      ((pc : ℕ) (stack : Stack) (st : State) (vs : List Value) → length vs ≡ length text.holes →
      act p (coded_node site.node site.code) text.line i (at pc (pushed vs stack) st) ≡ Shows (shown vs)
      (machine (here_of site) (pc + 1) stack [] (Rests (rest vs)) st)) →
      ((pc : ℕ) (stack : Stack) (st : State) (vs : List Value) →
      next p (machine (here_of site) pc stack [] (Rests (rest vs)) st) ≡ Quiet (at pc stack st)) →
      list_all (is_kinded terms) text.holes ≡ true → (pc : ℕ) (stack : Stack) →
      Stands site.code pc (exprs_code terms text.line text.holes ++ coded text.line i ∷ []) →
      FollowsStmt (length (exprs_code terms text.line text.holes ++ coded text.line i ∷ [])) (says (scope_in site) text shown) pc stack
  says_follow text i shown rest acts goes fit pc stack laid st way good =
      let cs = exprs_code terms text.line text.holes in
      let last = first_stands (back_stands cs (coded text.line i ∷ []) laid) in
      let len : pc + length cs + 1 ≡ pc + length (cs ++ coded text.line i ∷ []) = omega (arith, length-append cs (coded text.line i ∷ [])) in
      let pe : ℕ = pc + length cs in
      after_using terms p site n (exits terms p site n Good outs _ stack way) outs.halts _ text.line
      (eval_all (scope_in site) st.store text.holes st.tape) st (λ vs st1. showing (shown vs) st1 (done Through st1))
      (exprs_follow terms p site n text.line st (outs.keeps st.store good) text.holes (each_kinded terms text.holes fit) pc stack [] st.tape
      (λ vs t. emit (moment (shown vs) (with_tape t st)) (way.next (with_tape t st))) (front_stands cs _ laid) (λ vs t gives count.
      let st1 = with_tape t st in
      shows_same p n _ (machine (here_of site) (pe + 1) stack [] (Rests (rest vs)) st1) (shown vs) (way.next st1)
      (step terms p site pe (pushed vs stack) [] st1 text.line i last ∙ acts pe stack st1 vs count)
      (quiet p n _ (at (pe + 1) stack st1) _ (goes (pe + 1) stack st1 vs) (at_place p n _ _ _ stack [] st1 _ (sym len) (way.follows st1 good)))))

  line_acts : (text : LineText) (pc : ℕ) (stack : Stack) (st : State) (vs : List Value) → length vs ≡ length text.holes →
      act p (coded_node site.node site.code) text.line (instr.RunLine (length text.holes) text.id) (at pc (pushed vs stack) st)
      ≡ Shows (event.Line text.id vs) (machine (here_of site) (pc + 1) stack [] (Rests (Line text.id vs)) st)
  line_acts text pc stack st vs count =
      take_pushed vs (length text.holes) stack Stuck
      (λ vs1 rest. Shows (event.Line text.id vs1) (machine (here_of site) (pc + 1) rest [] (Rests (Line text.id vs1)) st)) count

  -- a command's text is a template for its values, and they are put in
  command_acts : (text : LineText) → (o : Option (List Part)) → template_of text.text (length text.holes) ≡ o → is_some o ≡ true →
      (pc : ℕ) (stack : Stack) (st : State) (vs : List Value) → length vs ≡ length text.holes →
      act p (coded_node site.node site.code) text.line (instr.RunCommand (length text.holes) text.text) (at pc (pushed vs stack) st)
      ≡ Shows (event.Command (filled text.text vs)) (machine (here_of site) (pc + 1) stack [] (Rests (Command (filled text.text vs))) st)
  command_acts text None e there pc stack st vs count = cc
  command_acts text (Some parts) e there pc stack st vs count =
      let is : filled text.text vs ≡ expanded parts vs =
      filled_is text.text vs ∙ ap (λ k. of_parts (template_of text.text k) text.text vs) count ∙ ap (λ o. of_parts o text.text vs) e in
      take_pushed vs (length text.holes) stack Stuck (λ vs1 rest. when_some (template_of text.text (length text.holes)) Stuck
      (λ parts1. Shows (event.Command (expanded parts1 vs1))
      (machine (here_of site) (pc + 1) rest [] (Rests (Command (expanded parts1 vs1))) st))) count
      ∙ ap (λ o. when_some o Stuck
      (λ parts1. Shows (event.Command (expanded parts1 vs)) (machine (here_of site) (pc + 1) stack [] (Rests (Command (expanded parts1 vs))) st))) e
      ∙ ap (λ x. Shows (event.Command x) (machine (here_of site) (pc + 1) stack [] (Rests (Command x)) st)) (sym is)

  -- ---- what is set

  set_follows : (line : ℕ) (name : List ℕ) (e : Expr) → is_some (own_kind terms e) ≡ true → ((store : Pairs) (v : Value) → Good store →
      own_kind terms e ≡ Some (kind_of v) → Good (put store name v)) →
      (pc : ℕ) (stack : Stack) → Stands site.code pc (expr_code terms line e ++ store_code terms line name) →
      (st : State) (k : State → Behaviour) → Good st.store →
      ((st1 : State) → Good st1.store → Follows p n (at (pc + length (expr_code terms line e ++ store_code terms line name)) stack st1) (k st1)) →
      Follows p n (at pc stack st)
      (given (eval (scope_in site) st.store e st.tape) (λ v t. k (with_value name v (with_tape t st)))
      (λ h t. stands (halts_at site.node line h) (with_tape t st)))
  set_follows line name e there stays pc stack laid st k good f =
      let cs = expr_code terms line e in
      let last = back_stands cs (store_code terms line name) laid in
      let len : pc + length cs + 1 + 1 ≡ pc + length (cs ++ store_code terms line name) =
      omega (arith, length-append cs (store_code terms line name)) in
      let pe : ℕ = pc + length cs in
      expr_follows terms p site n line st (outs.keeps st.store good) e there pc stack [] st.tape (λ v t. k (with_value name v (with_tape t st)))
      (front_stands cs _ laid) (λ v t gives.
      let st1 = with_value name v (with_tape t st) in
      quiet p n _ (at (pe + 1) (Val v ∷ stack) st1) _
      (step terms p site pe (Val v ∷ stack) [] (with_tape t st) line (instr.StoreVariable name) (first_stands last))
      (quiet p n _ (at (pe + 1 + 1) stack st1) _ (step terms p site (pe + 1) (Val v ∷ stack) [] st1 line instr.Pop (first_stands (rest_stands last)))
      (at_place p n _ _ _ stack [] st1 _ (sym len)
      (f st1 (stays st.store v good (value_kind terms p site st.store (outs.keeps st.store good) e st.tape t v there gives))))))

  -- ---- all of them

  pub simple_follows : (s : Simple) (pc : ℕ) (stack : Stack) → FitsSimple terms s →
      Stands site.code pc (simple_code terms title s) →
      FollowsStmt (length (simple_code terms title s)) (does_simple (scope_in site) s) pc stack
  simple_follows (simple.Line text) pc stack fit laid st way good =
      says_follow text (instr.RunLine (length text.holes) text.id) (λ vs. event.Line text.id vs) (λ vs. Line text.id vs) (line_acts text)
      (λ pc1 stack1 st1 vs. refl) fit.0 pc stack laid st way good
  simple_follows (simple.Command text) pc stack fit laid st way good =
      says_follow text (instr.RunCommand (length text.holes) text.text) (λ vs. event.Command (filled text.text vs))
      (λ vs. Command (filled text.text vs))
      (command_acts text (template_of text.text (length text.holes)) refl fit.1.template) (λ pc1 stack1 st1 vs. refl) fit.0 pc stack laid st way good
  simple_follows (simple.Set head name op e) pc stack fit laid st way good =
      let both = joined_kind Eq (kind_of_name terms name)
      (kind_set terms.signatures (variables_in terms.entries) (kinds_in terms.entries) name op e) fit.0 in
      let x = set_expr name op e in
      let there : own_kind terms x ≡ Some both.0 = sym (set_kind-is terms p site name op e) ∙ both.1.1 in
      let is_code = set_code-is terms p site head.line name op e in
      let laid' = subst (λ c. Stands site.code pc (c ++ store_code terms head.line name)) is_code laid in
      let stays : (store : Pairs) (v : Value) → Good store → own_kind terms x ≡ Some (kind_of v) → Good (put store name v) =
      λ store v good1 is_kind. outs.puts store name v good1 (outs.keeps store good1 name (kind_of v) (both.1.0 ∙ sym there ∙ is_kind)) in
      after_using terms p site n (exits terms p site n Good outs _ stack way) outs.halts _ head.line
      (set_value (scope_in site) name op e st.store st.tape) st (λ v st1. done Through (with_value name v st1))
      (subst (λ ev. Follows p n (at pc stack st)
      (given ev (λ v t. way.next (with_value name v (with_tape t st))) (λ h t. stands (halts_at site.node head.line h) (with_tape t st))))
      (sym (set_value-is terms p site st.store name op e st.tape))
      (set_follows head.line name x (ap is_some there) stays pc stack laid' st way.next good
      (λ st1 good1. at_place p n _ _ _ stack [] st1 _ (ap (λ c. pc + length (c ++ store_code terms head.line name)) is_code)
      (way.follows st1 good1))))
  simple_follows (simple.Declare head name value kind) pc stack fit laid st way good =
      let e : pc + 0 ≡ pc = omega arith in
      at_place p n _ _ _ stack [] st _ e (way.follows st good)
  simple_follows (simple.Jump head to) pc stack fit laid st way good =
      let line : ℕ = head.line in
      let pe : ℕ = pc + 1 + 1 + 1 + 1 + 1 in
      subst (Follows p n (at pc stack st)) (sym (outs.jumps line to st))
      (exit_follows terms p site n pc line stack st (outs.onward line to) (outs.counts st.store good)
      (front_stands (exit_code terms title line) (coded line (instr.PushString to) ∷ coded line instr.RunNode ∷ []) laid) (λ v kv.
      let st1 = with_value (count_name title) v st in
      quiet p n _ (at (pe + 1) (Val (Str to) ∷ stack) st1) _
      (step terms p site pe stack [] st1 line (instr.PushString to)
      (first_stands (rest_stands (rest_stands (rest_stands (rest_stands (rest_stands laid)))))))
      (run_follows terms p site n (pe + 1) line to stack st1 _
      (first_stands (rest_stands (rest_stands (rest_stands (rest_stands (rest_stands (rest_stands laid)))))))
      (outs.goes to (pe + 1) line st1
      (ap line_of (first_stands (rest_stands (rest_stands (rest_stands (rest_stands (rest_stands (rest_stands laid))))))))
      (counted_good st.store v good kv)))))
  simple_follows (simple.JumpTo head e) pc stack fit laid st way good =
      let line : ℕ = head.line in
      let cs = expr_code terms line e in
      let tail = exit_code terms title line ++ coded line instr.RunNode ∷ [] in
      let h = back_stands cs tail laid in
      let px : ℕ = pc + length cs in
      let pe : ℕ = px + 1 + 1 + 1 + 1 + 1 in
      after_using terms p site n (exits terms p site n Good outs _ stack way) outs.halts _ line (eval (scope_in site) st.store e st.tape) st
      (λ v st1. done (Jumps line (title_in v)) st1)
      (expr_follows terms p site n line st (outs.keeps st.store good) e (in_set_kinded (only kind.Str) (own_kind terms e) fit.0) pc stack [] st.tape
      (λ v t. outs.exits.jumps line (title_in v) (with_tape t st)) (front_stands cs tail laid) (λ to t gives.
      let text = titles (scope_in site) (variables_in terms.entries) (kinds_in terms.entries) st.store e st.tape t to
      (outs.keeps st.store good) fit.0 gives in
      subst (λ x. Follows p n (at px (Val x ∷ stack) (with_tape t st)) (outs.exits.jumps line (title_in x) (with_tape t st))) (sym text.1)
      (subst (Follows p n (at px (Val (Str text.0) ∷ stack) (with_tape t st))) (sym (outs.jumps line text.0 (with_tape t st)))
      (exit_follows terms p site n px line (Val (Str text.0) ∷ stack) (with_tape t st) (outs.onward line text.0) (outs.counts st.store good)
      (front_stands (exit_code terms title line) (coded line instr.RunNode ∷ []) h) (λ v kv.
      let st1 = with_value (count_name title) v (with_tape t st) in
      run_follows terms p site n pe line text.0 stack st1 _ (first_stands (rest_stands (rest_stands (rest_stands (rest_stands (rest_stands h))))))
      (outs.goes text.0 pe line st1 (ap line_of (first_stands (rest_stands (rest_stands (rest_stands (rest_stands (rest_stands h)))))))
      (counted_good st.store v good kv)))))))
  simple_follows (simple.Stop head) pc stack fit laid st way good =
      subst (Follows p n (at pc stack st)) (sym (outs.stops head.line st))
      (stop_follows terms p site n pc head.line stack st (outs.counts st.store good) laid)
  simple_follows (simple.Call head e) pc stack fit laid st way good =
      let line : ℕ = head.line in
      let cs = expr_code terms line e in
      let last = first_stands (back_stands cs (coded line instr.Pop ∷ []) laid) in
      let len : pc + length cs + 1 ≡ pc + length (cs ++ coded line instr.Pop ∷ []) = omega (arith, length-append cs (coded line instr.Pop ∷ [])) in
      after_using terms p site n (exits terms p site n Good outs _ stack way) outs.halts _ line (eval (scope_in site) st.store e st.tape) st
      (λ v st1. done Through st1)
      (expr_follows terms p site n line st (outs.keeps st.store good) e fit.0 pc stack [] st.tape (λ v t. way.next (with_tape t st))
      (front_stands cs _ laid) (λ v t gives.
      quiet p n _ (at (pc + length cs + 1) stack (with_tape t st)) _
      (step terms p site (pc + length cs) (Val v ∷ stack) [] (with_tape t st) line instr.Pop last)
      (at_place p n _ _ _ stack [] (with_tape t st) _ (sym len) (way.follows (with_tape t st) good))))
