-- Each instruction does as its row says.
use Rattle.std.proofs.Common.{◌≡◌, ℕ, zero, suc, ◌+◌, List, [], ◌∷◌, ◌++◌, length, true, false, Ok, Err, Some, None, refl, sym, ap, ◌∙◌, subst, arith}
use Rattle.std.proofs.lemmas.List.{append-nil}
use Rattle.yarn_value.specs.declared.value.Value as V
use Rattle.yarn_value.specs.declared.value.Value.TheVariants as value
use Rattle.yarn_value.specs.Builtins.{Row, builtin_named}
use Rattle.yarn_value.specs.Calls.{builtin_result}
use Rattle.yarn_value.specs.Templates.{template_of, expanded}
use Rattle.yarn_code.specs.declared.event.Event.TheVariants as event
use Rattle.yarn_code.specs.Answers.{chooses, less_one}
use Rattle.yarn_code.specs.MachineState.{Value, Null, Destination, Stack, Offer, choices, Command, Options, Runs, Rests, machine, runs_at, rests_at}
use Rattle.yarn_code.specs.Machine.{Stepped, Quiet, Shows, Stuck, take_values, when_some, offer, label_at, pushes, calls, scope_at}
use Rattle.yarn_code.specs.Listed.{pushed, DoAsListed}

-- so many values, and then one more
take_one_more : {R : Type 0} (n : ℕ) (vs : List V.Value) (stack : Stack) (stuck : R) (go : List V.Value → Stack → R) →
    take_values (suc n) vs stack stuck go ≡ take_values n vs stack stuck (λ ws rest. take_values 1 ws rest stuck go)
take_one_more zero vs (Value v ∷ stack) stuck go = refl
take_one_more zero vs (Null ∷ stack) stuck go = refl
take_one_more zero vs (Destination label ∷ stack) stuck go = refl
take_one_more zero vs [] stuck go = refl
take_one_more (suc n) vs (Value v ∷ stack) stuck go = take_one_more n (v ∷ vs) stack stuck go
take_one_more (suc n) vs (Null ∷ stack) stuck go = refl
take_one_more (suc n) vs (Destination label ∷ stack) stuck go = refl
take_one_more (suc n) vs [] stuck go = refl

-- what was pushed is taken, in front of what was taken before
taken : {R : Type 0} (vs before : List V.Value) (stack : Stack) (stuck : R) (go : List V.Value → Stack → R) →
    take_values (length vs) before (pushed vs stack) stuck go ≡ go (vs ++ before) stack
taken [] before stack stuck go = refl
taken (v ∷ vs) before stack stuck go =
    take_one_more (length vs) before (pushed vs (Value v ∷ stack)) stuck go
    ∙ taken vs before (Value v ∷ stack) stuck (λ ws rest. take_values 1 ws rest stuck go)

all_taken : {R : Type 0} (vs : List V.Value) (stack : Stack) (stuck : R) (go : List V.Value → Stack → R) →
    take_values (length vs) [] (pushed vs stack) stuck go ≡ go vs stack
all_taken vs stack stuck go = taken vs [] stack stuck go ∙ ap (λ ws. go ws stack) (append-nil vs)

pub do_as_listed : DoAsListed
do_as_listed p n line here place stack pending st =
    let w = machine here place stack pending Runs st in
    record {
      jump_to = λ label. refl;
      jump = λ label. refl;
      run_line = λ id vs. all_taken vs stack Stuck _;
      run_command = λ text vs parts is. all_taken vs stack Stuck _ ∙ ap (λ o. when_some o Stuck (λ ps. Shows (event.Command (expanded ps vs)) (rests_at (place + 1) stack (Command (expanded ps vs)) (machine here place (pushed vs stack) pending Runs st)))) is;
      add_option = λ id vs label. all_taken vs stack Stuck _;
      add_option_if = λ id vs label b. all_taken vs stack Stuck _;
      show_options = refl;
      chosen = λ offers number is. rw is refl;
      push_string = λ text. refl;
      push_float = λ number. refl;
      push_bool = λ b. refl;
      push_null = refl;
      jump_if_true = λ label. refl;
      jump_if_false = λ label. refl;
      pop = λ x. refl;
      call_builtin = λ name vs row v is gives. all_taken vs stack Stuck _ ∙ (ap (λ o. calls p n line o name vs stack (machine here place (pushed vs stack) pending Runs st)) is
          ∙ ap (λ o. when_some o Stuck (λ result. pushes p n line result stack (machine here place (pushed vs stack) pending Runs st))) gives);
      call_fault = λ name vs row f is gives. all_taken vs stack Stuck _ ∙ (ap (λ o. calls p n line o name vs stack (machine here place (pushed vs stack) pending Runs st)) is
          ∙ ap (λ o. when_some o Stuck (λ result. pushes p n line result stack (machine here place (pushed vs stack) pending Runs st))) gives);
      call_host = λ name vs is. all_taken vs stack Stuck _ ∙ ap (λ o. calls p n line o name vs stack (machine here place (pushed vs stack) pending Runs st)) is;
      push_variable = λ name v is. rw is refl;
      store_variable = λ name v. refl;
      stop = refl;
      run_node = λ title. refl;
    }
