-- The machine leaves a node: the count of the node rises, and its end is given.
use Rattle.std.proofs.Common.{◌≡◌, ℕ, ◌+◌, Bool, true, false, if◌then◌else◌, List, [], ◌∷◌, Option, Some, None, Result, Ok, Err, refl, sym, ap, ◌∙◌, subst, codes}
use Rattle.std.specs.Prelude.{ℤ, pos, ◌+ℤ◌, slice_get}
use Rattle.std.specs.Option.{option_map}
use Rattle.yarn_value.specs.declared.value.Value.{Value}
use Rattle.yarn_value.specs.declared.value.Value.TheVariants.{Number, Str, Truth}
use Rattle.yarn_value.specs.declared.value.Kind.TheVariants as kind
use Rattle.yarn_value.specs.declared.operation.Op.TheVariants as op
use Rattle.yarn_value.specs.declared.fault.RunFault.{RunFault}
use Rattle.yarn_value.specs.declared.fault.RunFault.TheVariants as run
use Rattle.yarn_value.specs.Values.{kind_of}
use Rattle.yarn_value.specs.Numbers.{fits}
use Rattle.yarn_value.specs.Operations.{number}
use Rattle.yarn_value.specs.Builtins.{applied, builtin_named}
use Rattle.yarn_value.specs.Pairs.{value_under}
use Rattle.yarn_code.specs.declared.event.Event.TheVariants as event
use Rattle.yarn_code.specs.Moments.{State, Behaviour, moment, emit, finishes, with_value}
use Rattle.yarn_value.specs.Visits.{number_in, visits, count_name}
use Rattle.yarn_meaning.specs.First.{counted, leaves}
use Rattle.yarn_code.specs.declared.program.Instr.TheVariants as instr
use Rattle.yarn_code.specs.Parts.{coded}
use Rattle.yarn_code.specs.declared.program.Program.{Program}
use Rattle.yarn_compile.specs.Code.{Terms, exit_code, stop_code}
use Rattle.yarn_code.specs.MachineState.{Value as Val, Stack, Stop, To, Ends, Rests, Ended, Over, MachineState, machine}
use Rattle.yarn_code.specs.Machine.{Quiet, Stuck, when_some, pushes, calls, next}
use Rattle.yarn_code.specs.Kinds.{HasKind}
use Rattle.yarn_compile.proofs.Follows.{Stands, first_stands, rest_stands, front_stands, running, Site, here_of, coded_node, Follows, quiet, shows_same, ends, step, breaks_here}

add_row : builtin_named (codes "#add") ≡ Some (applied (codes "#add") op.Add)
unfolding builtin_named
add_row = refl

-- a number that fits is a number
number_kind : (z : ℤ) (v : Value) (b : Bool) → (if b then Ok (Number z) else Err run.Overflow) ≡ Ok v → kind_of v ≡ kind.Number
number_kind z v true e = let same : Number z ≡ v = cc in ap kind_of (sym same)
number_kind z v false e = cc

module _ (terms : Terms) (p : Program) (site : Site terms p) (n : ℕ) where
  abbrev title : List ℕ
  title = site.node.node.title

  abbrev at : ℕ → Stack → State → MachineState
  at pc stack st = running (here_of site) pc stack [] st

  -- the count is stored, and what follows is followed
  abbrev Counts : ℕ → Stack → State → (State → Behaviour) → Type 0
  Counts pc stack st next =
      (v : Value) → kind_of v ≡ kind.Number →
      Follows p n (at pc stack (with_value (count_name title) v st))
      (emit (moment (event.NodeEnd title) (with_value (count_name title) v st)) (next (with_value (count_name title) v st)))

  added : (pc line : ℕ) (below stack : Stack) (st : State) (next_state : State → Behaviour) (r : Result Value RunFault) → ((v : Value) → r ≡ Ok v →
      kind_of v ≡ kind.Number) →
      Stands site.code (pc + 1) (coded line (instr.StoreVariable (count_name title)) ∷ coded line instr.Pop ∷ []) →
      next p (at pc below st) ≡ pushes p (coded_node site.node site.code) line r stack (at pc below st) →
      Counts (pc + 1 + 1 + 1) stack st next_state → Follows p n (at pc below st) (counted site.node line st r next_state)
  added pc line below stack st next_state (Ok v) k laid e f =
      let st1 = with_value (count_name title) v st in
      quiet p n _ (at (pc + 1) (Val v ∷ stack) st) _ e
      (quiet p n _ (at (pc + 1 + 1) (Val v ∷ stack) st1) _
      (step terms p site (pc + 1) (Val v ∷ stack) [] st line (instr.StoreVariable (count_name title)) (first_stands laid))
      (quiet p n _ (at (pc + 1 + 1 + 1) stack st1) _
      (step terms p site (pc + 1 + 1) (Val v ∷ stack) [] st1 line instr.Pop (first_stands (rest_stands laid))) (f v (k v refl))))
  added pc line below stack st next_state (Err fault) k laid e f = breaks_here terms p site n _ (at pc below st) line fault e

  counts : (pc line : ℕ) (stack : Stack) (st : State) (next_state : State → Behaviour) → Stands site.code pc (exit_code terms title line) →
      Counts (pc + 1 + 1 + 1 + 1 + 1) stack st next_state →
      (o : Option Value) → value_under st.store (count_name title) ≡ o → option_map kind_of o ≡ Some kind.Number →
      Follows p n (at pc stack st) (leaves site.node line st next_state)
  counts pc line stack st next_state laid f None e k = absurd cc
  counts pc line stack st next_state laid f (Some (Str text)) e k = absurd cc
  counts pc line stack st next_state laid f (Some (Truth b)) e k = absurd cc
  counts pc line stack st next_state laid f (Some (Number z)) e k =
      let name = count_name title in
      let node = coded_node site.node site.code in
      let seen : visits st.store title ≡ z = ap number_in e in
      let one : MachineState = at (pc + 1) (Val (Number z) ∷ stack) st in
      let two : MachineState = at (pc + 1 + 1) (Val (Number (pos 1)) ∷ Val (Number z) ∷ stack) st in
      let adds : next p two ≡ pushes p node line (number (z +ℤ pos 1)) stack two =
      step terms p site (pc + 1 + 1) (Val (Number (pos 1)) ∷ Val (Number z) ∷ stack) [] st line (instr.CallFunc 2 (codes "#add"))
      (first_stands (rest_stands (rest_stands laid)))
      ∙ ap (λ o. calls p node line o (codes "#add") (Number z ∷ Number (pos 1) ∷ []) stack two) add_row in
      let sums = added (pc + 1 + 1) line (Val (Number (pos 1)) ∷ Val (Number z) ∷ stack) stack st next_state (number (z +ℤ pos 1))
      (λ v r. number_kind (z +ℤ pos 1) v (fits (z +ℤ pos 1)) r) (rest_stands (rest_stands (rest_stands laid))) adds f in
      let whole : leaves site.node line st next_state ≡ counted site.node line st (number (z +ℤ pos 1)) next_state =
      ap (λ x. counted site.node line st (number (x +ℤ pos 1)) next_state) seen in
      subst (Follows p n (at pc stack st)) (sym whole)
      (quiet p n _ one _ (step terms p site pc stack [] st line (instr.PushVariable name) (first_stands laid) ∙ ap
      (λ o. when_some o Stuck (λ v. Quiet (at (pc + 1) (Val v ∷ stack) st))) e)
      (quiet p n _ two _ (step terms p site (pc + 1) (Val (Number z) ∷ stack) [] st line (instr.PushFloat (pos 1))
      (first_stands (rest_stands laid))) sums))

  pub exit_follows : (pc line : ℕ) (stack : Stack) (st : State) (next : State → Behaviour) → HasKind st.store (count_name title) kind.Number →
      Stands site.code pc (exit_code terms title line) →
      ((v : Value) → kind_of v ≡ kind.Number →
      Follows p n (running (here_of site) (pc + 1 + 1 + 1 + 1 + 1) stack [] (with_value (count_name title) v st))
      (emit (moment (event.NodeEnd title) (with_value (count_name title) v st)) (next (with_value (count_name title) v st)))) →
      Follows p n (running (here_of site) pc stack [] st) (leaves site.node line st next)
  exit_follows pc line stack st next k laid f = counts pc line stack st next laid f (value_under st.store (count_name title)) refl k

  -- `stop`, and the end of a body
  pub stop_follows : (pc line : ℕ) (stack : Stack) (st : State) → HasKind st.store (count_name title) kind.Number →
      Stands site.code pc (stop_code terms title line) →
      Follows p n (running (here_of site) pc stack [] st) (leaves site.node line st finishes)
  stop_follows pc line stack st k laid =
      exit_follows pc line stack st finishes k (front_stands (exit_code terms title line) (coded line instr.Stop ∷ []) laid)
      (λ v kv. let st1 = with_value (count_name title) v st in let pe : ℕ = pc + 1 + 1 + 1 + 1 + 1 in
      shows_same p n _ (machine (here_of site) pe [] [] (Rests (Ends Stop)) st1) (event.NodeEnd title) (finishes st1)
      (step terms p site pe stack [] st1 line instr.Stop (first_stands (rest_stands (rest_stands (rest_stands (rest_stands (rest_stands laid)))))))
      (quiet p n _ (machine (here_of site) pe [] [] (Over Ended) st1) _ refl (ends p n _ (machine (here_of site) pe [] [] (Over Ended) st1) refl)))

  -- a node is left to the title on top
  pub run_follows : (pc line : ℕ) (to : List ℕ) (stack : Stack) (st : State) (b : Behaviour) →
      slice_get site.code pc ≡ Some (coded line instr.RunNode) →
      Follows p n (machine (here_of site) pc [] [] (Rests (Ends (To to))) st) b →
      Follows p n (running (here_of site) pc (Val (Str to) ∷ stack) [] st) (emit (moment (event.NodeEnd title) st) b)
  run_follows pc line to stack st b laid f =
      shows_same p n _ (machine (here_of site) pc [] [] (Rests (Ends (To to))) st) (event.NodeEnd title) b
      (step terms p site pc (Val (Str to) ∷ stack) [] st line instr.RunNode laid) f
