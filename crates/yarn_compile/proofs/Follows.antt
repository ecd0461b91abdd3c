-- The machine follows a behaviour: from there it shows what the behaviour says.
use Rattle.std.proofs.Common.{◌≡◌, ℕ, zero, suc, ◌+◌, ◌-◌, ◌<◌, ◌≤◌, List, [], ◌∷◌, ◌++◌, length, Some, None, refl, sym, ap, ◌∙◌, subst, arith, append_assoc, append-nil, length-append}
use Rattle.std.specs.Prelude.{slice_get}
use Rattle.yarn_value.specs.declared.value.Value.{Value}
use Rattle.yarn_value.specs.declared.fault.RunFault.{RunFault}
use Rattle.yarn_value.specs.Tape.{Tape}
use Rattle.yarn_value.specs.Evaluation.{Scope, Halt, Faults, Evaluated, Gives, Halts, given, and_then}
use Rattle.yarn_value.specs.Builtins.{builtin_named}
use Rattle.yarn_value.specs.Signatures.{signature_named}
use Rattle.yarn_code.specs.declared.event.Event.{Event}
use Rattle.yarn_code.specs.declared.program.Instr.TheVariants as instr
use Rattle.yarn_code.specs.declared.program.Instr.{Instr}
use Rattle.yarn_code.specs.declared.program.Coded.{Coded}
use Rattle.yarn_code.specs.declared.program.CodeNode.{CodeNode}
use Rattle.yarn_code.specs.declared.program.Program.{Program}
use Rattle.yarn_code.specs.Parts.{coded, code_titled, line_of, line_at}
use Rattle.yarn_code.specs.Moments.{State, Stand, Outcome, Behaviour, moment, with_moment, stands, emit, finishes}
use Rattle.yarn_code.specs.MachineState.{Value as Val, Stack, Offer, Here, Runs, Fault, MachineState, machine, over}
use Rattle.yarn_code.specs.Machine.{Stepped, Quiet, Shows, Finishes, StandsAt, Stuck, take_values, when_some, fault_at, breaks, act, next}
use Rattle.yarn_code.specs.Listed.{pushed}
use Rattle.yarn_code.specs.Runs.{Course, outcome_of, ticks, with_first, with_count, follow, run, Reaches}
use Rattle.yarn_meaning.specs.First.{Placed, halts_at}
use Rattle.yarn_compile.specs.Code.{Terms}

-- ---- parts of code

-- the part is in the code, with so many instructions before it
pub record Stands (code : List Coded) (place : ℕ) (part : List Coded) : Type 0 where
  pub front : List Coded
  pub rest : List Coded
  pub split : code ≡ front ++ (part ++ rest)
  pub far : place ≡ length front

-- code is a part of itself
pub whole_stands : (code : List Coded) → Stands code 0 code
whole_stands code = record { front = []; rest = []; split = sym (append-nil code); far = refl }

-- the place may be told otherwise
pub stands_as : {code part : List Coded} {place told : ℕ} → place ≡ told → Stands code place part → Stands code told part
stands_as e s = record { front = s.front; rest = s.rest; split = s.split; far = sym e ∙ s.far }

-- of a part that is two, the first begins where the two do
pub front_stands : {code : List Coded} {place : ℕ} (one two : List Coded) → Stands code place (one ++ two) → Stands code place one
front_stands one two s = record {
  front = s.front;
  rest = two ++ s.rest;
  split = s.split ∙ ap (λ l. s.front ++ l) (append_assoc one two s.rest);
  far = s.far;
}

-- and the second where the first ends
pub back_stands : {code : List Coded} {place : ℕ} (one two : List Coded) → Stands code place (one ++ two) → Stands code (place + length one) two
back_stands one two s = record {
  front = s.front ++ one;
  rest = s.rest;
  split = s.split ∙ ap (λ l. s.front ++ l) (append_assoc one two s.rest) ∙ sym (append_assoc s.front one (two ++ s.rest));
  far = ap (λ x. x + length one) s.far ∙ sym (length-append s.front one);
}

-- what is left of a part without its first instruction
pub rest_stands : {code : List Coded} {place : ℕ} {i : Coded} {part : List Coded} → Stands code place (i ∷ part) → Stands code (place + 1) part
rest_stands {i = i} {part = part} s = back_stands (i ∷ []) part s

met_behind : (front : List Coded) (i : Coded) (rest : List Coded) → slice_get (front ++ i ∷ rest) (length front) ≡ Some i
met_behind [] i rest = refl
met_behind (x ∷ front) i rest = met_behind front i rest

-- the first instruction is met at the place
pub first_stands : {code : List Coded} {place : ℕ} {i : Coded} {part : List Coded} → Stands code place (i ∷ part) → slice_get code place ≡ Some i
first_stands {i = i} {part = part} s = (λ j. slice_get (s.split j) (s.far j)) ∙ met_behind s.front i (part ++ s.rest)

-- ---- values on the stack

take_pushed_more : {R : Type 0} (vs : List Value) (m : ℕ) (acc : List Value) (stack : Stack) (stuck : R) (go : List Value → Stack → R) →
    take_values (length vs + m) acc (pushed vs stack) stuck go ≡ take_values m (vs ++ acc) stack stuck go
take_pushed_more [] m acc stack stuck go = let e : 0 + m ≡ m = omega arith in ap (λ n. take_values n acc stack stuck go) e
take_pushed_more (v ∷ vs) m acc stack stuck go =
    let e : suc (length vs) + m ≡ length vs + suc m = omega arith in
    ap (λ n. take_values n acc (pushed vs (Val v ∷ stack)) stuck go) e ∙ take_pushed_more vs (suc m) acc (Val v ∷ stack) stuck go

pub take_pushed : {R : Type 0} (vs : List Value) (n : ℕ) (stack : Stack) (stuck : R) (go : List Value → Stack → R) → length vs ≡ n →
    take_values n [] (pushed vs stack) stuck go ≡ go vs stack
take_pushed vs n stack stuck go e =
    let f : n ≡ length vs + 0 = omega arith in
    ap (λ m. take_values m [] (pushed vs stack) stuck go) f ∙ take_pushed_more vs 0 [] stack stuck go ∙ ap (λ l. go l stack) (append-nil vs)

-- ---- states

-- the machine runs at that place of the node
abbrev pub running : Here → ℕ → Stack → List Offer → State → MachineState
running here place stack pending st = machine here place stack pending Runs st

-- ---- what is followed

-- a node with this code
abbrev pub coded_node : Placed → List Coded → CodeNode
coded_node node code = record { title = node.node.title; file = node.file; code = code }

-- a node of a program with its code, where the program knows each host function that it calls as the project does
pub record Site (terms : Terms) (p : Program) : Type 0 where
  pub node : Placed
  pub code : List Coded
  pub found : code_titled node.node.title p.nodes ≡ Some (coded_node node code)
  pub known : (pc count line : ℕ) (name : List ℕ) → slice_get code pc ≡ Some (coded line (instr.CallFunc count name)) → builtin_named name ≡ None →
      signature_named p.functions name ≡ signature_named terms.signatures name

abbrev pub here_of : {terms : Terms} {p : Program} → Site terms p → Here
here_of site = record {
  node = site.node.node.title;
}

-- what expressions know there
abbrev pub scope_in : {terms : Terms} {p : Program} → Site terms p → Scope
scope_in {terms} site = record {
  functions = terms.signatures;
}

module _ (p : Program) where
  -- up to the event of that number, from 0, the machine comes to that outcome
  pub record ComesTo (w : MachineState) (k : ℕ) (o : Outcome) : Type 0 where
    pub came : Course
    pub reached : Reaches p w k came
    pub is : outcome_of came ≡ o

  -- for fewer than n events
  pub record Follows (n : ℕ) (w : MachineState) (b : Behaviour) : Type 0 where
    pub by : (k : ℕ) → k < n → ComesTo w k (b k)

  one_step : (w : MachineState) (k m : ℕ) (x : Stepped) (r : Course) (o : Outcome) → next p w ≡ x → follow (run p m) x k ≡ Some r → outcome_of r ≡ o →
      ComesTo w k o
  one_step w k m x r o e h same = record {
    came = record r { count = ticks w.doing + r.count };
    reached = record { steps = suc m; runs = ap (λ y. with_count (ticks w.doing) (follow (run p m) y k)) e ∙ ap (with_count (ticks w.doing)) h };
    is = same;
  }

  pub quiet : (n : ℕ) (w w' : MachineState) (b : Behaviour) → next p w ≡ Quiet w' → Follows n w' b → Follows n w b
  quiet n w w' b e f = record { by = λ k lt. let r = f.by k lt in one_step w k r.reached.steps (Quiet w') r.came (b k) e r.reached.runs r.is }

  shows_at : (n : ℕ) (w w' : MachineState) (e : Event) (b : Behaviour) → next p w ≡ Shows e w' → Follows n w' b → (k : ℕ) → k < suc n →
      ComesTo w k (emit (moment e w'.state) b k)
  shows_at n w w' e b h f zero lt = one_step w 0 0 (Shows e w') _ _ h refl refl
  shows_at n w w' e b h f (suc k) lt =
      let r = f.by k (omega arith) in
      one_step w (suc k) r.reached.steps (Shows e w') _ _ h (ap (with_first (moment e w'.state)) r.reached.runs)
      (ap (with_moment (moment e w'.state)) r.is)

  pub shows : (n : ℕ) (w w' : MachineState) (e : Event) (b : Behaviour) → next p w ≡ Shows e w' → Follows n w' b →
      Follows (suc n) w (emit (moment e w'.state) b)
  shows n w w' e b h f = record { by = shows_at n w w' e b h f }

  pub fewer : (m n : ℕ) (w : MachineState) (b : Behaviour) → m ≤ n → Follows n w b → Follows m w b
  fewer m n w b le f = record { by = λ k lt. f.by k (omega arith) }

  pub shows_same : (n : ℕ) (w w' : MachineState) (e : Event) (b : Behaviour) → next p w ≡ Shows e w' → Follows n w' b →
      Follows n w (emit (moment e w'.state) b)
  shows_same n w w' e b h f = fewer n (suc n) w _ (omega arith) (shows n w w' e b h f)

  pub halts : (n : ℕ) (w w' : MachineState) (s : Stand) → next p w ≡ StandsAt s w' → Follows n w (stands s w'.state)
  halts n w w' s e = record { by = λ k lt. one_step w k 0 (StandsAt s w') _ _ e refl refl }

  pub ends : (n : ℕ) (w w' : MachineState) → next p w ≡ Finishes w' → Follows n w (finishes w'.state)
  ends n w w' e = record { by = λ k lt. one_step w k 0 (Finishes w') _ _ e refl refl }

  -- the place under another name
  pub at_place : (n : ℕ) (here : Here) (pc pc' : ℕ) (stack : Stack) (pending : List Offer) (st : State) (b : Behaviour) → pc ≡ pc' →
      Follows n (running here pc stack pending st) b → Follows n (running here pc' stack pending st) b
  at_place n here pc pc' stack pending st b e f = subst (λ x. Follows n (running here x stack pending st) b) e f

  pub via : {A B : Type 0} (n : ℕ) (w : MachineState) (ev : Evaluated A) (f : A → Tape → Evaluated B) (go : B → Tape → Behaviour)
      (halt : Halt → Tape →
      Behaviour) → Follows n w (given ev (λ v t. given (f v t) go halt) halt) → Follows n w (given (and_then ev f) go halt)
  via n w (Gives v t) f go halt h = h
  via n w (Halts x t) f go halt h = h

-- at a site
module _ (terms : Terms) (p : Program) (site : Site terms p) where
  -- a fault on a line of the node: the run is over, and then stands there
  pub breaks_here : (n : ℕ) (w w' : MachineState) (line : ℕ) (fault : RunFault) → next p w ≡ breaks (coded_node site.node site.code) line fault w' →
      Follows p n w (stands (halts_at site.node line (Faults fault)) w'.state)
  breaks_here n w w' line fault e =
      let broken : MachineState = over (Fault (fault_at (coded_node site.node site.code) line fault)) w' in
      quiet p n w broken _ e (halts p n broken broken _ refl)

  -- the node at any doing that asks for it
  pub at_node_code : (go : CodeNode → Stepped) → when_some (code_titled site.node.node.title p.nodes) Stuck go ≡ go (coded_node site.node site.code)
  at_node_code go = ap (λ o. when_some o Stuck go) site.found

  pub step : (pc : ℕ) (stack : Stack) (pending : List Offer) (st : State) (line : ℕ) (i : Instr) → slice_get site.code pc ≡ Some (coded line i) →
      next p (running (here_of site) pc stack pending st) ≡ act p (coded_node site.node site.code) line i (running (here_of site) pc stack pending st)
  step pc stack pending st line i h =
      let w : MachineState = running (here_of site) pc stack pending st in
      at_node_code (λ c. when_some (slice_get c.code pc) Stuck (λ x. act p c x.line x.instr w))
      ∙ ap (λ o. when_some o Stuck (λ x. act p (coded_node site.node site.code) x.line x.instr w)) h

  -- the line of the instruction before a place
  pub line_before : (pc line : ℕ) (i : Instr) → slice_get site.code pc ≡ Some (coded line i) →
      line_at (coded_node site.node site.code) (pc + 1 - 1) ≡ line
  line_before pc line i h = let e : pc + 1 - 1 ≡ pc = omega arith in ap (λ x. line_of (slice_get site.code x)) e ∙ ap line_of h
