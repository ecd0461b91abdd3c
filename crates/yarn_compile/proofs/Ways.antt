-- What follows statements: where the machine comes to behind them, and how the node is left.
use Rattle.std.proofs.Common.{◌≡◌, ℕ, ◌+◌, Bool, true, false, if◌then◌else◌, List, [], ◌∷◌, ◌++◌, refl, sym, ap, subst}
use Rattle.yarn_value.specs.declared.value.Value.{Value}
use Rattle.yarn_value.specs.declared.value.Kind.TheVariants as kind
use Rattle.yarn_value.specs.Values.{kind_of}
use Rattle.yarn_value.specs.Pairs.{put, Pairs}
use Rattle.yarn_code.specs.Moments.{State, Moment, Behaviour, finishes, emit, emit_all, stands, with_tape}
use Rattle.yarn_blocks.specs.Tree as T
use Rattle.yarn_value.specs.Evaluation.{Halt, Evaluated, Gives, Halts, given}
use Rattle.yarn_value.specs.Visits.{count_name}
use Rattle.yarn_meaning.specs.Does.{Exit, Through, Jumps, Stops, Halted, Waiting, Done, goes_on, and_on, using, does_all}
use Rattle.yarn_meaning.specs.First.{Exits, left, after, leaves, halts_at}
use Rattle.yarn_code.specs.declared.program.Program.{Program}
use Rattle.yarn_compile.specs.Code.{Terms, size_all, stmts_code}
use Rattle.yarn_code.specs.MachineState.{Stack, To, Ends, Rests, MachineState, machine}
use Rattle.yarn_code.specs.Machine.{Quiet, next}
use Rattle.yarn_code.specs.Parts.{line_at}
use Rattle.yarn_code.specs.Kinds.{HasKind}
use Rattle.yarn_compile.proofs.Follows.{Stands, running, Site, here_of, scope_in, coded_node, Follows, quiet}
use Rattle.yarn_compile.proofs.Kinded.{KeepsOwn}
use Rattle.yarn_compile.proofs.Sound.{FitsAll}

emit_all-append : (ms ns : List Moment) (b : Behaviour) → emit_all (ms ++ ns) b ≡ emit_all ms (emit_all ns b)
emit_all-append [] ns b = refl
emit_all-append (m ∷ ms) ns b = ap (emit m) (emit_all-append ms ns b)

-- ---- any exits

module _ (terms : Terms) (p : Program) (site : Site terms p) (n : ℕ) (x : Exits) where
  pub after_using : {A : Type 0} → ((line : ℕ) (h : Halt) (st : State) → x.halts line h st ≡ stands (halts_at site.node line h) st) →
      (w : MachineState) (line : ℕ) (ev : Evaluated A) (st : State) (f : A → State → Done) →
      Follows p n w (given ev (λ v t. after (f v (with_tape t st)) x) (λ h t. stands (halts_at site.node line h) (with_tape t st))) →
      Follows p n w (after (using line ev st f) x)
  after_using halts w line (Gives v t) st f h = h
  after_using halts w line (Halts y t) st f h = subst (Follows p n w) (sym (halts line y (with_tape t st))) h

  pub either : (b : Bool) (w : MachineState) (on off : ℕ) (stack : Stack) (st : State) (d1 d2 : Done) →
      next p w ≡ Quiet (running (here_of site) (if b then on else off) stack [] st) →
      Follows p n (running (here_of site) on stack [] st) (after d1 x) →
      Follows p n (running (here_of site) off stack [] st) (after d2 x) → Follows p n w (after (if b then d1 else d2) x)
  either true w on off stack st d1 d2 e f g = quiet p n w (running (here_of site) on stack [] st) _ e f
  either false w on off stack st d1 d2 e f g = quiet p n w (running (here_of site) off stack [] st) _ e g

-- ---- from place to place

module _ (terms : Terms) (p : Program) (site : Site terms p) where
  -- without an event, the machine comes from a place to another one
  pub record Comes (pc : ℕ) (stack : Stack) (pc' : ℕ) (stack' : Stack) : Type 0 where
    pub by : (n : ℕ) (st : State) (b : Behaviour) → Follows p n (running (here_of site) pc' stack' [] st) b →
        Follows p n (running (here_of site) pc stack [] st) b

  pub comes_as : (pc pc' : ℕ) (stack : Stack) → pc ≡ pc' → Comes pc stack pc' stack
  comes_as pc pc' stack e = subst (λ x. Comes pc stack x stack) e (record { by = λ n st b f. f })

  pub comes_on : (pc pc1 pc2 : ℕ) (stack stack1 stack2 : Stack) → Comes pc stack pc1 stack1 → Comes pc1 stack1 pc2 stack2 → Comes pc stack pc2 stack2
  comes_on pc pc1 pc2 stack stack1 stack2 a b = record { by = λ n st x f. a.by n st x (b.by n st x f) }

  -- by one step
  pub comes_by : (pc pc' : ℕ) (stack stack' : Stack) →
      ((st : State) → next p (running (here_of site) pc stack [] st) ≡ Quiet (running (here_of site) pc' stack' [] st)) →
      Comes pc stack pc' stack'
  comes_by pc pc' stack stack' e = record { by = λ n st b f. quiet p n _ _ b (e st) f }

-- ---- how a node is left

-- what holds of the exits of a piece
pub record Outs (terms : Terms) (p : Program) (site : Site terms p) (n : ℕ) (Good : Pairs → Type 0) : Type 0 where
  pub exits : Exits
  -- what follows the end of the node where a jump on that line leads to that title
  pub onward : ℕ → List ℕ → State → Behaviour
  pub jumps : (line : ℕ) (title : List ℕ) (st : State) → exits.jumps line title st ≡ leaves site.node line st (onward line title)
  pub goes : (title : List ℕ) (pc line : ℕ) (st : State) → line_at (coded_node site.node site.code) pc ≡ line → Good st.store →
      Follows p n (machine (here_of site) pc [] [] (Rests (Ends (To title))) st) (onward line title st)
  pub stops : (line : ℕ) (st : State) → exits.stops line st ≡ leaves site.node line st finishes
  pub halts : (line : ℕ) (h : Halt) (st : State) → exits.halts line h st ≡ stands (halts_at site.node line h) st
  -- what holds of a good store
  pub keeps : (store : Pairs) → Good store → KeepsOwn terms store
  pub counts : (store : Pairs) → Good store → HasKind store (count_name site.node.node.title) kind.Number
  pub puts : (store : Pairs) (name : List ℕ) (v : Value) → Good store → HasKind store name (kind_of v) → Good (put store name v)

module _ (terms : Terms) (p : Program) (site : Site terms p) (n : ℕ) (Good : Pairs → Type 0) (outs : Outs terms p site n Good) where
  -- what follows statements behind which the machine is at that place with that stack
  pub record Way (pc : ℕ) (stack : Stack) : Type 0 where
    pub next : State → Behaviour
    pub follows : (st : State) → Good st.store → Follows p n (running (here_of site) pc stack [] st) (next st)

  abbrev pub exits : (pc : ℕ) (stack : Stack) → Way pc stack → Exits
  exits pc stack way = record outs.exits {
    through = way.next;
  }

  abbrev pub moved : (pc pc' : ℕ) (stack stack' : Stack) → Comes terms p site pc stack pc' stack' → Way pc' stack' → Way pc stack
  moved pc pc' stack stack' c way = record {
    next = way.next;
    follows = λ st good. c.by n st (way.next st) (way.follows st good);
  }

  -- statements that follow, in front of a way
  module _ (b : T.Stmts) (pc end : ℕ) (stack : Stack) (way : Way end stack) where
    abbrev pub before_next : State → Behaviour
    before_next st = after (does_all (scope_in site) b st) (exits end stack way)

    abbrev pub before : ((st : State) → Good st.store → Follows p n (running (here_of site) pc stack [] st) (before_next st)) →
        Stands site.code pc (stmts_code terms site.node.node.title pc b) → FitsAll terms b → end ≡ pc + size_all terms site.node.node.title b →
        Way pc stack
    before f laid fit e = record {
      next = before_next;
      follows = f;
    }

    module _ (f : (st : State) → Good st.store → Follows p n (running (here_of site) pc stack [] st) (before_next st)) (laid : Stands site.code pc (stmts_code terms site.node.node.title pc b)) (fit : FitsAll terms b) (e : end ≡ pc + size_all terms site.node.node.title b) where
      after_more : (x : Exit) (ms : List Moment) (st : State) →
          after (goes_on x ms st b (λ st1. does_all (scope_in site) b st1)) (exits end stack way) ≡ after
          (record { moments = ms; exit = x; state = st }) (exits pc stack (before f laid fit e))
      after_more Through ms st =
          emit_all-append ms (does_all (scope_in site) b st).moments
          (left (does_all (scope_in site) b st).exit (does_all (scope_in site) b st).state (exits end stack way))
      after_more (Jumps line title) ms st = refl
      after_more (Stops line) ms st = refl
      after_more (Halted line h) ms st = refl
      after_more Waiting ms st = refl

      pub after_and_on : (w : MachineState) (d : Done) → Follows p n w (after d (exits pc stack (before f laid fit e))) →
          Follows p n w (after (and_on d b (λ st1. does_all (scope_in site) b st1)) (exits end stack way))
      after_and_on w d h = subst (Follows p n w) (sym (after_more d.exit d.moments d.state)) h
