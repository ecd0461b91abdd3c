-- Statements keep the kinds of the store.
use Rattle.std.proofs.Common.{◌≡◌, ℕ, zero, suc, List, [], ◌∷◌, ◌++◌, length, Bool, true, false, if◌then◌else◌, Option, Some, None, All}
use Rattle.std.proofs.lemmas.List.Elements.{All-nil, All-cons, All-append}
use Rattle.yarn_value.specs.declared.value.Value.{Value}
use Rattle.yarn_value.specs.declared.fault.RunFault.TheVariants as run
use Rattle.yarn_value.specs.Values.{kind_of}
use Rattle.yarn_blocks.specs.declared.entry.Simple.{Simple}
use Rattle.yarn_blocks.specs.declared.entry.Simple.TheVariants as simple
use Rattle.yarn_blocks.specs.declared.tree.LineText.{LineText}
use Rattle.yarn_blocks.specs.Tree as T
use Rattle.yarn_blocks.specs.Tree.{Leaf, Group, Nil, Cons, NoOptions, AndOption, NoClauses, AndClause, NoElse, ElseOf}
use Rattle.yarn_tree.specs.Checks.{is_reserved_name}
use Rattle.yarn_types.specs.declared.typed.TypedName.{TypedName}
use Rattle.yarn_types.specs.Typings.{kinds_in}
use Rattle.yarn_code.specs.Answer.{Answered, answer_of}
use Rattle.yarn_code.specs.declared.event.Event.{Event}
use Rattle.yarn_code.specs.declared.event.Event.TheVariants as event
use Rattle.yarn_code.specs.declared.event.Choice.{Choice}
use Rattle.yarn_code.specs.Moments.{State, Moment, moment, with_answers, with_value, with_tape}
use Rattle.yarn_value.specs.Tape.{Tape}
use Rattle.yarn_meaning.specs.Eval.{eval, eval_all}
use Rattle.yarn_value.specs.Evaluation.{Scope, Halt, Faults, Evaluated, Gives, Halts, given}
use Rattle.yarn_meaning.specs.Filled.{filled}
use Rattle.yarn_meaning.specs.Does.{Exit, Through, Jumps, Stops, Halted, Waiting, Done, done, prefixed, showing, goes_on, is_true, title_in, picked, waits, group_line, choice_of, with_choices, set_value, says, does_simple, does, does_all, does_option, does_clauses, does_last}
use Rattle.yarn_code.specs.Answers.{chooses, any_open, less_one, at_answer}
use Rattle.yarn_kinds.specs.Typed.{variables_in}
use Rattle.yarn_kinds.proofs.Typed.{stmts_fit}
use Rattle.yarn_kinds.proofs.Fitting.{FitsSimple, FitsAll, FitsOne, FitsOptions, FitsClauses, FitsLast}
use Rattle.yarn_kinds.specs.Kept.{IsSound, StatementsKeep}
use Rattle.yarn_kinds.proofs.Evaluations.{Within, within_any}
use Rattle.yarn_kinds.proofs.Asked.{set_kind, set_gives}
use Rattle.yarn_kinds.proofs.Stores.{set_sound}

module _ (entries : List TypedName) (titles : List (List ℕ)) where
  abbrev pub Sound_at : State → Type 0
  Sound_at st = IsSound entries titles st.store

  abbrev pub Shown : List Moment → Type 0
  Shown ms = All (λ m. Sound_at m.state) ms

  pub record Kept (d : Done) : Type 0 where
    pub shown : Shown d.moments
    pub left : Sound_at d.state

  done_keeps : (exit : Exit) (st : State) → Sound_at st → Kept (done exit st)
  done_keeps exit st sound = record { shown = All-nil (λ (m : Moment). Sound_at m.state); left = sound }

  prefixed_keeps : (ms : List Moment) (d : Done) → Shown ms → Kept d → Kept (prefixed ms d)
  prefixed_keeps ms d shown kept = record { shown = All-append (λ (m : Moment). Sound_at m.state) ms d.moments shown kept.shown; left = kept.left }

  pub one_shown : (e : Event) (st : State) → Sound_at st → Shown (moment e st ∷ [])
  one_shown e st sound = All-cons (λ (m : Moment). Sound_at m.state) (moment e st) [] sound (All-nil (λ (m : Moment). Sound_at m.state))

  showing_keeps : (e : Event) (st : State) (d : Done) → Sound_at st → Kept d → Kept (showing e st d)
  showing_keeps e st d sound kept = prefixed_keeps (moment e st ∷ []) d (one_shown e st sound) kept

  on_keeps : (exit : Exit) (ms : List Moment) (st : State) (b : T.Stmts) (next : State → Done) → Shown ms → Sound_at st → ((st1 : State) → Sound_at st1 → Kept (next st1)) → Kept (goes_on exit ms st b next)
  on_keeps Through ms st b next shown sound follows = prefixed_keeps ms (next st) shown (follows st sound)
  on_keeps (Jumps line title) ms st b next shown sound follows = record { shown = shown; left = sound }
  on_keeps (Stops line) ms st b next shown sound follows = record { shown = shown; left = sound }
  on_keeps (Halted line halt) ms st b next shown sound follows = record { shown = shown; left = sound }
  on_keeps Waiting ms st b next shown sound follows = record { shown = shown; left = sound }

  using_keeps : {A : Type 0} (Q : A → Type 0) (e : Evaluated A) (f : A → Tape → Done) (g : Halt → Tape → Done) → Within Q e →
      ((a : A) (t : Tape) → Q a → Kept (f a t)) → ((halt : Halt) (t : Tape) → Kept (g halt t)) → Kept (given e f g)
  using_keeps Q (Gives a t) f g h follows halts = follows a t h
  using_keeps Q (Halts halt t) f g h follows halts = halts halt t

  halted_keeps : (line : ℕ) (st : State) → Sound_at st → (halt : Halt) (t : Tape) → Kept (done (Halted line halt) (with_tape t st))
  halted_keeps line st sound halt t = done_keeps (Halted line halt) (with_tape t st) sound

  either_keeps : (b : Bool) (d e : Done) → Kept d → Kept e → Kept (if b then d else e)
  either_keeps true d e hd he = hd
  either_keeps false d e hd he = he

  -- ---- answers

  answer_keeps : (a : Option Answered) (none : Done) (some : ℕ → List ℕ → Done) → Kept none → ((n : ℕ) (rest : List ℕ) → Kept (some n rest)) → Kept (at_answer a none some)
  answer_keeps None none some hn hs = hn
  answer_keeps (Some a) none some hn hs = hs a.number a.rest

  picked_keeps : (most : ℕ) (cs : List Choice) (st : State) (next : ℕ → State → Done) → Sound_at st → ((n : ℕ) (st1 : State) → Sound_at st1 → Kept (next n st1)) → Kept (picked most cs st next)
  picked_keeps zero cs st next sound follows = done_keeps Waiting st sound
  picked_keeps (suc most) cs st next sound follows =
      answer_keeps (answer_of st.answers) (done Waiting st) _ (done_keeps Waiting st sound)
      (λ n rest. either_keeps (chooses n cs) _ _ (follows (less_one n) (with_answers rest st) sound)
      (showing_keeps event.Rejected (with_answers rest st) _ sound (picked_keeps most cs (with_answers rest st) next sound follows)))

  waits_keeps : (line : ℕ) (cs : List Choice) (st : State) (next : ℕ → State → Done) → Sound_at st → ((n : ℕ) (st1 : State) → Sound_at st1 → Kept (next n st1)) → Kept (waits line cs st next)
  waits_keeps line cs st next sound follows =
      either_keeps (any_open cs) _ _ (picked_keeps (length st.answers) cs st next sound follows) (done_keeps (Halted line (Faults run.NoOpenOption)) st sound)

  module _ (scope : Scope) (unreserved : All (λ entry. is_reserved_name entry.name ≡ false) entries) where
    choices_keep : (os : T.Options) (before : List Choice) (st : State) (next : List Choice → State → Done) → Sound_at st → ((cs : List Choice) (st1 : State) → Sound_at st1 → Kept (next cs st1)) →
        Kept (with_choices scope os before st next)
    choices_keep NoOptions before st next sound follows = follows before st sound
    choices_keep (AndOption n body os) before st next sound follows =
        using_keeps (λ c. Unit {0}) (choice_of scope n st.store st.tape) _ _ (within_any (choice_of scope n st.store st.tape))
        (λ c t u. choices_keep os (before ++ c ∷ []) (with_tape t st) next sound follows) (halted_keeps n.text.line st sound)

    -- ---- statements

    says_keeps : (text : LineText) (shown : List Value → Event) (st : State) → Sound_at st → Kept (says scope text shown st)
    says_keeps text shown st sound =
        using_keeps (λ vs. Unit {0}) (eval_all scope st.store text.holes st.tape) _ _ (within_any (eval_all scope st.store text.holes st.tape))
        (λ vs t u. showing_keeps (shown vs) (with_tape t st) (done Through (with_tape t st)) sound (done_keeps Through (with_tape t st) sound)) (halted_keeps text.line st sound)

    simple_keeps : (s : Simple) (st : State) → FitsSimple scope.functions entries s → Sound_at st → Kept (does_simple scope s st)
    simple_keeps (simple.Line text) st fits sound = says_keeps text (λ vs. event.Line text.id vs) st sound
    simple_keeps (simple.Command text) st fits sound = says_keeps text (λ vs. event.Command (filled text.text vs)) st sound
    simple_keeps (simple.Set head name op e) st fits sound =
        let set = set_kind scope (variables_in entries) (kinds_in entries) st.store sound.keeps name op e fits in
        using_keeps (λ v. kind_of v ≡ set.0) (set_value scope name op e st.store st.tape) _ _
        (set_gives scope (variables_in entries) (kinds_in entries) st.store sound.keeps name op e set.0 set.1 set.2 st.tape)
        (λ v t is. done_keeps Through (with_value name v (with_tape t st)) (set_sound entries titles unreserved st.store name v set.0 set.1 is sound)) (halted_keeps head.line st sound)
    simple_keeps (simple.Declare head name value kind) st fits sound = done_keeps Through st sound
    simple_keeps (simple.Jump head title) st fits sound = done_keeps (Jumps head.line title) st sound
    simple_keeps (simple.JumpTo head e) st fits sound =
        using_keeps (λ v. Unit {0}) (eval scope st.store e st.tape) _ _ (within_any (eval scope st.store e st.tape))
        (λ v t u. done_keeps (Jumps head.line (title_in v)) (with_tape t st) sound) (halted_keeps head.line st sound)
    simple_keeps (simple.Stop head) st fits sound = done_keeps (Stops head.line) st sound
    simple_keeps (simple.Call head e) st fits sound =
        using_keeps (λ v. Unit {0}) (eval scope st.store e st.tape) _ _ (within_any (eval scope st.store e st.tape))
        (λ v t u. done_keeps Through (with_tape t st) sound) (halted_keeps head.line st sound)

    mutual
      pub one_keeps : (s : T.Stmt) (st : State) → FitsOne scope.functions entries s → Sound_at st → Kept (does scope s st)
      one_keeps (Leaf s) st fits sound = simple_keeps s st fits sound
      one_keeps (Group os) st fits sound =
          choices_keep os [] st _ sound (λ cs st1 sound1. showing_keeps (event.Options cs) st1 _ sound1
          (waits_keeps (group_line os) cs st1 _ sound1 (λ n st2 sound2. option_keeps os n st2 fits sound2)))
      one_keeps (T.Choice cs last e) st fits sound = clauses_keep cs st _ fits.0 sound (λ st1 sound1. last_keeps last st1 fits.1 sound1)

      pub all_keep : (b : T.Stmts) (st : State) → FitsAll scope.functions entries b → Sound_at st → Kept (does_all scope b st)
      all_keep Nil st fits sound = done_keeps Through st sound
      all_keep (Cons s b) st fits sound =
          let first = one_keeps s st fits.0 sound in
          on_keeps (does scope s st).exit (does scope s st).moments (does scope s st).state b _ first.shown first.left (λ st1 sound1. all_keep b st1 fits.1 sound1)

      pub option_keeps : (os : T.Options) (n : ℕ) (st : State) → FitsOptions scope.functions entries os → Sound_at st → Kept (does_option scope os n st)
      option_keeps NoOptions n st fits sound = done_keeps Through st sound
      option_keeps (AndOption o body os) zero st fits sound = all_keep body st fits.1 sound
      option_keeps (AndOption o body os) (suc n) st fits sound = option_keeps os n st fits.2 sound

      pub clauses_keep : (cs : T.Clauses) (st : State) (otherwise : State → Done) → FitsClauses scope.functions entries cs → Sound_at st → ((st1 : State) → Sound_at st1 → Kept (otherwise st1)) →
          Kept (does_clauses scope cs st otherwise)
      clauses_keep NoClauses st otherwise fits sound follows = follows st sound
      clauses_keep (AndClause n body cs) st otherwise fits sound follows =
          using_keeps (λ v. Unit {0}) (eval scope st.store n.condition st.tape) _ _ (within_any (eval scope st.store n.condition st.tape))
          (λ v t u. either_keeps (is_true v) _ _ (all_keep body (with_tape t st) fits.1 sound) (clauses_keep cs (with_tape t st) otherwise fits.2 sound follows)) (halted_keeps n.head.line st sound)

      pub last_keeps : (last : T.Last) (st : State) → FitsLast scope.functions entries last → Sound_at st → Kept (does_last scope last st)
      last_keeps NoElse st fits sound = done_keeps Through st sound
      last_keeps (ElseOf head body) st fits sound = all_keep body st fits sound

pub statements_keep : StatementsKeep
statements_keep scope entries titles b st unreserved fits sound =
    let kept = all_keep entries titles scope unreserved b st (stmts_fit scope.functions entries 0 b fits) sound in
    record { shown = kept.shown; left = kept.left }
