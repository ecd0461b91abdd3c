-- What the scope of src/evaluate.rt cite.
use Rattle.std.proofs.Common.{◌≡◌, ℕ, suc, ◌+◌, ◌<◌, add-one, List, [], ◌∷◌, ◌++◌, length, drop, drop-cons, get_or, map, refl, sym, ap, subst, append_assoc, ◌∙◌}
use Rattle.std.specs.Prelude.{Result, Err}
use Rattle.yarn_value.specs.declared.value.Value.{Value}
use Rattle.yarn_value.specs.declared.fault.OpFault.{OpFault}
use Rattle.yarn_value.specs.declared.fault.OpFault.TheVariants as op
use Rattle.yarn_expr.specs.declared.tree.Expr.{Expr}
use Rattle.yarn_expr.specs.declared.tree.Expr.TheVariants.{Call, rolls-Call}
use Rattle.yarn_expr.specs.declared.tree.Expr.TheOpen.{Expr-F}
use Rattle.yarn_expr.specs.declared.tree.Expr.TheFolds.{fold-roll-Expr}
use Rattle.yarn_value.specs.Pairs.{Pairs}
use Rattle.yarn_value.specs.Tape.{Tape}
use Rattle.yarn_meaning.specs.Eval.{each, eval_step, called, eval, eval_all}
use Rattle.yarn_value.specs.Evaluation.{Scope, Evaluated, Gives, Halts, and_then}
use Rattle.yarn_value.specs.Builtins.{builtin_named}
use Rattle.yarn_walker.specs.States.{no_hosts}
use Rattle.yarn_walker.specs.Means.{Means}

-- where two continuations agree, so does what they make of one evaluation
pub and_then-same : {A B : Type 0} (evaluated : Evaluated A) (f g : A → Tape → Evaluated B) →
    ((a : A) (t : Tape) → f a t ≡ g a t) → and_then evaluated f ≡ and_then evaluated g
and_then-same (Gives a t) f g same = same a t
and_then-same (Halts halt t) f g same = refl

-- the arguments of a call are evaluated as any expressions are
pub each-eval : (scope : Scope) (store : Pairs) (es : List Expr) (t : Tape) →
    each (map (eval scope store) es) t ≡ eval_all scope store es t
each-eval scope store [] t = refl
each-eval scope store (e ∷ es) t =
    and_then-same (eval scope store e t) _ _ (λ v t1. ap (λ all. and_then all (λ vs t2. Gives (v ∷ vs) t2)) (each-eval scope store es t1))

-- what a call gives, from its arguments' values
pub eval-call : (scope : Scope) (store : Pairs) (name : List ℕ) (args : List Expr) (t : Tape) →
    eval scope store (Call name args) t ≡ and_then (eval_all scope store args t) (λ vs t1. called scope store (builtin_named name) name vs t1)
eval-call scope store name args t =
    ap (λ e. eval scope store e t) (sym (rolls-Call name args))
    ∙ ap (λ (given : Tape → Evaluated Value). given t) (fold-roll-Expr (Tape → Evaluated Value) (eval_step scope store) (Expr-F.Call name args))
    ∙ ap (λ all. and_then all (λ vs t1. called scope store (builtin_named name) name vs t1)) (each-eval scope store args t)

-- where the first halts, so does the whole
pub means-halted : {A B : Type 0} (meant : Evaluated A) (next : A → Tape → Evaluated B) (fault : OpFault) →
    Means meant (Err fault) → Means (and_then meant next) (Err fault)
means-halted meant next (op.Run fault) halts = ap (λ m. and_then m next) halts
means-halted meant next op.Memory halts = tt

-- a call whose arguments have no values
pub call-halted : (store : Pairs) (whole : Expr) (name : List ℕ) (args given : List Expr) (result : Result Value OpFault) (fault : OpFault)
    → whole ≡ Call name args → given ≡ args → result ≡ Err fault → Means (eval_all no_hosts store given []) (Err fault) → Means (eval no_hosts store whole []) result
call-halted store whole name args given result fault whole-is given-is result-is halts =
    rw (whole-is, eval-call no_hosts store name args [], result-is)
    (means-halted (eval_all no_hosts store args []) (λ vs t. called no_hosts store (builtin_named name) name vs t) fault
    (subst (λ es. Means (eval_all no_hosts store es []) (Err fault)) given-is halts))

-- a call whose arguments have these values
pub call-made : (store : Pairs) (whole : Expr) (name : List ℕ) (args given : List Expr) (values passed : List Value) (result : Result Value OpFault)
    → whole ≡ Call name args → given ≡ args → eval_all no_hosts store given [] ≡ Gives values [] → passed ≡ values
    → Means (called no_hosts store (builtin_named name) name passed []) result → Means (eval no_hosts store whole []) result
call-made store whole name args given values passed result whole-is given-is gives passed-is made =
    let values-are : eval_all no_hosts store args [] ≡ Gives values [] = subst (λ es. eval_all no_hosts store es [] ≡ Gives values []) given-is gives in
    rw (whole-is, eval-call no_hosts store name args [], values-are) (rw (← passed-is) made)

-- values before those of further expressions
abbrev pub behind : List Value → Evaluated (List Value) → Evaluated (List Value)
behind before all = and_then all (λ vs t. Gives (before ++ vs) t)

-- a value goes from the front of the rest to the end of what stands before
pub behind-more : (before : List Value) (value : Value) (all : Evaluated (List Value)) →
    behind before (and_then all (λ vs t. Gives (value ∷ vs) t)) ≡ behind (before ++ value ∷ []) all
behind-more before value (Gives vs t) = ap (λ ws. Gives ws t) (sym (append_assoc before (value ∷ []) vs))
behind-more before value (Halts halt t) = refl

-- the next expression has this value
pub behind-value : (scope : Scope) (store : Pairs) (before : List Value) (e : Expr) (es : List Expr) (value : Value) (t t1 : Tape)
    → eval scope store e t ≡ Gives value t1 → behind before (eval_all scope store (e ∷ es) t) ≡ behind (before ++ value ∷ []) (eval_all scope store es t1)
behind-value scope store before e es value t t1 gives =
    ap (λ first. behind before (and_then first (λ v t1. and_then (eval_all scope store es t1) (λ vs t2. Gives (v ∷ vs) t2)))) gives
    ∙ behind-more before value (eval_all scope store es t1)

-- the expression at an index has this value
pub behind-item : (store : Pairs) (before : List Value) (es : List Expr) (at : ℕ) (e : Expr) (value : Value)
    → at < length es → e ≡ get_or es at e → eval no_hosts store e [] ≡ Gives value []
    → behind before (eval_all no_hosts store (drop at es) []) ≡ behind (before ++ value ∷ []) (eval_all no_hosts store (drop (at + 1) es) [])
behind-item store before es at e value within is gives =
    rw (add-one at) (rw (drop-cons es at e within) (rw (← is) (behind-value no_hosts store before e (drop (suc at) es) value [] [] gives)))
