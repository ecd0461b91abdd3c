-- An expression that has a kind is evaluated with no value made up.
use Rattle.std.proofs.Common.{◌≡◌, ℕ, pos, List, [], ◌∷◌, map, Bool, true, false, if◌then◌else◌, Option, Some, None, unwrap_or, Ok, Err, refl, sym, ap, ◌∙◌, subst}
use Rattle.std.proofs.lemmas.Bool.{and_parts}
use Rattle.std.specs.Option.{option_map, option_and_then}
use Rattle.yarn_value.specs.declared.value.Value.{Value}
use Rattle.yarn_value.specs.declared.value.Value.TheVariants.{Number}
use Rattle.yarn_value.specs.declared.value.Kind.{Kind}
use Rattle.yarn_value.specs.declared.value.Kind.TheVariants as kind
use Rattle.yarn_value.specs.declared.operation.Op.{Op}
use Rattle.yarn_value.specs.declared.signature.Signature.{Signature}
use Rattle.yarn_value.specs.Builtins.{Row, applied, on_visits, builtin_named}
use Rattle.yarn_value.specs.Rows.{takes, result_of}
use Rattle.yarn_value.specs.Values.{kind_of}
use Rattle.yarn_value.specs.Operations.{Outcome, operation}
use Rattle.yarn_expr.specs.declared.tree.UnaryOp.{UnaryOp}
use Rattle.yarn_expr.specs.declared.tree.BinaryOp.{BinaryOp}
use Rattle.yarn_expr.specs.declared.tree.Expr.{Expr}
use Rattle.yarn_expr.proofs.Layers.{at_number, at_string, at_truth, at_variable, at_group, at_unary, at_binary, at_call}
use Rattle.yarn_value.specs.Pairs.{value_under, Pairs}
use Rattle.yarn_types.specs.KindSets.{only}
use Rattle.yarn_types.specs.Names.{Appearance}
use Rattle.yarn_value.specs.Signatures.{signature_named}
use Rattle.yarn_types.specs.Fits.{kind_of_variable, kind_step, unary_kind, is_in, joined, kinds_of, row_takes, takes_each}
use Rattle.yarn_types.specs.Fits as fits
use Rattle.yarn_types.specs.Units.{kind_set}
use Rattle.yarn_value.specs.Tape.{Tape}
use Rattle.yarn_meaning.specs.Eval.{unary_op, binary_op, of_outcome, operated, stored, called, builtin_value, each, eval_step, eval}
use Rattle.yarn_value.specs.Evaluation.{Scope, Evaluated, Gives, Halts, and_then}
use Rattle.yarn_meaning.specs.Does.{set_value}
use Rattle.yarn_kinds.specs.Typed.{Keeps}
use Rattle.yarn_kinds.specs.Strict.{strict_then, strict_value, strict_outcome, strict_builtin, strict_called, strict_each, strict_step, strict, MakesNothingUp, strict_set, SetsMakeNothingUp}
use Rattle.yarn_kinds.proofs.Parts.{OfEach, of_all}
use Rattle.yarn_kinds.proofs.Evaluations.{Within, within_any}
use Rattle.yarn_kinds.proofs.Operations.{IsMeant, operation_gives}
use Rattle.yarn_kinds.proofs.Operators.{binary_gives, unary_gives}
use Rattle.yarn_kinds.proofs.Builtins.{of_builtin, text_taken}
use Rattle.yarn_kinds.proofs.Asked.{in_kind, set_kind}
use Rattle.yarn_kinds.proofs.Values.{Evaluation, Sound, AreOf, in_only, sound, sound_of, variable_of_kind, each_step, row_of_args}

abbrev Strictly : Type 0
Strictly = Tape → Option (Evaluated Value)

-- where there is a kind, the strict evaluation is the evaluation
abbrev Exact : Option Kind → Evaluation → Strictly → Type 0
Exact (Some k) f s = (t : Tape) → s t ≡ Some (f t)
Exact None f s = Unit {0}

exact_as : (o p : Option Kind) (f g : Evaluation) (s r : Strictly) → o ≡ p → f ≡ g → s ≡ r → Exact p g r → Exact o f s
exact_as o p f g s r is same strictly h = subst (λ x. Exact x f s) (sym is) (subst (λ x. Exact p x s) (sym same) (subst (λ x. Exact p g x) (sym strictly) h))

exact_if : (b : Bool) (k : Kind) (f : Evaluation) (s : Strictly) → (b ≡ true → (t : Tape) → s t ≡ Some (f t)) → Exact (if b then Some k else None) f s
exact_if true k f s h = h refl
exact_if false k f s h = tt

strict_on : {A B : Type 0} (Q : A → Type 0) (x : Option (Evaluated A)) (e : Evaluated A) (f : A → Tape → Evaluated B) (g : A → Tape → Option (Evaluated B)) → x ≡ Some e → Within Q e →
    ((a : A) (t : Tape) → Q a → g a t ≡ Some (f a t)) → strict_then x g ≡ Some (and_then e f)
strict_on Q x (Gives a t) f g is h follows = ap (λ y. strict_then y g) is ∙ follows a t h
strict_on Q x (Halts halt t) f g is h follows = ap (λ y. strict_then y g) is

outcome_exact : (k : Kind) (o : Option Outcome) (t : Tape) → IsMeant k o → strict_outcome o t ≡ Some (of_outcome o t)
outcome_exact k (Some (Ok value)) t h = refl
outcome_exact k (Some (Err fault)) t h = refl
outcome_exact k None t h = absurd h

-- ---- the rows of builtins

abbrev IsExact : Row → Type 0
IsExact row = (scope : Scope) (store : Pairs) (args : List Value) (t : Tape) → takes row.first row.second (map kind_of args) ≡ true →
    strict_builtin scope store row.op row.result args t ≡ Some (builtin_value scope store row.op row.result args t)

applied_exact : (name : List ℕ) (o : Op) → IsExact (applied name o)
applied_exact name o scope store args t h = outcome_exact (result_of o) (operation o args) t (operation_gives o args h)

visited_exact : (name : List ℕ) → IsExact (on_visits name kind.Truth)
visited_exact name scope store args t h = let taken = text_taken args h in rw taken.1 refl

count_exact : (name : List ℕ) → IsExact (on_visits name kind.Number)
count_exact name scope store args t h = let taken = text_taken args h in rw taken.1 refl

builtin_exact : (name : List ℕ) (row : Row) → builtin_named name ≡ Some row → IsExact row
builtin_exact = of_builtin IsExact applied_exact visited_exact count_exact

-- ---- nodes

variable_exact : (o : Option Value) (filler : Value) (k : Kind) → option_map kind_of o ≡ Some k → (t : Tape) → strict_value o t ≡ Some (Gives (unwrap_or o filler) t)
variable_exact (Some v) filler k h t = refl
variable_exact None filler k h t = absurd cc

unary_exact : (op : UnaryOp) (o : Option Kind) (f : Evaluation) (s : Strictly) → Sound o f → Exact o f s →
    Exact (if is_in (only (unary_kind op)) o then Some (unary_kind op) else None) (λ t. and_then (f t) (λ v t1. operated (unary_op op) (v ∷ []) t1))
    (λ t. strict_then (s t) (λ v t1. strict_outcome (operation (unary_op op) (v ∷ [])) t1))
unary_exact op None f s h x = tt
unary_exact op (Some k) f s h x =
    exact_if (is_in (only (unary_kind op)) (Some k)) (unary_kind op) _ _
    (λ fits t. strict_on (λ v. kind_of v ≡ k) (s t) (f t) _ _ (x t) (h t)
    (λ v t1 is. outcome_exact (unary_kind op) (operation (unary_op op) (v ∷ [])) t1 (unary_gives op v (is ∙ sym (in_only (unary_kind op) k fits)))))

binary_exact : (op : BinaryOp) (o p : Option Kind) (f g : Evaluation) (s r : Strictly) → Sound o f → Sound p g → Exact o f s → Exact p g r →
    Exact (joined op o p) (λ t. and_then (f t) (λ v t1. and_then (g t1) (λ w t2. operated (binary_op op v) (v ∷ w ∷ []) t2)))
    (λ t. strict_then (s t) (λ v t1. strict_then (r t1) (λ w t2. strict_outcome (operation (binary_op op v) (v ∷ w ∷ [])) t2)))
binary_exact op None p f g s r hf hg xf xg = tt
binary_exact op (Some a) None f g s r hf hg xf xg = tt
binary_exact op (Some a) (Some b) f g s r hf hg xf xg = by_kind (joined op (Some a) (Some b)) refl
  where
    by_kind : (j : Option Kind) → joined op (Some a) (Some b) ≡ j → Exact j (λ t. and_then (f t) (λ v t1. and_then (g t1) (λ w t2. operated (binary_op op v) (v ∷ w ∷ []) t2)))
        (λ t. strict_then (s t) (λ v t1. strict_then (r t1) (λ w t2. strict_outcome (operation (binary_op op v) (v ∷ w ∷ [])) t2)))
    by_kind (Some k) is = λ t.
        strict_on (λ v. kind_of v ≡ a) (s t) (f t) _ _ (xf t) (hf t)
        (λ v t1 va. strict_on (λ w. kind_of w ≡ b) (r t1) (g t1) _ _ (xg t1) (hg t1)
        (λ w t2 wb. outcome_exact k (operation (binary_op op v) (v ∷ w ∷ [])) t2 (binary_gives op v w k (rw (va, wb) is))))
    by_kind None is = tt

-- ---- arguments

each_exact_step : (o : Option Kind) (rest : Option (List Kind)) (ks : List Kind) (f : Evaluation) (s : Strictly) (g : Tape → Evaluated (List Value)) (r : Tape → Option (Evaluated (List Value))) →
    option_and_then (λ k. option_map (λ js. k ∷ js) rest) o ≡ Some ks → Exact o f s → ((js : List Kind) → rest ≡ Some js → (t : Tape) → r t ≡ Some (g t)) →
    (t : Tape) → strict_then (s t) (λ v t1. strict_then (r t1) (λ vs t2. Some (Gives (v ∷ vs) t2))) ≡ Some (and_then (f t) (λ v t1. and_then (g t1) (λ vs t2. Gives (v ∷ vs) t2)))
each_exact_step None rest ks f s g r is x xs t = absurd cc
each_exact_step (Some k) None ks f s g r is x xs t = absurd cc
each_exact_step (Some k) (Some js) ks f s g r is x xs t =
    strict_on (λ v. Unit {0}) (s t) (f t) _ _ (x t) (within_any (f t))
    (λ v t1 u. strict_on (λ vs. Unit {0}) (r t1) (g t1) _ _ (xs js refl t1) (within_any (g t1)) (λ vs t2 w. refl))

-- the arguments of a host function have its kinds
taken_kinds : (params : List Kind) (kinds : List (Option Kind)) → takes_each params kinds ≡ true → kinds_of kinds ≡ Some params
taken_kinds [] [] h = refl
taken_kinds [] (o ∷ os) h = absurd cc
taken_kinds (p ∷ ps) [] h = absurd cc
taken_kinds (p ∷ ps) (o ∷ os) h =
    let both = and_parts (is_in (only p) o) (takes_each ps os) h in
    rw (in_kind p o both.0, taken_kinds ps os both.1) refl

-- ---- calls

module _ (scope : Scope) (store : Pairs) (name : List ℕ) (kinds : List (Option Kind)) (args : Tape → Evaluated (List Value)) (strict_args : Tape → Option (Evaluated (List Value)))
    (typed : (ks : List Kind) → kinds_of kinds ≡ Some ks → (t : Tape) → AreOf ks (args t)) (exact : (ks : List Kind) → kinds_of kinds ≡ Some ks → (t : Tape) → strict_args t ≡ Some (args t)) where
  abbrev answers : Option Row → Evaluation
  answers row t = and_then (args t) (λ vs t1. called scope store row name vs t1)

  abbrev strict_answers : Option Row → Strictly
  strict_answers row t = strict_then (strict_args t) (λ vs t1. strict_called scope store row name vs t1)

  row_exact : (row : Row) → builtin_named name ≡ Some row → Exact (if row_takes row.first row.second (kinds_of kinds) then Some row.result else None) (answers (Some row)) (strict_answers (Some row))
  row_exact row is =
      exact_if (row_takes row.first row.second (kinds_of kinds)) row.result (answers (Some row)) (strict_answers (Some row))
      (λ h t. let taken = row_of_args row.first row.second (kinds_of kinds) h in
      strict_on (λ vs. map kind_of vs ≡ taken.0) (strict_args t) (args t) _ _ (exact taken.0 taken.1 t) (typed taken.0 taken.1 t)
      (λ vs t1 all. builtin_exact name row is scope store vs t1 (ap (takes row.first row.second) all ∙ taken.2)))

  host_exact : (s : Signature) → Exact (if takes_each s.params kinds then Some s.result else None) (answers None) (strict_answers None)
  host_exact s =
      exact_if (takes_each s.params kinds) s.result (answers None) (strict_answers None)
      (λ h t. let all = taken_kinds s.params kinds h in
      strict_on (λ vs. map kind_of vs ≡ s.params) (strict_args t) (args t) _ _ (exact s.params all t) (typed s.params all t) (λ vs t1 u. refl))

  call_by : (row : Option Row) (s : Option Signature) → builtin_named name ≡ row → Exact (fits.called row s kinds) (answers row) (strict_answers row)
  call_by (Some row) s is = row_exact row is
  call_by None (Some s) is = host_exact s
  call_by None None is = tt

  call_exact : Exact (fits.called (builtin_named name) (signature_named scope.functions name) kinds) (answers (builtin_named name)) (strict_answers (builtin_named name))
  call_exact = call_by (builtin_named name) (signature_named scope.functions name) refl

-- ---- expressions

module _ (scope : Scope) (variables : List Appearance) (typing : List Kind) (store : Pairs) (keeps : Keeps variables typing store) where
  abbrev kind_in : Expr → Option Kind
  kind_in = fits.kind_of scope.functions variables typing

  abbrev value_in : Expr → Evaluation
  value_in = eval scope store

  abbrev strict_in : Expr → Strictly
  strict_in = strict scope store

  abbrev IsExactly : Expr → Type 0
  IsExactly e = Exact (kind_in e) (value_in e) (strict_in e)

  abbrev parts : List ((e : Expr) × IsExactly e) → List Expr
  parts = map (λ e. e.0)

  sound_parts : (es : List Expr) (ks : List Kind) → kinds_of (map kind_in es) ≡ Some ks → (t : Tape) → AreOf ks (each (map value_in es) t)
  sound_parts [] ks is t = cc
  sound_parts (e ∷ es) ks is t =
      each_step (kind_in e) (kinds_of (map kind_in es)) ks (value_in e) (each (map value_in es)) is (sound scope variables typing store keeps e) (sound_parts es) t

  each_exact : (args : List ((e : Expr) × IsExactly e)) (ks : List Kind) → kinds_of (map kind_in (parts args)) ≡ Some ks → (t : Tape) →
      strict_each (map strict_in (parts args)) t ≡ Some (each (map value_in (parts args)) t)
  each_exact [] ks is t = refl
  each_exact (a ∷ args) ks is t =
      each_exact_step (kind_in a.0) (kinds_of (map kind_in (parts args))) ks (value_in a.0) (strict_in a.0) (each (map value_in (parts args))) (strict_each (map strict_in (parts args))) is a.1 (each_exact args) t

  sound_in : (e : Expr) → Sound (kind_in e) (value_in e)
  sound_in = sound scope variables typing store keeps

  variable_by : (name : List ℕ) (o : Option Kind) → kind_of_variable variables typing name ≡ o → Exact o (λ t. Gives (stored store name) t) (λ t. strict_value (value_under store name) t)
  variable_by name (Some k) is = variable_exact (value_under store name) (Number (pos 0)) k (keeps name k is)
  variable_by name None is = tt

  each_kind : OfEach IsExactly
  each_kind = record {
    number = λ n. exact_as _ _ _ _ _ _ (at_number (Option Kind) (kind_step scope.functions variables typing) n) (at_number Evaluation (eval_step scope store) n) (at_number Strictly (strict_step scope store) n) (λ t. refl);
    str = λ text. exact_as _ _ _ _ _ _ (at_string (Option Kind) (kind_step scope.functions variables typing) text) (at_string Evaluation (eval_step scope store) text) (at_string Strictly (strict_step scope store) text) (λ t. refl);
    truth = λ b. exact_as _ _ _ _ _ _ (at_truth (Option Kind) (kind_step scope.functions variables typing) b) (at_truth Evaluation (eval_step scope store) b) (at_truth Strictly (strict_step scope store) b) (λ t. refl);
    variable = λ name. exact_as _ _ _ _ _ _ (at_variable (Option Kind) (kind_step scope.functions variables typing) name) (at_variable Evaluation (eval_step scope store) name) (at_variable Strictly (strict_step scope store) name)
        (variable_by name (kind_of_variable variables typing name) refl);
    group = λ e h. exact_as _ _ _ _ _ _ (at_group (Option Kind) (kind_step scope.functions variables typing) e) (at_group Evaluation (eval_step scope store) e) (at_group Strictly (strict_step scope store) e) h;
    unary = λ op e h. exact_as _ _ _ _ _ _ (at_unary (Option Kind) (kind_step scope.functions variables typing) op e) (at_unary Evaluation (eval_step scope store) op e) (at_unary Strictly (strict_step scope store) op e)
        (unary_exact op (kind_in e) (value_in e) (strict_in e) (sound_in e) h);
    binary = λ op l r hl hr. exact_as _ _ _ _ _ _ (at_binary (Option Kind) (kind_step scope.functions variables typing) op l r) (at_binary Evaluation (eval_step scope store) op l r) (at_binary Strictly (strict_step scope store) op l r)
        (binary_exact op (kind_in l) (kind_in r) (value_in l) (value_in r) (strict_in l) (strict_in r) (sound_in l) (sound_in r) hl hr);
    call = λ name args. exact_as _ _ _ _ _ _ (at_call (Option Kind) (kind_step scope.functions variables typing) name (parts args)) (at_call Evaluation (eval_step scope store) name (parts args)) (at_call Strictly (strict_step scope store) name (parts args))
        (call_exact scope store name (map kind_in (parts args)) (each (map value_in (parts args))) (strict_each (map strict_in (parts args))) (sound_parts (parts args)) (each_exact args));
  }

  exactly : (e : Expr) → IsExactly e
  exactly = of_all IsExactly each_kind

pub makes_nothing_up : MakesNothingUp
makes_nothing_up scope variables typing store e kind tape keeps typed =
    subst (λ o. Exact o (eval scope store e) (strict scope store e)) typed (exactly scope variables typing store keeps e) tape

-- ---- what is set

module _ (scope : Scope) (variables : List Appearance) (typing : List Kind) (store : Pairs) (keeps : Keeps variables typing store) where
  stored_exact : (o : Option Value) (filler : Value) (k : Kind) (f : Value → Tape → Evaluated Value) (g : Value → Tape → Option (Evaluated Value)) (t : Tape) → option_map kind_of o ≡ Some k →
      ((v : Value) → kind_of v ≡ k → g v t ≡ Some (f v t)) → strict_then (strict_value o t) g ≡ Some (f (unwrap_or o filler) t)
  stored_exact (Some v) filler k f g t has follows = follows v (variable_of_kind (Some v) k filler has)
  stored_exact None filler k f g t has follows = absurd cc

  operated_exact : (name : List ℕ) (op : BinaryOp) (e : Expr) (a k : Kind) → option_map kind_of (value_under store name) ≡ Some a → (o : Option Kind) → fits.kind_of scope.functions variables typing e ≡ o →
      joined op (Some a) o ≡ Some k → (t : Tape) → strict_set scope name (Some op) e store t ≡ Some (set_value scope name (Some op) e store t)
  operated_exact name op e a k has None is typed t = absurd cc
  operated_exact name op e a k has (Some b) is typed t =
      strict_on (λ w. kind_of w ≡ b) (strict scope store e t) (eval scope store e t) _ _ (makes_nothing_up scope variables typing store e b t keeps is)
      (sound_of scope variables typing store keeps e b is t)
      (λ w t1 wb. stored_exact (value_under store name) (Number (pos 0)) a (λ x t2. operated (binary_op op x) (x ∷ w ∷ []) t2) _ t1 has
      (λ x xa. outcome_exact k (operation (binary_op op x) (x ∷ w ∷ [])) t1 (binary_gives op x w k (rw (xa, wb) typed))))

  set_exact : (name : List ℕ) (op : Option BinaryOp) (e : Expr) (k : Kind) → kind_of_variable variables typing name ≡ Some k → kind_set scope.functions variables typing name op e ≡ Some k →
      (t : Tape) → strict_set scope name op e store t ≡ Some (set_value scope name op e store t)
  set_exact name None e k here typed t = makes_nothing_up scope variables typing store e k t keeps typed
  set_exact name (Some op) e k here typed t =
      operated_exact name op e k k (keeps name k here) (fits.kind_of scope.functions variables typing e) refl
      (ap (λ o. joined op o (fits.kind_of scope.functions variables typing e)) (sym here) ∙ typed) t

pub sets_make_nothing_up : SetsMakeNothingUp
sets_make_nothing_up scope variables typing store name op e tape keeps fits =
    let set = set_kind scope variables typing store keeps name op e fits in
    set_exact scope variables typing store keeps name op e set.0 set.1 set.2 tape
