-- The value of an expression is of its kind.
use Rattle.std.proofs.Common.{◌≡◌, ℕ, List, [], ◌∷◌, map, Bool, true, false, if◌then◌else◌, Option, Some, None, unwrap_or, refl, sym, ap, ◌∙◌, subst}
use Rattle.std.specs.Option.{option_map, option_and_then}
use Rattle.yarn_value.specs.declared.value.Value.{Value}
use Rattle.yarn_value.specs.declared.value.Kind.{Kind}
use Rattle.yarn_value.specs.declared.signature.Signature.{Signature}
use Rattle.yarn_value.specs.declared.builtin.Param.{Param}
use Rattle.yarn_value.specs.Builtins.{Row, builtin_named}
use Rattle.yarn_value.specs.Rows.{takes}
use Rattle.yarn_value.specs.Values.{kind_of}
use Rattle.yarn_value.specs.Operations.{operation}
use Rattle.yarn_expr.specs.declared.tree.UnaryOp.{UnaryOp}
use Rattle.yarn_expr.specs.declared.tree.BinaryOp.{BinaryOp}
use Rattle.yarn_expr.specs.declared.tree.Expr.{Expr}
use Rattle.yarn_expr.proofs.Layers.{at_number, at_string, at_truth, at_variable, at_group, at_unary, at_binary, at_call}
use Rattle.yarn_value.specs.Pairs.{value_under, Pairs}
use Rattle.yarn_types.specs.KindSets.{only}
use Rattle.yarn_types.specs.Names.{Appearance}
use Rattle.yarn_value.specs.Signatures.{signature_named}
use Rattle.yarn_types.specs.Fits.{kind_of_variable, kind_step, unary_kind, is_in, joined, kinds_of, row_takes, takes_each}
use Rattle.yarn_types.specs.Fits as fits
use Rattle.yarn_types.proofs.KindLemmas.{holds_only, kind_same}
use Rattle.yarn_value.specs.Tape.{Tape}
use Rattle.yarn_meaning.specs.Eval.{unary_op, binary_op, operated, stored, called, each, eval_step, eval}
use Rattle.yarn_value.specs.Evaluation.{Scope, Evaluated, Gives, and_then}
use Rattle.yarn_kinds.specs.Typed.{Keeps, Kinds}
use Rattle.yarn_kinds.proofs.Parts.{OfEach, of_all}
use Rattle.yarn_kinds.proofs.Evaluations.{Within, IsOf, then_within, within_any}
use Rattle.yarn_kinds.proofs.Operators.{binary_gives, unary_gives}
use Rattle.yarn_kinds.proofs.Builtins.{of_meant, builtin_gives}
use Rattle.yarn_kinds.proofs.Calls.{reply_gives}

-- ---- evaluations, each with the kind that it may have

abbrev pub Evaluation : Type 0
Evaluation = Tape → Evaluated Value

-- where there is a kind, a value is of it
abbrev pub Sound : Option Kind → Evaluation → Type 0
Sound (Some k) f = (t : Tape) → IsOf k (f t)
Sound None f = Unit {0}

pub sound_as : (o p : Option Kind) (f g : Evaluation) → o ≡ p → f ≡ g → Sound p g → Sound o f
sound_as o p f g is same h = subst (λ x. Sound x f) (sym is) (subst (λ x. Sound p x) (sym same) h)

sound_if : (b : Bool) (k : Kind) (f : Evaluation) → (b ≡ true → (t : Tape) → IsOf k (f t)) → Sound (if b then Some k else None) f
sound_if true k f h = h refl
sound_if false k f h = tt

-- the values of arguments have these kinds
abbrev pub AreOf : List Kind → Evaluated (List Value) → Type 0
AreOf ks e = Within (λ values. map kind_of values ≡ ks) e

-- ---- the parts of a node

pub variable_of_kind : (o : Option Value) (k : Kind) (filler : Value) → option_map kind_of o ≡ Some k → kind_of (unwrap_or o filler) ≡ k
variable_of_kind (Some v) k filler h = cc
variable_of_kind None k filler h = absurd cc

-- a value of the kind that a unary operator takes
pub in_only : (k j : Kind) → is_in (only k) (Some j) ≡ true → k ≡ j
in_only k j h = kind_same k j (sym (holds_only k j) ∙ h)

unary_sound : (op : UnaryOp) (o : Option Kind) (f : Evaluation) → Sound o f →
    Sound (if is_in (only (unary_kind op)) o then Some (unary_kind op) else None) (λ t. and_then (f t) (λ v t1. operated (unary_op op) (v ∷ []) t1))
unary_sound op None f h = tt
unary_sound op (Some k) f h =
    sound_if (is_in (only (unary_kind op)) (Some k)) (unary_kind op) _
    (λ fits t. then_within (λ v. kind_of v ≡ k) (λ v. kind_of v ≡ unary_kind op) (f t) _ (h t)
    (λ v t1 is. of_meant (unary_kind op) (operation (unary_op op) (v ∷ [])) t1 (unary_gives op v (is ∙ sym (in_only (unary_kind op) k fits)))))

binary_of : (op : BinaryOp) (a b k : Kind) (f g : Evaluation) → joined op (Some a) (Some b) ≡ Some k → ((t : Tape) → IsOf a (f t)) → ((t : Tape) → IsOf b (g t)) →
    (t : Tape) → IsOf k (and_then (f t) (λ v t1. and_then (g t1) (λ w t2. operated (binary_op op v) (v ∷ w ∷ []) t2)))
binary_of op a b k f g is hf hg t =
    then_within (λ v. kind_of v ≡ a) (λ v. kind_of v ≡ k) (f t) _ (hf t)
    (λ v t1 va. then_within (λ w. kind_of w ≡ b) (λ w. kind_of w ≡ k) (g t1) _ (hg t1)
    (λ w t2 wb. of_meant k (operation (binary_op op v) (v ∷ w ∷ [])) t2 (binary_gives op v w k (rw (va, wb) is))))

binary_sound : (op : BinaryOp) (o p : Option Kind) (f g : Evaluation) → Sound o f → Sound p g →
    Sound (joined op o p) (λ t. and_then (f t) (λ v t1. and_then (g t1) (λ w t2. operated (binary_op op v) (v ∷ w ∷ []) t2)))
binary_sound op None p f g hf hg = tt
binary_sound op (Some a) None f g hf hg = tt
binary_sound op (Some a) (Some b) f g hf hg = by_kind (joined op (Some a) (Some b)) refl
  where
    by_kind : (r : Option Kind) → joined op (Some a) (Some b) ≡ r → Sound r (λ t. and_then (f t) (λ v t1. and_then (g t1) (λ w t2. operated (binary_op op v) (v ∷ w ∷ []) t2)))
    by_kind (Some k) is = binary_of op a b k f g is hf hg
    by_kind None is = tt

-- ---- arguments

pub each_step : (o : Option Kind) (rest : Option (List Kind)) (ks : List Kind) (f : Evaluation) (g : Tape → Evaluated (List Value)) →
    option_and_then (λ k. option_map (λ js. k ∷ js) rest) o ≡ Some ks → Sound o f → ((js : List Kind) → rest ≡ Some js → (t : Tape) → AreOf js (g t)) →
    (t : Tape) → AreOf ks (and_then (f t) (λ v t1. and_then (g t1) (λ vs t2. Gives (v ∷ vs) t2)))
each_step None rest ks f g is hf hg t = absurd cc
each_step (Some k) None ks f g is hf hg t = absurd cc
each_step (Some k) (Some js) ks f g is hf hg t =
    then_within (λ v. kind_of v ≡ k) (λ vs. map kind_of vs ≡ ks) (f t) _ (hf t)
    (λ v t1 vk. then_within (λ vs. map kind_of vs ≡ js) (λ vs. map kind_of vs ≡ ks) (g t1) _ (hg js refl t1) (λ vs t2 all. rw (vk, all) cc))

module _ (kind_in : Expr → Option Kind) (value_in : Expr → Evaluation) where
  abbrev pub IsSound : Expr → Type 0
  IsSound e = Sound (kind_in e) (value_in e)

  abbrev pub parts : List ((e : Expr) × IsSound e) → List Expr
  parts = map (λ e. e.0)

  pub each_of : (args : List ((e : Expr) × IsSound e)) (ks : List Kind) → kinds_of (map kind_in (parts args)) ≡ Some ks → (t : Tape) → AreOf ks (each (map value_in (parts args)) t)
  each_of [] ks is t = cc
  each_of (a ∷ args) ks is t = each_step (kind_in a.0) (kinds_of (map kind_in (parts args))) ks (value_in a.0) (each (map value_in (parts args))) is a.1 (each_of args) t

-- ---- calls

pub row_of_args : (first second : Option Param) (o : Option (List Kind)) → row_takes first second o ≡ true → (ks : List Kind) × (o ≡ Some ks) × (takes first second ks ≡ true)
row_of_args first second (Some ks) h = (ks, refl, h)
row_of_args first second None h = absurd cc

module _ (scope : Scope) (store : Pairs) (name : List ℕ) (kinds : List (Option Kind)) (args : Tape → Evaluated (List Value))
    (typed : (ks : List Kind) → kinds_of kinds ≡ Some ks → (t : Tape) → AreOf ks (args t)) where
  abbrev answers : Option Row → Evaluation
  answers row t = and_then (args t) (λ vs t1. called scope store row name vs t1)

  row_sound : (row : Row) → builtin_named name ≡ Some row → Sound (if row_takes row.first row.second (kinds_of kinds) then Some row.result else None) (answers (Some row))
  row_sound row is =
      sound_if (row_takes row.first row.second (kinds_of kinds)) row.result (answers (Some row))
      (λ h t. let taken = row_of_args row.first row.second (kinds_of kinds) h in
      then_within (λ vs. map kind_of vs ≡ taken.0) (λ v. kind_of v ≡ row.result) (args t) _ (typed taken.0 taken.1 t)
      (λ vs t1 all. builtin_gives name row is scope store vs t1 (ap (takes row.first row.second) all ∙ taken.2)))

  host_sound : (s : Signature) → signature_named scope.functions name ≡ Some s → Sound (if takes_each s.params kinds then Some s.result else None) (answers None)
  host_sound s is =
      sound_if (takes_each s.params kinds) s.result (answers None)
      (λ h t. then_within (λ vs. Unit {0}) (λ v. kind_of v ≡ s.result) (args t) _ (within_any (args t)) (λ vs t1 u. reply_gives scope.functions name s is vs t1))

  call_by : (row : Option Row) (s : Option Signature) → builtin_named name ≡ row → signature_named scope.functions name ≡ s → Sound (fits.called row s kinds) (answers row)
  call_by (Some row) s is found = row_sound row is
  call_by None (Some s) is found = host_sound s found
  call_by None None is found = tt

  pub call_sound : Sound (fits.called (builtin_named name) (signature_named scope.functions name) kinds) (answers (builtin_named name))
  call_sound = call_by (builtin_named name) (signature_named scope.functions name) refl refl

-- ---- expressions

module _ (scope : Scope) (variables : List Appearance) (typing : List Kind) (store : Pairs) (keeps : Keeps variables typing store) where
  abbrev kind_in : Expr → Option Kind
  kind_in = fits.kind_of scope.functions variables typing

  abbrev value_in : Expr → Evaluation
  value_in = eval scope store

  variable_by : (name : List ℕ) (o : Option Kind) → kind_of_variable variables typing name ≡ o → Sound o (λ t. Gives (stored store name) t)
  variable_by name (Some k) is = λ t. variable_of_kind (value_under store name) k _ (keeps name k is)
  variable_by name None is = tt

  each_kind : OfEach (IsSound kind_in value_in)
  each_kind = record {
    number = λ n. sound_as _ _ _ _ (at_number (Option Kind) (kind_step scope.functions variables typing) n) (at_number Evaluation (eval_step scope store) n) (λ t. refl);
    str = λ text. sound_as _ _ _ _ (at_string (Option Kind) (kind_step scope.functions variables typing) text) (at_string Evaluation (eval_step scope store) text) (λ t. refl);
    truth = λ b. sound_as _ _ _ _ (at_truth (Option Kind) (kind_step scope.functions variables typing) b) (at_truth Evaluation (eval_step scope store) b) (λ t. refl);
    variable = λ name. sound_as _ _ _ _ (at_variable (Option Kind) (kind_step scope.functions variables typing) name) (at_variable Evaluation (eval_step scope store) name)
        (variable_by name (kind_of_variable variables typing name) refl);
    group = λ e h. sound_as _ _ _ _ (at_group (Option Kind) (kind_step scope.functions variables typing) e) (at_group Evaluation (eval_step scope store) e) h;
    unary = λ op e h. sound_as _ _ _ _ (at_unary (Option Kind) (kind_step scope.functions variables typing) op e) (at_unary Evaluation (eval_step scope store) op e)
        (unary_sound op (kind_in e) (value_in e) h);
    binary = λ op l r hl hr. sound_as _ _ _ _ (at_binary (Option Kind) (kind_step scope.functions variables typing) op l r) (at_binary Evaluation (eval_step scope store) op l r)
        (binary_sound op (kind_in l) (kind_in r) (value_in l) (value_in r) hl hr);
    call = λ name args. sound_as _ _ _ _ (at_call (Option Kind) (kind_step scope.functions variables typing) name (parts kind_in value_in args)) (at_call Evaluation (eval_step scope store) name (parts kind_in value_in args))
        (call_sound scope store name (map kind_in (parts kind_in value_in args)) (each (map value_in (parts kind_in value_in args))) (each_of kind_in value_in args));
  }

  pub sound : (e : Expr) → IsSound kind_in value_in e
  sound = of_all (IsSound kind_in value_in) each_kind

  -- of an expression of that kind
  pub sound_of : (e : Expr) (k : Kind) → kind_in e ≡ Some k → (t : Tape) → IsOf k (value_in e t)
  sound_of e k is = subst (λ o. Sound o (value_in e)) is (sound e)

pub kinds : Kinds
kinds scope variables typing store e kind tape left value keeps typed gives =
    subst (λ x. IsOf kind x) gives (sound_of scope variables typing store keeps e kind typed tape)
