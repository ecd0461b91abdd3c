-- What the lines ask of their expressions holds of the values that these give.
use Rattle.std.proofs.Common.{◌≡◌, ℕ, pos, List, [], ◌∷◌, Bool, true, false, ◌&&◌, if◌then◌else◌, Option, Some, None, is_some, refl, sym, ap, ◌∙◌, subst}
use Rattle.yarn_value.specs.declared.value.Value.{Value}
use Rattle.yarn_value.specs.declared.value.Value.TheVariants.{Number, Str, Truth}
use Rattle.yarn_value.specs.declared.value.Kind.{Kind}
use Rattle.yarn_value.specs.declared.value.Kind.TheVariants as kind
use Rattle.yarn_value.specs.Rows.{same_kind}
use Rattle.yarn_value.specs.Values.{kind_of}
use Rattle.yarn_value.specs.Operations.{operation}
use Rattle.yarn_expr.specs.declared.tree.BinaryOp.{BinaryOp}
use Rattle.yarn_expr.specs.declared.tree.BinaryOp.TheVariants.{Eq}
use Rattle.yarn_expr.specs.declared.tree.Expr.{Expr}
use Rattle.yarn_types.specs.KindSets.{only, holds, all_kinds}
use Rattle.yarn_types.specs.Names.{Appearance}
use Rattle.yarn_types.specs.Fits.{kind_of_variable, is_in, joined, given_by}
use Rattle.yarn_types.specs.Fits as fits
use Rattle.yarn_types.specs.Units.{kind_set}
use Rattle.yarn_types.proofs.KindLemmas.{kind_same}
use Rattle.yarn_value.specs.Pairs.{value_under, Pairs}
use Rattle.yarn_value.specs.Tape.{Tape}
use Rattle.yarn_meaning.specs.Eval.{stored, binary_op, eval}
use Rattle.yarn_value.specs.Evaluation.{Scope}
use Rattle.yarn_meaning.specs.Does.{set_value}
use Rattle.yarn_code.specs.Kinds.{HasKind}
use Rattle.yarn_kinds.specs.Typed.{Keeps}
use Rattle.yarn_kinds.specs.Kept.{Conditions, Titles}
use Rattle.yarn_kinds.proofs.Evaluations.{IsOf, then_within}
use Rattle.yarn_kinds.proofs.Operators.{binary_gives}
use Rattle.yarn_kinds.proofs.Builtins.{of_meant}
use Rattle.yarn_kinds.proofs.Values.{in_only, variable_of_kind, sound_of}

is_truth : (v : Value) → kind_of v ≡ kind.Truth → (b : Bool) × (v ≡ Truth b)
is_truth (Truth b) h = (b, refl)
is_truth (Number n) h = absurd cc
is_truth (Str text) h = absurd cc

is_text : (v : Value) → kind_of v ≡ kind.Str → (text : List ℕ) × (v ≡ Str text)
is_text (Str text) h = (text, refl)
is_text (Number n) h = absurd cc
is_text (Truth b) h = absurd cc

-- a kind that is asked is there
pub in_kind : (k : Kind) (o : Option Kind) → is_in (only k) o ≡ true → o ≡ Some k
in_kind k (Some j) h = ap (λ x. Some x) (sym (in_only k j h))
in_kind k None h = absurd cc

-- two kinds that `==` takes
both_kind : (a b : Kind) → is_some (joined Eq (Some a) (Some b)) ≡ true → b ≡ a
both_kind a b h = by_test (same_kind a b) (holds all_kinds a) refl h
  where
    by_test : (p q : Bool) → same_kind a b ≡ p → is_some (if p && q then Some (given_by Eq a) else None) ≡ true → b ≡ a
    by_test true q is k = sym (kind_same a b is)
    by_test false q is k = absurd cc

module _ (scope : Scope) (variables : List Appearance) (kinds : List Kind) (store : Pairs) (keeps : Keeps variables kinds store) where
  asked_gives : (e : Expr) (k : Kind) → is_in (only k) (fits.kind_of scope.functions variables kinds e) ≡ true → (t : Tape) → IsOf k (eval scope store e t)
  asked_gives e k h = sound_of scope variables kinds store keeps e k (in_kind k (fits.kind_of scope.functions variables kinds e) h)

  -- what is set is of the variable's kind
  pub set_kind : (name : List ℕ) (op : Option BinaryOp) (e : Expr) → is_some (joined Eq (kind_of_variable variables kinds name) (kind_set scope.functions variables kinds name op e)) ≡ true →
      (k : Kind) × (kind_of_variable variables kinds name ≡ Some k) × (kind_set scope.functions variables kinds name op e ≡ Some k)
  set_kind name op e h = by_kinds (kind_of_variable variables kinds name) (kind_set scope.functions variables kinds name op e) refl refl h
    where
      by_kinds : (o p : Option Kind) → kind_of_variable variables kinds name ≡ o → kind_set scope.functions variables kinds name op e ≡ p → is_some (joined Eq o p) ≡ true →
          (k : Kind) × (kind_of_variable variables kinds name ≡ Some k) × (kind_set scope.functions variables kinds name op e ≡ Some k)
      by_kinds (Some a) (Some b) ho hp h1 = (a, ho, hp ∙ ap (λ x. Some x) (both_kind a b h1))
      by_kinds (Some a) None ho hp h1 = absurd cc
      by_kinds None p ho hp h1 = absurd cc

  set_operated : (name : List ℕ) (op : BinaryOp) (e : Expr) (a k : Kind) → HasKind store name a → (o : Option Kind) → fits.kind_of scope.functions variables kinds e ≡ o → joined op (Some a) o ≡ Some k →
      (t : Tape) → IsOf k (set_value scope name (Some op) e store t)
  set_operated name op e a k has (Some b) is typed t =
      then_within (λ w. kind_of w ≡ b) (λ w. kind_of w ≡ k) (eval scope store e t) _ (sound_of scope variables kinds store keeps e b is t)
      (λ w t1 wb. of_meant k (operation (binary_op op (stored store name)) (stored store name ∷ w ∷ [])) t1
      (binary_gives op (stored store name) w k (rw (variable_of_kind (value_under store name) a (Number (pos 0)) has, wb) typed)))
  set_operated name op e a k has None is typed t = absurd cc

  pub set_gives : (name : List ℕ) (op : Option BinaryOp) (e : Expr) (k : Kind) → kind_of_variable variables kinds name ≡ Some k → kind_set scope.functions variables kinds name op e ≡ Some k →
      (t : Tape) → IsOf k (set_value scope name op e store t)
  set_gives name None e k here typed = sound_of scope variables kinds store keeps e k typed
  set_gives name (Some op) e k here typed =
      set_operated name op e k k (keeps name k here) (fits.kind_of scope.functions variables kinds e) refl
      (ap (λ o. joined op o (fits.kind_of scope.functions variables kinds e)) (sym here) ∙ typed)

pub conditions : Conditions
conditions scope variables kinds store e tape left value keeps fitting gives =
    is_truth value (subst (λ x. IsOf kind.Truth x) gives (asked_gives scope variables kinds store keeps e kind.Truth fitting tape))

pub titles : Titles
titles scope variables kinds store e tape left value keeps fitting gives =
    is_text value (subst (λ x. IsOf kind.Str x) gives (asked_gives scope variables kinds store keeps e kind.Str fitting tape))
