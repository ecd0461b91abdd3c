-- What is taken off a stack that has entries.
use Rattle.std.proofs.Common.{◌≡◌, ◌≤◌, ℕ, zero, suc, ◌+◌, List, [], ◌∷◌, length, Bool, true, false, if◌then◌else◌, Some, None, Contains, refl, sym, ◌∙◌, arith}
use Rattle.yarn_value.specs.declared.value.Value as V
use Rattle.yarn_value.specs.declared.value.Value.TheVariants as value
use Rattle.yarn_value.specs.declared.value.Kind.{Kind}
use Rattle.yarn_value.specs.declared.value.Kind.TheVariants as kind
use Rattle.yarn_value.specs.Rows.{same_kind}
use Rattle.yarn_code.specs.MachineState as m
use Rattle.yarn_code.specs.MachineState.{Stack}
use Rattle.yarn_code.specs.Machine as machine
use Rattle.yarn_code.specs.Machine.{take_values, take_truth, on_value, when_truth, on_truth, when_text, on_text, on_destination}
use Rattle.yarn_check.specs.Shapes as s
use Rattle.yarn_check.specs.Shapes.{ShapeEntry, Flow, Goal, take_kinds, on_kind, on_labels, on_condition}
use Rattle.yarn_check.specs.Shaped.{IsOf, AreOf, HasEntries}
use Rattle.yarn_check.proofs.SameKinds.{kind_same}

module _ {R : Type 0} (P : R → Type 0) (stuck : R) (goals : List Goal) where
  pub values_taken : (count : ℕ) (ks : List Kind) (vs : List V.Value) (es : List ShapeEntry) (stack : Stack) (go : List Kind → List ShapeEntry → Flow)
      (f : List V.Value → Stack → R) →
      AreOf ks vs → HasEntries es stack → take_kinds count ks es go ≡ Some goals →
      ((ks1 : List Kind) (vs1 : List V.Value) (es1 : List ShapeEntry) (stack1 : Stack) →
      AreOf ks1 vs1 → length vs1 ≡ count + length vs → HasEntries es1 stack1 → go ks1 es1 ≡ Some goals → P (f vs1 stack1)) →
      P (take_values count vs stack stuck f)
  values_taken zero ks vs es stack go f are has can next = next ks vs es stack are (omega arith) has can
  values_taken (suc n) ks vs (s.Of k ∷ es) (m.Value v ∷ stack) go f are has can next =
      values_taken n (k ∷ ks) (v ∷ vs) es stack go f (has.0, are) has.1 can
      (λ ks1 vs1 es1 stack1 are1 counted has1 can1. next ks1 vs1 es1 stack1 are1 (omega arith) has1 can1)
  values_taken (suc n) ks vs (s.Of k ∷ es) (m.Null ∷ stack) go f are has can next = absurd has.0
  values_taken (suc n) ks vs (s.Of k ∷ es) (m.Destination label ∷ stack) go f are has can next = absurd has.0
  values_taken (suc n) ks vs (s.Of k ∷ es) [] go f are has can next = absurd has
  values_taken (suc n) ks vs (s.Null ∷ es) stack go f are has can next = absurd cc
  values_taken (suc n) ks vs (s.Destination labels ∷ es) stack go f are has can next = absurd cc
  values_taken (suc n) ks vs [] stack go f are has can next = absurd cc

  -- a value of that kind on top
  pub value_taken : (k : Kind) (es : List ShapeEntry) (stack : Stack) (go : List ShapeEntry → Flow) (f : V.Value → Stack → R) →
      HasEntries es stack → on_kind k es go ≡ Some goals →
      ((v : V.Value) (es1 : List ShapeEntry) (stack1 : Stack) → IsOf k v → HasEntries es1 stack1 → go es1 ≡ Some goals → P (f v stack1)) →
      P (on_value stack stuck f)
  value_taken k (s.Of j ∷ es) (m.Value v ∷ stack) go f has can next = by_test (same_kind k j) refl can
    where
      by_test : (b : Bool) → same_kind k j ≡ b → (if b then go es else None) ≡ Some goals → P (f v stack)
      by_test true same h = next v es stack (record { kind = has.0.kind ∙ sym (kind_same k j same); fits = has.0.fits }) has.1 h
      by_test false same h = absurd cc
  value_taken k (s.Of j ∷ es) (m.Null ∷ stack) go f has can next = absurd has.0
  value_taken k (s.Of j ∷ es) (m.Destination label ∷ stack) go f has can next = absurd has.0
  value_taken k (s.Of j ∷ es) [] go f has can next = absurd has
  value_taken k (s.Null ∷ es) stack go f has can next = absurd cc
  value_taken k (s.Destination labels ∷ es) stack go f has can next = absurd cc
  value_taken k [] stack go f has can next = absurd cc

  -- a truth on top
  truth_here : (v : V.Value) (f : Bool → R) → IsOf kind.Truth v → ((b : Bool) → P (f b)) → P (when_truth v stuck f)
  truth_here (value.Truth b) f is next = next b
  truth_here (value.Number n) f is next = let e = is.kind in absurd cc
  truth_here (value.Str text) f is next = let e = is.kind in absurd cc

  pub truth_on_top : (es : List ShapeEntry) (stack : Stack) (go : List ShapeEntry → Flow) (f : Bool → Stack → R) →
      HasEntries es stack → on_kind kind.Truth es go ≡ Some goals →
      ((b : Bool) (es1 : List ShapeEntry) (stack1 : Stack) → HasEntries es1 stack1 → go es1 ≡ Some goals → P (f b stack1)) →
      P (on_truth stack stuck f)
  truth_on_top es stack go f has can next =
      value_taken kind.Truth es stack go (λ v rest. when_truth v stuck (λ b. f b rest)) has can
      (λ v es1 stack1 of_kind has1 can1. truth_here v (λ b. f b stack1) of_kind (λ b. next b es1 stack1 has1 can1))

  -- a truth, where it is wanted
  pub truth_taken : (conditional : Bool) (es : List ShapeEntry) (stack : Stack) (go : List ShapeEntry → Flow) (f : Bool → Stack → R) →
      HasEntries es stack → on_condition conditional es go ≡ Some goals →
      ((b : Bool) (es1 : List ShapeEntry) (stack1 : Stack) → HasEntries es1 stack1 → go es1 ≡ Some goals → P (f b stack1)) →
      P (take_truth conditional stack stuck f)
  truth_taken true es stack go f has can next = truth_on_top es stack go f has can next
  truth_taken false es stack go f has can next = next true es stack has can

  -- a text on top
  text_here : (v : V.Value) (f : List ℕ → R) → IsOf kind.Str v → ((text : List ℕ) → length text ≤ 65536 → P (f text)) → P (when_text v stuck f)
  text_here (value.Str text) f is next = next text is.fits
  text_here (value.Number n) f is next = let e = is.kind in absurd cc
  text_here (value.Truth b) f is next = let e = is.kind in absurd cc

  pub text_on_top : (es : List ShapeEntry) (stack : Stack) (go : List ShapeEntry → Flow) (f : List ℕ → Stack → R) →
      HasEntries es stack → on_kind kind.Str es go ≡ Some goals →
      ((text : List ℕ) (stack1 : Stack) → length text ≤ 65536 → P (f text stack1)) →
      P (on_text stack stuck f)
  text_on_top es stack go f has can next =
      value_taken kind.Str es stack go (λ v rest. when_text v stuck (λ text. f text rest)) has can
      (λ v es1 stack1 of_kind has1 can1. text_here v (λ text. f text stack1) of_kind (λ text short. next text stack1 short))

  -- a destination on top
  pub destination_taken : (es : List ShapeEntry) (stack : Stack) (go : List ℕ → Flow) (f : ℕ → R) →
      HasEntries es stack → on_labels es go ≡ Some goals →
      ((labels : List ℕ) (label : ℕ) → Contains labels label → go labels ≡ Some goals → P (f label)) →
      P (on_destination stack stuck f)
  destination_taken (s.Destination labels ∷ es) (m.Destination label ∷ stack) go f has can next = next labels label has.0 can
  destination_taken (s.Destination labels ∷ es) (m.Value v ∷ stack) go f has can next = absurd has.0
  destination_taken (s.Destination labels ∷ es) (m.Null ∷ stack) go f has can next = absurd has.0
  destination_taken (s.Destination labels ∷ es) [] go f has can next = absurd has
  destination_taken (s.Of k ∷ es) stack go f has can next = absurd cc
  destination_taken (s.Null ∷ es) stack go f has can next = absurd cc
  destination_taken [] stack go f has can next = absurd cc

  -- whatever stands on top
  pub any_taken : (es : List ShapeEntry) (stack : Stack) (go : List ShapeEntry → Flow) (f : Stack → R) →
      HasEntries es stack → s.on_any es go ≡ Some goals →
      ((es1 : List ShapeEntry) (stack1 : Stack) → HasEntries es1 stack1 → go es1 ≡ Some goals → P (f stack1)) →
      P (machine.on_any stack stuck f)
  any_taken (e ∷ es) (x ∷ stack) go f has can next = next es stack has.1 can
  any_taken (e ∷ es) [] go f has can next = absurd has
  any_taken [] stack go f has can next = absurd cc
