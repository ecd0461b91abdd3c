-- The steps over expressions and arguments, in the form of the code's goals.
use Rattle.std.proofs.Common.{◌≡◌, ℕ, ◌<◌, ◌≤◌, ◌+◌, List, [], ◌∷◌, Bool, true, false, ◌&&◌, if◌then◌else◌, Option, Some, None, is_some, Result, Ok, Err, OnOk, OnErr, IfOk, length, drop, map, sum, get_or, slice_get, refl, sym, ap, ◌∙◌, subst, add-one, suc, arith}
use Rattle.std.specs.Option.{option_map, option_and_then}
use Rattle.std.proofs.Math.Seq.{drop-cons}
use Rattle.std.proofs.lemmas.List.{drop_all, length-map}
use Rattle.std.proofs.lemmas.List.Sums.{sum-map, sum_by-cons}
use Rattle.yarn_value.specs.declared.value.Kind.{Kind}
use Rattle.yarn_value.specs.declared.value.Kind.TheVariants.{Number}
use Rattle.yarn_value.specs.declared.signature.Signature.{Signature}
use Rattle.yarn_value.specs.declared.builtin.Param.{Param}
use Rattle.yarn_value.specs.declared.builtin.Param.TheVariants as param
use Rattle.yarn_value.specs.Builtins.{Row, builtin_named}
use Rattle.yarn_value.specs.Rows.{same_kind, accepts}
use Rattle.yarn_expr.specs.declared.tree.BinaryOp.{BinaryOp}
use Rattle.yarn_expr.specs.declared.tree.Expr.{Expr}
use Rattle.yarn_expr.specs.declared.tree.Expr.TheVariants.{Binary, Call}
use Rattle.yarn_types.specs.declared.kind_set.KindSet.{KindSet}
use Rattle.yarn_types.specs.declared.finding.Found.{Found}
use Rattle.yarn_types.specs.declared.finding.Found.TheVariants.{Known, OfVariable}
use Rattle.yarn_types.specs.declared.finding.Misfit.{Misfit}
use Rattle.yarn_types.specs.declared.class.Classes.{Classes}
use Rattle.yarn_types.specs.declared.expression.Scope.{Scope}
use Rattle.yarn_types.specs.KindSets.{holds, only}
use Rattle.yarn_types.specs.Names.{place_of}
use Rattle.yarn_value.specs.Signatures.{signature_named}
use Rattle.yarn_types.specs.Founds.{kind_in, kind_under, variable_under, each_under, call_under, row_under, args_under, both_accept, kind_of_param}
use Rattle.yarn_types.specs.Classes.{count_of, Stands, Narrows, Refuses, Finds, FindsNone, Halfway}
use Rattle.yarn_types.specs.Fits.{joined, is_in, takes_each, kinds_of, row_takes, called, node_count}
use Rattle.yarn_types.proofs.NodeLemmas.{kind_of-Binary, kind_of-Call}
use Rattle.yarn_types.proofs.Narrowing.{narrows_none, narrows_as, finds_as, none_as, at_error, on_ok, on_err, if_ok, halfway_step, halfway_ends, halfway_stops, not_true}
use Rattle.yarn_types.proofs.KindLemmas.{holds_only, same_kind_self}
use Rattle.yarn_types.proofs.FindLemmas.{finds_variable, finds_no_variable, finds_joined, finds_none_right, finds_none_joined, narrows_in, refuses_in, finds_if, finds_none_if, narrows_by, refuses_by, refuses_by_none, narrows_both, refuses_both, refuses_right, refuses_left}

-- ---- an operator between two operands

module _ (s : Scope) (c d e f : Classes) (op : BinaryOp) (whole left right : Expr) (is : whole ≡ Binary op left right) (one other : Found)
    (first : Finds c d (kind_under s left) one) where
  abbrev by_parts : List Kind → Option Kind
  by_parts t = joined op (kind_under s left t) (kind_under s right t)

  same : (t : List Kind) → by_parts t ≡ kind_under s whole t
  same t = sym (kind_of-Binary s.functions s.names t op left right) ∙ ap (λ x. kind_under s x t) (sym is)

  pub binary_right : {A : Type 0} (result : Result A Misfit) → FindsNone d (kind_under s right) → OnErr result (FindsNone c (kind_under s whole))
  binary_right result none = at_error result (none_as c by_parts (kind_under s whole) same (finds_none_right c d op (kind_under s left) (kind_under s right) one first none))

  pub binary_ok : (result : Result Found Misfit) → Finds d e (kind_under s right) other
      → IfOk result (λ found. Finds e f (λ t. joined op (Some (kind_in one t)) (Some (kind_in other t))) found) → IfOk result (λ found. Finds c f (kind_under s whole) found)
  binary_ok (Ok found) second both = finds_as c f by_parts (kind_under s whole) found same (finds_joined c d e f op (kind_under s left) (kind_under s right) one other found first second both)
  binary_ok (Err misfit) second both = tt

  pub binary_err : (result : Result Found Misfit) → Finds d e (kind_under s right) other
      → OnErr result (FindsNone e (λ t. joined op (Some (kind_in one t)) (Some (kind_in other t)))) → OnErr result (FindsNone c (kind_under s whole))
  binary_err (Ok found) second none = tt
  binary_err (Err misfit) second none = none_as c by_parts (kind_under s whole) same (finds_none_joined c d e op (kind_under s left) (kind_under s right) one other first second none)

-- ---- a kind in a set

pub in_ok : (c d e : Classes) (asked : List Kind → Option Kind) (found : Found) (set : KindSet) (result : Result (Unit {0}) Misfit) → Finds c d asked found
    → OnOk result (Narrows d e (λ t. holds set (kind_in found t))) → OnOk result (Narrows c e (λ t. is_in set (asked t)))
in_ok c d e asked found set result finds = on_ok result (narrows_in c d e asked found set finds)

pub in_err : (c d : Classes) (asked : List Kind → Option Kind) (found : Found) (set : KindSet) (result : Result (Unit {0}) Misfit) → Finds c d asked found
    → OnErr result (Refuses d (λ t. holds set (kind_in found t))) → OnErr result (Refuses c (λ t. is_in set (asked t)))
in_err c d asked found set result finds = on_err result (refuses_in c d asked found set finds)

-- ---- a variable

module _ (s : Scope) (c : Classes) (name : List ℕ) where
  at_variable : (v : ℕ) → place_of s.names name ≡ Some v → (t : List Kind) → slice_get t v ≡ variable_under s name t
  at_variable v e t = ap (option_and_then (slice_get t)) (sym e)

  pub variable_found : (v : ℕ) → place_of s.names name ≡ Some v → Stands c → v < count_of c → Finds c c (variable_under s name) (OfVariable v)
  variable_found v e stands inside = finds_as c c (λ t. slice_get t v) (variable_under s name) (OfVariable v) (at_variable v e) (finds_variable c v stands inside)

  pub variable_beyond : (v : ℕ) → place_of s.names name ≡ Some v → count_of c ≤ v → FindsNone c (variable_under s name)
  variable_beyond v e beyond = none_as c (λ t. slice_get t v) (variable_under s name) (at_variable v e) (finds_no_variable c v beyond)

  pub variable_nowhere : place_of s.names name ≡ None → FindsNone c (variable_under s name)
  variable_nowhere e t a = ap (λ o. is_some (option_and_then (slice_get t) o)) e

-- ---- calls

module _ (s : Scope) (c d : Classes) (name : List ℕ) (args : List Expr) where
  module _ (row : Row) (is : builtin_named name ≡ Some row) where
    as_row : (t : List Kind) → (if row_under s row.first row.second args t then Some row.result else None) ≡ call_under s name args t
    as_row t = ap (λ o. called o (signature_named s.functions name) (each_under s args t)) (sym is)

    pub row_ok : Narrows c d (row_under s row.first row.second args) → Finds c d (call_under s name args) (Known row.result)
    row_ok narrows = finds_as c d (λ t. if row_under s row.first row.second args t then Some row.result else None) (call_under s name args) (Known row.result) as_row (finds_if c d (row_under s row.first row.second args) row.result narrows)

    pub row_err : Refuses c (row_under s row.first row.second args) → FindsNone c (call_under s name args)
    row_err none = none_as c (λ t. if row_under s row.first row.second args t then Some row.result else None) (call_under s name args) as_row (finds_none_if c (row_under s row.first row.second args) row.result none)

  module _ (no_row : builtin_named name ≡ None) where
    pub call_nowhere : signature_named s.functions name ≡ None → FindsNone c (call_under s name args)
    call_nowhere is t a = ap is_some (ap (λ o. called o (signature_named s.functions name) (each_under s args t)) no_row ∙ ap (λ o. called None o (each_under s args t)) is)

    module _ (signature : Signature) (is : signature_named s.functions name ≡ Some signature) where
      as_host : (t : List Kind) → (if args_under s signature.params args t then Some signature.result else None) ≡ call_under s name args t
      as_host t = sym (ap (λ o. called o (signature_named s.functions name) (each_under s args t)) no_row ∙ ap (λ o. called None o (each_under s args t)) is)

      pub host_ok : Narrows c d (args_under s signature.params args) → Finds c d (call_under s name args) (Known signature.result)
      host_ok narrows = finds_as c d (λ t. if args_under s signature.params args t then Some signature.result else None) (call_under s name args) (Known signature.result) as_host (finds_if c d (args_under s signature.params args) signature.result narrows)

      pub host_err : Refuses c (args_under s signature.params args) → FindsNone c (call_under s name args)
      host_err none = none_as c (λ t. if args_under s signature.params args t then Some signature.result else None) (call_under s name args) as_host (finds_none_if c (args_under s signature.params args) signature.result none)

module _ (s : Scope) (whole : Expr) (name : List ℕ) (args : List Expr) (is : whole ≡ Call name args) where
  as_call : (t : List Kind) → call_under s name args t ≡ kind_under s whole t
  as_call t = sym (kind_of-Call s.functions s.names t name args) ∙ ap (λ x. kind_under s x t) (sym is)

  pub call_ok : (c d : Classes) (result : Result Found Misfit) → IfOk result (λ found. Finds c d (call_under s name args) found) → IfOk result (λ found. Finds c d (kind_under s whole) found)
  call_ok c d result = if_ok result (λ found. finds_as c d (call_under s name args) (kind_under s whole) found as_call)

  pub call_err : (c : Classes) (result : Result Found Misfit) → OnErr result (FindsNone c (call_under s name args)) → OnErr result (FindsNone c (kind_under s whole))
  call_err c result = on_err result (none_as c (call_under s name args) (kind_under s whole) as_call)

-- ---- arguments of a builtin

abbrev one_test : Param → Option Kind → Bool
one_test p x = row_takes (Some p) None (kinds_of (x ∷ []))

abbrev two_test : Param → Param → Option Kind → Option Kind → Bool
two_test p q x y = row_takes (Some p) (Some q) (kinds_of (x ∷ y ∷ []))

two_right : (p q : Param) (x : Option Kind) → two_test p q x None ≡ false
two_right p q (Some k) = refl
two_right p q None = refl

module _ (s : Scope) (c d e : Classes) (p : Param) (arg : Expr) (args : List Expr) (is : args ≡ arg ∷ []) where
  with_one : (t : List Kind) → one_test p (kind_under s arg t) ≡ row_under s (Some p) None args t
  with_one t = ap (λ xs. row_under s (Some p) None xs t) (sym is)

  pub one_none : {A : Type 0} (result : Result A Misfit) → FindsNone c (kind_under s arg) → OnErr result (Refuses c (row_under s (Some p) None args))
  one_none result none = at_error result (λ t a. sym (with_one t) ∙ refuses_by_none (one_test p) refl c (kind_under s arg) none t a)

  module _ (found : Found) (finds : Finds c d (kind_under s arg) found) where
    pub one_ok : (result : Result (Unit {0}) Misfit) → OnOk result (Narrows d e (λ t. accepts p (kind_in found t) (kind_in found t))) → OnOk result (Narrows c e (row_under s (Some p) None args))
    one_ok result = on_ok result (λ h. narrows_as c e (λ t. one_test p (kind_under s arg t)) (row_under s (Some p) None args) (narrows_by (one_test p) refl c d e (kind_under s arg) found finds h) with_one)

    pub one_err : (result : Result (Unit {0}) Misfit) → OnErr result (Refuses d (λ t. accepts p (kind_in found t) (kind_in found t))) → OnErr result (Refuses c (row_under s (Some p) None args))
    one_err result = on_err result (λ h t a. sym (with_one t) ∙ refuses_by (one_test p) refl c d (kind_under s arg) found finds h t a)

module _ (s : Scope) (c d e f : Classes) (p q : Param) (arg next : Expr) (args : List Expr) (is : args ≡ arg ∷ next ∷ []) where
  with_two : (t : List Kind) → two_test p q (kind_under s arg t) (kind_under s next t) ≡ row_under s (Some p) (Some q) args t
  with_two t = ap (λ xs. row_under s (Some p) (Some q) xs t) (sym is)

  pub two_none : {A : Type 0} (result : Result A Misfit) → FindsNone c (kind_under s arg) → OnErr result (Refuses c (row_under s (Some p) (Some q) args))
  two_none result none = at_error result (λ t a. sym (with_two t) ∙ refuses_left (two_test p q) (λ y. refl) (two_right p q) (kind_under s arg) (kind_under s next) c none t a)

  module _ (one : Found) (first : Finds c d (kind_under s arg) one) where
    pub two_right_none : {A : Type 0} (result : Result A Misfit) → FindsNone d (kind_under s next) → OnErr result (Refuses c (row_under s (Some p) (Some q) args))
    two_right_none result none = at_error result (λ t a. sym (with_two t) ∙ refuses_right (two_test p q) (λ y. refl) (two_right p q) (kind_under s arg) (kind_under s next) c d one first none t a)

    module _ (other : Found) (second : Finds d e (kind_under s next) other) where
      pub two_ok : (result : Result (Unit {0}) Misfit) → OnOk result (Narrows e f (λ t. both_accept p q (kind_in one t) (kind_in other t))) → OnOk result (Narrows c f (row_under s (Some p) (Some q) args))
      two_ok result = on_ok result (λ h. narrows_as c f (λ t. two_test p q (kind_under s arg t) (kind_under s next t)) (row_under s (Some p) (Some q) args)
          (narrows_both (two_test p q) (λ y. refl) (two_right p q) (kind_under s arg) (kind_under s next) c d e one other first second f h) with_two)

      pub two_err : (result : Result (Unit {0}) Misfit) → OnErr result (Refuses e (λ t. both_accept p q (kind_in one t) (kind_in other t))) → OnErr result (Refuses c (row_under s (Some p) (Some q) args))
      two_err result = on_err result (λ h t a. sym (with_two t) ∙ refuses_both (two_test p q) (λ y. refl) (two_right p q) (kind_under s arg) (kind_under s next) c d e one other first second h t a)

-- another number of arguments
after_one : (p : Param) (k l : Kind) (o : Option (List Kind)) → row_takes (Some p) None (option_map (λ ks. k ∷ ks) (option_map (λ ks. l ∷ ks) o)) ≡ true → ⊥
after_one p k l (Some ks) h = cc
after_one p k l None h = cc

pub one_long : (p : Param) (xs : List (Option Kind)) → row_takes (Some p) None (kinds_of xs) ≡ true → length xs ≡ 1
one_long p [] h = cc
one_long p (x ∷ []) h = refl
one_long p (None ∷ y ∷ zs) h = cc
one_long p (Some k ∷ None ∷ zs) h = cc
one_long p (Some k ∷ Some l ∷ zs) h = absurd (after_one p k l (kinds_of zs) h)

after_two : (p q : Param) (k l m : Kind) (o : Option (List Kind)) → row_takes (Some p) (Some q) (option_map (λ ks. k ∷ ks) (option_map (λ ks. l ∷ ks) (option_map (λ ks. m ∷ ks) o))) ≡ true → ⊥
after_two p q k l m (Some ks) h = cc
after_two p q k l m None h = cc

pub two_long : (p q : Param) (xs : List (Option Kind)) → row_takes (Some p) (Some q) (kinds_of xs) ≡ true → length xs ≡ 2
two_long p q [] h = cc
two_long p q (None ∷ []) h = cc
two_long p q (Some k ∷ []) h = cc
two_long p q (x ∷ y ∷ []) h = refl
two_long p q (None ∷ y ∷ z ∷ zs) h = cc
two_long p q (Some k ∷ None ∷ z ∷ zs) h = cc
two_long p q (Some k ∷ Some l ∷ None ∷ zs) h = cc
two_long p q (Some k ∷ Some l ∷ Some m ∷ zs) h = absurd (after_two p q k l m (kinds_of zs) h)

after_none : (k : Kind) (o : Option (List Kind)) → row_takes None None (option_map (λ ks. k ∷ ks) o) ≡ true → ⊥
after_none k (Some ks) h = cc
after_none k None h = cc

none_long : (xs : List (Option Kind)) → row_takes None None (kinds_of xs) ≡ true → length xs ≡ 0
none_long [] h = refl
none_long (None ∷ xs) h = cc
none_long (Some k ∷ xs) h = absurd (after_none k (kinds_of xs) h)

module _ (s : Scope) (args : List Expr) where
  each_long : (t : List Kind) → length (each_under s args t) ≡ length args
  each_long t = length-map args (λ arg. kind_under s arg t)

  pub not_none : (length args ≡ 0 → ⊥) → (t : List Kind) → row_under s None None args t ≡ false
  not_none apart t = not_true (row_under s None None args t) (λ h. apart (sym (each_long t) ∙ none_long (each_under s args t) h))

  pub not_one : (p : Param) → (length args ≡ 1 → ⊥) → (t : List Kind) → row_under s (Some p) None args t ≡ false
  not_one p apart t = not_true (row_under s (Some p) None args t) (λ h. apart (sym (each_long t) ∙ one_long p (each_under s args t) h))

  pub not_two : (p q : Param) → (length args ≡ 2 → ⊥) → (t : List Kind) → row_under s (Some p) (Some q) args t ≡ false
  not_two p q apart t = not_true (row_under s (Some p) (Some q) args t) (λ h. apart (sym (each_long t) ∙ two_long p q (each_under s args t) h))

pub one_is : (args : List Expr) (arg : Expr) → 1 ≤ length args → length args < 2 → arg ≡ get_or args 0 arg → args ≡ arg ∷ []
one_is [] arg l m e = absurd (omega (arith, l))
one_is (x ∷ []) arg l m e = ap (λ y. y ∷ []) (sym e)
one_is (x ∷ y ∷ zs) arg l m e = absurd (omega (arith, m))

pub two_is : (args : List Expr) (arg next : Expr) → 2 ≤ length args → length args < 3 → arg ≡ get_or args 0 arg → next ≡ get_or args 1 next → args ≡ arg ∷ next ∷ []
two_is [] arg next l m e f = absurd (omega (arith, l))
two_is (x ∷ []) arg next l m e f = absurd (omega (arith, l))
two_is (x ∷ y ∷ []) arg next l m e f = ap (λ a. a ∷ y ∷ []) (sym e) ∙ ap (λ a. arg ∷ a ∷ []) (sym f)
two_is (x ∷ y ∷ z ∷ zs) arg next l m e f = absurd (omega (arith, m))

-- ---- arguments of a host function

pub takes_length : (params : List Kind) (args : List (Option Kind)) → takes_each params args ≡ true → length args ≡ length params
takes_length [] [] h = refl
takes_length [] (arg ∷ args) h = cc
takes_length (param ∷ params) [] h = cc
takes_length (param ∷ params) (arg ∷ args) h = ap suc (takes_length params args (second (is_in (only param) arg) (takes_each params args) h))
  where
    second : (a b : Bool) → (a && b) ≡ true → b ≡ true
    second true b h = h
    second false b h = cc

pub takes_step : (asked : Expr → Option Kind) (params : List Kind) (args : List Expr) (at : ℕ) (arg : Expr) → at < length args → at < length params → arg ≡ get_or args at arg
    → takes_each (drop at params) (map asked (drop at args)) ≡ (is_in (only (kind_of_param params at)) (asked arg) && takes_each (drop (at + 1) params) (map asked (drop (at + 1) args)))
takes_step asked params args at arg l m is =
    rw (add-one at) (rw (drop-cons params at Number m, drop-cons args at arg l) (rw (← is) refl))

pub count_next : (args : List Expr) (at : ℕ) (arg : Expr) → at < length args → arg ≡ get_or args at arg → sum (map node_count (drop at args)) ≡ node_count arg + sum (map node_count (drop (at + 1) args))
count_next args at arg l is =
    rw (add-one at) (rw (drop-cons args at arg l) (rw (← is)
    (sum-map node_count (arg ∷ drop (suc at) args) ∙ sum_by-cons node_count arg (drop (suc at) args) ∙ ap (λ n. node_count arg + n) (sym (sum-map node_count (drop (suc at) args))))))

-- another number of arguments
pub args_apart : (s : Scope) (params : List Kind) (args : List Expr) (n : ℕ) → n ≡ length params → (length args ≡ n → ⊥) → (t : List Kind) → args_under s params args t ≡ false
args_apart s params args n is apart t =
    not_true (args_under s params args t) (λ h. apart (sym (length-map args (λ arg. kind_under s arg t)) ∙ takes_length params (each_under s args t) h ∙ sym is))

takes_none : (asked : Expr → Option Kind) (params : List Kind) (args : List Expr) (at : ℕ) → length args ≤ at → length args ≡ length params → takes_each (drop at params) (map asked (drop at args)) ≡ true
takes_none asked params args at l e = rw (drop_all at args l, drop_all at params (subst (λ n. n ≤ at) e l)) refl

first_of_both : (a b : Bool) → (a && b) ≡ true → a ≡ true
first_of_both true b h = refl
first_of_both false b h = h

-- the loop over arguments, between the classes before it, those at its head and those after the next argument
module _ (s : Scope) (params : List Kind) (args : List Expr) (before now next : Classes) (at : ℕ) (arg : Expr) (inside : at < length args) (same_long : length args ≡ length params) (is : arg ≡ get_or args at arg)
    (half : Halfway before now (args_under s params args) (args_under s (drop at params) (drop at args))) where
  split : (t : List Kind) → args_under s (drop at params) (drop at args) t ≡ (is_in (only (kind_of_param params at)) (kind_under s arg t) && args_under s (drop (at + 1) params) (drop (at + 1) args) t)
  split t = takes_step (λ x. kind_under s x t) params args at arg inside (subst (λ n. at < n) same_long inside) is

  pub args_on : Narrows now next (λ t. is_in (only (kind_of_param params at)) (kind_under s arg t)) → Halfway before next (args_under s params args) (args_under s (drop (at + 1) params) (drop (at + 1) args))
  args_on narrows = halfway_step before now next (args_under s params args) (args_under s (drop at params) (drop at args)) (λ t. is_in (only (kind_of_param params at)) (kind_under s arg t)) (args_under s (drop (at + 1) params) (drop (at + 1) args)) half narrows split

  pub args_stop : Refuses now (λ t. is_in (only (kind_of_param params at)) (kind_under s arg t)) → Refuses before (args_under s params args)
  args_stop none = halfway_stops before now (args_under s params args) (args_under s (drop at params) (drop at args)) (λ t. is_in (only (kind_of_param params at)) (kind_under s arg t)) half none
      (λ t h. first_of_both (is_in (only (kind_of_param params at)) (kind_under s arg t)) (args_under s (drop (at + 1) params) (drop (at + 1) args) t) (sym (split t) ∙ h))

pub args_end : (s : Scope) (params : List Kind) (args : List Expr) (before now : Classes) (at : ℕ) → length args ≤ at → length args ≡ length params
    → Halfway before now (args_under s params args) (args_under s (drop at params) (drop at args)) → Narrows before now (args_under s params args)
args_end s params args before now at over same_long half =
    halfway_ends before now (args_under s params args) (args_under s (drop at params) (drop at args)) half (λ t. takes_none (λ x. kind_under s x t) params args at over same_long)

-- ---- parameters of a builtin

pub param_one : (c d : Classes) (kind : Kind) (first this : Found) (result : Result (Unit {0}) Misfit) → OnOk result (Narrows c d (λ t. holds (only kind) (kind_in this t))) → OnOk result (Narrows c d (λ t. accepts (param.One kind) (kind_in first t) (kind_in this t)))
param_one c d kind first this result = on_ok result (λ h. narrows_as c d (λ t. holds (only kind) (kind_in this t)) (λ t. accepts (param.One kind) (kind_in first t) (kind_in this t)) h (λ t. holds_only kind (kind_in this t)))

pub param_not_one : (c : Classes) (kind : Kind) (first this : Found) (result : Result (Unit {0}) Misfit) → OnErr result (Refuses c (λ t. holds (only kind) (kind_in this t))) → OnErr result (Refuses c (λ t. accepts (param.One kind) (kind_in first t) (kind_in this t)))
param_not_one c kind first this result = on_err result (λ h t a. sym (holds_only kind (kind_in this t)) ∙ h t a)

pub param_any : (c : Classes) (first this : Found) → Stands c → Narrows c c (λ t. accepts param.Any (kind_in first t) (kind_in this t))
param_any c first this stands = narrows_none c (λ t. true) stands (λ t a. refl)

pub param_same_first : (c : Classes) (one : Found) → Stands c → Narrows c c (λ t. accepts param.Same (kind_in one t) (kind_in one t))
param_same_first c one stands = narrows_none c (λ t. same_kind (kind_in one t) (kind_in one t)) stands (λ t a. same_kind_self (kind_in one t))
