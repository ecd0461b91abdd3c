-- Calls of operators, builtins and host functions on arguments whose kinds fit.
use Rattle.std.proofs.Common.{◌≡◌, ℕ, suc, ◌≤◌, List, [], ◌∷◌, length, map, codes, nat_eq, if◌then◌else◌, Option, Some, None, is_some, refl, sym, ap, ◌∙◌, arith, Bool, true, false, ◌&&◌}
use mathlib.Core.Path.{ap₂}
use Rattle.std.specs.Cmp.Lexicographic.{pointwise}
use Rattle.std.specs.Option.{option_map}
use Rattle.yarn_value.specs.declared.value.Kind.{Kind}
use Rattle.yarn_value.specs.declared.value.Kind.TheVariants.{Number, Str, Truth}
use Rattle.yarn_value.specs.declared.signature.Signature.{Signature}
use Rattle.yarn_value.specs.declared.builtin.Param.{Param}
use Rattle.yarn_value.specs.declared.builtin.Param.TheVariants.{One, Any, Same}
use Rattle.yarn_value.specs.declared.operation.Op.{Op}
use Rattle.yarn_value.specs.declared.operation.Op.TheVariants as op
use Rattle.yarn_value.specs.Rows.{same_kind, takes}
use Rattle.yarn_value.specs.Builtins.{Row, applied, builtin_named}
use Rattle.yarn_value.specs.Calls.{same_kinds, kind_of_call}
use Rattle.yarn_expr.specs.declared.tree.UnaryOp.{UnaryOp}
use Rattle.yarn_expr.specs.declared.tree.UnaryOp.TheVariants.{Neg, Not}
use Rattle.yarn_expr.specs.declared.tree.BinaryOp.{BinaryOp}
use Rattle.yarn_expr.specs.declared.tree.BinaryOp.TheVariants.{Mul, Div, Rem, Add, Sub, Lte, Gte, Lt, Gt, Eq, Neq, And, Or, Xor}
use Rattle.yarn_value.specs.Signatures.{row_arity, declared_arity, builtin_or, arity_of, signature_named}
use Rattle.yarn_types.proofs.KindLemmas.{kind_same, holds_only}
use Rattle.yarn_types.specs.KindSets.{holds, only, all_kinds}
use Rattle.yarn_types.specs.Fits.{joined, is_in, unary_kind, takes_each, kinds_of, row_takes, called}
use Rattle.yarn_code.specs.declared.program.Program.{Program}
use Rattle.yarn_compile.specs.Code.{unary_name, binary_name}
use Rattle.yarn_check.specs.Shapes.{kind_called}

-- the only kind of a set
pub its_kind_only : (k : Kind) (o : Option Kind) → is_in (only k) o ≡ true → o ≡ Some k
its_kind_only k None e = absurd cc
its_kind_only k (Some l) e = ap (λ x. Some x) (sym (kind_same k l (sym (holds_only k l) ∙ e)))

-- both sides of an assignment
pub record AreOneKind (a b : Option Kind) : Type 0 where
  pub kind : Kind
  pub first : a ≡ Some kind
  pub second : b ≡ Some kind

pub eq_kinds : (a b : Option Kind) → is_some (joined Eq a b) ≡ true → AreOneKind a b
eq_kinds None b e = absurd cc
eq_kinds (Some k) None e = absurd cc
eq_kinds (Some Number) (Some Number) e = record { kind = Number; first = refl; second = refl }
eq_kinds (Some Number) (Some Str) e = absurd cc
eq_kinds (Some Number) (Some Truth) e = absurd cc
eq_kinds (Some Str) (Some Number) e = absurd cc
eq_kinds (Some Str) (Some Str) e = record { kind = Str; first = refl; second = refl }
eq_kinds (Some Str) (Some Truth) e = absurd cc
eq_kinds (Some Truth) (Some Number) e = absurd cc
eq_kinds (Some Truth) (Some Str) e = absurd cc
eq_kinds (Some Truth) (Some Truth) e = record { kind = Truth; first = refl; second = refl }

-- ---- rows

abbrev some_all : List Kind → List (Option Kind)
some_all = map (λ k. Some k)

-- an operation's row, and a host function
abbrev op_of : BinaryOp → Kind → Op
op_of Mul left = op.Mul
op_of Div left = op.Div
op_of Rem left = op.Rem
op_of Add Number = op.Add
op_of Add Str = op.Concat
op_of Add Truth = op.Add
op_of Sub left = op.Sub
op_of Lte left = op.Lte
op_of Gte left = op.Gte
op_of Lt left = op.Lt
op_of Gt left = op.Gt
op_of Eq left = op.Eq
op_of Neq left = op.Neq
op_of And left = op.And
op_of Or left = op.Or
op_of Xor left = op.Xor

abbrev row_of : BinaryOp → Kind → Row
row_of o left = applied (binary_name o (Some left)) (op_of o left)

pub row_found : (o : BinaryOp) (left : Kind) → builtin_named (binary_name o (Some left)) ≡ Some (row_of o left)
unfolding builtin_named
row_found Mul left = refl
row_found Div left = refl
row_found Rem left = refl
row_found Sub left = refl
row_found Lte left = refl
row_found Gte left = refl
row_found Lt left = refl
row_found Gt left = refl
row_found Eq left = refl
row_found Neq left = refl
row_found And left = refl
row_found Or left = refl
row_found Xor left = refl
row_found Add Number = refl
row_found Add Str = refl
row_found Add Truth = refl

abbrev unary_row : UnaryOp → Row
unary_row Neg = applied (codes "#neg") op.Neg
unary_row Not = applied (codes "#not") op.Not

unary_row_found : (o : UnaryOp) → builtin_named (unary_name o) ≡ Some (unary_row o)
unfolding builtin_named
unary_row_found Neg = refl
unary_row_found Not = refl

-- ---- kinds of operators

abbrev Fitting : Kind → Kind → Bool → Kind → Option Param → Option Param → Kind → Type 0
Fitting a b test result first second k = (if test then Some result else None) ≡ Some k → (if takes first second (a ∷ b ∷ []) then Some result else None) ≡ Some k

numbers : (a b result k : Kind) → Fitting a b (same_kind a b && holds (only Number) a) result (Some (One Number)) (Some (One Number)) k
numbers Number Number result k e = cc
numbers Number Str result k e = cc
numbers Number Truth result k e = cc
numbers Str Number result k e = cc
numbers Str Str result k e = cc
numbers Str Truth result k e = cc
numbers Truth Number result k e = cc
numbers Truth Str result k e = cc
numbers Truth Truth result k e = cc

truths : (a b result k : Kind) → Fitting a b (same_kind a b && holds (only Truth) a) result (Some (One Truth)) (Some (One Truth)) k
truths Number Number result k e = cc
truths Number Str result k e = cc
truths Number Truth result k e = cc
truths Str Number result k e = cc
truths Str Str result k e = cc
truths Str Truth result k e = cc
truths Truth Number result k e = cc
truths Truth Str result k e = cc
truths Truth Truth result k e = cc

alike : (a b result k : Kind) → Fitting a b (same_kind a b && holds (all_kinds) a) result (Some Any) (Some Same) k
alike Number Number result k e = cc
alike Number Str result k e = cc
alike Number Truth result k e = cc
alike Str Number result k e = cc
alike Str Str result k e = cc
alike Str Truth result k e = cc
alike Truth Number result k e = cc
alike Truth Str result k e = cc
alike Truth Truth result k e = cc

operator_kind : (o : BinaryOp) (a b k : Kind) (s : Option Signature) → joined o (Some a) (Some b) ≡ Some k → called (Some (row_of o a)) s (Some a ∷ Some b ∷ []) ≡ Some k
operator_kind Mul a b k s e = numbers a b Number k e
operator_kind Div a b k s e = numbers a b Number k e
operator_kind Rem a b k s e = numbers a b Number k e
operator_kind Sub a b k s e = numbers a b Number k e
operator_kind Lte a b k s e = numbers a b Truth k e
operator_kind Gte a b k s e = numbers a b Truth k e
operator_kind Lt a b k s e = numbers a b Truth k e
operator_kind Gt a b k s e = numbers a b Truth k e
operator_kind Eq a b k s e = alike a b Truth k e
operator_kind Neq a b k s e = alike a b Truth k e
operator_kind And a b k s e = truths a b Truth k e
operator_kind Or a b k s e = truths a b Truth k e
operator_kind Xor a b k s e = truths a b Truth k e
operator_kind Add Number Number k s e = cc
operator_kind Add Number Str k s e = cc
operator_kind Add Number Truth k s e = cc
operator_kind Add Str Number k s e = cc
operator_kind Add Str Str k s e = cc
operator_kind Add Str Truth k s e = cc
operator_kind Add Truth Number k s e = cc
operator_kind Add Truth Str k s e = cc
operator_kind Add Truth Truth k s e = cc

unary_operator_kind : (o : UnaryOp) (a k : Kind) (s : Option Signature) → (if is_in (only (unary_kind o)) (Some a) then Some (unary_kind o) else None) ≡ Some k → called (Some (unary_row o)) s (Some a ∷ []) ≡ Some k
unary_operator_kind Neg Number k s e = cc
unary_operator_kind Neg Str k s e = cc
unary_operator_kind Neg Truth k s e = cc
unary_operator_kind Not Number k s e = cc
unary_operator_kind Not Str k s e = cc
unary_operator_kind Not Truth k s e = cc

-- ---- how many arguments

pub arity_of_row : (signatures : List Signature) (name : List ℕ) (row : Row) → builtin_named name ≡ Some row → arity_of signatures name ≡ Some (row_arity row)
unfolding builtin_named arity_of
arity_of_row signatures name row e = ap (λ (o : Option Row). builtin_or o (declared_arity signatures name)) e

arity_of_host : (signatures : List Signature) (name : List ℕ) → builtin_named name ≡ None → arity_of signatures name ≡ declared_arity signatures name
unfolding builtin_named arity_of
arity_of_host signatures name e = ap (λ (o : Option Row). builtin_or o (declared_arity signatures name)) e

declared : (signatures : List Signature) (name : List ℕ) (s : Signature) → signature_named signatures name ≡ Some s → declared_arity signatures name ≡ Some (length s.params)
declared [] name s e = absurd cc
declared (one ∷ more) name s e = by_name (pointwise nat_eq one.name name) e (declared more name s)
  where
    by_name : (b : Bool) → (if b then Some one else signature_named more name) ≡ Some s → (signature_named more name ≡ Some s → declared_arity more name ≡ Some (length s.params)) →
        (if b then Some (length one.params) else declared_arity more name) ≡ Some (length s.params)
    by_name true f g = let same : one ≡ s = cc in ap (λ x. Some (length x.params)) same
    by_name false f g = g f

row_counts : (first second : Option Param) (name : List ℕ) (result : Kind) (o : Option Op) (ks : List Kind) → takes first second ks ≡ true → length ks ≡ row_arity (record { name = name; first = first; second = second; result = result; op = o })
row_counts None None name result o [] e = refl
row_counts (Some f) None name result o (k ∷ []) e = refl
row_counts (Some f) (Some g) name result o (k ∷ l ∷ []) e = refl
row_counts None None name result o (k ∷ ks) e = absurd cc
row_counts None (Some g) name result o [] e = absurd cc
row_counts None (Some g) name result o (k ∷ []) e = absurd cc
row_counts None (Some g) name result o (k ∷ l ∷ ks) e = absurd cc
row_counts (Some f) None name result o [] e = absurd cc
row_counts (Some f) None name result o (k ∷ l ∷ ks) e = absurd cc
row_counts (Some f) (Some g) name result o [] e = absurd cc
row_counts (Some f) (Some g) name result o (k ∷ []) e = absurd cc
row_counts (Some f) (Some g) name result o (k ∷ l ∷ m ∷ ks) e = absurd cc

kinds_of-some : (ks : List Kind) → kinds_of (some_all ks) ≡ Some ks
kinds_of-some [] = refl
kinds_of-some (k ∷ ks) = ap (option_map (λ l. k ∷ l)) (kinds_of-some ks)

if_true : (b : Bool) (x k : Kind) → (if b then Some x else None) ≡ Some k → b ≡ true
if_true true x k e = refl
if_true false x k e = cc

second_true : (a b : Bool) → (a && b) ≡ true → b ≡ true
second_true true b h = h
second_true false b h = cc

-- kinds are taken by a signature as the kinds of arguments are, where each has one
each_same : (params ks : List Kind) → same_kinds params ks ≡ takes_each params (some_all ks)
each_same [] [] = refl
each_same [] (k ∷ ks) = refl
each_same (x ∷ params) [] = refl
each_same (x ∷ params) (k ∷ ks) = ap₂ (λ (a b : Bool). a && b) (sym (holds_only x k)) (each_same params ks)

called_same : (row : Option Row) (s : Option Signature) (ks : List Kind) → kind_of_call row s ks ≡ called row s (some_all ks)
called_same (Some row) s ks = ap (λ (l : Option (List Kind)). if row_takes row.first row.second l then Some row.result else None) (sym (kinds_of-some ks))
called_same None (Some s) ks = ap (λ (b : Bool). if b then Some s.result else None) (each_same s.params ks)
called_same None None ks = refl

each_counts : (params ks : List Kind) → takes_each params (some_all ks) ≡ true → length params ≡ length ks
each_counts [] [] e = refl
each_counts [] (k ∷ ks) e = absurd cc
each_counts (x ∷ params) [] e = absurd cc
each_counts (x ∷ params) (k ∷ ks) e = ap suc (each_counts params ks (second_true (is_in (only x) (Some k)) (takes_each params (some_all ks)) e))

-- ---- the kinds of arguments

-- arguments of a call that has a kind have kinds
pub record AreKinds (os : List (Option Kind)) : Type 0 where
  pub kinds : List Kind
  pub are : os ≡ some_all kinds

and_kind : (k : Kind) (os : List (Option Kind)) → AreKinds os → AreKinds (Some k ∷ os)
and_kind k os h = record { kinds = k ∷ h.kinds; are = ap (λ l. Some k ∷ l) h.are }

each_kinds : (params : List Kind) (os : List (Option Kind)) → takes_each params os ≡ true → AreKinds os
each_kinds params [] e = record { kinds = []; are = refl }
each_kinds [] (o ∷ os) e = absurd cc
each_kinds (x ∷ params) (None ∷ os) e = absurd cc
each_kinds (x ∷ params) (Some k ∷ os) e = and_kind k os (each_kinds params os (second_true (is_in (only x) (Some k)) (takes_each params os) e))

all_kinds_of : (os : List (Option Kind)) (ks : List Kind) → kinds_of os ≡ Some ks → AreKinds os
all_kinds_of [] ks e = record { kinds = []; are = refl }
all_kinds_of (None ∷ os) ks e = absurd cc
all_kinds_of (Some k ∷ os) ks e = and_kind k os (by_rest (kinds_of os) e (λ l. all_kinds_of os l))
  where
    by_rest : (r : Option (List Kind)) → option_map (λ l. k ∷ l) r ≡ Some ks → ((l : List Kind) → r ≡ Some l → AreKinds os) → AreKinds os
    by_rest None f g = absurd cc
    by_rest (Some l) f g = g l refl

row_kinds : (first second : Option Param) (os : List (Option Kind)) → row_takes first second (kinds_of os) ≡ true → AreKinds os
row_kinds first second os e = by_kinds (kinds_of os) e (λ l. all_kinds_of os l)
  where
    by_kinds : (r : Option (List Kind)) → row_takes first second r ≡ true → ((l : List Kind) → r ≡ Some l → AreKinds os) → AreKinds os
    by_kinds None f g = absurd cc
    by_kinds (Some l) f g = g l refl

pub called_kinds : (row : Option Row) (s : Option Signature) (os : List (Option Kind)) (k : Kind) → called row s os ≡ Some k → AreKinds os
called_kinds (Some row) s os k e = row_kinds row.first row.second os (if_true (row_takes row.first row.second (kinds_of os)) row.result k e)
called_kinds None (Some s) os k e = each_kinds s.params os (if_true (takes_each s.params os) s.result k e)
called_kinds None None os k e = absurd cc

-- ---- calls

-- a call of the program gives a kind, and has as many arguments as the function
pub record IsCall (p : Program) (name : List ℕ) (ks : List Kind) (k : Kind) : Type 0 where
  pub kind : kind_called p name ks ≡ Some k
  pub counted : arity_of p.functions name ≡ Some (length ks)

-- a host function that is called is one of the program
abbrev pub IsHost : List Signature → Program → List ℕ → Type 0
IsHost signatures p name = builtin_named name ≡ None → signature_named p.functions name ≡ signature_named signatures name

module _ (p : Program) where
  pub operator_call : (o : BinaryOp) (a b k : Kind) → joined o (Some a) (Some b) ≡ Some k → IsCall p (binary_name o (Some a)) (a ∷ b ∷ []) k
  operator_call o a b k e =
      let s = signature_named p.functions (binary_name o (Some a)) in
      record {
        kind = called_same (builtin_named (binary_name o (Some a))) s (a ∷ b ∷ []) ∙ ap (λ (r : Option Row). called r s (Some a ∷ Some b ∷ [])) (row_found o a) ∙ operator_kind o a b k s e;
        counted = arity_of_row p.functions (binary_name o (Some a)) (row_of o a) (row_found o a) ∙ two o a;
      }
    where
      two : (o : BinaryOp) (a : Kind) → Some (row_arity (row_of o a)) ≡ Some 2
      two Mul a = refl
      two Div a = refl
      two Rem a = refl
      two Sub a = refl
      two Lte a = refl
      two Gte a = refl
      two Lt a = refl
      two Gt a = refl
      two Eq a = refl
      two Neq a = refl
      two And a = refl
      two Or a = refl
      two Xor a = refl
      two Add Number = refl
      two Add Str = refl
      two Add Truth = refl

  pub unary_call : (o : UnaryOp) (a k : Kind) → (if is_in (only (unary_kind o)) (Some a) then Some (unary_kind o) else None) ≡ Some k → IsCall p (unary_name o) (a ∷ []) k
  unary_call o a k e =
      let s = signature_named p.functions (unary_name o) in
      record {
        kind = called_same (builtin_named (unary_name o)) s (a ∷ []) ∙ ap (λ (r : Option Row). called r s (Some a ∷ [])) (unary_row_found o) ∙ unary_operator_kind o a k s e;
        counted = arity_of_row p.functions (unary_name o) (unary_row o) (unary_row_found o) ∙ one o;
      }
    where
      one : (o : UnaryOp) → Some (row_arity (unary_row o)) ≡ Some 1
      one Neg = refl
      one Not = refl

  -- a call of a function by its name
  pub function_call : (signatures : List Signature) (name : List ℕ) (ks : List Kind) (k : Kind) → IsHost signatures p name →
      called (builtin_named name) (signature_named signatures name) (some_all ks) ≡ Some k → IsCall p name ks k
  function_call signatures name ks k known e =
      by_row (builtin_named name) refl e
    where
      by_signature : (s : Option Signature) → builtin_named name ≡ None → signature_named p.functions name ≡ s → called None s (some_all ks) ≡ Some k → IsCall p name ks k
      by_signature None none is f = absurd cc
      by_signature (Some s) none is f =
          let counts = each_counts s.params ks (if_true (takes_each s.params (some_all ks)) s.result k f) in
          record {
            kind = called_same (builtin_named name) (signature_named p.functions name) ks ∙ ap (λ (r : Option Row). called r (signature_named p.functions name) (some_all ks)) none ∙ ap (λ (t : Option Signature). called None t (some_all ks)) is ∙ f;
            counted = arity_of_host p.functions name none ∙ declared p.functions name s is ∙ ap (λ m. Some m) counts;
          }

      by_row : (r : Option Row) → builtin_named name ≡ r → called r (signature_named signatures name) (some_all ks) ≡ Some k → IsCall p name ks k
      by_row (Some row) is f =
          let took = if_true (row_takes row.first row.second (kinds_of (some_all ks))) row.result k f in
          let fit : takes row.first row.second ks ≡ true = ap (row_takes row.first row.second) (sym (kinds_of-some ks)) ∙ took in
          record {
            kind = called_same (builtin_named name) (signature_named p.functions name) ks ∙ ap (λ (t : Option Row). called t (signature_named p.functions name) (some_all ks)) is ∙ f;
            counted = arity_of_row p.functions name row is ∙ ap (λ m. Some m) (sym (row_counts row.first row.second row.name row.result row.op ks fit));
          }
      by_row None is f = by_signature (signature_named signatures name) is (known is) f

-- ---- how many arguments a call has

few_in_row : (first second : Option Param) (ks : List Kind) → takes first second ks ≡ true → length ks ≤ 2
few_in_row None None [] e = omega arith
few_in_row (Some f) None (k ∷ []) e = omega arith
few_in_row (Some f) (Some g) (k ∷ l ∷ []) e = omega arith
few_in_row None None (k ∷ ks) e = absurd cc
few_in_row None (Some g) [] e = absurd cc
few_in_row None (Some g) (k ∷ []) e = absurd cc
few_in_row None (Some g) (k ∷ l ∷ ks) e = absurd cc
few_in_row (Some f) None [] e = absurd cc
few_in_row (Some f) None (k ∷ l ∷ ks) e = absurd cc
few_in_row (Some f) (Some g) [] e = absurd cc
few_in_row (Some f) (Some g) (k ∷ []) e = absurd cc
few_in_row (Some f) (Some g) (k ∷ l ∷ m ∷ ks) e = absurd cc

kinds_of-length : (os : List (Option Kind)) (ks : List Kind) → kinds_of os ≡ Some ks → length os ≡ length ks
kinds_of-length [] ks e = let same : [] ≡ ks = cc in ap (λ (l : List Kind). length l) same
kinds_of-length (None ∷ os) ks e = absurd cc
kinds_of-length (Some k ∷ os) ks e = by_rest (kinds_of os) e (λ l. kinds_of-length os l)
  where
    by_rest : (r : Option (List Kind)) → option_map (λ l. k ∷ l) r ≡ Some ks → ((l : List Kind) → r ≡ Some l → length os ≡ length l) → suc (length os) ≡ length ks
    by_rest None f g = absurd cc
    by_rest (Some l) f g = let same : (k ∷ l) ≡ ks = cc in ap suc (g l refl) ∙ ap (λ (x : List Kind). length x) same

takes-length : (params : List Kind) (os : List (Option Kind)) → takes_each params os ≡ true → length os ≡ length params
takes-length [] [] e = refl
takes-length [] (o ∷ os) e = absurd cc
takes-length (x ∷ params) [] e = absurd cc
takes-length (x ∷ params) (o ∷ os) e = ap suc (takes-length params os (second_true (is_in (only x) o) (takes_each params os) e))

pub called_few : (row : Option Row) (s : Option Signature) (os : List (Option Kind)) (k : Kind) → ((t : Signature) → s ≡ Some t → length t.params ≤ 16) → called row s os ≡ Some k → length os ≤ 16
called_few (Some row) s os k few e = by_kinds (kinds_of os) refl (if_true (row_takes row.first row.second (kinds_of os)) row.result k e)
  where
    by_kinds : (r : Option (List Kind)) → kinds_of os ≡ r → row_takes row.first row.second r ≡ true → length os ≤ 16
    by_kinds None is f = absurd cc
    by_kinds (Some ks) is f = omega (arith, kinds_of-length os ks is, few_in_row row.first row.second ks f)
called_few None (Some s) os k few e = omega (arith, takes-length s.params os (if_true (takes_each s.params os) s.result k e), few s refl)
called_few None None os k few e = absurd cc
