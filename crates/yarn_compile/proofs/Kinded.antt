-- Which parts of an expression have a kind, and that the code of an expression has the kind of its typing.
use Rattle.std.proofs.Common.{◌≡◌, ℕ, Bool, true, false, ◌&&◌, if◌then◌else◌, List, [], ◌∷◌, map, Option, Some, None, is_some, refl, sym, ap, ◌∙◌, subst}
use Rattle.std.specs.Option.{option_map}
use Rattle.yarn_value.specs.declared.value.Kind.{Kind}
use Rattle.yarn_value.specs.declared.signature.Signature.{Signature}
use Rattle.yarn_value.specs.declared.builtin.Param.{Param}
use Rattle.yarn_value.specs.Builtins.{Row}
use Rattle.yarn_expr.specs.declared.tree.BinaryOp.{BinaryOp}
use Rattle.yarn_expr.specs.declared.tree.Expr.{Expr}
use Rattle.yarn_expr.specs.declared.tree.Expr.TheOpen.{Expr-F}
use Rattle.yarn_expr.specs.declared.tree.Expr.TheViews.{roll-Expr}
use Rattle.yarn_expr.specs.declared.tree.Expr.TheFolds.{fold-roll-Expr, map-Expr, ind-Expr}
use Rattle.yarn_types.specs.Typings.{kinds_in}
use Rattle.yarn_types.specs.KindSets.{only}
use Rattle.yarn_types.specs.Fits as fits
use Rattle.yarn_types.specs.Fits.{joined, is_in, takes_each, kinds_of, row_takes, called}
use Rattle.yarn_value.specs.Pairs.{Pairs}
use Rattle.yarn_compile.specs.Code.{Terms, kind_of_node, TypedCode, kinds_of_all, code_step, typed_expr}
use Rattle.yarn_kinds.specs.Typed.{variables_in, Keeps}

-- ---- under the typing of the project

-- the kind of an expression
abbrev pub own_kind : Terms → Expr → Option Kind
own_kind terms = fits.kind_of terms.signatures (variables_in terms.entries) (kinds_in terms.entries)

abbrev pub is_kinded : Terms → Expr → Bool
is_kinded terms e = is_some (own_kind terms e)

-- the store has the variables in their kinds
abbrev pub KeepsOwn : Terms → Pairs → Type 0
KeepsOwn terms = Keeps (variables_in terms.entries) (kinds_in terms.entries)

-- ---- parts with a kind

pub left_kinded : (op : BinaryOp) (a b : Option Kind) → is_some (joined op a b) ≡ true → is_some a ≡ true
left_kinded op (Some k) b h = refl
left_kinded op None b h = cc

pub right_kinded : (op : BinaryOp) (a b : Option Kind) → is_some (joined op a b) ≡ true → is_some b ≡ true
right_kinded op (Some k) (Some l) h = refl
right_kinded op (Some k) None h = cc
right_kinded op None b h = cc

pub in_kinded : (k : Kind) (r : Kind) (a : Option Kind) → is_some (if is_in (only k) a then Some r else None) ≡ true → is_some a ≡ true
in_kinded k r (Some l) h = refl
in_kinded k r None h = cc

-- each has a kind
abbrev pub AllKinded : List (Option Kind) → Type 0
AllKinded [] = Unit {0}
AllKinded (k ∷ ks) = (is_some k ≡ true) × AllKinded ks

all_of_kinds : (ks : List (Option Kind)) → is_some (kinds_of ks) ≡ true → AllKinded ks
all_of_kinds [] h = tt
all_of_kinds (None ∷ ks) h = absurd cc
all_of_kinds (Some k ∷ ks) h = (refl, all_of_kinds ks (of_rest (kinds_of ks) h))
  where
    of_rest : (o : Option (List Kind)) → is_some (option_map (λ l. k ∷ l) o) ≡ true → is_some o ≡ true
    of_rest None h' = h'
    of_rest (Some l) h' = refl

all_of_each : (params : List Kind) (ks : List (Option Kind)) → takes_each params ks ≡ true → AllKinded ks
all_of_each [] [] h = tt
all_of_each [] (k ∷ ks) h = absurd cc
all_of_each (q ∷ params) [] h = absurd cc
all_of_each (q ∷ params) (None ∷ ks) h = absurd cc
all_of_each (q ∷ params) (Some k ∷ ks) h = (refl, all_of_each params ks (second (is_in (only q) (Some k)) h))
  where
    second : (b : Bool) → (b && takes_each params ks) ≡ true → takes_each params ks ≡ true
    second true h' = h'
    second false h' = cc

row_kinded : (first second : Option Param) (o : Option (List Kind)) → row_takes first second o ≡ true → is_some o ≡ true
row_kinded first second (Some ks) h = refl
row_kinded first second None h = cc

chosen : {A : Type 0} (b : Bool) (x : A) → is_some (if b then Some x else None) ≡ true → b ≡ true
chosen true x h = refl
chosen false x h = h

pub args_kinded : (row : Option Row) (signature : Option Signature) (ks : List (Option Kind)) → is_some (called row signature ks) ≡ true →
    AllKinded ks
args_kinded (Some row) signature ks h =
    all_of_kinds ks (row_kinded row.first row.second (kinds_of ks) (chosen (row_takes row.first row.second (kinds_of ks)) row.result h))
args_kinded None (Some s) ks h = all_of_each s.params ks (chosen (takes_each s.params ks) s.result h)
args_kinded None None ks h = absurd cc

-- ---- the kind in the code

module _ (terms : Terms) (line : ℕ) where
  abbrev code_in : Expr → TypedCode
  code_in = typed_expr terms line

  abbrev Same : Expr → Type 0
  Same e = (code_in e).kind ≡ own_kind terms e

  kinds_same : (es : List ((e : Expr) × Same e)) → kinds_of_all (map code_in (map (λ z. z.0) es)) ≡ map (own_kind terms) (map (λ z. z.0) es)
  kinds_same [] = refl
  kinds_same (e ∷ es) = λ i. e.1 i ∷ kinds_same es i

  at_layer : (y : Expr-F ((e : Expr) × Same e)) → Same (roll-Expr (map-Expr ((e : Expr) × Same e) Expr (λ z. z.0) y))
  at_layer (Expr-F.Number n) =
      ap (λ c. c.kind) (fold-roll-Expr TypedCode (code_step terms line) (Expr-F.Number n))
      ∙ sym (fold-roll-Expr (Option Kind) (kind_of_node terms) (Expr-F.Number n))
  at_layer (Expr-F.Str text) =
      ap (λ c. c.kind) (fold-roll-Expr TypedCode (code_step terms line) (Expr-F.Str text))
      ∙ sym (fold-roll-Expr (Option Kind) (kind_of_node terms) (Expr-F.Str text))
  at_layer (Expr-F.Truth b) =
      ap (λ c. c.kind) (fold-roll-Expr TypedCode (code_step terms line) (Expr-F.Truth b))
      ∙ sym (fold-roll-Expr (Option Kind) (kind_of_node terms) (Expr-F.Truth b))
  at_layer (Expr-F.Variable name) =
      ap (λ c. c.kind) (fold-roll-Expr TypedCode (code_step terms line) (Expr-F.Variable name))
      ∙ sym (fold-roll-Expr (Option Kind) (kind_of_node terms) (Expr-F.Variable name))
  at_layer (Expr-F.Group e) =
      ap (λ c. c.kind) (fold-roll-Expr TypedCode (code_step terms line) (Expr-F.Group e.0)) ∙ e.1
      ∙ sym (fold-roll-Expr (Option Kind) (kind_of_node terms) (Expr-F.Group e.0))
  at_layer (Expr-F.Unary op e) =
      ap (λ c. c.kind) (fold-roll-Expr TypedCode (code_step terms line) (Expr-F.Unary op e.0))
      ∙ ap (λ k. kind_of_node terms (Expr-F.Unary op k)) e.1
      ∙ sym (fold-roll-Expr (Option Kind) (kind_of_node terms) (Expr-F.Unary op e.0))
  at_layer (Expr-F.Binary op l r) =
      ap (λ c. c.kind) (fold-roll-Expr TypedCode (code_step terms line) (Expr-F.Binary op l.0 r.0))
      ∙ (λ i. kind_of_node terms (Expr-F.Binary op (l.1 i) (r.1 i)))
      ∙ sym (fold-roll-Expr (Option Kind) (kind_of_node terms) (Expr-F.Binary op l.0 r.0))
  at_layer (Expr-F.Call name es) =
      ap (λ c. c.kind) (fold-roll-Expr TypedCode (code_step terms line) (Expr-F.Call name (map (λ z. z.0) es)))
      ∙ ap (λ ks. kind_of_node terms (Expr-F.Call name ks)) (kinds_same es)
      ∙ sym (fold-roll-Expr (Option Kind) (kind_of_node terms) (Expr-F.Call name (map (λ z. z.0) es)))

  pub kind_in_code : (e : Expr) → (typed_expr terms line e).kind ≡ own_kind terms e
  kind_in_code = ind-Expr Same (λ x y is. subst (λ z. Same (roll-Expr z)) is (at_layer y))
