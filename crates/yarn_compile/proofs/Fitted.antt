-- What the fitting of a line says of its expressions; what is set is an expression.
use Rattle.std.proofs.Common.{◌≡◌, ℕ, Bool, true, false, ◌&&◌, if◌then◌else◌, List, [], ◌∷◌, Option, Some, None, is_some, refl, sym, ap, ◌∙◌}
use Rattle.std.specs.List.{list_all}
use Rattle.std.proofs.lemmas.Bool.{and_parts}
use Rattle.yarn_value.specs.declared.value.Kind.{Kind}
use Rattle.yarn_value.specs.declared.value.Kind.TheVariants as kind
use Rattle.yarn_value.specs.declared.value.Value.{Value}
use Rattle.yarn_value.specs.Rows.{same_kind}
use Rattle.yarn_expr.specs.declared.tree.BinaryOp.{BinaryOp}
use Rattle.yarn_expr.specs.declared.tree.Expr.{Expr}
use Rattle.yarn_expr.specs.declared.tree.Expr.TheOpen.{Expr-F}
use Rattle.yarn_expr.specs.declared.tree.Expr.TheViews.{roll-Expr}
use Rattle.yarn_expr.specs.declared.tree.Expr.TheFolds.{fold-roll-Expr}
use Rattle.yarn_types.specs.declared.kind_set.KindSet.{KindSet}
use Rattle.yarn_types.specs.KindSets.{holds}
use Rattle.yarn_types.specs.Typings.{kinds_in}
use Rattle.yarn_types.specs.Fits.{joined, is_in, taken_by, given_by}
use Rattle.yarn_types.specs.Units.{kind_set}
use Rattle.yarn_value.specs.Pairs.{Pairs}
use Rattle.yarn_value.specs.Tape.{Tape}
use Rattle.yarn_meaning.specs.Eval.{eval, eval_step}
use Rattle.yarn_value.specs.Evaluation.{Evaluated}
use Rattle.yarn_meaning.specs.Does.{set_value}
use Rattle.yarn_compile.specs.Code.{Terms, kind_of_node, TypedCode, code_step, typed_expr, expr_code, set_code}
use Rattle.yarn_kinds.specs.Typed.{variables_in}
use Rattle.yarn_code.specs.declared.program.Program.{Program}
use Rattle.yarn_compile.proofs.Kinded.{own_kind, is_kinded}
use Rattle.yarn_compile.proofs.Follows.{Site, scope_in}
use Rattle.yarn_kinds.proofs.Names.{Each}

pub in_set_kinded : (set : KindSet) (o : Option Kind) → is_in set o ≡ true → is_some o ≡ true
in_set_kinded set (Some k) h = refl
in_set_kinded set None h = cc

same_kinds : (a b : Kind) → same_kind a b ≡ true → a ≡ b
same_kinds kind.Number kind.Number h = refl
same_kinds kind.Str kind.Str h = refl
same_kinds kind.Truth kind.Truth h = refl
same_kinds kind.Number kind.Str h = cc
same_kinds kind.Number kind.Truth h = cc
same_kinds kind.Str kind.Number h = cc
same_kinds kind.Str kind.Truth h = cc
same_kinds kind.Truth kind.Number h = cc
same_kinds kind.Truth kind.Str h = cc

-- the sides of an operator have one kind
pub joined_kind : (op : BinaryOp) (a b : Option Kind) → is_some (joined op a b) ≡ true → (k : Kind) × ((a ≡ Some k) × (b ≡ Some k))
joined_kind op None b h = absurd cc
joined_kind op (Some a) None h = absurd cc
joined_kind op (Some a) (Some b) h = (a, (refl, ap Some (sym (same_kinds a b (of_test (same_kind a b) (holds (taken_by op) a) (given_by op a) h)))))
  where
    of_test : (x y : Bool) (z : Kind) → is_some (if x && y then Some z else None) ≡ true → x ≡ true
    of_test true y z h' = refl
    of_test false y z h' = h'

module _ (terms : Terms) where
  pub each_kinded : (es : List Expr) → list_all (is_kinded terms) es ≡ true →
      Each (λ e. is_some (own_kind terms e) ≡ true) es
  each_kinded [] h = tt
  each_kinded (e ∷ es) h =
      let both = and_parts (is_some (own_kind terms e)) (list_all (is_kinded terms) es) h in
      (both.0, each_kinded es both.1)

-- the expression that is set
abbrev pub set_expr : List ℕ → Option BinaryOp → Expr → Expr
set_expr name None e = e
set_expr name (Some op) e = roll-Expr (Expr-F.Binary op (roll-Expr (Expr-F.Variable name)) e)

module _ (terms : Terms) (p : Program) (site : Site terms p) where
  pub set_code-is : (line : ℕ) (name : List ℕ) (op : Option BinaryOp) (e : Expr) →
      set_code terms line name op e ≡ expr_code terms line (set_expr name op e)
  set_code-is line name None e = refl
  set_code-is line name (Some op) e =
      let step = code_step terms line in
      let whole = fold-roll-Expr TypedCode step (Expr-F.Binary op (roll-Expr (Expr-F.Variable name)) e) in
      let left = fold-roll-Expr TypedCode step (Expr-F.Variable name) in
      sym (ap (λ c. c.code) whole ∙ ap (λ c. (step (Expr-F.Binary op c (typed_expr terms line e))).code) left)

  pub set_value-is : (store : Pairs) (name : List ℕ) (op : Option BinaryOp) (e : Expr) (t : Tape) →
      set_value (scope_in site) name op e store t ≡ eval (scope_in site) store (set_expr name op e) t
  set_value-is store name None e t = refl
  set_value-is store name (Some op) e t =
      let step = eval_step (scope_in site) store in
      let whole = fold-roll-Expr (Tape → Evaluated Value) step (Expr-F.Binary op (roll-Expr (Expr-F.Variable name)) e) in
      let left = fold-roll-Expr (Tape → Evaluated Value) step (Expr-F.Variable name) in
      sym (ap (λ f. f t) whole ∙ ap (λ f. step (Expr-F.Binary op f (eval (scope_in site) store e)) t) left)

  pub set_kind-is : (name : List ℕ) (op : Option BinaryOp) (e : Expr) →
      kind_set terms.signatures (variables_in terms.entries) (kinds_in terms.entries) name op e ≡ own_kind terms (set_expr name op e)
  set_kind-is name None e = refl
  set_kind-is name (Some op) e =
      let step = kind_of_node terms in
      let whole = fold-roll-Expr (Option Kind) step (Expr-F.Binary op (roll-Expr (Expr-F.Variable name)) e) in
      let left = fold-roll-Expr (Option Kind) step (Expr-F.Variable name) in
      sym (whole ∙ ap (λ k. step (Expr-F.Binary op k (own_kind terms e))) left)
