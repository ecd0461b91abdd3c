-- How much room expressions take, by how deep they are.
use Rattle.std.proofs.Common.{◌≡◌, ℕ, suc, ◌+◌, ◌*◌, ◌≤◌, max, List, [], ◌∷◌, length, map, nat_eq, if◌then◌else◌, Option, Some, None, is_some, refl, sym, ap, ◌∙◌, subst, arith, Bool, true, false, ◌&&◌}
use Rattle.std.specs.Cmp.Lexicographic.{pointwise}
use Rattle.std.specs.List.{list_all}
use Rattle.yarn_value.specs.declared.value.Kind.{Kind}
use Rattle.yarn_value.specs.declared.signature.Signature.{Signature}
use Rattle.yarn_expr.specs.declared.tree.UnaryOp.{UnaryOp}
use Rattle.yarn_expr.specs.declared.tree.BinaryOp.{BinaryOp}
use Rattle.yarn_expr.specs.declared.tree.Expr.{Expr, roll-Expr, map-Expr}
use Rattle.yarn_expr.specs.declared.tree.Expr.TheOpen.{Expr-F}
use Rattle.yarn_expr.specs.declared.tree.Expr.TheFolds.{fold-roll-Expr, ind-Expr}
use Rattle.yarn_expr.proofs.Levels.{most_of, level_step, levels}
use Rattle.yarn_types.specs.Names.{Appearance}
use Rattle.yarn_value.specs.Builtins.{builtin_named}
use Rattle.yarn_value.specs.Signatures.{signature_named}
use Rattle.yarn_types.specs.KindSets.{only}
use Rattle.yarn_types.specs.Fits.{joined, is_in, unary_kind, kind_of, kind_step}
use Rattle.yarn_compile.proofs.Parts.{Each}
use Rattle.yarn_compile.proofs.Calls.{called_kinds, called_few}
use Rattle.yarn_compile.proofs.ExpressionShapes.{needs, need_step, need}
use Rattle.yarn_compile.proofs.Room.{needs_of}

-- ---- the room that an expression takes

module _ (signatures : List Signature) (variables : List Appearance) (typing : List Kind) (few : Each (λ (s : Signature). length s.params ≤ 16) signatures) where
  few_params : (all : List Signature) → Each (λ (s : Signature). length s.params ≤ 16) all → (name : List ℕ) (s : Signature) → signature_named all name ≡ Some s → length s.params ≤ 16
  few_params [] h name s e = absurd cc
  few_params (one ∷ more) h name s e = by_name (pointwise nat_eq one.name name) e (few_params more h.1 name s)
    where
      by_name : (b : Bool) → (if b then Some one else signature_named more name) ≡ Some s → (signature_named more name ≡ Some s → length s.params ≤ 16) → length s.params ≤ 16
      by_name true f g = let same : one ≡ s = cc in subst (λ (x : Signature). length x.params ≤ 16) same h.0
      by_name false f g = g f

  abbrev its_kind : Expr → Option Kind
  its_kind = kind_of signatures variables typing

  abbrev own_step : Expr-F (Option Kind) → Option Kind
  own_step = kind_step signatures variables typing

  -- it takes at most 17 entries for each level
  abbrev IsBounded : Option Kind → ℕ → ℕ → Type 0
  IsBounded o room deep = (k : Kind) → o ≡ Some k → room ≤ 17 * deep

  abbrev Bounded : Expr → Type 0
  Bounded e = IsBounded (its_kind e) (need e) (levels e)

  bound_unary : (op : UnaryOp) (o : Option Kind) (n d : ℕ) → IsBounded o n d → IsBounded (if is_in (only (unary_kind op)) o then Some (unary_kind op) else None) n (suc d)
  bound_unary op None n d h k e = absurd cc
  bound_unary op (Some a) n d h k e = omega (arith, h a refl)

  bound_binary : (op : BinaryOp) (o r : Option Kind) (n d m c : ℕ) → IsBounded o n d → IsBounded r m c → IsBounded (joined op o r) (max n (suc m)) (suc (max d c))
  bound_binary op None r n d m c h g k e = absurd cc
  bound_binary op (Some a) None n d m c h g k e = absurd cc
  bound_binary op (Some a) (Some b) n d m c h g k e = omega (arith, h a refl, g b refl)

  -- arguments, each of which has a kind
  bound_all : (es : List ((e : Expr) × Bounded e)) (ks : List Kind) → map its_kind (map (λ e. e.0) es) ≡ map (λ k. Some k) ks →
      needs (map need (map (λ e. e.0) es)) ≤ length es + 1 + 17 * most_of (map levels (map (λ e. e.0) es))
  bound_all [] ks e = omega arith
  bound_all (x ∷ es) [] e = absurd cc
  bound_all (x ∷ es) (k ∷ ks) e =
      let head : its_kind x.0 ≡ Some k = cc in
      let tail : map its_kind (map (λ (y : (e : Expr) × Bounded e). y.0) es) ≡ map (λ (l : Kind). Some l) ks = cc in
      let one = x.1 k head in
      let rest = bound_all es ks tail in
      omega (arith, one, rest)

  kinds-length : (es : List ((e : Expr) × Bounded e)) → length (map its_kind (map (λ e. e.0) es)) ≡ length es
  kinds-length [] = refl
  kinds-length (x ∷ es) = ap suc (kinds-length es)

  layer_bound : (x : Expr-F Expr) → IsBounded (own_step (map-Expr Expr (Option Kind) its_kind x)) (need_step (map-Expr Expr ℕ need x)) (level_step (map-Expr Expr ℕ levels x)) → Bounded (roll-Expr x)
  layer_bound x h k e =
      let n = fold-roll-Expr ℕ need_step x in
      let d = fold-roll-Expr ℕ level_step x in
      let r = h k (sym (fold-roll-Expr (Option Kind) own_step x) ∙ e) in
      subst (λ m. m ≤ 17 * levels (roll-Expr x)) (sym n) (subst (λ m. need_step (map-Expr Expr ℕ need x) ≤ 17 * m) (sym d) r)

  by_layer : (y : Expr-F ((e : Expr) × Bounded e)) → Bounded (roll-Expr (map-Expr ((e : Expr) × Bounded e) Expr (λ e. e.0) y))
  by_layer (Expr-F.Number m) = layer_bound (Expr-F.Number m) (λ k e. omega arith)
  by_layer (Expr-F.Str text) = layer_bound (Expr-F.Str text) (λ k e. omega arith)
  by_layer (Expr-F.Truth b) = layer_bound (Expr-F.Truth b) (λ k e. omega arith)
  by_layer (Expr-F.Variable name) = layer_bound (Expr-F.Variable name) (λ k e. omega arith)
  by_layer (Expr-F.Group e) = layer_bound (Expr-F.Group e.0) (λ k is. omega (arith, e.1 k is))
  by_layer (Expr-F.Unary op e) = layer_bound (Expr-F.Unary op e.0) (bound_unary op (its_kind e.0) (need e.0) (levels e.0) e.1)
  by_layer (Expr-F.Binary op l r) = layer_bound (Expr-F.Binary op l.0 r.0) (bound_binary op (its_kind l.0) (its_kind r.0) (need l.0) (levels l.0) (need r.0) (levels r.0) l.1 r.1)
  by_layer (Expr-F.Call name es) = layer_bound (Expr-F.Call name (map (λ e. e.0) es)) (λ k is.
      let s = signature_named signatures name in
      let os = map its_kind (map (λ (e : (e : Expr) × Bounded e). e.0) es) in
      let args = called_kinds (builtin_named name) s os k is in
      let many = called_few (builtin_named name) s os k (λ t e. few_params signatures few name t e) is in
      omega (arith, bound_all es args.kinds args.are, many, kinds-length es))

  pub need_bound : (e : Expr) (k : Kind) → its_kind e ≡ Some k → need e ≤ 17 * levels e
  need_bound = ind-Expr Bounded (λ x y is. subst (λ z. Bounded (roll-Expr z)) is (by_layer y))

  -- substitutions
  pub needs_bound : (es : List Expr) → list_all (λ e. is_some (its_kind e)) es ≡ true → Each (λ e. levels e ≤ 64) es → needs_of es ≤ length es + 1 + 17 * 64
  needs_bound [] fits light = omega arith
  needs_bound (e ∷ es) fits light = by_kind (its_kind e) refl fits (λ more. needs_bound es more light.1)
    where
      by_kind : (o : Option Kind) → its_kind e ≡ o → (is_some o && list_all (λ x. is_some (its_kind x)) es) ≡ true → (list_all (λ x. is_some (its_kind x)) es ≡ true → needs_of es ≤ length es + 1 + 17 * 64) →
          needs_of (e ∷ es) ≤ length (e ∷ es) + 1 + 17 * 64
      by_kind None is fit more = absurd cc
      by_kind (Some k) is fit more = omega (arith, need_bound e k is, light.0, more fit)
