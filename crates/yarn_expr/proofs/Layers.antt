-- What a fold over an expression gives at each kind of it.
use Rattle.std.proofs.Common.{◌≡◌, ℕ, List, Bool, ℤ, map, sym, ap, ◌∙◌}
use Rattle.yarn_expr.specs.declared.tree.UnaryOp.{UnaryOp}
use Rattle.yarn_expr.specs.declared.tree.BinaryOp.{BinaryOp}
use Rattle.yarn_expr.specs.declared.tree.Expr.{Expr}
use Rattle.yarn_expr.specs.declared.tree.Expr.TheVariants as expr
use Rattle.yarn_expr.specs.declared.tree.Expr.TheOpen.{Expr-F}
use Rattle.yarn_expr.specs.declared.tree.Expr.TheFolds.{fold-Expr, fold-roll-Expr}

module _ (A : Type 0) (step : Expr-F A → A) where
  pub at_number : (n : ℤ) → fold-Expr A step (expr.Number n) ≡ step (Expr-F.Number n)
  at_number n = ap (fold-Expr A step) (sym (expr.rolls-Number n)) ∙ fold-roll-Expr A step (Expr-F.Number n)

  pub at_string : (text : List ℕ) → fold-Expr A step (expr.Str text) ≡ step (Expr-F.Str text)
  at_string text = ap (fold-Expr A step) (sym (expr.rolls-Str text)) ∙ fold-roll-Expr A step (Expr-F.Str text)

  pub at_truth : (b : Bool) → fold-Expr A step (expr.Truth b) ≡ step (Expr-F.Truth b)
  at_truth b = ap (fold-Expr A step) (sym (expr.rolls-Truth b)) ∙ fold-roll-Expr A step (Expr-F.Truth b)

  pub at_variable : (name : List ℕ) → fold-Expr A step (expr.Variable name) ≡ step (Expr-F.Variable name)
  at_variable name = ap (fold-Expr A step) (sym (expr.rolls-Variable name)) ∙ fold-roll-Expr A step (Expr-F.Variable name)

  pub at_group : (e : Expr) → fold-Expr A step (expr.Group e) ≡ step (Expr-F.Group (fold-Expr A step e))
  at_group e = ap (fold-Expr A step) (sym (expr.rolls-Group e)) ∙ fold-roll-Expr A step (Expr-F.Group e)

  pub at_unary : (op : UnaryOp) (e : Expr) → fold-Expr A step (expr.Unary op e) ≡ step (Expr-F.Unary op (fold-Expr A step e))
  at_unary op e = ap (fold-Expr A step) (sym (expr.rolls-Unary op e)) ∙ fold-roll-Expr A step (Expr-F.Unary op e)

  pub at_binary : (op : BinaryOp) (l r : Expr) → fold-Expr A step (expr.Binary op l r) ≡ step (Expr-F.Binary op (fold-Expr A step l) (fold-Expr A step r))
  at_binary op l r = ap (fold-Expr A step) (sym (expr.rolls-Binary op l r)) ∙ fold-roll-Expr A step (Expr-F.Binary op l r)

  pub at_call : (name : List ℕ) (es : List Expr) → fold-Expr A step (expr.Call name es) ≡ step (Expr-F.Call name (map (fold-Expr A step) es))
  at_call name es = ap (fold-Expr A step) (sym (expr.rolls-Call name es)) ∙ fold-roll-Expr A step (Expr-F.Call name es)
