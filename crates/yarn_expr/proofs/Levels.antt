-- How deep expressions are: as deep as their trees.
use Rattle.std.proofs.Common.{◌≡◌, ℕ, suc, max, List, [], ◌∷◌, map, pos, Option, Some, None, refl, ap, ◌∙◌}
use mathlib.Core.Path.{ap₂}
use Rattle.yarn_expr.specs.declared.token.Token.{Token}
use Rattle.yarn_expr.specs.declared.token.Token.TheVariants as token
use Rattle.yarn_expr.specs.declared.word.WordMeaning.{WordMeaning}
use Rattle.yarn_expr.specs.declared.word.WordMeaning.TheVariants as word
use Rattle.yarn_expr.specs.declared.tree.Expr.{Expr}
use Rattle.yarn_expr.specs.declared.tree.Expr.TheOpen.{Expr-F}
use Rattle.yarn_expr.specs.declared.tree.Expr.TheFolds.{fold-Expr}
use Rattle.yarn_expr.specs.Word.{meaning_of}
use Rattle.yarn_expr.specs.Plain.{Tree, Leaf, Group, Call, Unary, Binary, Trees, NoTrees, AndTree, word_leaf, leaf_of, expr_at, expr_of, exprs_of, depth, depth_all}
use Rattle.yarn_expr.proofs.Layers.{at_number, at_string, at_truth, at_variable, at_group, at_unary, at_binary, at_call}

abbrev pub most_of : List ℕ → ℕ
most_of [] = 0
most_of (n ∷ ns) = max n (most_of ns)

abbrev pub level_step : Expr-F ℕ → ℕ
level_step (Expr-F.Number n) = 1
level_step (Expr-F.Str text) = 1
level_step (Expr-F.Truth b) = 1
level_step (Expr-F.Variable name) = 1
level_step (Expr-F.Group inner) = suc inner
level_step (Expr-F.Unary op inner) = suc inner
level_step (Expr-F.Binary op left right) = suc (max left right)
level_step (Expr-F.Call name args) = suc (most_of args)

-- how deep an expression is
abbrev pub levels : Expr → ℕ
levels = fold-Expr ℕ level_step

-- ---- the levels of a tree

word_levels : (m : WordMeaning) → levels (expr_at (word_leaf m)) ≡ 1
word_levels (word.Literal b) = at_truth ℕ level_step b
word_levels (word.Operator op) = at_number ℕ level_step (pos 0)
word_levels word.Negation = at_number ℕ level_step (pos 0)
word_levels word.Name = at_number ℕ level_step (pos 0)

leaf_levels : (t : Token) → levels (expr_at (leaf_of t)) ≡ 1
leaf_levels (token.Number digits) = at_number ℕ level_step _
leaf_levels (token.Fraction digits) = at_number ℕ level_step (pos 0)
leaf_levels (token.Str text) = at_string ℕ level_step text
leaf_levels (token.Variable name) = at_variable ℕ level_step name
leaf_levels (token.Word w) = word_levels (meaning_of w)
leaf_levels (token.Sign s) = at_number ℕ level_step (pos 0)

mutual
  pub levels-tree : (t : Tree) → levels (expr_of t) ≡ depth t
  levels-tree (Leaf t) = leaf_levels t
  levels-tree (Group e) = at_group ℕ level_step (expr_of e) ∙ ap suc (levels-tree e)
  levels-tree (Call name es) = at_call ℕ level_step name (exprs_of es) ∙ ap suc (levels-trees es)
  levels-tree (Unary op e) = at_unary ℕ level_step op (expr_of e) ∙ ap suc (levels-tree e)
  levels-tree (Binary op l r) = at_binary ℕ level_step op (expr_of l) (expr_of r) ∙ ap₂ (λ a b. suc (max a b)) (levels-tree l) (levels-tree r)

  levels-trees : (es : Trees) → most_of (map levels (exprs_of es)) ≡ depth_all es
  levels-trees NoTrees = refl
  levels-trees (AndTree e es) = ap₂ (λ a b. max a b) (levels-tree e) (levels-trees es)
