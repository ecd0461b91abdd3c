-- What is said of a node, from what is said of its parts.
use Rattle.std.proofs.Common.{◌≡◌, ℕ, ◌+◌, List, [], ◌∷◌, ◌++◌, Option, map, sum, refl, sym, ap, ◌∙◌}
use Rattle.std.specs.List.{flat_map}
use Rattle.yarn_value.specs.declared.value.Kind.{Kind}
use Rattle.yarn_value.specs.declared.signature.Signature.{Signature}
use Rattle.yarn_expr.specs.declared.tree.BinaryOp.{BinaryOp}
use Rattle.yarn_expr.specs.declared.tree.Expr.{Expr}
use Rattle.yarn_expr.specs.declared.tree.Expr.TheVariants.{Binary, rolls-Binary, Call, rolls-Call}
use Rattle.yarn_expr.specs.declared.tree.Expr.TheOpen.{Expr-F}
use Rattle.yarn_expr.specs.declared.tree.Expr.TheFolds.{fold-roll-Expr}
use Rattle.yarn_types.specs.Names.{Appearance}
use Rattle.yarn_value.specs.Signatures.{signature_named}
use Rattle.yarn_types.specs.Fits.{joined, called, kind_of, kind_step, names_in, names_step, node_count, count_step}
use Rattle.yarn_value.specs.Builtins.{builtin_named}

pub kind_of-Binary : (fs : List Signature) (vs : List Appearance) (t : List Kind) (op : BinaryOp) (left right : Expr) → kind_of fs vs t (Binary op left right) ≡ joined op (kind_of fs vs t left) (kind_of fs vs t right)
kind_of-Binary fs vs t op left right = ap (kind_of fs vs t) (sym (rolls-Binary op left right)) ∙ fold-roll-Expr (Option Kind) (kind_step fs vs t) (Expr-F.Binary op left right)

pub kind_of-Call : (fs : List Signature) (vs : List Appearance) (t : List Kind) (name : List ℕ) (args : List Expr) → kind_of fs vs t (Call name args) ≡ called (builtin_named name) (signature_named fs name) (map (kind_of fs vs t) args)
kind_of-Call fs vs t name args = ap (kind_of fs vs t) (sym (rolls-Call name args)) ∙ fold-roll-Expr (Option Kind) (kind_step fs vs t) (Expr-F.Call name args)

pub node_count-Binary : (op : BinaryOp) (left right : Expr) → node_count (Binary op left right) ≡ 1 + node_count left + node_count right
node_count-Binary op left right = ap node_count (sym (rolls-Binary op left right)) ∙ fold-roll-Expr ℕ count_step (Expr-F.Binary op left right)

pub node_count-Call : (name : List ℕ) (args : List Expr) → node_count (Call name args) ≡ 1 + sum (map node_count args)
node_count-Call name args = ap node_count (sym (rolls-Call name args)) ∙ fold-roll-Expr ℕ count_step (Expr-F.Call name args)

pub names_in-Binary : (op : BinaryOp) (left right : Expr) → names_in (Binary op left right) ≡ names_in left ++ names_in right
names_in-Binary op left right = ap names_in (sym (rolls-Binary op left right)) ∙ fold-roll-Expr (List (List ℕ)) names_step (Expr-F.Binary op left right)

pub names_in-Call : (name : List ℕ) (args : List Expr) → names_in (Call name args) ≡ flat_map names_in args
names_in-Call name args = ap names_in (sym (rolls-Call name args)) ∙ fold-roll-Expr (List (List ℕ)) names_step (Expr-F.Call name args) ∙ each args
  where
    each : (es : List Expr) → flat_map (λ arg. arg) (map names_in es) ≡ flat_map names_in es
    each [] = refl
    each (e ∷ es) = ap (λ r. names_in e ++ r) (each es)
