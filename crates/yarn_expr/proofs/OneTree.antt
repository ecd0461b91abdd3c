-- One list of tokens is one tree, with its digits: trees that are the same expression cut the list at the same places.
use Rattle.std.proofs.Common.{◌≡◌, ℕ, suc, ◌+◌, ◌≤◌, List, [], ◌∷◌, ◌++◌, length, map, Some, refl, sym, ap, ◌∙◌, subst, arith, length-append}
use Rattle.yarn_expr.specs.declared.token.Token.{Token}
use Rattle.yarn_expr.specs.declared.token.Token.TheVariants as token
use Rattle.yarn_expr.specs.declared.word.WordMeaning.{WordMeaning}
use Rattle.yarn_expr.specs.declared.word.WordMeaning.TheVariants as word
use Rattle.yarn_expr.specs.declared.tree.UnaryOp.{UnaryOp}
use Rattle.yarn_expr.specs.declared.tree.BinaryOp.{BinaryOp}
use Rattle.yarn_expr.specs.declared.tree.Expr.{Expr}
use Rattle.yarn_expr.specs.declared.tree.Expr.TheOpen.{Expr-F}
use Rattle.yarn_expr.specs.declared.tree.Expr.TheFolds.{fold-Expr}
use Rattle.yarn_expr.specs.Word.{meaning_of}
use Rattle.yarn_expr.specs.Plain.{Tree, Leaf, Group, Call, Unary, Binary, Trees, NoTrees, AndTree, word_leaf, leaf_of, expr_at, expr_of, exprs_of}
use Rattle.yarn_expr.specs.Expression.{Spells, SpellsAll, Expression}
use Rattle.yarn_expr.proofs.Layers.{at_number, at_string, at_truth, at_variable, at_group, at_unary, at_binary, at_call}
use Rattle.yarn_expr.proofs.Only.{opening, closing, comma, only}

-- the shape of a tree, without its leaves
mutual
  data Shape : Type 0 where
    One : Shape
    Grouped : Shape → Shape
    Called : List ℕ → Shapes → Shape
    Prefixed : UnaryOp → Shape → Shape
    Joined : BinaryOp → Shape → Shape → Shape

  data Shapes : Type 0 where
    NoShapes : Shapes
    AndShape : Shape → Shapes → Shapes

abbrev mutual
  shape_of : Tree → Shape
  shape_of (Leaf t) = One
  shape_of (Group e) = Grouped (shape_of e)
  shape_of (Call name es) = Called name (shapes_of es)
  shape_of (Unary op e) = Prefixed op (shape_of e)
  shape_of (Binary op l r) = Joined op (shape_of l) (shape_of r)

  shapes_of : Trees → Shapes
  shapes_of NoTrees = NoShapes
  shapes_of (AndTree e es) = AndShape (shape_of e) (shapes_of es)

-- an expression has the shape of its tree
abbrev listed_shapes : List Shape → Shapes
listed_shapes [] = NoShapes
listed_shapes (s ∷ ss) = AndShape s (listed_shapes ss)

abbrev shape_step : Expr-F Shape → Shape
shape_step (Expr-F.Number n) = One
shape_step (Expr-F.Str text) = One
shape_step (Expr-F.Truth b) = One
shape_step (Expr-F.Variable name) = One
shape_step (Expr-F.Group e) = Grouped e
shape_step (Expr-F.Unary op e) = Prefixed op e
shape_step (Expr-F.Binary op l r) = Joined op l r
shape_step (Expr-F.Call name es) = Called name (listed_shapes es)

abbrev shape_in : Expr → Shape
shape_in = fold-Expr Shape shape_step

leaf-shape : (t : Token) → leaf_of t ≡ Some (expr_at (leaf_of t)) → shape_in (expr_at (leaf_of t)) ≡ One
leaf-shape (token.Number digits) h = at_number Shape shape_step _
leaf-shape (token.Fraction digits) h = at_number Shape shape_step _
leaf-shape (token.Str text) h = at_string Shape shape_step text
leaf-shape (token.Variable name) h = at_variable Shape shape_step name
leaf-shape (token.Word w) h = by_meaning (meaning_of w) h
  where
    by_meaning : (m : WordMeaning) → word_leaf m ≡ Some (expr_at (word_leaf m)) → shape_in (expr_at (word_leaf m)) ≡ One
    by_meaning (word.Literal b) h' = at_truth Shape shape_step b
    by_meaning (word.Operator op) h' = cc
    by_meaning word.Negation h' = cc
    by_meaning word.Name h' = cc
leaf-shape (token.Sign s) h = cc

mutual
  shape-spelled : (t : Tree) (ts : List Token) → Spells t ts → shape_in (expr_of t) ≡ shape_of t
  shape-spelled (Leaf t) ts s = leaf-shape t s.operand
  shape-spelled (Group e) ts s = at_group Shape shape_step (expr_of e) ∙ ap (λ x. Grouped x) (shape-spelled e s.inner s.spelled)
  shape-spelled (Call name es) ts s = at_call Shape shape_step name (exprs_of es) ∙ ap (λ x. Called name x) (shapes-spelled es s.arguments.inner s.arguments.spelled)
  shape-spelled (Unary op e) ts s = at_unary Shape shape_step op (expr_of e) ∙ ap (λ x. Prefixed op x) (shape-spelled e s.1.operand s.1.spelled)
  shape-spelled (Binary op l r) ts s =
      let b = s.2 in
      at_binary Shape shape_step op (expr_of l) (expr_of r) ∙ ap (λ x. Joined op x (shape_in (expr_of r))) (shape-spelled l b.left b.left_spelled)
      ∙ ap (λ x. Joined op (shape_of l) x) (shape-spelled r b.right b.right_spelled)

  shapes-spelled : (es : Trees) (ts : List Token) → SpellsAll es ts → listed_shapes (map shape_in (exprs_of es)) ≡ shapes_of es
  shapes-spelled NoTrees ts s = refl
  shapes-spelled (AndTree e NoTrees) ts s = ap (λ x. AndShape x NoShapes) (shape-spelled e ts s)
  shapes-spelled (AndTree e (AndTree f es)) ts s =
      ap (λ x. AndShape x (listed_shapes (map shape_in (exprs_of (AndTree f es))))) (shape-spelled e s.first s.first_spelled)
      ∙ ap (λ x. AndShape (shape_of e) x) (shapes-spelled (AndTree f es) s.others s.others_spelled)

-- how many tokens spell a tree of a shape
abbrev tokens_with : ℕ → Shapes → ℕ → ℕ
tokens_with n NoShapes m = n
tokens_with n (AndShape e es) m = n + suc m

abbrev mutual
  tokens_in : Shape → ℕ
  tokens_in One = 1
  tokens_in (Grouped e) = suc (suc (tokens_in e))
  tokens_in (Called name es) = suc (suc (suc (tokens_in_all es)))
  tokens_in (Prefixed op e) = suc (tokens_in e)
  tokens_in (Joined op l r) = tokens_in l + suc (tokens_in r)

  tokens_in_all : Shapes → ℕ
  tokens_in_all NoShapes = 0
  tokens_in_all (AndShape e es) = tokens_with (tokens_in e) es (tokens_in_all es)

bracketed-length : (inner : List Token) → length (opening ∷ (inner ++ closing ∷ [])) ≡ suc (suc (length inner))
bracketed-length inner = omega (arith, length-append inner (closing ∷ []))

mutual
  spelled-length : (t : Tree) (ts : List Token) → Spells t ts → length ts ≡ tokens_in (shape_of t)
  spelled-length (Leaf t) ts s = ap length s.alone
  spelled-length (Group e) ts s = ap length s.split ∙ bracketed-length s.inner ∙ ap (λ n. suc (suc n)) (spelled-length e s.inner s.spelled)
  spelled-length (Call name es) ts s =
      let a = s.arguments in
      ap length s.split ∙ ap (λ (l : List Token). suc (length l)) a.split ∙ ap (λ n. suc n) (bracketed-length a.inner) ∙ ap (λ n. suc (suc (suc n))) (spelled_all-length es a.inner a.spelled)
  spelled-length (Unary op e) ts s = ap length s.1.split ∙ ap (λ n. suc n) (spelled-length e s.1.operand s.1.spelled)
  spelled-length (Binary op l r) ts s =
      let b = s.2 in
      ap length b.split ∙ length-append b.left (b.middle ∷ b.right) ∙ ap (λ n. n + suc (length b.right)) (spelled-length l b.left b.left_spelled)
      ∙ ap (λ n. tokens_in (shape_of l) + suc n) (spelled-length r b.right b.right_spelled)

  spelled_all-length : (es : Trees) (ts : List Token) → SpellsAll es ts → length ts ≡ tokens_in_all (shapes_of es)
  spelled_all-length NoTrees ts s = ap length s
  spelled_all-length (AndTree e NoTrees) ts s = spelled-length e ts s
  spelled_all-length (AndTree e (AndTree f es)) ts s =
      ap length s.split ∙ length-append s.first (comma ∷ s.others) ∙ ap (λ n. n + suc (length s.others)) (spelled-length e s.first s.first_spelled)
      ∙ ap (λ n. tokens_in (shape_of e) + suc n) (spelled_all-length (AndTree f es) s.others s.others_spelled)

-- the same expression is spelled by as many tokens
alike : (t u : Tree) (ts us : List Token) → shape_of t ≡ shape_of u → Spells t ts → Spells u us → length ts ≡ length us
alike t u ts us e s x = spelled-length t ts s ∙ ap tokens_in e ∙ sym (spelled-length u us x)

-- two cuts of one list at one place
cut : (xs xs' ys ys' : List Token) → xs ++ ys ≡ xs' ++ ys' → length xs ≡ length xs' → (xs ≡ xs') × (ys ≡ ys')
cut [] [] ys ys' e l = (refl, e)
cut [] (x' ∷ xs') ys ys' e l = absurd (omega arith)
cut (x ∷ xs) [] ys ys' e l = absurd (omega arith)
cut (x ∷ xs) (x' ∷ xs') ys ys' e l =
    let head : x ≡ x' = cc in
    let tail : xs ++ ys ≡ xs' ++ ys' = cc in
    let both = cut xs xs' ys ys' tail (omega arith) in
    (ap (λ y. y ∷ xs) head ∙ ap (λ l. x' ∷ l) both.0, both.1)

inner-same : (inner inner' : List Token) → opening ∷ (inner ++ closing ∷ []) ≡ opening ∷ (inner' ++ closing ∷ []) → inner ≡ inner'
inner-same inner inner' e =
    let same : inner ++ closing ∷ [] ≡ inner' ++ closing ∷ [] = cc in
    (cut inner inner' (closing ∷ []) (closing ∷ []) same (omega (arith, ap length same, length-append inner (closing ∷ []), length-append inner' (closing ∷ [])))).0

some : (t : Tree) (ts : List Token) → Spells t ts → 1 ≤ length ts
some (Leaf t) ts s = omega (arith, ap length s.alone)
some (Group e) ts s = omega (arith, ap length s.split)
some (Call name es) ts s = omega (arith, ap length s.split)
some (Unary op e) ts s = omega (arith, ap length s.1.split)
some (Binary op l r) ts s = omega (arith, ap length s.2.split, length-append s.2.left (s.2.middle ∷ s.2.right))

group-long : (e : Tree) (ts : List Token) → Spells (Group e) ts → 2 ≤ length ts
group-long e ts s = omega (arith, ap length s.split, bracketed-length s.inner)

call-long : (name : List ℕ) (es : Trees) (ts : List Token) → Spells (Call name es) ts → 2 ≤ length ts
call-long name es ts s = omega (arith, ap length s.split, ap length s.arguments.split)

unary-long : (op : UnaryOp) (e : Tree) (ts : List Token) → Spells (Unary op e) ts → 2 ≤ length ts
unary-long op e ts s = omega (arith, ap length s.1.split, some e s.1.operand s.1.spelled)

binary-long : (op : BinaryOp) (l r : Tree) (ts : List Token) → Spells (Binary op l r) ts → 2 ≤ length ts
binary-long op l r ts s = let b = s.2 in omega (arith, ap length b.split, length-append b.left (b.middle ∷ b.right), some l b.left b.left_spelled)

as_spelled : (t : Tree) (ts us : List Token) → us ≡ ts → Spells t us → Spells t ts
as_spelled t ts us same s = subst (λ l. Spells t l) same s

as_all : (es : Trees) (ts us : List Token) → us ≡ ts → SpellsAll es us → SpellsAll es ts
as_all es ts us same s = subst (λ l. SpellsAll es l) same s

mutual
  same-tree : (t u : Tree) → shape_of t ≡ shape_of u → (ts : List Token) → Spells t ts → Spells u ts → t ≡ u
  same-tree (Leaf a) (Leaf b) e ts s x = let p = s.alone in let q = x.alone in let same : a ≡ b = cc in ap (λ c. Leaf c) same
  same-tree (Leaf a) (Group f) e ts s x = absurd (omega (arith, ap length s.alone, group-long f ts x))
  same-tree (Leaf a) (Call name fs) e ts s x = absurd (omega (arith, ap length s.alone, call-long name fs ts x))
  same-tree (Leaf a) (Unary op f) e ts s x = absurd (omega (arith, ap length s.alone, unary-long op f ts x))
  same-tree (Leaf a) (Binary op l r) e ts s x = absurd (omega (arith, ap length s.alone, binary-long op l r ts x))
  same-tree (Group f) (Leaf a) e ts s x = absurd (omega (arith, ap length x.alone, group-long f ts s))
  same-tree (Group f) (Group g) e ts s x =
      let inner = inner-same s.inner x.inner (sym s.split ∙ x.split) in
      let same : shape_of f ≡ shape_of g = cc in
      ap (λ c. Group c) (same-tree f g same s.inner s.spelled (as_spelled g s.inner x.inner (sym inner) x.spelled))
  same-tree (Group f) (Call name fs) e ts s x = cc
  same-tree (Group f) (Unary op g) e ts s x = cc
  same-tree (Group f) (Binary op l r) e ts s x = cc
  same-tree (Call name es) (Leaf a) e ts s x = absurd (omega (arith, ap length x.alone, call-long name es ts s))
  same-tree (Call name es) (Group f) e ts s x = cc
  same-tree (Call name es) (Call name' fs) e ts s x =
      let a = s.arguments in
      let b = x.arguments in
      let p = s.split in
      let q = x.split in
      let bracketed : s.bracketed ≡ x.bracketed = cc in
      let inner = inner-same a.inner b.inner (sym a.split ∙ bracketed ∙ b.split) in
      let name_same : name ≡ name' = cc in
      let same : shapes_of es ≡ shapes_of fs = cc in
      let trees = same-trees es fs same a.inner a.spelled (as_all fs a.inner b.inner (sym inner) b.spelled) in
      ap (λ n. Call n es) name_same ∙ ap (λ c. Call name' c) trees
  same-tree (Call name es) (Unary op f) e ts s x = cc
  same-tree (Call name es) (Binary op l r) e ts s x = cc
  same-tree (Unary op f) (Leaf a) e ts s x = absurd (omega (arith, ap length x.alone, unary-long op f ts s))
  same-tree (Unary op f) (Group g) e ts s x = cc
  same-tree (Unary op f) (Call name fs) e ts s x = cc
  same-tree (Unary op f) (Unary op' g) e ts s x =
      let p = s.1.split in
      let q = x.1.split in
      let operand : s.1.operand ≡ x.1.operand = cc in
      let op_same : op ≡ op' = cc in
      let same : shape_of f ≡ shape_of g = cc in
      ap (λ o. Unary o f) op_same ∙ ap (λ c. Unary op' c) (same-tree f g same s.1.operand s.1.spelled (as_spelled g s.1.operand x.1.operand (sym operand) x.1.spelled))
  same-tree (Unary op f) (Binary op' l r) e ts s x = cc
  same-tree (Binary op l r) (Leaf a) e ts s x = absurd (omega (arith, ap length x.alone, binary-long op l r ts s))
  same-tree (Binary op l r) (Group g) e ts s x = cc
  same-tree (Binary op l r) (Call name fs) e ts s x = cc
  same-tree (Binary op l r) (Unary op' g) e ts s x = cc
  same-tree (Binary op l r) (Binary op' l' r') e ts s x =
      let a = s.2 in
      let b = x.2 in
      let left_same : shape_of l ≡ shape_of l' = cc in
      let right_same : shape_of r ≡ shape_of r' = cc in
      let op_same : op ≡ op' = cc in
      let cuts = cut a.left b.left (a.middle ∷ a.right) (b.middle ∷ b.right) (sym a.split ∙ b.split) (alike l l' a.left b.left left_same a.left_spelled b.left_spelled) in
      let behind = cuts.1 in
      let right : a.right ≡ b.right = cc in
      let first = same-tree l l' left_same a.left a.left_spelled (as_spelled l' a.left b.left (sym cuts.0) b.left_spelled) in
      let second = same-tree r r' right_same a.right a.right_spelled (as_spelled r' a.right b.right (sym right) b.right_spelled) in
      ap (λ o. Binary o l r) op_same ∙ ap (λ c. Binary op' c r) first ∙ ap (λ c. Binary op' l' c) second

  same-trees : (es fs : Trees) → shapes_of es ≡ shapes_of fs → (ts : List Token) → SpellsAll es ts → SpellsAll fs ts → es ≡ fs
  same-trees NoTrees NoTrees e ts s x = refl
  same-trees NoTrees (AndTree f fs) e ts s x = cc
  same-trees (AndTree t es) NoTrees e ts s x = cc
  same-trees (AndTree t NoTrees) (AndTree u NoTrees) e ts s x = let same : shape_of t ≡ shape_of u = cc in ap (λ c. AndTree c NoTrees) (same-tree t u same ts s x)
  same-trees (AndTree t NoTrees) (AndTree u (AndTree f fs)) e ts s x = cc
  same-trees (AndTree t (AndTree g es)) (AndTree u NoTrees) e ts s x = cc
  same-trees (AndTree t (AndTree g es)) (AndTree u (AndTree f fs)) e ts s x =
      let same : shape_of t ≡ shape_of u = cc in
      let others_same : shapes_of (AndTree g es) ≡ shapes_of (AndTree f fs) = cc in
      let cuts = cut s.first x.first (comma ∷ s.others) (comma ∷ x.others) (sym s.split ∙ x.split) (alike t u s.first x.first same s.first_spelled x.first_spelled) in
      let behind = cuts.1 in
      let others : s.others ≡ x.others = cc in
      let first = same-tree t u same s.first s.first_spelled (as_spelled u s.first x.first (sym cuts.0) x.first_spelled) in
      let rest = same-trees (AndTree g es) (AndTree f fs) others_same s.others s.others_spelled (as_all (AndTree f fs) s.others x.others (sym others) x.others_spelled) in
      ap (λ c. AndTree c (AndTree g es)) first ∙ ap (λ c. AndTree u c) rest

pub one_tree_law : (tokens : List Token) (t u : Tree) → Expression tokens t → Expression tokens u → t ≡ u
one_tree_law tokens t u x y =
    let a = only tokens t x in
    let b = only tokens u y in
    let same : expr_of t ≡ expr_of u = cc in
    let shapes : shape_of t ≡ shape_of u = sym (shape-spelled t tokens x.spelled) ∙ ap shape_in same ∙ shape-spelled u tokens y.spelled in
    same-tree t u shapes tokens x.spelled y.spelled
