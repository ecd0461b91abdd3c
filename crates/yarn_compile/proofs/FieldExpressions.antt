-- The code of an expression has fine operands, and its variables are names behind a `$`.
use Rattle.std.proofs.Common.{◌≡◌, ℕ, ℤ, zero, suc, ◌≤◌, List, [], ◌∷◌, ◌++◌, length, map, pos, Option, Some, None, refl, sym, ap, ◌∙◌, subst, arith, Bool, true, false, if◌then◌else◌}
use Rattle.std.specs.Prelude.{negsuc, neg_ℤ, nat_lt, unwrap_or, ◌^◌, ◌||◌, codes}
use Rattle.std.specs.List.{flat_map}
use Rattle.std.proofs.lemmas.Bool.Decides.{nat_tests}
use Rattle.yarn_value.specs.declared.value.Value.TheVariants as value
use Rattle.yarn_value.specs.Numbers.{fits}
use Rattle.yarn_expr.specs.declared.token.Token.{Token}
use Rattle.yarn_expr.specs.declared.token.Token.TheVariants as token
use Rattle.yarn_expr.specs.declared.token.Sign.TheVariants as sign
use Rattle.yarn_expr.specs.declared.tree.UnaryOp.{UnaryOp}
use Rattle.yarn_expr.specs.declared.tree.BinaryOp.{BinaryOp}
use Rattle.yarn_expr.specs.declared.tree.Expr.{Expr}
use Rattle.yarn_expr.specs.declared.tree.Expr.TheVariants as expr
use Rattle.yarn_expr.specs.declared.tree.Expr.TheOpen.{Expr-F}
use Rattle.yarn_expr.specs.Word.{is_spelled, meaning_of}
use Rattle.yarn_expr.specs.Plain.{Tree, Leaf, Group, Call, Unary, Binary, Trees, NoTrees, AndTree, fitted, value_after, number_of, word_leaf, leaf_of, expr_at, expr_of, exprs_of}
use Rattle.yarn_expr.specs.Expression.{Spells, SpellsAll}
use Rattle.yarn_expr.proofs.Layers.{at_number, at_string, at_truth, at_variable, at_group, at_unary, at_binary, at_call}
use Rattle.yarn_types.specs.Fits.{names_step, names_in}
use Rattle.yarn_commands.specs.Command.{IsExpression}
use Rattle.yarn_code.specs.declared.program.Instr.{Instr}
use Rattle.yarn_code.specs.declared.program.Instr.TheVariants as code
use Rattle.yarn_code.specs.declared.program.Coded.{Coded}
use Rattle.yarn_code.specs.Fields.{IsFitting, HasOperands}
use Rattle.yarn_compile.specs.Code.{Terms, TypedCode, code_of_all, code_step, typed_expr, expr_code}
use Rattle.yarn_compile.proofs.Parts.{Each, each_append, each_front, each_back}
use Rattle.yarn_compile.proofs.FieldCharacters.{AreChars, IsVariableName, FineToken, tokens_fine}

-- ---- operands

-- the operands are as they may be, but for the number of a call's arguments
abbrev pub FineInstr : Instr → Type 0
FineInstr (code.CallFunc count name) = Unit {0}
FineInstr (code.JumpTo label) = HasOperands (code.JumpTo label)
FineInstr code.Jump = HasOperands code.Jump
FineInstr (code.RunLine count id) = HasOperands (code.RunLine count id)
FineInstr (code.RunCommand count text) = HasOperands (code.RunCommand count text)
FineInstr (code.AddOption count id label conditional) = HasOperands (code.AddOption count id label conditional)
FineInstr code.ShowOptions = HasOperands code.ShowOptions
FineInstr (code.PushString text) = HasOperands (code.PushString text)
FineInstr (code.PushFloat number) = HasOperands (code.PushFloat number)
FineInstr (code.PushBool b) = HasOperands (code.PushBool b)
FineInstr code.PushNull = HasOperands code.PushNull
FineInstr (code.JumpIfFalse label) = HasOperands (code.JumpIfFalse label)
FineInstr code.Pop = HasOperands code.Pop
FineInstr (code.PushVariable name) = HasOperands (code.PushVariable name)
FineInstr (code.StoreVariable name) = HasOperands (code.StoreVariable name)
FineInstr code.Stop = HasOperands code.Stop
FineInstr code.RunNode = HasOperands code.RunNode

abbrev pub FineCoded : Coded → Type 0
FineCoded c = FineInstr c.instr

abbrev pub FineCode : List Coded → Type 0
FineCode = Each FineCoded

-- ---- numbers

unwrapped_small : (n : ℕ) → nat_lt (unwrap_or (fitted n) 0) (2 ^ 63) ≡ true
unwrapped_small n = by_test (nat_lt n (2 ^ 63)) refl
  where
    by_test : (t : Bool) → nat_lt n (2 ^ 63) ≡ t → nat_lt (unwrap_or (if t then Some n else None) 0) (2 ^ 63) ≡ true
    by_test true is = is
    by_test false is = refl

pub number_small : (digits : List ℕ) → nat_lt (unwrap_or (number_of digits) 0) (2 ^ 63) ≡ true
unfolding number_of
number_small digits = unwrapped_small (value_after 0 digits)

pub negative_small : (n : ℕ) → nat_lt n (2 ^ 63) ≡ true → fits (neg_ℤ (pos n)) ≡ true
negative_small zero h = refl
negative_small (suc n) h = less n h
  where
    less : (n : ℕ) → nat_lt (suc n) (2 ^ 63) ≡ true → nat_lt n (2 ^ 63) ≡ true
    less n h = grind (arith, nat_tests)

-- ---- expressions

-- the code of an expression has fine operands, and its variables are names behind a `$`
pub record FineExpr (e : Expr) : Type 0 where
  pub codes : (terms : Terms) (line : ℕ) → FineCode (expr_code terms line e)
  pub names : Each IsVariableName (names_in e)

fine_number : (n : ℤ) → fits n ≡ true → FineExpr (expr.Number n)
fine_number n h = record {
  codes = λ terms line. subst (λ (x : TypedCode). FineCode x.code) (sym (at_number TypedCode (code_step terms line) n)) (h, tt);
  names = subst (Each IsVariableName) (sym (at_number (List (List ℕ)) names_step n)) tt;
}

fine_string : (text : List ℕ) → length text ≤ 65536 → FineExpr (expr.Str text)
fine_string text h = record {
  codes = λ terms line. subst (λ (x : TypedCode). FineCode x.code) (sym (at_string TypedCode (code_step terms line) text)) (h, tt);
  names = subst (Each IsVariableName) (sym (at_string (List (List ℕ)) names_step text)) tt;
}

fine_truth : (b : Bool) → FineExpr (expr.Truth b)
fine_truth b = record {
  codes = λ terms line. subst (λ (x : TypedCode). FineCode x.code) (sym (at_truth TypedCode (code_step terms line) b)) (tt, tt);
  names = subst (Each IsVariableName) (sym (at_truth (List (List ℕ)) names_step b)) tt;
}

fine_variable : (name : List ℕ) → IsVariableName name → FineExpr (expr.Variable name)
fine_variable name h = record {
  codes = λ terms line. subst (λ (x : TypedCode). FineCode x.code) (sym (at_variable TypedCode (code_step terms line) name)) (tt, tt);
  names = subst (Each IsVariableName) (sym (at_variable (List (List ℕ)) names_step name)) (h, tt);
}

fine_group : (e : Expr) → FineExpr e → FineExpr (expr.Group e)
fine_group e h = record {
  codes = λ terms line. subst (λ (x : TypedCode). FineCode x.code) (sym (at_group TypedCode (code_step terms line) e)) (h.codes terms line);
  names = subst (Each IsVariableName) (sym (at_group (List (List ℕ)) names_step e)) h.names;
}

fine_unary : (op : UnaryOp) (e : Expr) → FineExpr e → FineExpr (expr.Unary op e)
fine_unary op e h = record {
  codes = λ terms line. subst (λ (x : TypedCode). FineCode x.code) (sym (at_unary TypedCode (code_step terms line) op e))
      (each_append FineCoded (expr_code terms line e) _ (h.codes terms line) (tt, tt));
  names = subst (Each IsVariableName) (sym (at_unary (List (List ℕ)) names_step op e)) h.names;
}

fine_binary : (op : BinaryOp) (l r : Expr) → FineExpr l → FineExpr r → FineExpr (expr.Binary op l r)
fine_binary op l r h g = record {
  codes = λ terms line. subst (λ (x : TypedCode). FineCode x.code) (sym (at_binary TypedCode (code_step terms line) op l r))
      (each_append FineCoded (expr_code terms line l) _ (h.codes terms line) (each_append FineCoded (expr_code terms line r) _ (g.codes terms line) (tt, tt)));
  names = subst (Each IsVariableName) (sym (at_binary (List (List ℕ)) names_step op l r)) (each_append IsVariableName (names_in l) (names_in r) h.names g.names);
}

args_codes : (terms : Terms) (line : ℕ) (es : List Expr) → Each FineExpr es → FineCode (code_of_all (map (typed_expr terms line) es))
args_codes terms line [] h = tt
args_codes terms line (e ∷ es) h =
    each_append FineCoded (expr_code terms line e) (code_of_all (map (typed_expr terms line) es)) (h.0.codes terms line) (args_codes terms line es h.1)

args_names : (es : List Expr) → Each FineExpr es → Each IsVariableName (flat_map (λ arg. arg) (map names_in es))
args_names [] h = tt
args_names (e ∷ es) h = each_append IsVariableName (names_in e) (flat_map (λ arg. arg) (map names_in es)) h.0.names (args_names es h.1)

fine_call : (name : List ℕ) (es : List Expr) → Each FineExpr es → FineExpr (expr.Call name es)
fine_call name es h = record {
  codes = λ terms line. subst (λ (x : TypedCode). FineCode x.code) (sym (at_call TypedCode (code_step terms line) name es))
      (each_append FineCoded (code_of_all (map (typed_expr terms line) es)) _ (args_codes terms line es h) (tt, tt));
  names = subst (Each IsVariableName) (sym (at_call (List (List ℕ)) names_step name es)) (args_names es h);
}

-- ---- trees of tokens

abbrev mutual
  FineTree : Tree → Type 0
  FineTree (Leaf t) = FineToken t
  FineTree (Group e) = FineTree e
  FineTree (Call name es) = FineTrees es
  FineTree (Unary op e) = FineTree e
  FineTree (Binary op l r) = FineTree l × FineTree r

  FineTrees : Trees → Type 0
  FineTrees NoTrees = Unit {0}
  FineTrees (AndTree e es) = FineTree e × FineTrees es

mutual
  leaves_fine : (t : Tree) (ts : List Token) → Spells t ts → Each FineToken ts → FineTree t
  leaves_fine (Leaf t) ts is h = (subst (Each FineToken) is.alone h).0
  leaves_fine (Group e) ts is h =
      leaves_fine e is.inner is.spelled (each_front FineToken is.inner (token.Sign sign.Close ∷ []) (subst (Each FineToken) is.split h).1)
  leaves_fine (Call name es) ts is h =
      let brackets = (subst (Each FineToken) is.split h).1 in
      let inner = (subst (Each FineToken) is.arguments.split brackets).1 in
      all_leaves_fine es is.arguments.inner is.arguments.spelled (each_front FineToken is.arguments.inner (token.Sign sign.Close ∷ []) inner)
  leaves_fine (Unary op e) ts is h = leaves_fine e is.1.operand is.1.spelled (subst (Each FineToken) is.1.split h).1
  leaves_fine (Binary op l r) ts is h =
      let both = subst (Each FineToken) is.2.split h in (
        leaves_fine l is.2.left is.2.left_spelled (each_front FineToken is.2.left (is.2.middle ∷ is.2.right) both),
        leaves_fine r is.2.right is.2.right_spelled (each_back FineToken is.2.left (is.2.middle ∷ is.2.right) both).1,
      )

  all_leaves_fine : (es : Trees) (ts : List Token) → SpellsAll es ts → Each FineToken ts → FineTrees es
  all_leaves_fine NoTrees ts is h = tt
  all_leaves_fine (AndTree e NoTrees) ts is h = (leaves_fine e ts is h, tt)
  all_leaves_fine (AndTree e (AndTree f es)) ts is h =
      let both = subst (Each FineToken) is.split h in (
        leaves_fine e is.first is.first_spelled (each_front FineToken is.first (token.Sign sign.Comma ∷ is.others) both),
        all_leaves_fine (AndTree f es) is.others is.others_spelled (each_back FineToken is.first (token.Sign sign.Comma ∷ is.others) both).1,
      )

-- what holds of both sides of a test holds of what it gives
either : {A : Type 0} (f : A → Option Expr) (P : Option Expr → Type 0) (b : Bool) (x y : A) → P (f x) → P (f y) → P (f (if b then x else y))
either f P true x y one two = one
either f P false x y one two = two

-- the literals among words
abbrev FineLeaf : Option Expr → Type 0
FineLeaf o = FineExpr (expr_at o)

no_literal : FineLeaf None
no_literal = fine_number (pos 0) refl

word_fine : (w : List ℕ) → FineLeaf (word_leaf (meaning_of w))
unfolding meaning_of
word_fine w =
    either word_leaf FineLeaf (is_spelled w (codes "lte")) _ _ no_literal
    (either word_leaf FineLeaf (is_spelled w (codes "gte")) _ _ no_literal
    (either word_leaf FineLeaf (is_spelled w (codes "lt")) _ _ no_literal
    (either word_leaf FineLeaf (is_spelled w (codes "gt")) _ _ no_literal
    (either word_leaf FineLeaf (is_spelled w (codes "is") || is_spelled w (codes "eq")) _ _ no_literal
    (either word_leaf FineLeaf (is_spelled w (codes "neq")) _ _ no_literal
    (either word_leaf FineLeaf (is_spelled w (codes "and")) _ _ no_literal
    (either word_leaf FineLeaf (is_spelled w (codes "or")) _ _ no_literal
    (either word_leaf FineLeaf (is_spelled w (codes "xor")) _ _ no_literal
    (either word_leaf FineLeaf (is_spelled w (codes "not")) _ _ no_literal
    (either word_leaf FineLeaf (is_spelled w (codes "true")) _ _ (literal true)
    (either word_leaf FineLeaf (is_spelled w (codes "false")) _ _ (literal false) no_literal)))))))))))
  where
    literal : (b : Bool) → FineLeaf (Some (expr.Truth b))
    literal b = fine_truth b

leaf_fine : (t : Token) → FineToken t → FineExpr (expr_at (leaf_of t))
leaf_fine (token.Number digits) h = fine_number (pos (unwrap_or (number_of digits) 0)) (number_small digits)
leaf_fine (token.Fraction digits) h = fine_number (pos 0) refl
leaf_fine (token.Str text) h = fine_string text h
leaf_fine (token.Variable name) h = fine_variable name h
leaf_fine (token.Word w) h = word_fine w
leaf_fine (token.Sign s) h = fine_number (pos 0) refl

mutual
  tree_fine : (t : Tree) → FineTree t → FineExpr (expr_of t)
  tree_fine (Leaf t) h = leaf_fine t h
  tree_fine (Group e) h = fine_group (expr_of e) (tree_fine e h)
  tree_fine (Call name es) h = fine_call name (exprs_of es) (trees_fine es h)
  tree_fine (Unary op e) h = fine_unary op (expr_of e) (tree_fine e h)
  tree_fine (Binary op l r) h = fine_binary op (expr_of l) (expr_of r) (tree_fine l h.0) (tree_fine r h.1)

  trees_fine : (es : Trees) → FineTrees es → Each FineExpr (exprs_of es)
  trees_fine NoTrees h = tt
  trees_fine (AndTree e es) h = (tree_fine e h.0, trees_fine es h.1)

-- an expression that stands in a short text is fine
pub expression_fine : {piece : List ℕ} {ts : List Token} {e : Expr} → AreChars piece → IsExpression piece ts e → FineExpr e
expression_fine {piece = piece} {ts = ts} h is =
    subst FineExpr (sym is.is) (tree_fine is.tree (leaves_fine is.tree ts is.has.expression.spelled (tokens_fine piece ts h is.has.lexed)))
