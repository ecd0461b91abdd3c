-- The canonical text of an expression. Source: docs/language.md, Canonical text; the spellings of the operators are this project's own.
use Rattle.std.specs.Prelude.{ℕ, List, [], ◌∷◌, ◌++◌, codes, Bool, true, false, if◌then◌else◌, encode_utf8_all}
use Rattle.std.specs.Str.{chars}
use Rattle.std.specs.Fmt.{signed_decimal}
use Rattle.yarn_expr.specs.declared.tree.UnaryOp.{UnaryOp}
use Rattle.yarn_expr.specs.declared.tree.UnaryOp.TheVariants.{Neg, Not}
use Rattle.yarn_expr.specs.declared.tree.BinaryOp.{BinaryOp}
use Rattle.yarn_expr.specs.declared.tree.BinaryOp.TheVariants.{Mul, Div, Rem, Add, Sub, Lte, Gte, Lt, Gt, Eq, Neq, And, Or, Xor}
use Rattle.yarn_expr.specs.declared.tree.Expr.{Expr}
use Rattle.yarn_expr.specs.declared.tree.Expr.TheOpen.{Expr-F}
use Rattle.yarn_expr.specs.declared.tree.Expr.TheFolds.{fold-Expr}
use Rattle.yarn_expr.specs.Tokens.{is_escaped}

-- a binary operator between its two spaces
abbrev pub operator_text : BinaryOp → List ℕ
operator_text Mul = codes " * "
operator_text Div = codes " / "
operator_text Rem = codes " % "
operator_text Add = codes " + "
operator_text Sub = codes " - "
operator_text Lte = codes " <= "
operator_text Gte = codes " >= "
operator_text Lt = codes " < "
operator_text Gt = codes " > "
operator_text Eq = codes " == "
operator_text Neq = codes " != "
operator_text And = codes " and "
operator_text Or = codes " or "
operator_text Xor = codes " xor "

abbrev pub prefix_text : UnaryOp → List ℕ
prefix_text Neg = codes "-"
prefix_text Not = codes "not "

-- a string's characters with a backslash before each quote and each backslash
abbrev pub escape : List ℕ → List ℕ
escape [] = []
escape (c ∷ cs) = if is_escaped c then 92 ∷ c ∷ escape cs else c ∷ escape cs

abbrev pub string_text : List ℕ → List ℕ
string_text text = codes "\"" ++ (encode_utf8_all (escape (chars text)) ++ codes "\"")

abbrev pub truth_text : Bool → List ℕ
truth_text b = if b then codes "true" else codes "false"

-- arguments, with a comma and a space before each but the first
abbrev pub separator : Bool → List ℕ
separator first = if first then [] else codes ", "

abbrev pub list_text : Bool → List (List ℕ) → List ℕ
list_text first [] = []
list_text first (e ∷ es) = separator first ++ (e ++ list_text false es)

abbrev pub text_step : Expr-F (List ℕ) → List ℕ
text_step (Expr-F.Number n) = signed_decimal n
text_step (Expr-F.Str text) = string_text text
text_step (Expr-F.Truth b) = truth_text b
text_step (Expr-F.Variable name) = name
text_step (Expr-F.Group e) = codes "(" ++ (e ++ codes ")")
text_step (Expr-F.Unary op e) = prefix_text op ++ e
text_step (Expr-F.Binary op l r) = l ++ (operator_text op ++ r)
text_step (Expr-F.Call name es) = name ++ (codes "(" ++ (list_text true es ++ codes ")"))

abbrev pub canonical : Expr → List ℕ
canonical = fold-Expr (List ℕ) text_step
