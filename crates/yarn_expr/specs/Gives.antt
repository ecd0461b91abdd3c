-- What a reader of the code answers, against the reading on lists.
use Rattle.std.specs.Prelude.{◌≡◌, ℕ, List, Option, Some, None, Result, Ok, Err}
use Rattle.yarn_expr.specs.declared.token.Token.{Token}
use Rattle.yarn_expr.specs.declared.tree.Expr.{Expr}
use Rattle.yarn_expr.specs.declared.fault.ExprFault.{ExprFault}
use Rattle.yarn_expr.specs.declared.fault.ExprFault.TheVariants as fault
use Rattle.yarn_expr.specs.declared.refusal.Refusal.{Refusal}
use Rattle.yarn_expr.specs.declared.refusal.Refusal.TheVariants as refusal
use Rattle.yarn_expr.specs.Piece.{answer_to}
use Rattle.yarn_expr.specs.Reading.{read_all}
use Rattle.yarn_expr.specs.Tokens.{tokens_of}

-- memory may run out anywhere
abbrev pub Refuses : {Y : Type 0} → Refusal → Option Y → Type 0
Refuses refusal.NotExpr read = read ≡ None
Refuses refusal.Memory read = Unit {0}

abbrev pub Gives : {X Y : Type 0} → (X → Y) → Result X Refusal → Option Y → Type 0
Gives view (Ok x) read = read ≡ Some (view x)
Gives view (Err e) read = Refuses e read

-- the answer to tokens, by what was read of them
abbrev pub answer_for : Option Expr → List Token → Result Expr ExprFault
answer_for None tokens = Err fault.NotExpr
answer_for (Some e) tokens = answer_to e tokens

abbrev pub answer : List Token → Result Expr ExprFault
answer tokens = answer_for (read_all tokens) tokens

-- the same of the characters of a piece; what has no tokens has no tree
abbrev pub answer_at : Option (List Token) → Result Expr ExprFault
answer_at None = Err fault.NotExpr
answer_at (Some tokens) = answer tokens

abbrev pub piece_answer : List ℕ → Result Expr ExprFault
piece_answer cs = answer_at (tokens_of cs)
