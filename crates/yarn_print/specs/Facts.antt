-- What the laws of printing rest on: the canonical text of an expression that some text is.
use Rattle.std.specs.Prelude.{◌≡◌, ℕ, List, [], ◌∷◌, ◌++◌, false, nat_eq, IsUtf8}
use Rattle.std.specs.List.{list_any}
use Rattle.std.specs.Str.{chars}
use Rattle.yarn_expr.specs.declared.token.Token.{Token}
use Rattle.yarn_expr.specs.declared.tree.Expr.{Expr}
use Rattle.yarn_expr.specs.Print.{canonical}
use Rattle.yarn_commands.specs.Command.{IsExpression}
use Rattle.yarn_items.specs.Text.{trimmed}
use Rattle.yarn_items.specs.Brace.{ToBrace}
use Rattle.yarn_items.specs.Content.{ToEnd}

-- the byte isn't among these
abbrev pub Lacks : ℕ → List ℕ → Type 0
Lacks b bytes = list_any (λ c. nat_eq c b) bytes ≡ false

-- the canonical text is that expression, ends neither a substitution nor a content, and has no byte of a line's end that
-- the other text doesn't have
pub record PrintsWell (piece : List ℕ) (e : Expr) : Type 0 where
  pub again : (tokens : List Token) × IsExpression (chars (canonical e)) tokens e
  pub utf8 : IsUtf8 (canonical e)
  pub some : canonical e ≡ [] → ⊥
  pub bare : trimmed (canonical e) ≡ canonical e
  pub in_braces : (rest : List ℕ) → ToBrace false (canonical e ++ 125 ∷ rest) (canonical e) rest
  pub in_content : (bytes inside rest : List ℕ) → ToEnd false false bytes inside rest → ToEnd false false (canonical e ++ bytes) (canonical e ++ inside) rest
  pub no_feed : Lacks 10 piece → Lacks 10 (canonical e)
  pub no_return : Lacks 13 piece → Lacks 13 (canonical e)

abbrev pub ExpressionsPrintWell : Type 0
ExpressionsPrintWell = (piece : List ℕ) (tokens : List Token) (e : Expr) → IsUtf8 piece → IsExpression (chars piece) tokens e → PrintsWell piece e
