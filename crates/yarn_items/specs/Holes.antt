-- The expressions of substitutions, as a function of the pieces of a text (docs/language.md, Texts).
use Rattle.std.specs.Prelude.{List, [], ◌∷◌, ◌++◌, Option, Some, None}
use Rattle.std.specs.Str.{chars}
use Rattle.yarn_expr.specs.declared.token.Token.{Token}
use Rattle.yarn_expr.specs.declared.tree.Expr.{Expr}
use Rattle.yarn_commands.specs.declared.read.Part.{Part}
use Rattle.yarn_commands.specs.Reading.{expression}
use Rattle.yarn_items.specs.Text.{Piece, Char, Pair, Hole}

-- expressions, with their tokens in all
pub record Held : Type 0 where
  pub tokens : List Token
  pub holes : List Expr

-- the expression before the others
abbrev pub with_part : Option Part → Option Held → Option Held
with_part (Some part) (Some later) = Some (record { tokens = part.tokens ++ later.tokens; holes = part.expr ∷ later.holes })
with_part _ _ = None

-- none where a substitution holds no expression
abbrev pub held_in : List Piece → Option Held
held_in [] = Some (record { tokens = []; holes = [] })
held_in (Char c ∷ pieces) = held_in pieces
held_in (Pair c ∷ pieces) = held_in pieces
held_in (Hole inside ∷ pieces) = with_part (expression (chars inside)) (held_in pieces)
