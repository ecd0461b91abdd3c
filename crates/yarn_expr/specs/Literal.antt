-- The literals that an expression can't keep. Source: docs/language.md, Tokens and expressions.
use Rattle.std.specs.Prelude.{Bool, true, false, is_none}
use Rattle.yarn_expr.specs.declared.token.Token.{Token}
use Rattle.yarn_expr.specs.declared.token.Token.TheVariants as token
use Rattle.yarn_expr.specs.Plain.{number_of}

-- a number with a fraction
abbrev pub is_fraction : Token → Bool
is_fraction (token.Fraction digits) = true
is_fraction (token.Number digits) = false
is_fraction (token.Str text) = false
is_fraction (token.Variable name) = false
is_fraction (token.Word w) = false
is_fraction (token.Sign s) = false

-- a number above 9223372036854775807
abbrev pub is_large : Token → Bool
is_large (token.Number digits) = is_none (number_of digits)
is_large (token.Fraction digits) = false
is_large (token.Str text) = false
is_large (token.Variable name) = false
is_large (token.Word w) = false
is_large (token.Sign s) = false
