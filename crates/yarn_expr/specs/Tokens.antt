-- The tokens of a text, over its characters. Source: docs/language.md, Tokens and expressions.
use Rattle.std.specs.Prelude.{ℕ, List, [], ◌∷◌, ◌++◌, zero, suc, length, Bool, true, false, nat_le, if◌then◌else◌, ◌||◌, ◌&&◌, ◌==◌, Option, Some, None, encode_utf8_all, encode_utf8, IsUtf8, ◌≡◌, ◌<◌}
use Rattle.std.specs.Str.{chars}
use Rattle.yarn_expr.specs.declared.scan.Class.{Class}
use Rattle.yarn_expr.specs.declared.scan.Class.TheVariants.{Blank, Digit, Name}
use Rattle.yarn_base.specs.Name.{starts_name, continues_name}
use Rattle.yarn_expr.specs.declared.token.Token.{Token}
use Rattle.yarn_expr.specs.declared.token.Token.TheVariants as token
use Rattle.yarn_expr.specs.declared.token.Sign.{Sign}
use Rattle.yarn_expr.specs.declared.token.Sign.TheVariants as sign
use Rattle.yarn_expr.specs.Reading.{◌>>=◌}

abbrev pub is_blank : ℕ → Bool
is_blank c = (c == 32) || (c == 9)

abbrev pub is_digit : ℕ → Bool
is_digit c = nat_le 48 c && nat_le c 57

-- the longest front of characters that pass, and what stands behind it
abbrev pub front : (ℕ → Bool) → List ℕ → List ℕ
front passes [] = []
front passes (c ∷ cs) = if passes c then c ∷ front passes cs else []

abbrev pub past : (ℕ → Bool) → List ℕ → List ℕ
past passes [] = []
past passes (c ∷ cs) = if passes c then past passes cs else c ∷ cs

-- one token, and the characters after it
pub record Next : Type 0 where
  pub token : Token
  pub rest : List ℕ

-- a text of these characters
abbrev pub text_of : List ℕ → List ℕ
text_of cs = encode_utf8_all cs

-- digits; with a point and digits behind them it is a fraction
abbrev pub with_point : List ℕ → List ℕ → Next
with_point whole cs = record { token = token.Fraction (text_of whole ++ (46 ∷ text_of (front is_digit cs))); rest = past is_digit cs }

abbrev pub without_point : List ℕ → List ℕ → Next
without_point whole cs = record { token = token.Number (text_of whole); rest = cs }

abbrev pub digit_next : List ℕ → Bool
digit_next [] = false
digit_next (c ∷ cs) = is_digit c

-- what stands behind a point, if a digit does
abbrev pub behind_point : List ℕ → Option (List ℕ)
behind_point [] = None
behind_point (c ∷ cs) = if (c == 46) && digit_next cs then Some cs else None

abbrev pub after_digits : List ℕ → List ℕ → Option (List ℕ) → Next
after_digits whole cs (Some digits) = with_point whole digits
after_digits whole cs None = without_point whole cs

unfoldable pub number_token : List ℕ → Next
number_token cs = after_digits (front is_digit cs) (past is_digit cs) (behind_point (past is_digit cs))

-- a string up to its closing quote: what it stands for, and what follows
pub record Quoted : Type 0 where
  pub body : List ℕ
  pub rest : List ℕ

abbrev pub with_char : ℕ → Option Quoted → Option Quoted
with_char c None = None
with_char c (Some q) = Some (record { body = c ∷ q.body; rest = q.rest })

abbrev pub is_escaped : ℕ → Bool
is_escaped c = (c == 34) || (c == 92)

unfoldable pub quoted : List ℕ → Option Quoted
quoted [] = None
quoted (c ∷ []) = if c == 34 then Some (record { body = []; rest = [] }) else None
quoted (c ∷ d ∷ cs) =
    if c == 34 then Some (record { body = []; rest = d ∷ cs })
    else if (c == 92) && is_escaped d then with_char d (quoted cs)
    else with_char c (quoted (d ∷ cs))

abbrev pub string_of : Option Quoted → Option Next
string_of None = None
string_of (Some q) = Some (record { token = token.Str (text_of q.body); rest = q.rest })

abbrev pub name_next : List ℕ → Bool
name_next [] = false
name_next (c ∷ cs) = starts_name c

abbrev pub variable_token : List ℕ → Option Next
variable_token cs = if name_next cs then Some (record { token = token.Variable (text_of (36 ∷ front continues_name cs)); rest = past continues_name cs }) else None

abbrev pub word_token : ℕ → List ℕ → Next
word_token c cs = record { token = token.Word (text_of (c ∷ front continues_name cs)); rest = past continues_name cs }

-- a sign of two characters, else of one
abbrev pub two_signs : ℕ → ℕ → Option Sign
two_signs c d =
    if (c == 61) && (d == 61) then Some sign.Equal
    else if (c == 33) && (d == 61) then Some sign.NotEqual
    else if (c == 60) && (d == 61) then Some sign.AtMost
    else if (c == 62) && (d == 61) then Some sign.AtLeast
    else if (c == 38) && (d == 38) then Some sign.Both
    else if (c == 124) && (d == 124) then Some sign.Either
    else None

abbrev pub one_sign : ℕ → Option Sign
one_sign c =
    if c == 60 then Some sign.Less
    else if c == 62 then Some sign.More
    else if c == 94 then Some sign.OneOf
    else if c == 33 then Some sign.Bang
    else if c == 43 then Some sign.Plus
    else if c == 45 then Some sign.Minus
    else if c == 42 then Some sign.Star
    else if c == 47 then Some sign.Slash
    else if c == 37 then Some sign.Percent
    else if c == 40 then Some sign.Open
    else if c == 41 then Some sign.Close
    else if c == 44 then Some sign.Comma
    else None

abbrev pub signed : List ℕ → Option Sign → Option Next
signed cs None = None
signed cs (Some s) = Some (record { token = token.Sign s; rest = cs })

abbrev pub sign_after : ℕ → ℕ → List ℕ → Option Sign → Option Next
sign_after c d cs (Some s) = Some (record { token = token.Sign s; rest = cs })
sign_after c d cs None = signed (d ∷ cs) (one_sign c)

abbrev pub sign_token : List ℕ → Option Next
sign_token [] = None
sign_token (c ∷ []) = signed [] (one_sign c)
sign_token (c ∷ d ∷ cs) = sign_after c d cs (two_signs c d)

-- the longest token at the front, by its first character
unfoldable pub next_token : List ℕ → Option Next
next_token [] = None
next_token (c ∷ cs) =
    if is_digit c then Some (number_token (c ∷ cs))
    else if c == 34 then string_of (quoted cs)
    else if c == 36 then variable_token cs
    else if starts_name c then Some (word_token c cs)
    else sign_token (c ∷ cs)

-- all tokens; each takes a character, so the number of characters is a bound
abbrev pub with_token : Token → Option (List Token) → Option (List Token)
with_token t None = None
with_token t (Some ts) = Some (t ∷ ts)

abbrev pub tokens_at : (List ℕ → Option (List Token)) → List ℕ → Option (List Token)
tokens_at more [] = Some []
tokens_at more (c ∷ cs) = next_token (c ∷ cs) >>= λ next. with_token next.token (more next.rest)

unfoldable pub tokens : ℕ → List ℕ → Option (List Token)
tokens zero cs = None
tokens (suc k) cs = tokens_at (tokens k) (past is_blank cs)

unfoldable pub tokens_of : List ℕ → Option (List Token)
tokens_of cs = tokens (suc (length cs)) cs

-- what a run of characters is made of
abbrev pub passes : Class → ℕ → Bool
passes Blank = is_blank
passes Digit = is_digit
passes Name = continues_name

-- one character of a class stands before the rest
pub record StepsPast (class : Class) (rest after : List ℕ) : Type 0 where
  pub first : ℕ
  pub next : chars rest ≡ first ∷ chars after
  pub bytes : rest ≡ encode_utf8 first ++ after
  pub is : passes class first ≡ true
  pub utf8 : IsUtf8 after
  pub shorter : length after < length rest
