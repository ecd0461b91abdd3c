-- What a line of a plural file is (docs/formats.md, Plural rules; the syntax of rules is that of UTS 35 part 3).
use Rattle.std.specs.Prelude.{◌≡◌, ◌<◌, ℕ, List, [], ◌∷◌, ◌++◌, length, map, Bool, true, false, Option, Some, None, IsUtf8, All, ◌⊎◌}
use Rattle.yarn_plural.specs.declared.rule.Category.{Category}
use Rattle.yarn_plural.specs.declared.rule.Category.TheVariants as category
use Rattle.yarn_plural.specs.declared.rule.Listed.{Listed}
use Rattle.yarn_plural.specs.declared.rule.Listed.TheVariants as listed
use Rattle.yarn_plural.specs.declared.rule.Relation.{Relation}
use Rattle.yarn_plural.specs.declared.rule.Rule.{Rule}
use Rattle.yarn_plural.specs.declared.line.Line.{Line}
use Rattle.yarn_plural.specs.declared.line.Line.TheVariants as line
use Rattle.yarn_plural.specs.declared.token.Token.{Token}
use Rattle.yarn_plural.specs.declared.token.Token.TheVariants as token
use Rattle.yarn_plural.specs.declared.token.Word.TheVariants as word
use Rattle.yarn_plural.specs.declared.token.Sign.TheVariants as sign
use Rattle.yarn_plural.specs.Lines.{without_end}
use Rattle.yarn_plural.specs.Tokens.{Spells}

-- ---- how a rule is written

-- the lists, with the joint between two of them
abbrev pub joined : Token → List (List Token) → List Token
joined joint [] = []
joined joint (ts ∷ []) = ts
joined joint (ts ∷ us ∷ rest) = ts ++ joint ∷ joined joint (us ∷ rest)

-- a value, or a range `a..b`
abbrev pub listed_tokens : Listed → List Token
listed_tokens (listed.Value only) = token.Value only ∷ []
listed_tokens (listed.Range first last) = token.Value first ∷ token.Sign sign.To ∷ token.Value last ∷ []

abbrev pub modulus_tokens : Option ℕ → List Token
modulus_tokens None = []
modulus_tokens (Some modulus) = token.Sign sign.Percent ∷ token.Value modulus ∷ []

abbrev pub comparison_token : Bool → Token
comparison_token true = token.Sign sign.Equal
comparison_token false = token.Sign sign.Differ

-- an operand, optionally `%` and a value, `=` or `!=`, and a list joined by `,`
abbrev pub relation_tokens : Relation → List Token
relation_tokens r =
    token.Word (word.Operand r.operand) ∷ (modulus_tokens r.modulus ++ comparison_token r.equal ∷ joined (token.Sign sign.Comma) (map listed_tokens r.among))

-- relations joined by `and`
abbrev pub and_tokens : List Relation → List Token
and_tokens relations = joined (token.Word word.And) (map relation_tokens relations)

-- and-conditions joined by `or`
abbrev pub condition_tokens : List (List Relation) → List Token
condition_tokens condition = joined (token.Word word.Or) (map and_tokens condition)

-- category: condition
abbrev pub rule_tokens : Rule → List Token
rule_tokens rule = token.Word (word.Category rule.category) ∷ token.Sign sign.Colon ∷ condition_tokens rule.condition

-- ---- what may be written

-- something is listed, and the modulus isn't 0
pub record IsRelation (r : Relation) : Type 0 where
  pub among : 0 < length r.among
  pub modulus : ¬ (r.modulus ≡ Some 0)

pub record IsAndCondition (relations : List Relation) : Type 0 where
  pub some : 0 < length relations
  pub each : All IsRelation relations

pub record IsCondition (condition : List (List Relation)) : Type 0 where
  pub some : 0 < length condition
  pub each : All IsAndCondition condition

-- the condition of `other` is empty, and that of the others isn't
abbrev pub Suits : Category → List (List Relation) → Type 0
Suits category.Other condition = condition ≡ []
Suits _ condition = IsCondition condition

-- ---- a line

-- nothing or a comment; `cardinal` or `ordinal`; or a rule, with samples behind it or without
abbrev pub Means : List Token → Line → Type 0
Means tokens line.Ignored = (tokens ≡ []) ⊎ (tokens ≡ token.Comment ∷ [])
Means tokens (line.Begins form) = tokens ≡ token.Word (word.Form form) ∷ []
Means tokens (line.Gives rule) =
    Suits rule.category rule.condition
    × ((tokens ≡ rule_tokens rule) ⊎ (tokens ≡ rule_tokens rule ++ token.Samples ∷ []))

-- a line is UTF-8, and its tokens mean something
pub record IsLine (bytes : List ℕ) (l : Line) : Type 0 where
  pub text : List ℕ
  pub ended : without_end bytes ≡ Some text
  pub utf8 : IsUtf8 text
  pub tokens : List Token
  pub spelled : Spells text tokens
  pub meant : Means tokens l

-- a line is one thing at most
abbrev pub LineIsOneThing : Type 0
LineIsOneThing = (bytes : List ℕ) (l m : Line) → IsLine bytes l → IsLine bytes m → l ≡ m
