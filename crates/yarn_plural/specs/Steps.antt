-- Words of private functions.
use Rattle.std.specs.Prelude.{ℕ, ◌+◌, List, [], ◌∷◌, length, nat_eq, nat_lt, nat_le, Bool, true, false, ◌&&◌, if◌then◌else◌, Option, Some, None, option_map}
use Rattle.std.specs.Cmp.Lexicographic.{pointwise}
use Rattle.yarn_plural.specs.declared.token.TheConstants.{WORDS}
use Rattle.yarn_plural.specs.declared.rule.Category.{Category}
use Rattle.yarn_plural.specs.declared.rule.Category.TheVariants as category
use Rattle.yarn_plural.specs.declared.rule.Operand.{Operand}
use Rattle.yarn_plural.specs.declared.rule.Listed.{Listed}
use Rattle.yarn_plural.specs.declared.rule.Listed.TheVariants as listed
use Rattle.yarn_plural.specs.declared.rule.Relation.{Relation}
use Rattle.yarn_plural.specs.declared.rule.Rule.{Rule}
use Rattle.yarn_plural.specs.declared.line.Line.{Line}
use Rattle.yarn_plural.specs.declared.line.Line.TheVariants as line
use Rattle.yarn_plural.specs.declared.scan.Run.{Run}
use Rattle.yarn_plural.specs.declared.scan.Run.TheVariants as run
use Rattle.yarn_plural.specs.declared.token.Token.{Token}
use Rattle.yarn_plural.specs.declared.token.Token.TheVariants as token
use Rattle.yarn_plural.specs.declared.token.Word.{Word}
use Rattle.yarn_plural.specs.declared.token.Word.TheVariants as word
use Rattle.yarn_plural.specs.declared.token.Sign.{Sign}
use Rattle.yarn_plural.specs.declared.token.Sign.TheVariants as sign
use Rattle.yarn_plural.specs.declared.token.Joint.{Joint}
use Rattle.yarn_plural.specs.declared.token.Joint.TheVariants as joint
use Rattle.yarn_plural.specs.Tokens.{is_blank, is_letter, is_digit, front, past, begins_run, word_text, number_after, Spells}
use Rattle.yarn_plural.specs.Rules.{IsLine}

-- how many bytes stand before the first LF
abbrev pub length_to_lf : List ℕ → ℕ
length_to_lf [] = 0
length_to_lf (b ∷ bytes) = if nat_eq b 10 then 0 else length_to_lf bytes + 1

-- ---- tokens

abbrev pub AreTokens : List ℕ → Type 0
AreTokens text = (ts : List Token) × Spells text ts

abbrev pub in_run : Run → ℕ → Bool
in_run run.Blanks = is_blank
in_run run.Letters = is_letter
in_run run.Digits = is_digit

-- the first of the words with this text
abbrev pub find_word : List ℕ → List Word → Option Word
find_word text [] = None
find_word text (w ∷ ws) = if pointwise nat_eq text (word_text w) then Some w else find_word text ws

abbrev pub word_of : List ℕ → Option Word
word_of text = find_word text WORDS

abbrev pub value_of : List ℕ → Option ℕ
value_of digits = if nat_lt 0 (length digits) && nat_le (length digits) 18 then Some (number_after 0 digits) else None

-- a token, and the bytes behind it
abbrev pub Next : Type 0
Next = Token × List ℕ

abbrev pub before : List ℕ → Option Token → Option Next
before rest None = None
before rest (Some t) = if begins_run rest then None else Some (t, rest)

abbrev pub word_next : List ℕ → Option Next
word_next text = before (past is_letter text) (option_map token.Word (word_of (front is_letter text)))

abbrev pub value_next : List ℕ → Option Next
value_next text = before (past is_digit text) (option_map token.Value (value_of (front is_digit text)))

abbrev pub if_next : ℕ → Sign → List ℕ → Option Next
if_next b s [] = None
if_next b s (c ∷ bytes) = if nat_eq c b then Some (token.Sign s, bytes) else None

abbrev pub sign_next : List ℕ → Option Next
sign_next [] = None
sign_next (b ∷ bytes) =
    if nat_eq b 58 then Some (token.Sign sign.Colon, bytes)
    else if nat_eq b 37 then Some (token.Sign sign.Percent, bytes)
    else if nat_eq b 61 then Some (token.Sign sign.Equal, bytes)
    else if nat_eq b 33 then if_next 61 sign.Differ bytes
    else if nat_eq b 44 then Some (token.Sign sign.Comma, bytes)
    else if nat_eq b 46 then if_next 46 sign.To bytes
    else None

-- the first token of a text that begins with no blank
abbrev pub next_of : List ℕ → Option Next
next_of [] = None
next_of (b ∷ bytes) =
    if nat_eq b 35 then Some (token.Comment, [])
    else if nat_eq b 64 then Some (token.Samples, [])
    else if is_letter b then word_next (b ∷ bytes)
    else if is_digit b then value_next (b ∷ bytes)
    else sign_next (b ∷ bytes)

-- ---- rules

abbrev pub separates : Joint → Token → Bool
separates joint.Or (token.Word word.Or) = true
separates joint.And (token.Word word.And) = true
separates joint.Comma (token.Sign sign.Comma) = true
separates _ _ = false

-- the token stands at the front of the first piece
abbrev pub onto : Token → List (List Token) → List (List Token)
onto t [] = (t ∷ []) ∷ []
onto t (piece ∷ rest) = (t ∷ piece) ∷ rest

-- what stands between the joints; there is one piece at least
abbrev pub pieces : Joint → List Token → List (List Token)
pieces j [] = [] ∷ []
pieces j (t ∷ ts) = if separates j t then [] ∷ pieces j ts else onto t (pieces j ts)

abbrev pub pieces_behind : Joint → Option (List Token) → List (List Token)
pieces_behind j None = []
pieces_behind j (Some ts) = pieces j ts

abbrev pub both : {B : Type 0} → Option B → Option (List B) → Option (List B)
both None ys = None
both (Some y) None = None
both (Some y) (Some ys) = Some (y ∷ ys)

-- how many tokens and joints are left
abbrev pub left : Option (List Token) → ℕ
left None = 0
left (Some ts) = length ts + 1

-- what each of them gives, where each gives something
abbrev pub each : {A B : Type 0} → (A → Option B) → List A → Option (List B)
each f [] = Some []
each f (x ∷ xs) = both (f x) (each f xs)

abbrev pub listed_of : List Token → Option Listed
listed_of (token.Value only ∷ []) = Some (listed.Value only)
listed_of (token.Value first ∷ token.Sign sign.To ∷ token.Value last ∷ []) = Some (listed.Range first last)
listed_of _ = None

abbrev pub among_of : List Token → Option (List Listed)
among_of ts = each listed_of (pieces joint.Comma ts)

abbrev pub with_among : Operand → Option ℕ → Bool → Option (List Listed) → Option Relation
with_among o m equal None = None
with_among o m equal (Some among) = Some (record { operand = o; modulus = m; equal = equal; among = among })

abbrev pub compared_of : Operand → Option ℕ → List Token → Option Relation
compared_of o m (token.Sign sign.Equal ∷ ts) = with_among o m true (among_of ts)
compared_of o m (token.Sign sign.Differ ∷ ts) = with_among o m false (among_of ts)
compared_of o m _ = None

abbrev pub relation_of : List Token → Option Relation
relation_of (token.Word (word.Operand o) ∷ token.Sign sign.Percent ∷ token.Value m ∷ ts) = if nat_eq m 0 then None else compared_of o (Some m) ts
relation_of (token.Word (word.Operand o) ∷ ts) = compared_of o None ts
relation_of _ = None

abbrev pub and_condition_of : List Token → Option (List Relation)
and_condition_of ts = each relation_of (pieces joint.And ts)

abbrev pub condition_of : List Token → Option (List (List Relation))
condition_of ts = each and_condition_of (pieces joint.Or ts)

abbrev pub with_condition : Category → Option (List (List Relation)) → Option Rule
with_condition c None = None
with_condition c (Some condition) = Some (record { category = c; condition = condition })

-- no tokens are the condition of `other`
abbrev pub empty_of : List Token → Option (List (List Relation))
empty_of [] = Some []
empty_of (t ∷ ts) = None

abbrev pub rule_of : Category → List Token → Option Rule
rule_of category.Other ts = with_condition category.Other (empty_of ts)
rule_of c ts = with_condition c (condition_of ts)

-- ---- lines

abbrev pub is_samples : Token → Bool
is_samples token.Samples = true
is_samples _ = false

abbrev pub without_samples : List Token → List Token
without_samples [] = []
without_samples (t ∷ []) = if is_samples t then [] else t ∷ []
without_samples (t ∷ u ∷ ts) = t ∷ without_samples (u ∷ ts)

abbrev pub line_of_rule : Option Rule → Option Line
line_of_rule None = None
line_of_rule (Some rule) = Some (line.Gives rule)

abbrev pub meaning_of : List Token → Option Line
meaning_of [] = Some line.Ignored
meaning_of (token.Comment ∷ []) = Some line.Ignored
meaning_of (token.Word (word.Form f) ∷ []) = Some (line.Begins f)
meaning_of (token.Word (word.Category c) ∷ token.Sign sign.Colon ∷ ts) = line_of_rule (rule_of c (without_samples ts))
meaning_of _ = None

abbrev pub IsReadable : List ℕ → Type 0
IsReadable bytes = (l : Line) × IsLine bytes l
