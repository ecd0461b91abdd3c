-- The text that stands in the place of a tag `select`, `plural` or `ordinal` (docs/language.md, Markup).
use Rattle.std.specs.Prelude.{ℕ, ℤ, nat_eq, List, [], ◌∷◌, ◌++◌, Bool, true, false, if◌then◌else◌, Option, Some, None, codes, encode_utf8}
use Rattle.std.specs.Str.{chars}
use Rattle.yarn_value.specs.Operations.{same_text}
use Rattle.yarn_value.specs.Numbers.{signed_number}
use Rattle.yarn_plural.specs.Category.{category_of}
use Rattle.yarn_plural.specs.declared.rule.Category.{Category}
use Rattle.yarn_plural.specs.declared.rule.Category.TheVariants.{Zero, One, Two, Few, Many, Other}
use Rattle.yarn_plural.specs.declared.table.Form.{Form}
use Rattle.yarn_plural.specs.declared.table.PluralTable.{PluralTable}
use Rattle.yarn_markup.specs.declared.marked.Property.{Property}
use Rattle.yarn_markup.specs.declared.tag.Tag.{Tag}

-- ---- what chooses, and from what

-- the value of the first property of that name
abbrev pub named : List ℕ → List Property → Option (List ℕ)
named name [] = None
named name (p ∷ ps) = if same_text p.name name then Some p.value else named name ps

-- the properties but the first of that name
abbrev pub without : List ℕ → List Property → List Property
without name [] = []
without name (p ∷ ps) = if same_text p.name name then ps else p ∷ without name ps

-- the value by which a tag chooses, and the properties from which it chooses
pub record Choice : Type 0 where
  pub value : List ℕ
  pub options : List Property

-- the shorthand, and the properties behind it
abbrev pub by_shorthand : Bool → List Property → Option Choice
by_shorthand false ps = None
by_shorthand true [] = None
by_shorthand true (p ∷ ps) = Some (record { value = p.value; options = ps })

abbrev pub by_value : Tag → Option (List ℕ) → Option Choice
by_value tag None = by_shorthand tag.shorthand tag.properties
by_value tag (Some value) = Some (record { value = value; options = without (codes "value") tag.properties })

-- the first property `value` chooses from all others; where there is none, the shorthand does
abbrev pub choice_of : Tag → Option Choice
choice_of tag = by_value tag (named (codes "value") tag.properties)

-- ---- what is chosen

abbrev pub category_name : Category → List ℕ
category_name Zero = codes "zero"
category_name One = codes "one"
category_name Two = codes "two"
category_name Few = codes "few"
category_name Many = codes "many"
category_name Other = codes "other"

-- what a character stands for, behind a backslash or not: `%` is the value, and behind a backslash itself; any other backslash stays
abbrev pub filled_char : List ℕ → Bool → ℕ → List ℕ
filled_char value false c = if nat_eq c 37 then value else if nat_eq c 92 then [] else encode_utf8 c
filled_char value true c = if nat_eq c 37 then 37 ∷ [] else if nat_eq c 92 then 92 ∷ [] else 92 ∷ encode_utf8 c

abbrev pub filled_end : Bool → List ℕ
filled_end skips = if skips then 92 ∷ [] else []

-- the characters with the value in place of each `%`; the first stands behind a backslash or not
abbrev pub filled : List ℕ → Bool → List ℕ → List ℕ
filled value skips [] = filled_end skips
filled value skips (c ∷ cs) = filled_char value skips c ++ filled value (nat_eq c 92) cs

abbrev pub filled_text : List ℕ → Option (List ℕ) → Option (List ℕ)
filled_text value None = None
filled_text value (Some text) = Some (filled value false (chars text))

-- the text that the value chooses, where it has one
abbrev pub selected : Choice → Option (List ℕ)
selected choice = named choice.value choice.options

-- the same by the category of the number that the value is
abbrev pub counted : PluralTable → Form → Choice → ℤ → Option (List ℕ)
counted plural form choice n = filled_text choice.value (named (category_name (category_of plural form n)) choice.options)
