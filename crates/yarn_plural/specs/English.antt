-- The default table of plural rules (docs/formats.md, Plural rules).
use Rattle.std.specs.Prelude.{ℕ, List, [], ◌∷◌, ◌++◌, Bool, true, false, Option, Some, None, Ok, codes}
use Rattle.yarn_plural.specs.declared.rule.Category.{Category}
use Rattle.yarn_plural.specs.declared.rule.Category.TheVariants.{One, Two, Few, Other}
use Rattle.yarn_plural.specs.declared.rule.Operand.{Operand}
use Rattle.yarn_plural.specs.declared.rule.Operand.TheVariants.{N, I, V}
use Rattle.yarn_plural.specs.declared.rule.Listed.TheVariants.{Value}
use Rattle.yarn_plural.specs.declared.rule.Relation.{Relation}
use Rattle.yarn_plural.specs.declared.rule.Rule.{Rule}
use Rattle.yarn_plural.specs.declared.table.PluralTable.{PluralTable}
use Rattle.yarn_plural.specs.Reading.{ReadsPlural}

-- a relation with one value
abbrev pub relation : Operand → Option ℕ → Bool → ℕ → Relation
relation operand modulus equal value = record { operand = operand; modulus = modulus; equal = equal; among = Value value ∷ [] }

-- a rule of one and-condition of two relations
abbrev pub rule_of_both : Category → Relation → Relation → Rule
rule_of_both category first second = record { category = category; condition = (first ∷ second ∷ []) ∷ [] }

-- `n % 10 = last and n % 100 != but`
abbrev pub rule_of_end : Category → ℕ → ℕ → Rule
rule_of_end category last but = rule_of_both category (relation N (Some 10) true last) (relation N (Some 100) false but)

abbrev pub rule_of_others : Rule
rule_of_others = record { category = Other; condition = [] }

abbrev pub english_table : PluralTable
english_table = record {
  cardinal = rule_of_both One (relation I None true 1) (relation V None true 0) ∷ rule_of_others ∷ [];
  ordinal = rule_of_end One 1 11 ∷ rule_of_end Two 2 12 ∷ rule_of_end Few 3 13 ∷ rule_of_others ∷ [];
}

-- the text of the default table
abbrev pub english_text : List ℕ
english_text =
    codes "cardinal\n"
    ++ codes "one: i = 1 and v = 0\n"
    ++ codes "other:\n"
    ++ codes "ordinal\n"
    ++ codes "one: n % 10 = 1 and n % 100 != 11\n"
    ++ codes "two: n % 10 = 2 and n % 100 != 12\n"
    ++ codes "few: n % 10 = 3 and n % 100 != 13\n"
    ++ codes "other:\n"

-- it is read as the default table
abbrev pub EnglishIsWritten : Type 0
EnglishIsWritten = ReadsPlural english_text (Ok english_table)
