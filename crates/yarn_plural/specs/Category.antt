-- The category of a whole number under a table of plural rules (docs/formats.md, Plural rules).
use Rattle.std.specs.Prelude.{ℕ, ℤ, ◌%◌, List, [], ◌∷◌, Bool, true, false, not, ◌&&◌, if◌then◌else◌, nat_eq, nat_le, unsigned_abs, Option, Some, None}
use Rattle.std.specs.List.{list_all, list_any}
use Rattle.yarn_plural.specs.declared.rule.Category.{Category}
use Rattle.yarn_plural.specs.declared.rule.Category.TheVariants.{Other}
use Rattle.yarn_plural.specs.declared.rule.Operand.{Operand}
use Rattle.yarn_plural.specs.declared.rule.Operand.TheVariants.{N, I, V, W, F, T, C, E}
use Rattle.yarn_plural.specs.declared.rule.Listed.{Listed}
use Rattle.yarn_plural.specs.declared.rule.Listed.TheVariants.{Value, Range}
use Rattle.yarn_plural.specs.declared.rule.Relation.{Relation}
use Rattle.yarn_plural.specs.declared.rule.Rule.{Rule}
use Rattle.yarn_plural.specs.declared.table.Form.{Form}
use Rattle.yarn_plural.specs.declared.table.Form.TheVariants.{Cardinal, Ordinal}
use Rattle.yarn_plural.specs.declared.table.PluralTable.{PluralTable}

-- an operand of the whole number with this absolute value
abbrev pub operand_of : Operand → ℕ → ℕ
operand_of N absolute = absolute
operand_of I absolute = absolute
operand_of V absolute = 0
operand_of W absolute = 0
operand_of F absolute = 0
operand_of T absolute = 0
operand_of C absolute = 0
operand_of E absolute = 0

-- the remainder, where there is a modulus
abbrev pub reduced : Option ℕ → ℕ → ℕ
reduced None value = value
reduced (Some modulus) value = if nat_eq modulus 0 then value else value % modulus

abbrev pub is_listed : ℕ → Listed → Bool
is_listed value (Value only) = nat_eq value only
is_listed value (Range first last) = nat_le first value && nat_le value last

-- `=` holds where one of the list does, `!=` where none does
abbrev pub compares : Bool → Bool → Bool
compares true found = found
compares false found = not found

-- a relation, and-condition or condition holds of the whole number with this absolute value
abbrev pub holds_relation : ℕ → Relation → Bool
holds_relation absolute r = compares r.equal (list_any (is_listed (reduced r.modulus (operand_of r.operand absolute))) r.among)

abbrev pub holds_together : ℕ → List Relation → Bool
holds_together absolute relations = list_all (holds_relation absolute) relations

abbrev pub holds_condition : ℕ → List (List Relation) → Bool
holds_condition absolute condition = list_any (holds_together absolute) condition

-- the category of the first rule that holds, and `other` where none does
abbrev pub first_category : ℕ → List Rule → Category
first_category absolute [] = Other
first_category absolute (rule ∷ rules) = if holds_condition absolute rule.condition then rule.category else first_category absolute rules

abbrev pub rules_of : PluralTable → Form → List Rule
rules_of table Cardinal = table.cardinal
rules_of table Ordinal = table.ordinal

-- the category of a whole number under a form of a table
abbrev pub category_of : PluralTable → Form → ℤ → Category
category_of table form n = first_category (unsigned_abs n) (rules_of table form)
