-- Words of private functions that read a file.
use Rattle.std.specs.Prelude.{◌≡◌, ℕ, [], ◌∷◌, ◌++◌, Bool, true, false, if◌then◌else◌, Option, Some, None}
use Rattle.yarn_plural.specs.declared.rule.Rule.{Rule}
use Rattle.yarn_plural.specs.declared.table.Form.{Form}
use Rattle.yarn_plural.specs.declared.table.Form.TheVariants.{Cardinal, Ordinal}
use Rattle.yarn_plural.specs.declared.table.PluralTable.{PluralTable}
use Rattle.yarn_plural.specs.declared.line.Line.{Line}
use Rattle.yarn_plural.specs.declared.line.Line.TheVariants.{Ignored, Begins, Gives}
use Rattle.yarn_plural.specs.declared.read.Reader.{Reader}
use Rattle.yarn_plural.specs.Category.{rules_of}
use Rattle.yarn_plural.specs.Reading.{has_category}

-- the rule stands last in its form
abbrev pub with_rule : PluralTable → Form → Rule → PluralTable
with_rule table Cardinal rule = record { cardinal = table.cardinal ++ rule ∷ []; ordinal = table.ordinal }
with_rule table Ordinal rule = record { cardinal = table.cardinal; ordinal = table.ordinal ++ rule ∷ [] }

-- the first line that repeats a category
abbrev pub first_repeated : Option ℕ → Bool → ℕ → Option ℕ
first_repeated (Some at) repeated number = Some at
first_repeated None repeated number = if repeated then Some number else None

abbrev pub after_rule : Reader → Form → Rule → ℕ → Reader
after_rule reader form rule number = record {
  table = with_rule reader.table form rule;
  form = reader.form;
  repeated = first_repeated reader.repeated (has_category rule.category (rules_of reader.table form)) number;
}

abbrev pub after_rule_in : Reader → Option Form → Rule → ℕ → Option Reader
after_rule_in reader None rule number = None
after_rule_in reader (Some form) rule number = Some (after_rule reader form rule number)

-- the reader behind a line with this number, where the line may stand there
abbrev pub after_line : Reader → Line → ℕ → Option Reader
after_line reader Ignored number = Some reader
after_line reader (Begins form) number = Some (record { table = reader.table; form = Some form; repeated = reader.repeated })
after_line reader (Gives rule) number = after_rule_in reader reader.form rule number

abbrev pub Adds : Reader → Line → ℕ → Reader → Bool → Type 0
Adds old l number new true = after_line old l number ≡ Some new
Adds old l number new false = after_line old l number ≡ None
