-- The text of a line with its values put in (docs/formats.md, Templates).
use Rattle.std.specs.Prelude.{ℕ, List, length, Option, Some, None}
use Rattle.yarn_value.specs.declared.value.Value.{Value}
use Rattle.yarn_value.specs.Templates.{Part, template_of, expanded}

-- a text that is no template stands as it is; each text of a line is one
abbrev pub of_parts : Option (List Part) → List ℕ → List Value → List ℕ
of_parts (Some parts) text values = expanded parts values
of_parts None text values = text

unfoldable pub filled : List ℕ → List Value → List ℕ
filled text values = of_parts (template_of text (length values)) text values
