-- The lines that tell the attributes of a text (docs/language.md, The transcript).
use Rattle.std.specs.Prelude.{List, ℕ, [], ◌∷◌, ◌++◌, codes}
use Rattle.std.specs.Fmt.{decimal}
use Rattle.yarn_value.specs.Quoting.{quoted}
use Rattle.yarn_markup.specs.declared.marked.Attribute.{Attribute}
use Rattle.yarn_markup.specs.declared.marked.Property.{Property}

-- a line, with its LF
abbrev pub ended : List ℕ → List ℕ
ended text = text ++ 10 ∷ []

-- a space, the name, `=` and the value as a quoted string
abbrev pub property_text : Property → List ℕ
property_text property = codes " " ++ (property.name ++ (codes "=" ++ quoted property.value))

abbrev pub properties_text : List Property → List ℕ
properties_text [] = []
properties_text (p ∷ rest) = property_text p ++ properties_text rest

-- `@name start length`
abbrev pub place_text : Attribute → List ℕ
place_text attribute = codes "@" ++ (attribute.name ++ (codes " " ++ (decimal attribute.start ++ (codes " " ++ decimal attribute.length))))

-- one line for each attribute, in their order
abbrev pub attribute_lines : List Attribute → List ℕ
attribute_lines [] = []
attribute_lines (a ∷ rest) = ended (place_text a ++ properties_text a.properties) ++ attribute_lines rest
