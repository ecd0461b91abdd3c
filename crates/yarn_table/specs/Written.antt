-- What is written of a base, and that it is read again (docs/formats.md, Templates and string tables).
use Rattle.std.specs.Prelude.{◌≡◌, ◌<◌, ℕ, List, [], ◌∷◌, ◌++◌, length, map, get_or, codes, decimal, All, Ok}
use Rattle.csv.specs.Records.{AllText}
use Rattle.csv.specs.Writing.{default_writer, row_text}
use Rattle.yarn_value.specs.declared.base.BaseLine.{BaseLine}
use Rattle.yarn_table.specs.Records.{Fields}
use Rattle.yarn_table.specs.Tables.{AreDistinct, IsTemplate, from_base, table_of}

-- the files' names and the nodes' titles
abbrev pub Names : Type 0
Names = List (List ℕ) × List (List ℕ)

-- the row's file and its node are among those
abbrev pub IsWithin : Names → BaseLine → Type 0
IsWithin names line = (line.file < length names.0) × (line.node < length names.1)

abbrev pub header_fields : Fields
header_fields = codes "id" ∷ codes "text" ∷ codes "file" ∷ codes "node" ∷ codes "lineNumber" ∷ []

-- the row's id and its text, the file's name, the node's title and the row's line
abbrev pub line_fields : List ℕ → List ℕ → BaseLine → Fields
line_fields file node line = line.id ∷ line.text ∷ file ∷ node ∷ decimal line.line ∷ []

abbrev pub fields_of_line : Names → BaseLine → Fields
fields_of_line names line = line_fields (get_or names.0 line.file []) (get_or names.1 line.node []) line

-- each record as csv's writer writes it with its default settings
abbrev pub records_text : List Fields → List ℕ
records_text [] = []
records_text (fields ∷ rest) = row_text default_writer fields ++ records_text rest

-- the header, and one record for each row
abbrev pub table_text : Names → List BaseLine → List ℕ
table_text names base = records_text (header_fields ∷ map (fields_of_line names) base)

-- the fields of each row are UTF-8
abbrev pub AreTexts : Names → List BaseLine → Type 0
AreTexts names base = All (λ line. AllText (fields_of_line names line)) base

-- what is written of a base is read for it as the table of its own texts
abbrev pub IsReadAgain : List ℕ → List BaseLine → Type 0
IsReadAgain bytes base = AreDistinct base → All IsTemplate base → table_of bytes base ≡ Ok (from_base base)

abbrev pub WrittenIsRead : Type 0
WrittenIsRead = (names : Names) (base : List BaseLine) → AreTexts names base → IsReadAgain (table_text names base) base
