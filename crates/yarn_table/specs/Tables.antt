-- String tables: templates under the ids of a base, and what a file is read as (docs/formats.md, Templates and string tables).
use Rattle.std.specs.Prelude.{◌≡◌, ℕ, List, [], ◌∷◌, ◌++◌, map, bytes_eq, is_some, unwrap_or, option_map, Bool, true, false, ◌&&◌, ◌||◌, if◌then◌else◌, Option, Some, None, Result, Ok, Err, All, ⊤}
use Rattle.yarn_value.specs.Templates.{Form, Part, template_of}
use Rattle.yarn_value.specs.declared.base.BaseLine.{BaseLine}
use Rattle.yarn_table.specs.Records.{Fields, Row, bad_record, columns_of, records_of, row_at}
use Rattle.yarn_table.specs.declared.fault.TableFault.{TableFault}
use Rattle.yarn_table.specs.declared.fault.TableFault.TheVariants.{BadCsv, NoColumn, DuplicateId, MissingId, BadTemplate, Memory}

-- ---- tables

-- ids with their templates, each in its parts and with its number of holes
abbrev pub Table : Type 0
Table = List (List ℕ × Form)

-- what the table has for an id
abbrev pub template_under : Table → List ℕ → Option Form
template_under [] id = None
template_under (entry ∷ table) id = if bytes_eq id entry.0 then Some entry.1 else template_under table id

-- ---- the base

-- whether a base has the id
abbrev pub has_id : List BaseLine → List ℕ → Bool
has_id [] id = false
has_id (line ∷ base) id = bytes_eq id line.id || has_id base id

-- no id stands twice
abbrev pub AreDistinct : List BaseLine → Type 0
AreDistinct [] = ⊤
AreDistinct (line ∷ base) = (has_id base line.id ≡ false) × AreDistinct base

-- the text is a template with the row's holes
abbrev pub IsTemplate : BaseLine → Type 0
IsTemplate line = is_some (template_of line.text line.holes) ≡ true

-- the template of a text, of which it is asked only where the text is one
abbrev pub form_of : List ℕ → ℕ → Form
form_of text holes = record { parts = unwrap_or (template_of text holes) []; holes = holes }

-- a base row's id with the template of a text
abbrev pub entry_of : BaseLine → List ℕ → List ℕ × Form
entry_of line text = (line.id, form_of text line.holes)

-- the table of the base's own texts
abbrev pub from_base : List BaseLine → Table
from_base base = map (λ line. entry_of line line.text) base

-- a table fits a base where it has each of its ids, with as many holes
abbrev pub Fits : Table → List BaseLine → Type 0
Fits table base = All (λ line. option_map (λ form. form.holes) (template_under table line.id) ≡ Some line.holes) base

-- ---- rows of a file, read for a base

-- the text of the first row of that id
abbrev pub text_under : List Row → List ℕ → Option (List ℕ)
text_under [] id = None
text_under (row ∷ rows) id = if bytes_eq id row.0 then Some row.1 else text_under rows id

-- the first id of a row that is one of the base and stood before
abbrev pub repeated : List BaseLine → List Row → List Row → Option (List ℕ)
repeated base before [] = None
repeated base before (row ∷ rows) =
    if has_id base row.0 && is_some (text_under before row.0) then Some row.0
    else repeated base (before ++ row ∷ []) rows

-- the first base id without a row
abbrev pub missing : List Row → List BaseLine → Option (List ℕ)
missing rows [] = None
missing rows (line ∷ base) = if is_some (text_under rows line.id) then missing rows base else Some line.id

-- the text that the rows have for a base row, of which it is asked only where they have one
abbrev pub text_for : List Row → BaseLine → List ℕ
text_for rows line = unwrap_or (text_under rows line.id) []

-- the first base id whose text isn't a template with the base row's holes
abbrev pub refused : List Row → List BaseLine → Option (List ℕ)
refused rows [] = None
refused rows (line ∷ base) = if is_some (template_of (text_for rows line) line.holes) then refused rows base else Some line.id

-- the fault of that id, where there is one; else what else is read
abbrev pub unless : Option (List ℕ) → (List ℕ → TableFault) → Result Table TableFault → Result Table TableFault
unless (Some id) fault reading = Err (fault id)
unless None fault reading = reading

-- each id of the base with the template of its text, or the first fault
abbrev pub rows_reading : List Row → List BaseLine → Result Table TableFault
rows_reading rows base =
    unless (repeated base [] rows) DuplicateId
    (unless (missing rows base) MissingId
    (unless (refused rows base) BadTemplate
    (Ok (map (λ line. entry_of line (text_for rows line)) base))))

-- ---- files

abbrev pub by_columns : Option (ℕ × ℕ) → List Fields → List BaseLine → Result Table TableFault
by_columns None records base = Err NoColumn
by_columns (Some columns) records base = rows_reading (map (row_at columns) records) base

-- a file without a record has no column
abbrev pub under_header : List Fields → List BaseLine → Result Table TableFault
under_header [] base = Err NoColumn
under_header (header ∷ records) base = by_columns (columns_of header) records base

-- a record that can't be read comes before any other fault
abbrev pub unless_bad : Option ℕ → Result Table TableFault → Result Table TableFault
unless_bad (Some at) reading = Err (BadCsv at)
unless_bad None reading = reading

abbrev pub reading_of : List Fields → List BaseLine → Result Table TableFault
reading_of records base = unless_bad (bad_record records) (under_header records base)

-- what a file is read as for a base: a table, or its first fault
abbrev pub table_of : List ℕ → List BaseLine → Result Table TableFault
table_of bytes base = reading_of (records_of bytes) base

-- the fault is that of the reading; want of memory is free
abbrev pub TellsFault : Result Table TableFault → TableFault → Type 0
TellsFault reading (BadCsv at) = reading ≡ Err (BadCsv at)
TellsFault reading NoColumn = reading ≡ Err NoColumn
TellsFault reading (DuplicateId id) = reading ≡ Err (DuplicateId id)
TellsFault reading (MissingId id) = reading ≡ Err (MissingId id)
TellsFault reading (BadTemplate id) = reading ≡ Err (BadTemplate id)
TellsFault reading Memory = ⊤
