-- The records of a table's file: which one can't be read, and what a record has under a column (docs/formats.md, Templates and string tables). CSV itself is the word `records` of csv.
use Rattle.std.specs.Prelude.{◌+◌, ℕ, List, [], ◌∷◌, length, get_or, codes, nat_eq, bytes_eq, suc, option_map, Bool, ◌&&◌, if◌then◌else◌, Option, Some, None}
use Rattle.std.specs.List.{list_all}
use Rattle.std.specs.Str.{is_utf8}
use Rattle.csv.specs.Reading.{default_config, records, strip_bom}

-- the fields of a record
abbrev pub Fields : Type 0
Fields = List (List ℕ)

-- the records of a file, the header first; one byte order mark is skipped here, and one by csv
abbrev pub records_of : List ℕ → List Fields
records_of bytes = records default_config (strip_bom (strip_bom bytes))

-- as many fields as the header has
abbrev pub width_of : List Fields → ℕ
width_of [] = 0
width_of (header ∷ rest) = length header

-- a record is good where it has as many fields as the header, each of them UTF-8
abbrev pub is_good : ℕ → Fields → Bool
is_good width fields = nat_eq (length fields) width && list_all is_utf8 fields

-- the place of the first record that isn't good, counted from that number
abbrev pub first_bad : ℕ → ℕ → List Fields → Option ℕ
first_bad width at [] = None
first_bad width at (fields ∷ rest) = if is_good width fields then first_bad width (at + 1) rest else Some at

-- the first record that can't be read; the header is record 0
abbrev pub bad_record : List Fields → Option ℕ
bad_record [] = None
bad_record (header ∷ rest) = first_bad (length header) 0 (header ∷ rest)

-- the place of the first field of that name
abbrev pub column : List ℕ → Fields → Option ℕ
column name [] = None
column name (field ∷ rest) = if bytes_eq field name then Some 0 else option_map suc (column name rest)

-- the places of the columns `id` and `text`, where the header has both
abbrev pub both : Option ℕ → Option ℕ → Option (ℕ × ℕ)
both None text = None
both (Some id) None = None
both (Some id) (Some text) = Some (id, text)

abbrev pub columns_of : Fields → Option (ℕ × ℕ)
columns_of header = both (column (codes "id") header) (column (codes "text") header)

-- a row of a table: an id and its text
abbrev pub Row : Type 0
Row = List ℕ × List ℕ

-- the row of a record, by the places of the columns
abbrev pub row_at : ℕ × ℕ → Fields → Row
row_at columns fields = (get_or fields columns.0 [], get_or fields columns.1 [])
