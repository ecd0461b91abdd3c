-- Laws of tables and of their records, in the words of places and of csv's `next_record` (docs/formats.md, Templates and string tables).
use Rattle.std.specs.Prelude.{◌≡◌, ◌<◌, ◌↔◌, ℕ, List, [], length, get_or, Some, Ok, true, false}
use Rattle.csv.specs.Reading.{AreRecords, default_config, records}
use Rattle.csv.specs.declared.parser.State.TheVariants as st
use Rattle.yarn_value.specs.declared.base.BaseLine.{BaseLine}
use Rattle.yarn_table.specs.Records.{Fields, bad_record, is_good, width_of}
use Rattle.yarn_table.specs.Tables.{AreDistinct, Fits, Table, from_base, table_of}

-- the record at that place isn't good, and all before are
abbrev pub IsFirstBad : List Fields → ℕ → Type 0
IsFirstBad records at =
    (at < length records) × (is_good (width_of records) (get_or records at []) ≡ false) × ((k : ℕ) → k < at → is_good (width_of records) (get_or records k []) ≡ true)

abbrev pub BadIsFirst : Type 0
BadIsFirst = (records : List Fields) (at : ℕ) → (bad_record records ≡ Some at) ↔ IsFirstBad records at

-- `records` gives what `next_record` gives one after the other, to the end
abbrev pub RecordsAreAll : Type 0
RecordsAreAll = (text : List ℕ) (rows : List Fields) → (records default_config text ≡ rows) ↔ AreRecords default_config st.StartRecord text rows

-- the table of a base and each table that a file is read as fit the base
abbrev pub TablesFit : Type 0
TablesFit = (base : List BaseLine) → AreDistinct base → Fits (from_base base) base × ((bytes : List ℕ) (table : Table) → table_of bytes base ≡ Ok table → Fits table base)
