-- Words of private functions: a reader that has read good records so far, and what its next read says.
use Rattle.std.specs.Prelude.{◌≡◌, ℕ, List, [], ◌∷◌, ◌++◌, length, Bool, true, false, Option, Some, None, Result, Ok, Err}
use Rattle.std.specs.List.{list_all}
use Rattle.csv.specs.Reading.{Reached, Ready, default_config, expected_len, is_flexible, reader_config, reader_state, reader_trim, records, source_of}
use Rattle.csv.specs.declared.parser.State.TheVariants as st
use Rattle.csv.specs.declared.reader.Reader.{Reader}
use Rattle.csv.specs.declared.reader.Trim.TheVariants as trim
use Rattle.yarn_table.specs.Steps.{TellsBad}
use Rattle.yarn_table.specs.Records.{Fields, bad_record, is_good, width_of}
use Rattle.yarn_table.specs.declared.fault.TableFault.{TableFault}

abbrev pub width_if : List Fields → Option ℕ
width_if [] = None
width_if (header ∷ rows) = Some (length header)

abbrev pub AllGood : List Fields → Type 0
AllGood rows = list_all (is_good (width_of rows)) rows ≡ true

-- the reader has read these records of the text, all good, and reads on behind them
pub record IsReading {R : Type 0} (rem : R → Option (List ℕ)) (text : List ℕ) (rows : List Fields) (r : Reader R) : Type 0 where
  pub trim : reader_trim r ≡ trim.None
  pub ready : Ready r
  pub config : reader_config r ≡ default_config
  pub strict : is_flexible r ≡ false
  pub width : expected_len r ≡ width_if rows
  pub good : AllGood rows
  pub rest : List ℕ
  pub source : source_of rem r ≡ Some rest
  pub reached : Reached default_config st.StartRecord text rows (reader_state r) rest

-- the next record stands behind those; or they are all; or the fault names the first bad one
abbrev pub ReadsOne : {R : Type 0} → (R → Option (List ℕ)) → List ℕ → List Fields → Reader R → Fields → Result Bool TableFault → Type 0
ReadsOne rem text rows new fields (Ok true) = IsReading rem text (rows ++ (fields ∷ [])) new
ReadsOne rem text rows new fields (Ok false) = (records default_config text ≡ rows) × (bad_record (records default_config text) ≡ None)
ReadsOne rem text rows new fields (Err fault) = TellsBad (bad_record (records default_config text)) fault
