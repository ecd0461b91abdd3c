-- Words of private functions: the fault of an error of csv, and a writer between records.
use Rattle.std.specs.Prelude.{◌≡◌, ℕ, List, false, Option, Some, ⊤}
use Rattle.csv.specs.declared.error.ErrorKind.{ErrorKind}
use Rattle.csv.specs.declared.error.ErrorKind.TheVariants as kind
use Rattle.csv.specs.Writing.{default_writer, fields_written, has_written, text_written, writer_setup}
use Rattle.csv.specs.declared.writer.Writer.{Writer}
use Rattle.yarn_table.specs.declared.fault.TableFault.{TableFault}
use Rattle.yarn_table.specs.declared.fault.TableFault.TheVariants.{BadCsv, NoColumn, DuplicateId, MissingId, BadTemplate, Memory}

-- an error of csv at a record, as a fault
abbrev pub fault_of : ℕ → ErrorKind → TableFault
fault_of at (kind.UnequalLengths pos expected len) = BadCsv at
fault_of at (kind.Utf8 pos err) = BadCsv at
fault_of at (kind.Io e) = Memory
fault_of at kind.OutOfMemory = Memory
fault_of at (kind.Serialize text) = Memory
fault_of at (kind.Deserialize pos err) = Memory

-- the fault names the bad record
abbrev pub TellsBad : Option ℕ → TableFault → Type 0
TellsBad bad (BadCsv at) = bad ≡ Some at
TellsBad bad NoColumn = ⊥
TellsBad bad (DuplicateId id) = ⊥
TellsBad bad (MissingId id) = ⊥
TellsBad bad (BadTemplate id) = ⊥
TellsBad bad Memory = ⊤

-- the writer stands between records, with the default settings, behind these bytes
abbrev pub Stands : {W : Type 0} → (W → Option (List ℕ)) → Writer W → List ℕ → Type 0
Stands contents w bytes = (writer_setup w ≡ default_writer) × (fields_written w ≡ 0) × (has_written w ≡ false) × (text_written contents w ≡ Some bytes)
