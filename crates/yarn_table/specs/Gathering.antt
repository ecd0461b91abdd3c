-- Words of private functions: what is known of the base's texts behind the rows so far.
use Rattle.std.specs.Prelude.{◌≡◌, ℕ, List, [], ◌∷◌, map, Option, Some, None, Result, Ok, Err}
use Rattle.yarn_value.specs.Templates.{Form, Part, template_of}
use Rattle.yarn_value.specs.declared.base.BaseLine.{BaseLine}
use Rattle.yarn_table.specs.Records.{Fields, Row, row_at}
use Rattle.yarn_table.specs.Tables.{AreDistinct, Table, TellsFault, repeated, rows_reading, text_under}
use Rattle.yarn_table.specs.declared.fault.TableFault.{TableFault}
use Rattle.yarn_table.specs.declared.fault.TableFault.TheVariants.{NoColumn}
use Rattle.yarn_table.specs.declared.gathered.Gathered.{Gathered}
use Rattle.yarn_table.specs.declared.gathered.Held.{Held}
use Rattle.yarn_table.specs.declared.gathered.Held.TheVariants.{Missing, Refused, Read}

abbrev pub judged : ℕ → Option (List Part) → Held
judged holes None = Refused
judged holes (Some parts) = Read (record { parts = parts; holes = holes })

-- what is held of a base row's text, which so many holes may use
abbrev pub held_of : ℕ → Option (List ℕ) → Held
held_of holes None = Missing holes
held_of holes (Some text) = judged holes (template_of text holes)

abbrev pub held_for : List Row → BaseLine → Held
held_for rows line = held_of line.holes (text_under rows line.id)

-- the holes of a text that no row has yet
abbrev pub wanted_of : Option Held → Option ℕ
wanted_of None = None
wanted_of (Some (Missing holes)) = Some holes
wanted_of (Some Refused) = None
wanted_of (Some (Read form)) = None

-- these rows were taken for the base
pub record IsGathered (base : List BaseLine) (rows : List Row) (found : Gathered) : Type 0 where
  pub distinct : AreDistinct base
  pub ids : found.ids.keys ≡ map (λ line. line.id) base
  pub held : found.held.items ≡ map (held_for rows) base
  pub repeated : found.repeated ≡ repeated base [] rows

-- the rows of records; none where a column isn't there
abbrev pub rows_by : Option (ℕ × ℕ) → List Fields → List Row
rows_by None records = []
rows_by (Some columns) records = map (row_at columns) records

-- the first of these ids that no row had
abbrev pub missing_among : List (List ℕ) → List Held → Option (List ℕ)
missing_among [] held = None
missing_among (id ∷ ids) [] = None
missing_among (id ∷ ids) (Missing holes ∷ held) = Some id
missing_among (id ∷ ids) (Refused ∷ held) = missing_among ids held
missing_among (id ∷ ids) (Read form ∷ held) = missing_among ids held

-- the first of these ids whose text is no template
abbrev pub refused_among : List (List ℕ) → List Held → Option (List ℕ)
refused_among [] held = None
refused_among (id ∷ ids) [] = None
refused_among (id ∷ ids) (Missing holes ∷ held) = refused_among ids held
refused_among (id ∷ ids) (Refused ∷ held) = Some id
refused_among (id ∷ ids) (Read form ∷ held) = refused_among ids held

-- the templates that are held
abbrev pub read_among : List Held → List Form
read_among [] = []
read_among (Missing holes ∷ held) = read_among held
read_among (Refused ∷ held) = read_among held
read_among (Read form ∷ held) = form ∷ read_among held

-- what is answered of what was gathered under these columns
abbrev pub TellsGathered : Gathered → Result Table TableFault → Type 0
TellsGathered found (Ok table) = (base : List BaseLine) (rows : List Row) → IsGathered base rows found → rows_reading rows base ≡ Ok table
TellsGathered found (Err fault) = (base : List BaseLine) (rows : List Row) → IsGathered base rows found → TellsFault (rows_reading rows base) fault

abbrev pub TellsUnder : Option (ℕ × ℕ) → Gathered → Result Table TableFault → Type 0
TellsUnder None found result = result ≡ Err NoColumn
TellsUnder (Some columns) found result = TellsGathered found result
