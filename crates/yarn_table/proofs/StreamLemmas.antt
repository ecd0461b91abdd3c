-- A table that is read record by record.
use Rattle.std.proofs.Common.{◌≡◌, ◌+◌, ℕ, List, [], ◌∷◌, ◌++◌, length, map, Option, Some, None, Bool, true, false, refl, sym, ap, ◌∙◌, subst}
use Rattle.std.specs.Prelude.{Result, Ok, Err, IfOk, IfErr}
use Rattle.std.proofs.lemmas.List.{map-append, length-append}
use Rattle.csv.specs.Reading.{default_config, records}
use Rattle.csv.specs.declared.reader.Reader.{Reader}
use Rattle.yarn_value.specs.declared.base.BaseLine.{BaseLine}
use Rattle.yarn_table.specs.Records.{Fields, Row, bad_record, columns_of, row_at}
use Rattle.yarn_table.specs.Tables.{AreDistinct, Fits, Table, TellsFault, by_columns, reading_of, rows_reading, under_header, unless_bad}
use Rattle.yarn_table.specs.Steps.{TellsBad}
use Rattle.yarn_table.specs.Reader.{IsReading, ReadsOne}
use Rattle.yarn_table.specs.Gathering.{IsGathered, TellsGathered, TellsUnder, rows_by}
use Rattle.yarn_table.specs.declared.gathered.Gathered.{Gathered}
use Rattle.yarn_table.specs.declared.fault.TableFault.{TableFault}
use Rattle.yarn_table.specs.declared.fault.TableFault.TheVariants.{BadCsv, NoColumn, DuplicateId, MissingId, BadTemplate, Memory}

-- the header and some records were read, and the rows of these were taken
pub record IsStreaming {R : Type 0} (rem : R → Option (List ℕ)) (text : List ℕ) (r : Reader R) (at : ℕ) (columns : Option (ℕ × ℕ)) (base : List BaseLine) (found : Gathered) : Type 0 where
  pub header : Fields
  pub rows : List Fields
  pub reading : IsReading rem text (header ∷ rows) r
  pub count : length (header ∷ rows) ≡ at
  pub columns_are : columns ≡ columns_of header
  pub gathered : IsGathered base (rows_by columns rows) found

no_rows : (c : Option (ℕ × ℕ)) → [] ≡ rows_by c []
no_rows None = refl
no_rows (Some columns) = refl

pub stream_start : {R : Type 0} (rem : R → Option (List ℕ)) (text : List ℕ) (r : Reader R) (header : Fields) (columns : Option (ℕ × ℕ)) (base : List BaseLine) (found : Gathered)
    → IsReading rem text (header ∷ []) r → columns ≡ columns_of header → IsGathered base [] found → IsStreaming rem text r 1 columns base found
stream_start rem text r header columns base found i is none =
    record { header = header; rows = []; reading = i; count = refl; columns_are = is; gathered = subst (λ (rows : List Row). IsGathered base rows found) (no_rows columns) none }

rows_by-append : (c : Option (ℕ × ℕ)) (xs ys : List Fields) → rows_by c (xs ++ ys) ≡ rows_by c xs ++ rows_by c ys
rows_by-append None xs ys = refl
rows_by-append (Some columns) xs ys = map-append (row_at columns) xs ys

pub stream_more : {R : Type 0} (rem : R → Option (List ℕ)) (text : List ℕ) (a b : Reader R) (at : ℕ) (columns : Option (ℕ × ℕ)) (base : List BaseLine) (old new : Gathered) (f : Fields)
    → (s : IsStreaming rem text a at columns base old) → ReadsOne rem text (s.header ∷ s.rows) b f (Ok true)
    → ((base : List BaseLine) (rows : List Row) → IsGathered base rows old → IsGathered base (rows ++ rows_by columns (f ∷ [])) new)
    → IsStreaming rem text b (at + 1) columns base new
stream_more rem text a b at columns base old new f s one more =
    record {
      header = s.header;
      rows = s.rows ++ (f ∷ []);
      reading = one;
      count = length-append (s.header ∷ s.rows) (f ∷ []) ∙ ap (λ (n : ℕ). n + 1) s.count;
      columns_are = s.columns_are;
      gathered = subst (λ (rows : List Row). IsGathered base rows new) (sym (rows_by-append columns s.rows (f ∷ []))) (more base (rows_by columns s.rows) s.gathered);
    }

whole : (all : List Fields) (header : Fields) (rows : List Fields) (base : List BaseLine) → all ≡ header ∷ rows → bad_record all ≡ None → reading_of all base ≡ by_columns (columns_of header) rows base
whole all header rows base is good = ap (λ (o : Option ℕ). unless_bad o (under_header all base)) good ∙ ap (λ (fields : List Fields). under_header fields base) is

pub stream_bad : (all : List Fields) (base : List BaseLine) (fault : TableFault) → TellsBad (bad_record all) fault → TellsFault (reading_of all base) fault
stream_bad all base (BadCsv at) t = ap (λ (o : Option ℕ). unless_bad o (under_header all base)) t
stream_bad all base NoColumn t = absurd t
stream_bad all base (DuplicateId id) t = absurd t
stream_bad all base (MissingId id) t = absurd t
stream_bad all base (BadTemplate id) t = absurd t
stream_bad all base Memory t = tt

pub stream_empty : (all : List Fields) (base : List BaseLine) → all ≡ [] → reading_of all base ≡ Err NoColumn
stream_empty all base e = ap (λ (fields : List Fields). reading_of fields base) e

-- what a read said, where the answer is known by a test
pub read_as : {R : Type 0} (rem : R → Option (List ℕ)) (text : List ℕ) (rows : List Fields) (b : Reader R) (f : Fields) (found is : Bool)
    → found ≡ is → ReadsOne rem text rows b f (Ok found) → ReadsOne rem text rows b f (Ok is)
read_as rem text rows b f found is e r = rw e at r

-- what is told of the columns and the rows behind the last record
tells : (columns : Option (ℕ × ℕ)) (rows : List Fields) (base : List BaseLine) (found : Gathered) (result : Result Table TableFault)
    → TellsUnder columns found result → IsGathered base (rows_by columns rows) found
    → IfOk result (λ table. by_columns columns rows base ≡ Ok table) × IfErr result (λ fault. TellsFault (by_columns columns rows base) fault)
tells None rows base found result told is = rw told (tt, refl)
tells (Some columns) rows base found (Ok table) told is = (told base (map (row_at columns) rows) is, tt)
tells (Some columns) rows base found (Err fault) told is = (tt, told base (map (row_at columns) rows) is)

pub stream_end : {R : Type 0} (rem : R → Option (List ℕ)) (text : List ℕ) (a b : Reader R) (at : ℕ) (columns : Option (ℕ × ℕ)) (base : List BaseLine) (found : Gathered) (f : Fields) (result : Result Table TableFault)
    → TellsUnder columns found result → (s : IsStreaming rem text a at columns base found) → ReadsOne rem text (s.header ∷ s.rows) b f (Ok false)
    → IfOk result (λ table. reading_of (records default_config text) base ≡ Ok table) × IfErr result (λ fault. TellsFault (reading_of (records default_config text) base) fault)
stream_end rem text a b at columns base found f result told s one =
    let is : by_columns columns s.rows base ≡ reading_of (records default_config text) base =
    ap (λ (c : Option (ℕ × ℕ)). by_columns c s.rows base) s.columns_are ∙ sym (whole (records default_config text) s.header s.rows base one.0 one.1) in
    subst (λ (reading : Result Table TableFault). IfOk result (λ table. reading ≡ Ok table) × IfErr result (λ fault. TellsFault reading fault)) is
    (tells columns s.rows base found result told s.gathered)

-- a table that was read fits its base
pub stream_fits : (reading : Result Table TableFault) (base : List BaseLine) (result : Result Table TableFault)
    → ((table : Table) → reading ≡ Ok table → Fits table base) → IfOk result (λ table. reading ≡ Ok table) → IfOk result (λ table. Fits table base)
stream_fits reading base (Ok table) fits is = fits table is
stream_fits reading base (Err fault) fits is = tt
