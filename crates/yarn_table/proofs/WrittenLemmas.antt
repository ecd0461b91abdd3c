-- What is written of a base is read for it as the table of its own texts.
use Rattle.std.proofs.Common.{◌≡◌, ℕ, List, [], ◌∷◌, ◌++◌, map, Bool, Option, Some, None, true, false, is_some, All, refl, sym, ap, ◌∙◌, append_assoc, append-nil, cond}
use Rattle.std.specs.Prelude.{bytes_eq, decimal, Ok, unwrap_or}
use Rattle.std.specs.List.{list_all}
use Rattle.std.specs.Option.{option_or}
use Rattle.std.specs.Str.{is_utf8, chars}
use lib.Utf8.{encode}
use Rattle.std.proofs.lemmas.List.{map-append}
use Rattle.std.proofs.lemmas.List.Elements.{All-head, All-tail}
use Rattle.csv.specs.Machine.{next_record}
use Rattle.csv.specs.Reading.{Reached, default_config, records, strip_bom}
use Rattle.csv.specs.Records.{AllText}
use Rattle.csv.specs.Writing.{default_writer, fields_text, row_text}
use Rattle.csv.specs.declared.parser.State.TheVariants as st
use Rattle.csv.proofs.RoundTrip.{read-write}
use Rattle.yarn_value.specs.Templates.{template_of}
use Rattle.yarn_value.specs.declared.base.BaseLine.{BaseLine}
use Rattle.yarn_table.specs.Records.{Fields, Row, is_good, records_of, row_at}
use Rattle.yarn_table.specs.Tables.{AreDistinct, IsTemplate, Table, entry_of, from_base, has_id, missing, reading_of, refused, repeated, rows_reading, text_for, text_under, under_header, unless_bad}
use Rattle.yarn_table.specs.Written.{AreTexts, IsReadAgain, Names, WrittenIsRead, fields_of_line, header_fields, line_fields, records_text, table_text}
use Rattle.yarn_table.specs.Reader.{AllGood}
use Rattle.yarn_table.proofs.RecordLemmas.{all_reached}
use Rattle.yarn_table.proofs.GoodLemmas.{no_bad, utf8_text}
use Rattle.yarn_table.proofs.TableLemmas.{or_false, other_id, same_id}
use Rattle.yarn_table.proofs.RowLemmas.{again, again-new, option_or-none, reads_table, repeated_more, text_more}

-- ---- the records of what is written

-- the rows are reached, one record each
reached_rows : (names : Names) (base : List BaseLine) →
    Reached default_config st.StartRecord (records_text (map (fields_of_line names) base)) (map (fields_of_line names) base) st.StartRecord []
unfolding Reached
reached_rows names [] = (refl, refl)
reached_rows names (line ∷ base) =
    let rest = records_text (map (fields_of_line names) base) in
    ((fields_of_line names line, st.StartRecord, rest), read-write (fields_of_line names line) rest, refl, reached_rows names base)

reached_table : (names : Names) (base : List BaseLine) →
    Reached default_config st.StartRecord (table_text names base) (header_fields ∷ map (fields_of_line names) base) st.StartRecord []
unfolding Reached
reached_table names base =
    let rest = records_text (map (fields_of_line names) base) in
    ((header_fields, st.StartRecord, rest), read-write header_fields rest, refl, reached_rows names base)

nothing_left : next_record default_config st.StartRecord [] [] [] ≡ None
unfolding next_record
nothing_left = refl

-- a table begins with no byte order mark, whatever its rows begin with
no_mark : (names : Names) (base : List BaseLine) → strip_bom (table_text names base) ≡ table_text names base
unfolding strip_bom fields_text
no_mark names base = refl

pub table_records : (names : Names) (base : List BaseLine) → records_of (table_text names base) ≡ header_fields ∷ map (fields_of_line names) base
table_records names base =
    ap (λ (t : List ℕ). records default_config (strip_bom t)) (no_mark names base)
    ∙ ap (records default_config) (no_mark names base)
    ∙ all_reached default_config (table_text names base) (header_fields ∷ map (fields_of_line names) base) st.StartRecord [] (reached_table names base) nothing_left

good_rows : (names : Names) (base : List BaseLine) → AreTexts names base → list_all (is_good 5) (map (fields_of_line names) base) ≡ true
good_rows names [] texts = refl
good_rows names (line ∷ base) texts =
    let text = All-head (λ line. AllText (fields_of_line names line)) line base texts in
    let rest = All-tail (λ line. AllText (fields_of_line names line)) line base texts in
    rw (utf8_text (fields_of_line names line) text, good_rows names base rest) refl

good_header : is_good 5 header_fields ≡ true
unfolding is_utf8 chars encode
good_header = refl

-- ---- the rows of a base

picked : (names : Names) (base : List BaseLine) → map (row_at (0, 1)) (map (fields_of_line names) base) ≡ map (λ line. (line.id, line.text)) base
picked names [] = refl
picked names (line ∷ base) = ap (λ (t : List Row). (line.id, line.text) ∷ t) (picked names base)

-- the rows have the text of each of these
abbrev Has : List Row → List BaseLine → Type 0
Has rows [] = Unit {0}
Has rows (line ∷ base) = (text_under rows line.id ≡ Some line.text) × Has rows base

has_behind : (row : Row) (rows : List Row) (base : List BaseLine) → has_id base row.0 ≡ false → Has rows base → Has (row ∷ rows) base
has_behind row rows [] none has = tt
has_behind row rows (line ∷ base) none has =
    let (here, later) = or_false (bytes_eq row.0 line.id) (has_id base row.0) none in
    (rw (other_id row.0 line.id here) (has.0), has_behind row rows base later has.1)

has_own : (base : List BaseLine) → AreDistinct base → Has (map (λ line. (line.id, line.text)) base) base
has_own [] distinct = tt
has_own (line ∷ base) distinct =
    let rows = map (λ line. (line.id, line.text)) base in
    (rw (same_id line.id) refl, has_behind (line.id, line.text) rows base distinct.0 (has_own base distinct.1))

none_missing : (rows : List Row) (base : List BaseLine) → Has rows base → missing rows base ≡ None
none_missing rows [] has = refl
none_missing rows (line ∷ base) has = rw (has.0) (none_missing rows base has.1)

none_refused : (rows : List Row) (base : List BaseLine) → Has rows base → All IsTemplate base → refused rows base ≡ None
none_refused rows [] has all = refl
none_refused rows (line ∷ base) has all = rw (has.0, All-head IsTemplate line base all) (none_refused rows base has.1 (All-tail IsTemplate line base all))

own_texts : (rows : List Row) (base : List BaseLine) → Has rows base → map (λ line. entry_of line (text_for rows line)) base ≡ from_base base
own_texts rows [] has = refl
own_texts rows (line ∷ base) has =
    ap (λ text. entry_of line (unwrap_or text []) ∷ map (λ line. entry_of line (text_for rows line)) base) has.0 ∙ ap (λ (t : Table). entry_of line line.text ∷ t) (own_texts rows base has.1)

-- none of these stands among the rows before
abbrev Fresh : List Row → List BaseLine → Type 0
Fresh before [] = Unit {0}
Fresh before (line ∷ base) = (text_under before line.id ≡ None) × Fresh before base

fresh_more : (before : List Row) (row : Row) (base : List BaseLine) → has_id base row.0 ≡ false → Fresh before base → Fresh (before ++ row ∷ []) base
fresh_more before row [] none fresh = tt
fresh_more before row (line ∷ base) none fresh =
    let (here, later) = or_false (bytes_eq row.0 line.id) (has_id base row.0) none in
    (text_more before row line.id ∙ rw (fresh.0, other_id row.0 line.id here) refl, fresh_more before row base later fresh.1)

fresh_first : (base : List BaseLine) → Fresh [] base
fresh_first [] = tt
fresh_first (line ∷ base) = (refl, fresh_first base)

none_repeated : (base : List BaseLine) (before : List Row) (rest : List BaseLine) → AreDistinct rest → Fresh before rest → repeated base before (map (λ line. (line.id, line.text)) rest) ≡ None
none_repeated base before [] distinct fresh = refl
none_repeated base before (line ∷ rest) distinct fresh =
    let row : Row = (line.id, line.text) in
    let more = none_repeated base (before ++ row ∷ []) rest distinct.1 (fresh_more before row rest distinct.0 fresh.1) in
    by (has_id base line.id) refl more
  where
    by : (b : Bool) → has_id base line.id ≡ b → repeated base (before ++ (line.id, line.text) ∷ []) (map (λ line. (line.id, line.text)) rest) ≡ None →
        repeated base before (map (λ line. (line.id, line.text)) (line ∷ rest)) ≡ None
    by true e more = rw (e, fresh.0) more
    by false e more = rw e more

own_reading : (base : List BaseLine) → AreDistinct base → All IsTemplate base → rows_reading (map (λ line. (line.id, line.text)) base) base ≡ Ok (from_base base)
own_reading base distinct all =
    let rows = map (λ line. (line.id, line.text)) base in
    let has = has_own base distinct in
    reads_table rows base (none_repeated base [] base distinct (fresh_first base)) (none_missing rows base has) (none_refused rows base has all)
    ∙ ap Ok (own_texts rows base has)

pub written_is_read : WrittenIsRead
written_is_read names base texts distinct all =
    let fields = header_fields ∷ map (fields_of_line names) base in
    let good : AllGood fields = rw (good_header, good_rows names base texts) refl in
    let none = no_bad fields good in
    ap (λ records. reading_of records base) (table_records names base)
    ∙ ap (λ (o : Option ℕ). unless_bad o (under_header fields base)) none
    ∙ ap (λ rows. rows_reading rows base) (picked names base)
    ∙ own_reading base distinct all

-- ---- one more row

records_text-append : (xs ys : List Fields) → records_text (xs ++ ys) ≡ records_text xs ++ records_text ys
records_text-append [] ys = refl
records_text-append (x ∷ xs) ys = rw (records_text-append xs ys) (sym (append_assoc (row_text default_writer x) (records_text xs) (records_text ys)))

pub text_longer : (names : Names) (base : List BaseLine) (line : BaseLine) → table_text names (base ++ line ∷ []) ≡ table_text names base ++ row_text default_writer (fields_of_line names line)
text_longer names base line =
    ap (λ (t : List Fields). records_text (header_fields ∷ t)) (map-append (fields_of_line names) base (line ∷ []))
    ∙ records_text-append (header_fields ∷ map (fields_of_line names) base) (fields_of_line names line ∷ [])
    ∙ ap (λ (t : List ℕ). table_text names base ++ t) (append-nil (row_text default_writer (fields_of_line names line)))
