-- What the rows of a file come to for a base: one more row, and the table or the fault behind all.
use Rattle.std.proofs.Common.{◌≡◌, ℕ, zero, suc, List, [], ◌∷◌, ◌++◌, map, Bool, true, false, cond, ◌&&◌, ◌||◌, Option, Some, None, is_some, refl, sym, ap, ◌∙◌, subst, append_assoc, append-nil}
use Rattle.std.specs.Prelude.{bytes_eq, slice_get, unwrap_or, Result, Ok, Err}
use Rattle.std.specs.Option.{option_or}
use Rattle.std.proofs.Math.ListN.{set}
use Rattle.std.proofs.lemmas.Slice.Eq.{bytes_eq-Decides}
use Rattle.yarn_value.specs.Templates.{Form, Part, template_of}
use Rattle.yarn_value.specs.declared.base.BaseLine.{BaseLine}
use Rattle.yarn_table.specs.Records.{Fields, Row, bad_record, columns_of, records_of, row_at}
use Rattle.yarn_table.specs.Tables.{AreDistinct, Fits, Table, by_columns, entry_of, form_of, from_base, has_id, missing, reading_of, refused, repeated, rows_reading, table_of, text_for, text_under, under_header, unless, unless_bad}
use Rattle.yarn_table.specs.Laws.{TablesFit}
use Rattle.yarn_table.specs.Gathering.{held_for, held_of, judged, missing_among, read_among, refused_among, wanted_of}
use Rattle.yarn_table.specs.declared.gathered.Held.{Held}
use Rattle.yarn_table.specs.declared.gathered.Held.TheVariants.{Missing, Refused, Read}
use Rattle.yarn_table.specs.declared.fault.TableFault.{TableFault}
use Rattle.yarn_table.specs.declared.fault.TableFault.TheVariants.{NoColumn, DuplicateId, MissingId, BadTemplate}
use Rattle.yarn_table.proofs.TableLemmas.{Stands, fits, or_false, other_id, present, same_id}

-- ---- one more row

pub option_or-none : {A : Type 0} (o : Option A) → option_or o None ≡ o
option_or-none None = refl
option_or-none (Some a) = refl

-- the text of a row, where it has that id
abbrev text_if : Row → List ℕ → Option (List ℕ)
text_if row id = cond (bytes_eq id row.0) (Some row.1) None

pub text_more : (rows : List Row) (row : Row) (id : List ℕ) → text_under (rows ++ row ∷ []) id ≡ option_or (text_under rows id) (text_if row id)
text_more [] row id = refl
text_more (r ∷ rows) row id = by (bytes_eq id r.0) refl (text_more rows row id)
  where
    by : (b : Bool) → bytes_eq id r.0 ≡ b → text_under (rows ++ row ∷ []) id ≡ option_or (text_under rows id) (text_if row id) →
        text_under (r ∷ (rows ++ row ∷ [])) id ≡ option_or (text_under (r ∷ rows) id) (text_if row id)
    by true e more = rw e refl
    by false e more = rw e more

text_other : (rows : List Row) (row : Row) (id : List ℕ) → bytes_eq id row.0 ≡ false → text_under (rows ++ row ∷ []) id ≡ text_under rows id
text_other rows row id e = text_more rows row id ∙ ap (λ b. option_or (text_under rows id) (cond b (Some row.1) None)) e ∙ option_or-none (text_under rows id)

option_or-some : {A : Type 0} (o p : Option A) → is_some o ≡ true → option_or o p ≡ o
option_or-some None p e = cc e
option_or-some (Some a) p e = refl

text_again : (rows : List Row) (row : Row) (id : List ℕ) → is_some (text_under rows id) ≡ true → text_under (rows ++ row ∷ []) id ≡ text_under rows id
text_again rows row id e = text_more rows row id ∙ option_or-some (text_under rows id) (text_if row id) e

text_new : (rows : List Row) (row : Row) (id : List ℕ) → id ≡ row.0 → text_under rows id ≡ None → text_under (rows ++ row ∷ []) id ≡ Some row.1
text_new rows row id same e = text_more rows row id ∙ rw e (rw same (rw (same_id row.0) refl))

-- an id of no base row
pub held_other : (base : List BaseLine) (rows : List Row) (row : Row) → has_id base row.0 ≡ false → map (held_for rows) base ≡ map (held_for (rows ++ row ∷ [])) base
held_other [] rows row none = refl
held_other (line ∷ base) rows row none =
    let (here, later) = or_false (bytes_eq row.0 line.id) (has_id base row.0) none in
    let same : held_for rows line ≡ held_for (rows ++ row ∷ []) line = ap (held_of line.holes) (sym (text_other rows row line.id (other_id row.0 line.id here))) in
    ap (λ (h : Held). h ∷ map (held_for rows) base) same ∙ ap (λ (hs : List Held). held_for (rows ++ row ∷ []) line ∷ hs) (held_other base rows row later)

-- an id that came before
pub held_again : (base : List BaseLine) (rows : List Row) (row : Row) → is_some (text_under rows row.0) ≡ true → map (held_for rows) base ≡ map (held_for (rows ++ row ∷ [])) base
held_again [] rows row known = refl
held_again (line ∷ base) rows row known = by (bytes_eq line.id row.0) refl (held_again base rows row known)
  where
    both : held_for rows line ≡ held_for (rows ++ row ∷ []) line → map (held_for rows) base ≡ map (held_for (rows ++ row ∷ [])) base →
        map (held_for rows) (line ∷ base) ≡ map (held_for (rows ++ row ∷ [])) (line ∷ base)
    both here more = ap (λ (h : Held). h ∷ map (held_for rows) base) here ∙ ap (λ (hs : List Held). held_for (rows ++ row ∷ []) line ∷ hs) more

    by : (b : Bool) → bytes_eq line.id row.0 ≡ b → map (held_for rows) base ≡ map (held_for (rows ++ row ∷ [])) base →
        map (held_for rows) (line ∷ base) ≡ map (held_for (rows ++ row ∷ [])) (line ∷ base)
    by true e more = both (ap (held_of line.holes) (sym (text_again rows row line.id (rw ((bytes_eq-Decides line.id row.0).0 e) known)))) more
    by false e more = both (ap (held_of line.holes) (sym (text_other rows row line.id e))) more

-- what is held is missing where no row has the id, and the other way round
none_missing : (holes : ℕ) (o : Option (List ℕ)) (h : ℕ) → held_of holes o ≡ Missing h → (o ≡ None) × (h ≡ holes)
none_missing holes None h e = (refl, cc)
none_missing holes (Some text) h e = by (template_of text holes) e
  where
    by : (p : Option (List Part)) → judged holes p ≡ Missing h → (Some text ≡ None) × (h ≡ holes)
    by None e = cc e
    by (Some parts) e = cc e

not_wanted : (holes : ℕ) (o : Option (List ℕ)) → wanted_of (Some (held_of holes o)) ≡ None → is_some o ≡ true
not_wanted holes None e = cc e
not_wanted holes (Some text) e = refl

pub known : (base : List BaseLine) (rows : List Row) (id : List ℕ) (at : ℕ) → Stands id base at → wanted_of (slice_get (map (held_for rows) base) at) ≡ None → is_some (text_under rows id) ≡ true
known [] rows id at s e = absurd s
known (line ∷ base) rows id zero s e = not_wanted line.holes (text_under rows id) (rw (← s) e)
known (line ∷ base) rows id (suc at) s e = known base rows id at s.1 e

pub wanted-missing : (o : Option Held) (h : ℕ) → wanted_of o ≡ Some h → o ≡ Some (Missing h)
wanted-missing None h e = cc e
wanted-missing (Some (Missing holes)) h e = cc
wanted-missing (Some Refused) h e = cc e
wanted-missing (Some (Read form)) h e = cc e

pub unknown : (base : List BaseLine) (rows : List Row) (id : List ℕ) (at h : ℕ) → Stands id base at → wanted_of (slice_get (map (held_for rows) base) at) ≡ Some h → text_under rows id ≡ None
unknown [] rows id at h s e = absurd s
unknown (line ∷ base) rows id zero h s e =
    let is = wanted-missing (Some (held_for rows line)) h e in
    let held : held_of line.holes (text_under rows line.id) ≡ Missing h = cc in
    rw (← s) ((none_missing line.holes (text_under rows line.id) h held).0)
unknown (line ∷ base) rows id (suc at) h s e = unknown base rows id at h s.1 e

-- the first row of an id of the base
pub held_new : (base : List BaseLine) (rows : List Row) (row : Row) (at h : ℕ) → AreDistinct base → Stands row.0 base at → wanted_of (slice_get (map (held_for rows) base) at) ≡ Some h →
    set (map (held_for rows) base) at (judged h (template_of row.1 h)) ≡ map (held_for (rows ++ row ∷ [])) base
held_new [] rows row at h distinct s e = absurd s
held_new (line ∷ base) rows row zero h distinct s e =
    let is = wanted-missing (Some (held_for rows line)) h e in
    let held : held_of line.holes (text_under rows line.id) ≡ Missing h = cc in
    let (none, holes) = none_missing line.holes (text_under rows line.id) h held in
    let here : judged h (template_of row.1 h) ≡ held_for (rows ++ row ∷ []) line = rw holes (ap (held_of line.holes) (sym (text_new rows row line.id s none))) in
    let apart : has_id base row.0 ≡ false = rw (← s) (distinct.0) in
    ap (λ (x : Held). x ∷ map (held_for rows) base) here ∙ ap (λ (hs : List Held). held_for (rows ++ row ∷ []) line ∷ hs) (held_other base rows row apart)
held_new (line ∷ base) rows row (suc at) h distinct s e =
    let same : held_for rows line ≡ held_for (rows ++ row ∷ []) line = ap (held_of line.holes) (sym (text_other rows row line.id s.0)) in
    ap (λ (x : Held). x ∷ set (map (held_for rows) base) at (judged h (template_of row.1 h))) same
    ∙ ap (λ (hs : List Held). held_for (rows ++ row ∷ []) line ∷ hs) (held_new base rows row at h distinct.1 s.1 e)

-- the id of a row that is one of the base and stood before
abbrev pub again : List BaseLine → List Row → Row → Option (List ℕ)
again base before row = cond (has_id base row.0 && is_some (text_under before row.0)) (Some row.0) None

repeated_from : (base : List BaseLine) (before rows : List Row) (row : Row) → repeated base before (rows ++ row ∷ []) ≡ option_or (repeated base before rows) (again base (before ++ rows) row)
repeated_from base before [] row = ap (λ (seen : List Row). again base seen row) (sym (append-nil before))
repeated_from base before (r ∷ rows) row = by (has_id base r.0 && is_some (text_under before r.0)) refl (repeated_from base (before ++ r ∷ []) rows row)
  where
    by : (b : Bool) → (has_id base r.0 && is_some (text_under before r.0)) ≡ b →
        repeated base (before ++ r ∷ []) (rows ++ row ∷ []) ≡ option_or (repeated base (before ++ r ∷ []) rows) (again base ((before ++ r ∷ []) ++ rows) row) →
        repeated base before (r ∷ (rows ++ row ∷ [])) ≡ option_or (repeated base before (r ∷ rows)) (again base (before ++ (r ∷ rows)) row)
    by true e more = rw e refl
    by false e more =
        rw e (more ∙ ap (λ (seen : List Row). option_or (repeated base (before ++ r ∷ []) rows) (again base seen row)) (append_assoc before (r ∷ []) rows))

pub repeated_more : (base : List BaseLine) (rows : List Row) (row : Row) → repeated base [] (rows ++ row ∷ []) ≡ option_or (repeated base [] rows) (again base rows row)
repeated_more base rows row = repeated_from base [] rows row

pub again-other : (base : List BaseLine) (rows : List Row) (row : Row) → has_id base row.0 ≡ false → again base rows row ≡ None
again-other base rows row e = rw e refl

pub again-new : (base : List BaseLine) (rows : List Row) (row : Row) → has_id base row.0 ≡ true → text_under rows row.0 ≡ None → again base rows row ≡ None
again-new base rows row there e = rw (there, e) refl

pub again-known : (base : List BaseLine) (rows : List Row) (row : Row) → has_id base row.0 ≡ true → is_some (text_under rows row.0) ≡ true → again base rows row ≡ Some row.0
again-known base rows row there e = rw (there, e) refl

-- ---- behind all rows

abbrev ids_of : List BaseLine → List (List ℕ)
ids_of base = map (λ line. line.id) base

pub missing-among : (base : List BaseLine) (rows : List Row) → missing_among (ids_of base) (map (held_for rows) base) ≡ missing rows base
missing-among [] rows = refl
missing-among (line ∷ base) rows = by (text_under rows line.id) refl (missing-among base rows)
  where
    judged_one : (p : Option (List Part)) → missing_among (line.id ∷ ids_of base) (judged line.holes p ∷ map (held_for rows) base) ≡ missing_among (ids_of base) (map (held_for rows) base)
    judged_one None = refl
    judged_one (Some parts) = refl

    by : (o : Option (List ℕ)) → text_under rows line.id ≡ o → missing_among (ids_of base) (map (held_for rows) base) ≡ missing rows base →
        missing_among (ids_of (line ∷ base)) (map (held_for rows) (line ∷ base)) ≡ missing rows (line ∷ base)
    by None e more = rw e refl
    by (Some text) e more = rw e (judged_one (template_of text line.holes) ∙ more)

missing-head : (line : BaseLine) (base : List BaseLine) (rows : List Row) → missing rows (line ∷ base) ≡ None → (is_some (text_under rows line.id) ≡ true) × (missing rows base ≡ None)
missing-head line base rows e = by (is_some (text_under rows line.id)) refl e
  where
    by : (b : Bool) → is_some (text_under rows line.id) ≡ b → cond b (missing rows base) (Some line.id) ≡ None → (is_some (text_under rows line.id) ≡ true) × (missing rows base ≡ None)
    by true t e = (t, e)
    by false t e = cc e

pub refused-among : (base : List BaseLine) (rows : List Row) → missing rows base ≡ None → refused_among (ids_of base) (map (held_for rows) base) ≡ refused rows base
refused-among [] rows none = refl
refused-among (line ∷ base) rows none =
    let (known, rest) = missing-head line base rows none in
    by (text_under rows line.id) refl known (refused-among base rows rest)
  where
    judged_one : (p : Option (List Part)) → refused_among (ids_of base) (map (held_for rows) base) ≡ refused rows base →
        refused_among (line.id ∷ ids_of base) (judged line.holes p ∷ map (held_for rows) base) ≡ cond (is_some p) (refused rows base) (Some line.id)
    judged_one None more = refl
    judged_one (Some parts) more = more

    by : (o : Option (List ℕ)) → text_under rows line.id ≡ o → is_some (text_under rows line.id) ≡ true → refused_among (ids_of base) (map (held_for rows) base) ≡ refused rows base →
        refused_among (ids_of (line ∷ base)) (map (held_for rows) (line ∷ base)) ≡ refused rows (line ∷ base)
    by None e known more = let none : is_some {T = List ℕ} None ≡ true = rw e at known in cc
    by (Some text) e known more = rw e (judged_one (template_of text line.holes) more)

abbrev forms_of : List Row → List BaseLine → List Form
forms_of rows base = map (λ line. form_of (text_for rows line) line.holes) base

pub read-among : (base : List BaseLine) (rows : List Row) → missing rows base ≡ None → refused rows base ≡ None → read_among (map (held_for rows) base) ≡ forms_of rows base
read-among [] rows none all = refl
read-among (line ∷ base) rows none all =
    let (known, rest) = missing-head line base rows none in
    by (text_under rows line.id) refl known all (read-among base rows rest)
  where
    judged_one : (text : List ℕ) (p : Option (List Part)) → template_of text line.holes ≡ p → cond (is_some p) (refused rows base) (Some line.id) ≡ None →
        (refused rows base ≡ None → read_among (map (held_for rows) base) ≡ forms_of rows base) →
        read_among (judged line.holes p ∷ map (held_for rows) base) ≡ form_of text line.holes ∷ forms_of rows base
    judged_one text None e all more = cc all
    judged_one text (Some parts) e all more = rw (e, more all) refl

    by : (o : Option (List ℕ)) → text_under rows line.id ≡ o → is_some (text_under rows line.id) ≡ true → refused rows (line ∷ base) ≡ None →
        (refused rows base ≡ None → read_among (map (held_for rows) base) ≡ forms_of rows base) →
        read_among (map (held_for rows) (line ∷ base)) ≡ forms_of rows (line ∷ base)
    by None e known all more = let none : is_some {T = List ℕ} None ≡ true = rw e at known in cc
    by (Some text) e known all more = rw e (judged_one text (template_of text line.holes) refl (rw e at all) more)

-- ---- what a reading is

pub reads_repeated : (rows : List Row) (base : List BaseLine) (id : List ℕ) → repeated base [] rows ≡ Some id → rows_reading rows base ≡ Err (DuplicateId id)
reads_repeated rows base id e = rw e refl

pub reads_missing : (rows : List Row) (base : List BaseLine) (id : List ℕ) → repeated base [] rows ≡ None → missing rows base ≡ Some id → rows_reading rows base ≡ Err (MissingId id)
reads_missing rows base id once e = rw (once, e) refl

pub reads_refused : (rows : List Row) (base : List BaseLine) (id : List ℕ) → repeated base [] rows ≡ None → missing rows base ≡ None → refused rows base ≡ Some id → rows_reading rows base ≡ Err (BadTemplate id)
reads_refused rows base id once none e = rw (once, none, e) refl

pub reads_table : (rows : List Row) (base : List BaseLine) → repeated base [] rows ≡ None → missing rows base ≡ None → refused rows base ≡ None →
    rows_reading rows base ≡ Ok (map (λ line. entry_of line (text_for rows line)) base)
reads_table rows base once none all = rw (once, none, all) refl

-- ---- each table fits

-- a table that was read is one of the base
unless-ok : (o : Option (List ℕ)) (fault : List ℕ → TableFault) (reading : Result Table TableFault) (table : Table) → unless o fault reading ≡ Ok table → reading ≡ Ok table
unless-ok (Some id) fault reading table e = cc e
unless-ok None fault reading table e = e

rows_fit : (rows : List Row) (base : List BaseLine) (table : Table) → AreDistinct base → rows_reading rows base ≡ Ok table → Fits table base
rows_fit rows base table distinct e =
    let all = map (λ line. entry_of line (text_for rows line)) base in
    let last = unless (refused rows base) BadTemplate (Ok all) in
    let is : ◌≡◌ {A = Result Table TableFault} (Ok all) (Ok table) =
    unless-ok (refused rows base) BadTemplate (Ok all) table
    (unless-ok (missing rows base) MissingId last table (unless-ok (repeated base [] rows) DuplicateId (unless (missing rows base) MissingId last) table e)) in
    let same : all ≡ table = cc in
    subst (λ (t : Table). Fits t base) same (fits (text_for rows) base distinct)

columns_fit : (columns : Option (ℕ × ℕ)) (records : List Fields) (base : List BaseLine) (table : Table) → AreDistinct base → by_columns columns records base ≡ Ok table → Fits table base
columns_fit None records base table distinct e = cc e
columns_fit (Some columns) records base table distinct e = rows_fit (map (row_at columns) records) base table distinct e

header_fits : (records : List Fields) (base : List BaseLine) (table : Table) → AreDistinct base → under_header records base ≡ Ok table → Fits table base
header_fits [] base table distinct e = cc e
header_fits (header ∷ records) base table distinct e = columns_fit (columns_of header) records base table distinct e

bad_fits : (bad : Option ℕ) (records : List Fields) (base : List BaseLine) (table : Table) → AreDistinct base → unless_bad bad (under_header records base) ≡ Ok table → Fits table base
bad_fits (Some at) records base table distinct e = cc e
bad_fits None records base table distinct e = header_fits records base table distinct e

pub tables_fit : TablesFit
tables_fit base distinct =
    (fits (λ line. line.text) base distinct, (λ bytes table e. bad_fits (bad_record (records_of bytes)) (records_of bytes) base table distinct e))
