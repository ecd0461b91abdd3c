use Rattle.std.proofs.Common.{Bor, List, ℕ, Some, [], ◌∷◌, true, false, refl, sym, ◌∙◌}
use Rattle.csv.specs.Reading.{strip_bom}
use Rattle.csv.specs.Records.{fields_of}
use Rattle.csv.proofs.ReadFacts.{on-ok}
use Rattle.yarn_table.specs.Records.{records_of}
use Rattle.yarn_table.specs.Tables.{table_of}
use Rattle.yarn_table.proofs.RowLemmas.{tables_fit}
use Rattle.yarn_table.proofs.StreamLemmas.{read_as, stream_start, stream_more, stream_bad, stream_empty, stream_end, stream_fits}
use Rattle.yarn_table.proofs.read.read_table.Goals as goal

pub returns-in-Ok-false-clause-fault : goal.returns-in-Ok-false-clause-fault
returns-in-Ok-false-clause-fault c =
    let text = strip_bom (strip_bom c.args.bytes.now) in
    let start = rw c.as_slice.ensures at c.open-reader.ensures in
    let one = read_as (λ (s : Bor (List ℕ)). Some s.now) text [] c.read_one.new.reader (fields_of c.read_one.new.row) c.in-Ok-false.field-0 false c.in-Ok-false.field-0-test
    (c.in-Ok-false.ensures text [] refl start) in
    stream_empty (records_of c.args.bytes.now) c.args.base.now one.0

pub returns-in-Err-clause-fault : goal.returns-in-Err-clause-fault
returns-in-Err-clause-fault c =
    let start = rw c.as_slice.ensures at c.open-reader.ensures in
    stream_bad (records_of c.args.bytes.now) c.args.base.now c.in-Err.fault (c.in-Err.ensures (strip_bom (strip_bom c.args.bytes.now)) [] refl start)

pub loop-at-init : goal.loop-at-init
loop-at-init c =
    let text = strip_bom (strip_bom c.args.bytes.now) in
    let start = rw c.as_slice.ensures at c.open-reader.ensures in
    let one = read_as (λ (s : Bor (List ℕ)). Some s.now) text [] c.read_one.new.reader (fields_of c.read_one.new.row) c.in-Ok-true.field-0 true c.in-Ok-true.field-0-test
    (c.in-Ok-true.ensures text [] refl start) in
    stream_start (λ (s : Bor (List ℕ)). Some s.now) text c.read_one.new.reader (fields_of c.read_one.new.row) c.find_columns-columns.result c.args.base.now c.in_ok-gathered.gathered
    one c.find_columns-columns.ensures c.in_ok-gathered.ensures

pub loop-at-preserved : goal.loop-at-preserved
loop-at-preserved c =
    let text = strip_bom (strip_bom c.args.bytes.now) in
    let s = c.loop-at.invariant in
    let one = read_as (λ (s : Bor (List ℕ)). Some s.now) text (s.header ∷ s.rows) c.read_one-in-loop-at.new.reader (fields_of c.read_one-in-loop-at.new.row)
    c.in-Ok-true-read_one.field-0 true c.in-Ok-true-read_one.field-0-test (c.in-Ok-true-read_one.ensures text (s.header ∷ s.rows) s.count s.reading) in
    let more = on-ok c.take_row.result (sym c.is_err.ensures.value ∙ c.if-is_err.false) c.take_row.ensures in
    stream_more (λ (s : Bor (List ℕ)). Some s.now) text c.loop-at.reader c.read_one-in-loop-at.new.reader c.loop-at.at c.find_columns-columns.result c.args.base.now
    c.loop-at.gathered c.take_row.new.gathered (fields_of c.read_one-in-loop-at.new.row) s one more

pub returns-in-Ok-false-read_one-clause-table : goal.returns-in-Ok-false-read_one-clause-table
returns-in-Ok-false-read_one-clause-table c =
    let text = strip_bom (strip_bom c.args.bytes.now) in
    let s = c.loop-at.invariant in
    let one = read_as (λ (s : Bor (List ℕ)). Some s.now) text (s.header ∷ s.rows) c.read_one-in-loop-at.new.reader (fields_of c.read_one-in-loop-at.new.row)
    c.in-Ok-false-read_one.field-0 false c.in-Ok-false-read_one.field-0-test (c.in-Ok-false-read_one.ensures text (s.header ∷ s.rows) s.count s.reading) in
    (stream_end (λ (s : Bor (List ℕ)). Some s.now) text c.loop-at.reader c.read_one-in-loop-at.new.reader c.loop-at.at c.find_columns-columns.result c.args.base.now
    c.loop-at.gathered (fields_of c.read_one-in-loop-at.new.row) c.under_columns.result c.under_columns.ensures s one).0

pub returns-in-Ok-false-read_one-clause-fits : goal.returns-in-Ok-false-read_one-clause-fits
returns-in-Ok-false-read_one-clause-fits c =
    let text = strip_bom (strip_bom c.args.bytes.now) in
    let s = c.loop-at.invariant in
    let one = read_as (λ (s : Bor (List ℕ)). Some s.now) text (s.header ∷ s.rows) c.read_one-in-loop-at.new.reader (fields_of c.read_one-in-loop-at.new.row)
    c.in-Ok-false-read_one.field-0 false c.in-Ok-false-read_one.field-0-test (c.in-Ok-false-read_one.ensures text (s.header ∷ s.rows) s.count s.reading) in
    stream_fits (table_of c.args.bytes.now c.args.base.now) c.args.base.now c.under_columns.result ((tables_fit c.args.base.now c.requires).1 c.args.bytes.now)
    (stream_end (λ (s : Bor (List ℕ)). Some s.now) text c.loop-at.reader c.read_one-in-loop-at.new.reader c.loop-at.at c.find_columns-columns.result c.args.base.now
    c.loop-at.gathered (fields_of c.read_one-in-loop-at.new.row) c.under_columns.result c.under_columns.ensures s one).0

pub returns-in-Ok-false-read_one-clause-fault : goal.returns-in-Ok-false-read_one-clause-fault
returns-in-Ok-false-read_one-clause-fault c =
    let text = strip_bom (strip_bom c.args.bytes.now) in
    let s = c.loop-at.invariant in
    let one = read_as (λ (s : Bor (List ℕ)). Some s.now) text (s.header ∷ s.rows) c.read_one-in-loop-at.new.reader (fields_of c.read_one-in-loop-at.new.row)
    c.in-Ok-false-read_one.field-0 false c.in-Ok-false-read_one.field-0-test (c.in-Ok-false-read_one.ensures text (s.header ∷ s.rows) s.count s.reading) in
    (stream_end (λ (s : Bor (List ℕ)). Some s.now) text c.loop-at.reader c.read_one-in-loop-at.new.reader c.loop-at.at c.find_columns-columns.result c.args.base.now
    c.loop-at.gathered (fields_of c.read_one-in-loop-at.new.row) c.under_columns.result c.under_columns.ensures s one).1

pub returns-in-Err-read_one-clause-fault : goal.returns-in-Err-read_one-clause-fault
returns-in-Err-read_one-clause-fault c =
    let s = c.loop-at.invariant in
    stream_bad (records_of c.args.bytes.now) c.args.base.now c.in-Err-read_one.fault
    (c.in-Err-read_one.ensures (strip_bom (strip_bom c.args.bytes.now)) (s.header ∷ s.rows) s.count s.reading)
