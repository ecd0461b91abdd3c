use Rattle.std.proofs.Common.{Bor, List, ℕ, Some}
use Rattle.csv.specs.Records.{fields_of}
use Rattle.csv.specs.Reading.{error_kind}
use Rattle.yarn_table.proofs.ReaderLemmas.{reading_one, reading_bad}
use Rattle.yarn_table.proofs.records.read_one.Goals as goal

pub returns-in-Ok : goal.returns-in-Ok
returns-in-Ok c = λ text rows many i.
    reading_one (λ (s : Bor (List ℕ)). Some s.now) text rows c.args.reader.now c.read_record.new.self (fields_of c.read_record.new.row) c.in-Ok.found i
    (c.in-Ok.ensures.reads i.trim i.ready) (c.in-Ok.ensures.ready i.trim) (c.in-Ok.ensures.text i.trim) c.in-Ok.ensures.flexible

pub returns-in-Err : goal.returns-in-Err
returns-in-Err c = λ text rows many i.
    rw (c.fault_at.ensures, ← many) (reading_bad (λ (s : Bor (List ℕ)). Some s.now) text rows c.args.reader.now c.read_record.new.self (error_kind c.in-Err.error) i (c.in-Err.ensures.why i.trim i.ready))
