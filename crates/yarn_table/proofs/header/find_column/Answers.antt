use Rattle.std.proofs.Common.{below_more, arith, sym}
use Rattle.csv.specs.Records.{fields_of}
use Rattle.yarn_table.proofs.ColumnLemmas.{column_found, column_none}
use Rattle.yarn_table.proofs.header.find_column.Goals as goal

pub loop-at-preserved : goal.loop-at-preserved
loop-at-preserved c = below_more _ _ c.loop-at.invariant (cc)

pub returns-then-eq : goal.returns-then-eq
returns-then-eq c = sym (column_found c.args.name.now (fields_of c.args.header.now) c.loop-at.at (omega (arith, c.len-at-end.ensures)) c.loop-at.invariant (cc))

pub returns : goal.returns
returns c =
    sym (column_none c.args.name.now (fields_of c.args.header.now) (λ k l. c.loop-at.invariant k (omega (arith, c.len-at-end.ensures))))
