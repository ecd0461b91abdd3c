use Rattle.std.proofs.Common.{Some}
use Rattle.csv.specs.Reading.{strip_bom}
use Rattle.yarn_table.proofs.StreamLemmas.{IsStreaming}
use Rattle.yarn_table.proofs.read.read_table.Given as goal

abbrev pub invariant-loop-at : goal.invariant-loop-at
invariant-loop-at l = IsStreaming (λ s. Some s.now) (strip_bom (strip_bom l.bytes)) l.reader l.at l.columns l.base l.gathered
