use Rattle.std.proofs.Common.{◌≡◌, length}
use Rattle.yarn_nodes.specs.Reader.{file_of}
use Rattle.yarn_nodes.specs.Reading.{read_on}
use Rattle.yarn_nodes.proofs.reader.read_lines.Given as goal

abbrev pub invariant-loop-reader : goal.invariant-loop-reader
invariant-loop-reader l = record {
  read : read_on l.reader l.fn.number l.fn.name l.fn.lines.end l.lines.lines ≡ file_of l.fn.ids l.fn.number l.fn.name l.fn.lines;
  same_end : l.lines.end ≡ l.fn.lines.end;
}

abbrev pub decreases-loop-reader : goal.decreases-loop-reader
decreases-loop-reader l = length l.lines.lines
