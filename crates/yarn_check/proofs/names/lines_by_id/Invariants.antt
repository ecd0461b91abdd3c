use Rattle.yarn_check.specs.NameMaps.{line_name}
use Rattle.yarn_check.proofs.NameLemmas.{FindsRest}
use Rattle.yarn_check.proofs.names.lines_by_id.Given as goal

abbrev pub invariant-loop-line : goal.invariant-loop-line
invariant-loop-line l = FindsRest line_name l.first l.lines l.line-iterator.iter.rest.now
