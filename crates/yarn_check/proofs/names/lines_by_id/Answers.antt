use Rattle.yarn_check.specs.NameMaps.{line_name}
use Rattle.yarn_check.proofs.NameLemmas.{rest_step, rest_all}
use Rattle.yarn_check.proofs.names.lines_by_id.Goals as goal

pub loop-line-preserved : goal.loop-line-preserved
loop-line-preserved c =
    rest_step line_name c.loop-line.first c.insert.new.self c.as_str.result c.in-Some.line c.args.lines.now
    c.loop-line.line-iterator.iter.rest.now c.next.new.self.iter.rest.now c.loop-line.invariant c.in-Some.ensures.steps c.as_str.ensures.value c.in_ok-insert.ensures.updates
