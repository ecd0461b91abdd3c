use Rattle.yarn_tree.proofs.SplitLemmas.{put-told}
use Rattle.yarn_tree.proofs.split.Splitter.take.Goals as goal

pub returns-in-Ok-clause-on : goal.returns-in-Ok-clause-on
returns-in-Ok-clause-on c =
    put-told c.put.result c.args.self.now c.put.new.self c.args.source c.in-Ok.lines c.put.ensures.ok c.put.ensures.err c.in-Ok.ensures.0 c.in-Ok.ensures.1 c.in-Ok.ensures.2
