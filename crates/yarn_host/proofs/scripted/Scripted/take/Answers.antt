use Rattle.yarn_host.proofs.ScriptLemmas.{drop_next}
use Rattle.yarn_host.proofs.scripted.Scripted.take.Goals as goal

pub returns-in-Ok-clause-ok : goal.returns-in-Ok-clause-ok
returns-in-Ok-clause-ok c = drop_next c.args.self.now.replies c.as_slice-replies.result.now c.args.self.now.at _ _ c.as_slice-replies.ensures c.if-self-replies.false c.index-replies-self.is c.in-Ok.ensures.equal
