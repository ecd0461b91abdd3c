use Rattle.yarn_host.proofs.CallLemmas.{called_at}
use Rattle.yarn_host.proofs.calls.call_at.Goals as goal

pub returns : goal.returns
returns g c = called_at _ c.args.functions.now c.args.at c.args.args.now c.call_one.result c.index-functions-at.result c.call_one.new.function c.requires c.call_one.ensures
