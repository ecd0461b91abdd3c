use Rattle.yarn_host.proofs.NameLemmas.{stays_proper}
use Rattle.yarn_host.proofs.table.Table.put.Goals as goal

pub invariant_of-self-in_default-push-clause-proper : goal.invariant_of-self-in_default-push-clause-proper
invariant_of-self-in_default-push-clause-proper g c =
    stays_proper c.args.self.now.signatures _ c.args.signature c.in_default-push.ensures.ok c.args.self.now.proper c.requires.few c.requires.allowed
