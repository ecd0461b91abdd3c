use Rattle.std.proofs.Common.{ap, ◌∙◌}
use Rattle.yarn_value.specs.Pairs.{value_under}
use Rattle.yarn_store.proofs.PairLemmas.{value_under-lookup}
use Rattle.yarn_store.proofs.store.Store.get.Goals as goal

pub returns : goal.returns
returns c = c.get.ensures.value ∙ value_under-lookup c.self.inside.pairs.entries c.args.name.now ∙ ap (λ ps. value_under ps c.args.name.now) c.self.view_is
