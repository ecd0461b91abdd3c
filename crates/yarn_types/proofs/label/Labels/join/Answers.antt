use Rattle.yarn_types.proofs.LabelLemmas.{join_below, join_view, join_linked}
use Rattle.yarn_types.proofs.label.Labels.join.Goals as goal

pub relabel-requires-clause-inside : goal.relabel-requires-clause-inside
relabel-requires-clause-inside c =
    join_below c.self.inside.labels.items c.self.inside.heads.items c.self.inside.next.items c.self.inside.sizes.items c.args.self.now c.self.invariant c.self.view_is c.args.label c.args.gone
    c.requires.label c.requires.gone c.requires.label_settled c.requires.gone_settled c.requires.apart c.index.result.now c.index-2.result.now c.index.ensures c.index-2.ensures

pub invariant_of-self : goal.invariant_of-self
invariant_of-self c =
    join_linked c.self.inside.labels.items c.self.inside.heads.items c.self.inside.next.items c.self.inside.sizes.items c.args.self.now c.self.invariant c.self.view_is c.args.label c.args.gone
    c.requires.label c.requires.gone c.requires.label_settled c.requires.gone_settled c.requires.apart c.index.result.now c.index-2.result.now c.index.ensures c.index-2.ensures
    c.relabel.new.labels.items c.relabel.ensures c.index-3.result.now c.index-4.result.now c.index_mut-3.result.now c.index-5.result.now c.index-3.ensures c.index-4.ensures c.index_mut-3.ensures.value c.index-5.ensures

pub returns : goal.returns
returns c =
    join_view c.self.inside.labels.items c.self.inside.heads.items c.self.inside.next.items c.self.inside.sizes.items c.args.self.now c.self.invariant c.self.view_is c.args.label c.args.gone
    c.requires.label c.requires.gone c.requires.label_settled c.requires.gone_settled c.requires.apart c.index.result.now c.index-2.result.now c.index.ensures c.index-2.ensures
    c.relabel.new.labels.items c.relabel.ensures
