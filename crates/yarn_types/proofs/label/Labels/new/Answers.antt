use Rattle.yarn_types.proofs.LabelLemmas.{linked_fresh}
use Rattle.yarn_types.proofs.label.Labels.new.Goals as goal

pub invariant_of-result : goal.invariant_of-result
invariant_of-result c = rw c.in_ok-vec.ensures.items_if_clones_equal
    (linked_fresh c.in_ok-numbers.field-0.items c.in_ok-numbers-2.field-0.items c.in_ok-numbers-3.field-0.items c.args.count c.in_ok-numbers.ensures c.in_ok-numbers-2.ensures c.in_ok-numbers-3.ensures)
