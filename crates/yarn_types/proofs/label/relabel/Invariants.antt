use Rattle.std.proofs.Common.{◌≡◌, ◌-◌, true, length}
use Rattle.yarn_types.specs.Labels.{below, walk, relabelled}
use Rattle.yarn_types.proofs.label.relabel.Given as goal

abbrev pub invariant-loop : goal.invariant-loop
invariant-loop l = record {
  long : length l.labels.items ≡ length l.fn.labels.items;
  inside : below (length l.fn.labels.items) (walk l.next.items l.one (l.count - l.counter)) ≡ true;
  whole : relabelled l.labels.items l.label (walk l.next.items l.one (l.count - l.counter)) ≡ relabelled l.fn.labels.items l.label (walk l.next.items l.from l.count);
}
