use Rattle.std.proofs.Common.{◌≡◌, ◌+◌, All, length}
use Rattle.yarn_tree.specs.Reading.{sources_split}
use Rattle.yarn_tree.specs.Splits.{IsSmall}
use Rattle.yarn_tree.specs.Splitter.{splits_on}
use Rattle.yarn_tree.proofs.split.split_all.Given as goal

abbrev pub invariant-loop-source : goal.invariant-loop-source
invariant-loop-source l = record {
  same : splits_on l.splitter l.source-iterator.rest.items ≡ sources_split l.fn.sources.items;
  count : l.splitter.number + length l.source-iterator.rest.items ≡ length l.fn.sources.items;
  small : All IsSmall l.source-iterator.rest.items;
}
