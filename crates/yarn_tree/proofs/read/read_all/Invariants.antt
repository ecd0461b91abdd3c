use Rattle.std.proofs.Common.{◌≡◌, ◌++◌, map, true}
use Rattle.yarn_tree.specs.Reading.{read_of}
use Rattle.yarn_tree.proofs.read.read_all.Given as goal

abbrev pub invariant-loop-split : goal.invariant-loop-split
invariant-loop-split l = l.reads.items ++ map (read_of true) l.split-iterator.rest.items ≡ map (read_of true) l.fn.splits
