use Rattle.yarn_tree.proofs.GrowLemmas.{FilesGrow}
use Rattle.yarn_tree.proofs.grow.grow_files.Given as goal

abbrev pub invariant-loop-read : goal.invariant-loop-read
invariant-loop-read l = FilesGrow l.fn.reads l.read-iterator.rest.items l.files.items
