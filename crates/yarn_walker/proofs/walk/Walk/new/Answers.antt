use Rattle.std.proofs.Common.{map}
use Rattle.yarn_tree.specs.Trees.{file_tree}
use Rattle.yarn_walker.specs.Titles.{placed}
use Rattle.yarn_walker.proofs.TurnLemmas.{found_tells}
use Rattle.yarn_walker.proofs.walk.Walk.new.Goals as goal

-- The texts of the node are among those of all files, since it is found in them.
pub returns-clause-sound : goal.returns-clause-sound
returns-clause-sound c = record {
  titles = c.requires.titles;
  told = λ table told. found_tells table c.args.start.now (map file_tree c.args.titles.files.now) (placed c.args.node) c.requires.there told;
  group = tt;
}
