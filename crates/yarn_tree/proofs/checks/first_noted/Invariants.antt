use Rattle.std.proofs.Common.{◌≡◌, drop}
use Rattle.yarn_tree.specs.Checks.{noted_in}
use Rattle.yarn_tree.specs.Places.{first_place}
use Rattle.yarn_tree.proofs.checks.first_noted.Given as goal

abbrev pub invariant-loop-read : goal.invariant-loop-read
invariant-loop-read l = first_place (noted_in l.note) (drop l.read-index l.reads) ≡ first_place (noted_in l.note) l.reads
