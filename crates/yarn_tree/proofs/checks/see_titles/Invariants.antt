use Rattle.std.proofs.Common.{◌≡◌, drop}
use Rattle.yarn_tree.specs.Checks.{titles_of, titles_seen}
use Rattle.yarn_tree.specs.Names.{sees_all, sight_of}
use Rattle.yarn_tree.proofs.checks.see_titles.Given as goal

abbrev pub invariant-loop-read : goal.invariant-loop-read
invariant-loop-read l = sees_all (sight_of l.seen) (titles_of (drop l.read-index l.reads)) ≡ titles_seen l.reads
