use Rattle.std.proofs.Common.{◌≡◌, drop}
use Rattle.yarn_tree.specs.Checks.{titles_in}
use Rattle.yarn_tree.specs.Names.{sees_all, sight_of}
use Rattle.yarn_tree.proofs.checks.see_titles_in.Given as goal

abbrev pub invariant-loop-titled : goal.invariant-loop-titled
invariant-loop-titled l =
    sees_all (sight_of l.seen) (titles_in l.file (drop l.titled-index l.titles)) ≡ sees_all (sight_of l.fn.seen) (titles_in l.file l.titles)
