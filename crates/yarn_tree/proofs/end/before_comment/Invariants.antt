use Rattle.std.proofs.Common.{◌≡◌, ◌++◌, take, drop}
use Rattle.yarn_tree.specs.declared.end.Part.TheVariants.{InText}
use Rattle.yarn_tree.specs.Scan.{front_of}
use Rattle.yarn_tree.proofs.end.before_comment.Given as goal

abbrev pub invariant-loop-at : goal.invariant-loop-at
invariant-loop-at l = take l.at l.bytes ++ front_of l.part (drop l.at l.bytes) ≡ front_of InText l.bytes
