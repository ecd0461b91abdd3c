use Rattle.std.proofs.Common.{◌≡◌, ◌≤◌, drop}
use Rattle.yarn_tree.specs.Size.{too_much}
use Rattle.yarn_tree.proofs.size.too_much_in.Given as goal

abbrev pub invariant-loop-source : goal.invariant-loop-source
invariant-loop-source l =
    (too_much l.file l.sum (drop l.source-index l.sources) ≡ too_much 0 0 l.sources) × (l.sum ≤ 33554432) × (l.file ≤ 256)
