use Rattle.std.proofs.Common.{◌≡◌, length}
use Rattle.yarn_blocks.specs.Outline.{settled_outline}
use Rattle.yarn_blocks.proofs.outline.Outline.settle.Given as goal

abbrev pub invariant-loop-outline : goal.invariant-loop-outline
invariant-loop-outline l = settled_outline l.indent l.outline ≡ settled_outline l.indent l.initial.outline

abbrev pub decreases-loop-outline : goal.decreases-loop-outline
decreases-loop-outline l = length l.outline.levels
