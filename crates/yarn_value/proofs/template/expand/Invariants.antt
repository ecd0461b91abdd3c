use Rattle.std.proofs.Common.{◌≡◌, ◌++◌, drop}
use Rattle.yarn_value.specs.Templates.{expanded}
use Rattle.yarn_value.specs.Pieces.{parts_of}
use Rattle.yarn_value.proofs.template.expand.Given as goal

abbrev pub invariant-loop-piece : goal.invariant-loop-piece
invariant-loop-piece l = l.out ++ expanded (parts_of (drop l.piece-index l.piece-items)) l.values ≡ expanded (parts_of l.piece-items) l.values
