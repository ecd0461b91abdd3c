use Rattle.std.proofs.Common.{◌-◌, sym, refl, length, arith}
use Rattle.std.proofs.lemmas.List.{nil_from_length}
use Rattle.yarn_lines.proofs.PieceLemmas.{without_cr-cr, without_cr-other}
use Rattle.yarn_lines.proofs.piece.without_cr_in.Goals as goal
use Rattle.yarn_lines.proofs.piece.without_cr_in.Goals.{else-len-gt0-via-then-len-gt0+else-piece-len-eq13, else-len-gt0-via-else-len-gt0}

pub returns-then-piece-len-eq13 : goal.returns-then-piece-len-eq13
returns-then-piece-len-eq13 c =
    let piece = c.args.piece.now in
    sym (without_cr-cr piece (length piece - 1) (omega arith) c.if-piece-len-eq13.true)

pub returns-else-len-gt0 : goal.returns-else-len-gt0
returns-else-len-gt0 c =
    let piece = c.args.piece.now in
    elim c.else-len-gt0.branch [
      | else-len-gt0-via-then-len-gt0+else-piece-len-eq13 w ↦
          sym (without_cr-other piece (length piece - 1) (omega arith) w.if-piece-len-eq13.false)
      | else-len-gt0-via-else-len-gt0 w ↦ let e = nil_from_length piece (omega arith) in rw e refl
    ]
