use Rattle.std.proofs.Common.{◌-◌, sym, refl, length, arith}
use Rattle.std.proofs.lemmas.List.{nil_from_length}
use Rattle.yarn_store.proofs.LineLemmas.{without_cr-cr, without_cr-other}
use Rattle.yarn_store.proofs.line.without_cr.Goals as goal
use Rattle.yarn_store.proofs.line.without_cr.Goals.{else-len-gt0-via-then-len-gt0+else-line-len-eq13, else-len-gt0-via-else-len-gt0}

pub returns-then-line-len-eq13-clause-value : goal.returns-then-line-len-eq13-clause-value
returns-then-line-len-eq13-clause-value c =
    let line = c.args.line.now in
    sym (without_cr-cr line (length line - 1) (omega arith) c.if-line-len-eq13.true)

pub returns-else-len-gt0-clause-value : goal.returns-else-len-gt0-clause-value
returns-else-len-gt0-clause-value c =
    let line = c.args.line.now in
    elim c.else-len-gt0.branch [
      | else-len-gt0-via-then-len-gt0+else-line-len-eq13 w ↦
          sym (without_cr-other line (length line - 1) (omega arith) w.if-line-len-eq13.false)
      | else-len-gt0-via-else-len-gt0 w ↦ let e = nil_from_length line (omega arith) in rw e refl
    ]
