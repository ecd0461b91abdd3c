use Rattle.std.proofs.Common.{◌≡◌, ◌-◌, ◌∙◌, arith}
use Rattle.yarn_lines.proofs.PieceLemmas.{without_trailing-blank, without_trailing-other}
use Rattle.yarn_lines.proofs.piece.without_trailing_in.Goals as goal
use Rattle.yarn_lines.proofs.piece.without_trailing_in.Goals.{then-loop-end-test+else-is_blank_byte, else-loop-end-test}

pub loop-end-preserved : goal.loop-end-preserved
loop-end-preserved c =
    let end = c.loop-end.end in
    (omega arith, without_trailing-blank c.args.bytes.now end (end - 1) (omega arith) (omega arith) (cc) ∙ c.loop-end.invariant.1)

pub returns : goal.returns
returns c =
    let end = c.loop-end.end in
    elim c.loop-end-test.branch [
      | then-loop-end-test+else-is_blank_byte w ↦
          without_trailing-other c.args.bytes.now end (end - 1) (omega arith) (omega arith) (cc) ∙ c.loop-end.invariant.1
      | else-loop-end-test w ↦ let z : end ≡ 0 = omega arith in rw z (rw z at c.loop-end.invariant.1)
    ]
