use Rattle.std.proofs.Common.{◌-◌, ◌∙◌, length, sym, refl, arith}
use Rattle.std.proofs.lemmas.List.{nil_from_length}
use Rattle.yarn_plural.proofs.LineLemmas.{samples-there, samples-not}
use Rattle.yarn_plural.proofs.line.without_samples.Goals as goal
use Rattle.yarn_plural.proofs.line.without_samples.Goals.{else-len-gt0-via-then-len-gt0+else-is_samples, else-len-gt0-via-else-len-gt0}

pub returns-then-is_samples : goal.returns-then-is_samples
returns-then-is_samples c =
    let ts = c.args.tokens.now in
    sym (samples-there ts _ (length ts - 1) (omega arith) (sym c.is_samples.ensures ∙ c.if-is_samples.true))

pub returns-else-len-gt0 : goal.returns-else-len-gt0
returns-else-len-gt0 c =
    let ts = c.args.tokens.now in
    elim c.else-len-gt0.branch [
      | else-len-gt0-via-then-len-gt0+else-is_samples w ↦ sym (samples-not ts _ (length ts - 1) (omega arith) (sym w.is_samples.ensures ∙ w.if-is_samples.false))
      | else-len-gt0-via-else-len-gt0 w ↦ let e = nil_from_length ts (omega arith) in rw e refl
    ]
