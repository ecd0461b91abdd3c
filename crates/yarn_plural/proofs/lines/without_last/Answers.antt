use Rattle.std.proofs.Common.{◌-◌, length, arith}
use Rattle.std.proofs.lemmas.Grind.{common_steps}
use Rattle.yarn_plural.proofs.LineLemmas.{without_last-take}
use Rattle.yarn_plural.proofs.lines.without_last.Goals as goal

pub returns-then-len-gt0 : goal.returns-then-len-gt0
returns-then-len-gt0 c =
    let text = c.args.text.now in
    grind (arith, common_steps, without_last-take text (length text - 1))
