use Rattle.std.proofs.Common.{◌-◌, length, arith}
use Rattle.std.proofs.lemmas.Grind.{common_steps}
use Rattle.std.proofs.lemmas.Bool.Decides.{nat_tests}
use Rattle.yarn_plural.proofs.LineLemmas.{ends_with-last}
use Rattle.yarn_plural.proofs.lines.ends_with.Goals as goal

pub returns-then-len-gt0 : goal.returns-then-len-gt0
returns-then-len-gt0 c =
    let text = c.args.text.now in
    grind (arith, nat_tests, common_steps, ends_with-last c.args.last text (length text - 1))
