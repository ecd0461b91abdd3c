use Rattle.std.proofs.Common.{arith}
use Rattle.std.proofs.lemmas.Grind.{common_steps}
use Rattle.yarn_print.proofs.Pieces.{without_holes}
use Rattle.yarn_print.proofs.texts.write_text.Goals as goal

pub returns : goal.returns
returns c =
    let all = without_holes c.args.spelling c.loop-hole.rest.now in
    grind (arith, common_steps)
