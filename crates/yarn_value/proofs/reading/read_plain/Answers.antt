use Rattle.std.proofs.Common.{length, arith, ap, ◌∙◌}
use Rattle.std.proofs.lemmas.Grind.{common_steps}
use Rattle.yarn_value.proofs.PlainLemmas.{plain_read, plain_long}
use Rattle.yarn_value.proofs.reading.read_plain.Goals as goal

pub returns-then-len-gt-MOST_BYTES-clause-parts : goal.returns-then-len-gt-MOST_BYTES-clause-parts
returns-then-len-gt-MOST_BYTES-clause-parts c = plain_long c.args.holes c.args.text.now c.requires (grind (arith, common_steps))

pub returns-clause-parts : goal.returns-clause-parts
returns-clause-parts c =
    plain_read c.args.holes c.args.text.now c.in_ok-run.run' c.keep.new.pieces c.new.result.parts c.requires (grind (arith, common_steps)) c.in_ok-run.ensures
    (grind (arith, common_steps)) c.new.ensures.parts
