use Rattle.yarn_items.proofs.RunLemmas.{line-kept}
use Rattle.yarn_items.proofs.first.first_of_line.Goals as goal

pub returns-then-length-gt0 : goal.returns-then-length-gt0
returns-then-length-gt0 c =
    line-kept c.args.bytes.now c.chars_length_in-length.result c.chars_length_in-length.ensures.value c.if-length-gt0.true c.chars_length_in-length.ensures.within c.requires
