use Rattle.yarn_items.proofs.FirstLemmas.{pair-kept}
use Rattle.yarn_items.proofs.first.pair_in.Goals as goal

pub returns : goal.returns
returns c = pair-kept c.args.bytes.now c.lost_length_in-from.result c.requires.pair c.lost_length_in-from.ensures.value c.requires.utf8
