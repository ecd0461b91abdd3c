use Rattle.yarn_items.proofs.FirstLemmas.{hole-first, hole-breaks}
use Rattle.yarn_items.proofs.first.hole_in.Goals as goal

pub returns-in-Some : goal.returns-in-Some
returns-in-Some c = hole-first c.args.kind c.args.bytes.now c.in-Some.length c.requires.begins c.in-Some.ensures.cut c.requires.utf8

pub returns-in-None : goal.returns-in-None
returns-in-None c = hole-breaks c.args.kind c.args.bytes.now c.requires.begins c.in-None.ensures.cut
