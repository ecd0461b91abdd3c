use Rattle.yarn_store.proofs.WritingLemmas.{readable_line}
use Rattle.yarn_store.proofs.write.push_line.Goals as goal

pub returns-clause-readable : goal.returns-clause-readable
returns-clause-readable c =
    readable_line (c.args.name.now, c.args.value.now) c.in_ok-spelled.spelled c.as_str.ensures.utf8 c.as_str-2.ensures.utf8 c.in_ok-spelled.ensures.text c.in_ok-spelled.ensures.ranged
