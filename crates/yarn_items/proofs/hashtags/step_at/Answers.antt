use Rattle.std.proofs.Common.{sym, ◌∙◌}
use Rattle.yarn_items.proofs.HashtagLemmas.{step-other}
use Rattle.yarn_items.proofs.Utf8Lemmas.{behind_hash-utf8}
use Rattle.yarn_items.proofs.hashtags.step_at.Goals as goal

pub tag_in-requires : goal.tag_in-requires
tag_in-requires c = behind_hash-utf8 c.args.bytes.now c.if-bytes-eq35.true c.requires.utf8

pub returns-else-bytes-eq35 : goal.returns-else-bytes-eq35
returns-else-bytes-eq35 c = step-other c.args.bytes.now c.requires.solid (sym c.ends_line_in.ensures ∙ c.if-ends_line_in.false) c.if-bytes-eq35.false
