use Rattle.yarn_items.proofs.Utf8Lemmas.{trimmed-utf8}
use Rattle.yarn_items.proofs.text.trimmed_copy.Goals as goal

pub copied-requires : goal.copied-requires
copied-requires c = rw c.without_blanks.ensures (trimmed-utf8 c.args.bytes.now c.requires)
