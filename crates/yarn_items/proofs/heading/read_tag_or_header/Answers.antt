use Rattle.yarn_items.proofs.Utf8Lemmas.{behind_hash-utf8}
use Rattle.yarn_items.proofs.heading.read_tag_or_header.Goals as goal

pub read_file_tag-requires : goal.read_file_tag-requires
read_file_tag-requires c = behind_hash-utf8 c.args.text.now c.if-text-eq35.true c.requires
