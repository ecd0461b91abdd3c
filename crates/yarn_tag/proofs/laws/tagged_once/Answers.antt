use Rattle.yarn_tag.proofs.TagTwice.{tagged_once_law}
use Rattle.yarn_tag.proofs.laws.tagged_once.Goals as goal

pub returns : goal.returns
returns c = tagged_once_law c.items_are_found.ensures c.one_item.ensures c.file_read_exactly.ensures
