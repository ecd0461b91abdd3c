use Rattle.yarn_markup.proofs.TagLemmas.{no_further}
use Rattle.yarn_markup.proofs.tag.read_further.Goals as goal

pub returns : goal.returns
returns c = λ tag lone rest found.
    let adds = c.in_ok-behind.ensures in
    no_further c.args.head adds.further c.in_ok-behind.behind.now adds.goes c.in-None.ensures tag lone rest found
