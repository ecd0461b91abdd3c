use Rattle.yarn_items.proofs.ContentBytes.{content-answer}
use Rattle.yarn_items.proofs.content.content_in.Goals as goal

pub returns : goal.returns
returns c =
    let found = c.in_ok-rest.ensures.cases in
    content-answer c.args.games c.args.bytes.now _ _ c.content_length_in.result (record { own = c.without_blanks.result; rest = c.in_ok-rest.rest })
    c.content_length_in.ensures.value c.split_at.ensures.front c.split_at.ensures.back found.0 found.1 c.without_blanks.ensures c.requires
