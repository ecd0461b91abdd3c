use Rattle.std.proofs.Common.{◌+◌, ap, ◌∙◌}
use Rattle.std.proofs.lemmas.List.{take_rest}
use Rattle.yarn_items.specs.Text.{trimmed}
use Rattle.yarn_items.proofs.HeadingLemmas.{value-utf8}
use Rattle.yarn_items.proofs.heading.read_header.Goals as goal

pub read_header_with-requires : goal.read_header_with-requires
read_header_with-requires c =
    let text = c.args.text.now in
    let colon = c.first_colon-colon.result in
    let is = c.without_blanks.ensures ∙ ap trimmed (take_rest text (colon + 1)) in
    rw is (value-utf8 text colon c.first_colon-colon.ensures.value c.if-colon-text.true c.requires)
