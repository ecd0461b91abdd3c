use Rattle.std.proofs.Common.{◌≡◌, Some, rules}
use Rattle.std.specs.Prelude.{IsUtf8}
use Rattle.yarn_plural.specs.Lines.{without_end}
use Rattle.yarn_plural.specs.Tokens.{Spells}
use Rattle.yarn_plural.proofs.MeaningLemmas.{lines_found}
use Rattle.yarn_plural.proofs.line.read_line.Goals as goal

pub returns-in-Some-2 : goal.returns-in-Some-2
returns-in-Some-2 c =
    let text = c.in-Some.text.now in
    let ended : without_end c.args.line.now ≡ Some text = search rules in
    let utf8 : IsUtf8 text = search rules in
    let spelled : Spells text c.as_slice.result.now = search rules in
    lines_found c.args.line.now text c.as_slice.result.now ended utf8 spelled c.read_meaning.result c.read_meaning.ensures
