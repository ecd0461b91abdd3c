use Rattle.std.proofs.Common.{ap, sym, ◌∙◌}
use Rattle.std.proofs.lemmas.Result.{IfOk-weaker}
use Rattle.yarn_markup.specs.Tags.{head_at}
use Rattle.yarn_markup.specs.Steps.{IsFurtherAnswer, IsTagAnswer}
use Rattle.yarn_markup.proofs.TagLemmas.{tag_of_further}
use Rattle.yarn_markup.proofs.tag.read_tag.Goals as goal

pub returns-in-Some : goal.returns-in-Some
returns-in-Some c =
    let begins = rw c.in-Some.is at c.in_ok-head.ensures in
    IfOk-weaker c.read_further.result (IsFurtherAnswer c.in-Some.head) (IsTagAnswer c.args.text.now) (tag_of_further c.args.text.now c.in-Some.head (sym (ap head_at c.past_blanks.ensures) ∙ begins)) c.read_further.ensures
