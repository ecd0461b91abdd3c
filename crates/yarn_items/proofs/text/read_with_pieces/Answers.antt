use Rattle.std.proofs.Common.{Option, Some, None, refl, subst, ap, ◌∙◌}
use Rattle.yarn_items.specs.declared.first.Kind.TheVariants.{Line}
use Rattle.yarn_items.specs.declared.text.TextRead.{TextRead}
use Rattle.yarn_items.specs.Text.{trimmed}
use Rattle.yarn_items.specs.Written.{written, IsWrittenAnswer}
use Rattle.yarn_items.proofs.AnswerLemmas.{text-trimmed, text-none}
use Rattle.yarn_items.proofs.text.read_with_pieces.Goals as goal

pub returns-in_ok-text-in-Some : goal.returns-in_ok-text-in-Some
returns-in_ok-text-in-Some c =
    let is : IsWrittenAnswer (written Line 0 c.args.bytes.now) (Some c.in-Some.read) =
    subst (λ (o : Option TextRead). IsWrittenAnswer (written Line 0 c.args.bytes.now) o) c.in-Some.is c.in_ok-read.ensures in
    let own = c.in_ok-text-in-Some.ensures ∙ ap trimmed (c.as_bytes.ensures.value ∙ c.as_str.ensures.value) in
    text-trimmed c.args.bytes.now c.in-Some.read
    (record { text = c.in_ok-text-in-Some.text; holes = c.in-Some.read.holes; literals = c.in-Some.read.literals; rest = c.in-Some.read.rest }) is own refl refl refl

pub returns-in-None : goal.returns-in-None
returns-in-None c =
    let is : IsWrittenAnswer (written Line 0 c.args.bytes.now) None =
    subst (λ (o : Option TextRead). IsWrittenAnswer (written Line 0 c.args.bytes.now) o) c.in-None.is c.in_ok-read.ensures in
    text-none c.args.bytes.now is
