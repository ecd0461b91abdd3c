use Rattle.std.proofs.Common.{sym, ◌∙◌, refl}
use Rattle.yarn_tag.specs.Sets.{has, has_line}
use Rattle.yarn_tag.specs.Tagged.{here}
use Rattle.yarn_tag.proofs.PassLemmas.{passes-kept, passes-tagged}
use Rattle.yarn_tag.proofs.tagger.Tagger.take.Goals as goal

pub returns-then-not-contains : goal.returns-then-not-contains
returns-then-not-contains c = passes-kept c.args.bytes.now (has_line c.args.lacking.now) (has c.args.taken.now) c.args.line.now c.args.self.now
    (sym c.contains.ensures ∙ c.if-not-contains.true)

pub returns-in_ok-self-in-Ok-Some : goal.returns-in_ok-self-in-Ok-Some
returns-in_ok-self-in-Ok-Some c = passes-tagged c.args.bytes.now (has_line c.args.lacking.now) (has c.args.taken.now) c.args.line.now c.args.self.now _
    c.in-Ok-Some.number c.in_ok-self-in-Ok-Some.field-0 (sym c.contains.ensures ∙ c.if-not-contains.false)
    (rw c.in-Ok-Some.field-0-is at c.in-Ok-Some.ensures) c.in_ok-self-in-Ok-Some.ensures refl refl

pub returns-in-Ok-None : goal.returns-in-Ok-None
returns-in-Ok-None c = λ lines. here (sym c.contains.ensures ∙ c.if-not-contains.false) (rw c.in-Ok-None.field-0-is at c.in-Ok-None.ensures)
