use Rattle.std.proofs.Common.{◌∙◌, ap, length}
use Rattle.yarn_lines.specs.Lines.{without_trailing}
use Rattle.yarn_tree.specs.declared.end.Part.TheVariants.{InText}
use Rattle.yarn_tree.specs.Scan.{end_of, front_of}
use Rattle.yarn_tree.proofs.EndLemmas.{line-ends, offer-ends}
use Rattle.yarn_tree.proofs.end.text_end.Goals as goal

pub returns-clause-value : goal.returns-clause-value
returns-clause-value c =
    ap length c.without_blanks_behind.ensures ∙ ap (λ l. length (without_trailing l)) c.before_comment.ensures ∙ ap end_of (c.as_bytes.ensures.value ∙ c.as_str.ensures.value)

pub returns-clause-line : goal.returns-clause-line
returns-clause-line c = λ tokens said is.
    line-ends c.args.text.now tokens said (length c.without_blanks_behind.result.now)
    (ap length c.without_blanks_behind.ensures ∙ ap (λ l. length (without_trailing l)) c.before_comment.ensures
    ∙ ap (λ l. length (without_trailing (front_of InText l))) (c.as_bytes.ensures.value ∙ c.as_str.ensures.value))
    is

pub returns-clause-offer : goal.returns-clause-offer
returns-clause-offer c = λ tokens said asked is.
    offer-ends c.args.text.now tokens said asked (length c.without_blanks_behind.result.now)
    (ap length c.without_blanks_behind.ensures ∙ ap (λ l. length (without_trailing l)) c.before_comment.ensures
    ∙ ap (λ l. length (without_trailing (front_of InText l))) (c.as_bytes.ensures.value ∙ c.as_str.ensures.value))
    is
