use Rattle.std.proofs.Common.{refl, sym, ◌∙◌}
use Rattle.yarn_items.proofs.RunLemmas.{line-parts}
use Rattle.yarn_items.proofs.AnswerLemmas.{plain-answer}
use Rattle.yarn_items.proofs.text.read_text.Goals as goal

pub trimmed_copy-requires : goal.trimmed_copy-requires
trimmed_copy-requires c = (line-parts c.args.bytes.now c.chars_length_in-length.result c.chars_length_in-length.ensures.value c.requires).0

pub returns-in_ok-trimmed_copy : goal.returns-in_ok-trimmed_copy
returns-in_ok-trimmed_copy c =
    plain-answer _ c.args.bytes.now c.chars_length_in-length.result c.chars_length_in-length.ensures.value (sym c.begins_more_in.ensures ∙ c.if-begins_more_in.false)
    c.requires c.in_ok-trimmed_copy.ensures c.new.ensures c.without_literals.ensures refl
