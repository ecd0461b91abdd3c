use Rattle.std.proofs.Common.{◌++◌, ◌∙◌, ap, arith, encode_utf8}
use Rattle.std.proofs.lemmas.Str.{encode_ascii}
use Rattle.yarn_value.proofs.MarkLemmas.{open_step, close_step, backslashes_step, lone_step}
use Rattle.yarn_value.proofs.mark.behind_backslash.Goals as goal

pub returns-in-123 : goal.returns-in-123
returns-in-123 c = open_step c.args.holes c.args.text.now c.in-Some.rest
    (c.in-Some.ensures.bytes ∙ ap (λ f. encode_utf8 f ++ c.in-Some.rest.now) c.in-123.is ∙ ap (λ l. l ++ c.in-Some.rest.now) (encode_ascii 123 (omega arith))) c.in-Some.ensures.utf8

pub returns-in-125 : goal.returns-in-125
returns-in-125 c = close_step c.args.holes c.args.text.now c.in-Some.rest
    (c.in-Some.ensures.bytes ∙ ap (λ f. encode_utf8 f ++ c.in-Some.rest.now) c.in-125.is ∙ ap (λ l. l ++ c.in-Some.rest.now) (encode_ascii 125 (omega arith))) c.in-Some.ensures.utf8

pub returns-in-92 : goal.returns-in-92
returns-in-92 c = backslashes_step c.args.holes c.args.text.now c.in-Some.rest
    (c.in-Some.ensures.bytes ∙ ap (λ f. encode_utf8 f ++ c.in-Some.rest.now) c.in-92.is ∙ ap (λ l. l ++ c.in-Some.rest.now) (encode_ascii 92 (omega arith))) c.in-Some.ensures.utf8

pub returns-in_default : goal.returns-in_default
returns-in_default c = lone_step c.args.holes c.in-Some.first c.args.text c.in-Some.rest.now c.utf8.text c.in-Some.ensures.bytes (λ e. omega arith) (λ e. omega arith) (λ e. omega arith)
