use Rattle.std.proofs.Common.{sym, ap, ◌∙◌, arith}
use Rattle.std.proofs.lemmas.Str.Pattern.{split_parts}
use Rattle.yarn_print.specs.Pieces.{past_brace}
use Rattle.yarn_print.proofs.Pieces.{past_brace-cut, past_brace-none}
use Rattle.yarn_print.proofs.texts.past_hole.Goals as goal

pub returns-in-Some-clause-rest : goal.returns-in-Some-clause-rest
returns-in-Some-clause-rest c =
    let parts = split_parts 125 c.args.text.now c.split_once.result c.split_once.ensures.cases (omega arith) in
    let both = rw c.in-Some.is at parts in
    sym (ap past_brace both.0 ∙ past_brace-cut c.in-Some.field-0-0.now c.in-Some.rest.now both.1)

pub returns-in-None-clause-rest : goal.returns-in-None-clause-rest
returns-in-None-clause-rest c =
    let parts = split_parts 125 c.args.text.now c.split_once.result c.split_once.ensures.cases (omega arith) in
    let free = rw c.in-None.is at parts in
    sym (past_brace-none c.args.text.now free)
