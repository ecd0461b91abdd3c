use Rattle.yarn_code.proofs.BeginLemmas.{text_taken, text_refused}
use Rattle.yarn_code.proofs.reader.read_str.Goals as goal

pub returns-in-Ok : goal.returns-in-Ok
returns-in-Ok c =
    text_taken c.args.bytes.now c.in_ok-len.rest.now c.split_at.result.0.now c.split_at.result.1.now c.in-Ok.text.now c.in_ok-len.len c.in_ok-len.ensures c.if-rest-len.false c.split_at.ensures.front c.split_at.ensures.back c.in-Ok.ensures.cases.0 c.in-Ok.ensures.cases.1

pub returns-in-Err : goal.returns-in-Err
returns-in-Err c =
    text_refused c.args.bytes.now c.in_ok-len.rest.now c.split_at.result.0.now c.in_ok-len.len c.in_ok-len.ensures c.if-rest-len.false c.split_at.ensures.front c.in-Err.ensures.cases.0
