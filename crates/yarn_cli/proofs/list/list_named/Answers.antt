use Rattle.yarn_cli.specs.List.{of_list}
use Rattle.yarn_cli.specs.Messages.{name_at}
use Rattle.yarn_cli.proofs.ListLemmas.{program-unsaid}
use Rattle.yarn_cli.proofs.ReadLemmas.{unread-first}
use Rattle.yarn_cli.proofs.RunLemmas.{unread-unsaid}
use Rattle.yarn_cli.proofs.list.list_named.Goals as goal

pub returns-in-Ok : goal.returns-in-Ok
returns-in-Ok g c =
    let command = c.args.command.now in
    let facts = c.in-Ok.ensures in
    program-unsaid command.names (name_at command.names 0) c.first_name-name.result.now c.in-Ok.bytes.items c.from_vec.result c.list_bytes.result _ _ _ _
    c.first_name-name.ensures.at c.from_vec.ensures facts.bytes c.list_bytes.ensures facts.same facts.writes facts.cause.later

pub returns-in-Err-Failed : goal.returns-in-Err-Failed
returns-in-Err-Failed g c =
    let command = c.args.command.now in
    let facts = c.in-Err-Failed.ensures in
    let said = c.read_failed in
    unread-unsaid command.names (of_list command) said.result _ _ _ facts.same facts.writes c.first_name-name.result.now c.as_str.result.now facts.cause.later
    (unread-first _ _ _ _ c.first_name-name.ensures.first (facts.named search)) (facts.cause.failed search) c.as_str.ensures.value said.ensures.cases said.ensures.line
