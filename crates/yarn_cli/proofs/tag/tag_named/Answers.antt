use Rattle.std.proofs.Common.{ℕ, List, ap, subst}
use Rattle.yarn_cli.specs.Command.{from_of}
use Rattle.yarn_cli.specs.Tag.{of_tag, of_tagged, of_tags}
use Rattle.yarn_cli.specs.Messages.{name_at}
use Rattle.yarn_cli.specs.Read.{IsSource}
use Rattle.yarn_cli.proofs.CutLemmas.{tagging-cut}
use Rattle.yarn_cli.proofs.ReadLemmas.{unread-first}
use Rattle.yarn_cli.proofs.RunLemmas.{one-unsaid, unread-unsaid}
use Rattle.yarn_cli.proofs.tag.tag_named.Goals as goal

pub returns-in-Ok : goal.returns-in-Ok
returns-in-Ok g c =
    let command = c.args.command.now in
    let facts = c.in-Ok.ensures in
    one-unsaid (of_tagged command) (λ file. ap (λ r. of_tags command.names r) (tagging-cut file (from_of command))) (name_at command.names 0) command.names
    c.tag_source.result _ _ _ _ c.in-Ok.source
    (subst (λ (name : List ℕ). IsSource (g.F.Files.contents c.args.files.now) name c.in-Ok.source) c.first_name-name.ensures.at facts.source)
    c.tag_source.ensures facts.same facts.writes facts.cause.later

pub returns-in-Err-Failed : goal.returns-in-Err-Failed
returns-in-Err-Failed g c =
    let command = c.args.command.now in
    let facts = c.in-Err-Failed.ensures in
    let said = c.read_failed in
    unread-unsaid command.names (of_tag command) said.result _ _ _ facts.same facts.writes c.first_name-name.result.now c.as_str.result.now facts.cause.later
    (unread-first _ _ _ _ c.first_name-name.ensures.first (facts.named search)) (facts.cause.failed search) c.as_str.ensures.value said.ensures.cases said.ensures.line
