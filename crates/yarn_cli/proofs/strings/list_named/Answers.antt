use Rattle.std.proofs.Common.{ℕ, List, [], ap, subst, ◌∙◌}
use Rattle.yarn_tree.specs.Reading.{reading_of}
use Rattle.yarn_cli.specs.Strings.{of_strings, of_listed}
use Rattle.yarn_cli.specs.Outcome.{trees_of}
use Rattle.yarn_cli.specs.Read.{AreSources}
use Rattle.yarn_cli.specs.Sources.{IsUnread}
use Rattle.yarn_cli.proofs.CutLemmas.{reading-cut}
use Rattle.yarn_cli.proofs.RunLemmas.{all-unsaid, unread-unsaid}
use Rattle.yarn_cli.proofs.strings.list_named.Goals as goal

pub returns-in-Sources : goal.returns-in-Sources
returns-in-Sources g c =
    let command = c.args.command.now in
    let facts = c.in-Sources.ensures in
    all-unsaid (λ files. of_listed command (trees_of (reading_of [] files))) (λ files. ap (λ r. of_listed command (trees_of r)) (reading-cut files))
    command.names c.list_sources.result _ _ _ _ c.in-Sources.sources
    (subst (λ (names : List (List ℕ)). AreSources (g.F.Files.contents c.args.files.now) names c.in-Sources.sources) (c.as_slice.ensures ∙ c.names.ensures) facts.read)
    c.list_sources.ensures facts.same facts.writes facts.count

pub returns-in-Unread : goal.returns-in-Unread
returns-in-Unread g c =
    let command = c.args.command.now in
    let facts = c.in-Unread.ensures in
    let said = c.read_failed in
    unread-unsaid command.names (of_strings command) said.result _ _ _ facts.same facts.writes c.in-Unread.name.now c.as_str.result.now facts.count
    (subst (λ (names : List (List ℕ)). IsUnread names (g.F.Files.contents c.args.files.now) (g.F.Files.latest_fault c.read_all.new.files) c.in-Unread.name.now)
    (c.as_slice.ensures ∙ c.names.ensures) facts.read.0)
    facts.read.1 c.as_str.ensures.value said.ensures.cases said.ensures.line
