use Rattle.std.proofs.Common.{map}
use Rattle.yarn_tree.specs.Trees.{file_tree}
use Rattle.yarn_cli.specs.Play.{of_run}
use Rattle.yarn_cli.proofs.PlayLemmas.{goes-named}
use Rattle.yarn_cli.proofs.vars.first_pairs.Goals as goal

pub returns-in-Some : goal.returns-in-Some
returns-in-Some c command =
    let files = map file_tree c.args.files.now in
    goes-named command files c.args.typing.now.entries c.args.vars c.in-Some.file (of_run command files c.args.typing.now.entries) c.kept_pairs.result
    c.in-Some.is (c.kept_pairs.ensures command)
