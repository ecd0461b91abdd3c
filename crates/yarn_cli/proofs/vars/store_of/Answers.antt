use Rattle.std.proofs.Common.{map}
use Rattle.yarn_tree.specs.Trees.{file_tree}
use Rattle.yarn_cli.specs.Play.{of_vars}
use Rattle.yarn_cli.specs.Play.{of_store}
use Rattle.yarn_cli.specs.Playing.{vars_seen}
use Rattle.yarn_cli.proofs.PlayLemmas.{goes-err}
use Rattle.yarn_cli.proofs.vars.store_of.Goals as goal

pub returns-in_err-pairs : goal.returns-in_err-pairs
returns-in_err-pairs c command =
    let files = map file_tree c.args.files.now in
    goes-err (of_vars command files c.args.typing.now.entries (vars_seen c.args.vars)) (of_store command files) c.from_residual.result c.in_err-pairs.field-0.0
    (c.in_err-pairs.ensures command) c.from_residual.ensures.1
