use Rattle.std.proofs.Common.{ℕ, List, map, subst}
use Rattle.std.proofs.Common.{string_bytes}
use Rattle.yarn_tree.specs.Trees.{file_tree}
use Rattle.yarn_cli.specs.Kinds.{SaysFault}
use Rattle.yarn_cli.specs.Outcome.{kinds_of}
use Rattle.yarn_cli.specs.Playing.{vars_seen}
use Rattle.yarn_cli.proofs.PlayLemmas.{kinds-end}
use Rattle.yarn_cli.proofs.play.walk_of.Goals as goal

pub returns-clause-goes_on : goal.returns-clause-goes_on
returns-clause-goes_on c =
    let files = map file_tree c.args.project.now.files in
    let refused = c.refused_for_kinds in
    kinds-end c.args.command.now files (kinds_of files) (vars_seen c.args.vars) c.in-Err.fault refused.result c.in-Err.ensures refused.ensures.cases
    (λ is. subst (λ (names : List (List ℕ)). SaysFault names c.in-Err.fault (string_bytes refused.result.line)) c.names.ensures (refused.ensures.line is))
