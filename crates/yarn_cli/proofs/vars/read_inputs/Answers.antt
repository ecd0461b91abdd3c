use Rattle.std.proofs.Common.{ℕ, List, subst, ◌∙◌}
use Rattle.yarn_cli.specs.Sources.{IsUnread}
use Rattle.yarn_cli.proofs.PlayLemmas.{source-fails}
use Rattle.yarn_cli.proofs.vars.read_inputs.Goals as goal

pub returns-in-Unread-clause-unread : goal.returns-in-Unread-clause-unread
returns-in-Unread-clause-unread g c =
    let unread = c.in-Unread.ensures.read in
    source-fails (g.F.Files.contents c.args.files.now) c.args.command.now (g.F.Files.latest_fault c.read_all.new.files)
    (g.F.Files.read_faults c.args.files.now) (g.F.Files.read_faults c.read_all.new.files) c.read_failed.result c.in-Unread.name.now c.as_str.result.now
    (subst (λ (names : List (List ℕ)). IsUnread names (g.F.Files.contents c.args.files.now) (g.F.Files.latest_fault c.read_all.new.files) c.in-Unread.name.now)
    (c.as_slice.ensures ∙ c.names.ensures) unread.0)
    unread.1 c.as_str.ensures.value c.read_failed.ensures.cases c.read_failed.ensures.line
