use Rattle.std.proofs.Common.{sym, ◌∙◌}
use Rattle.yarn_cli.proofs.CommandLineLemmas.{found-parts}
use Rattle.yarn_cli.proofs.command.read_behind.Goals as goal

pub invariant_of-result : goal.invariant_of-result
invariant_of-result c =
    rw c.in_ok-names.ensures
    (found-parts c.args.kind c.args.words.now c.loop-next.pairs c.loop-next.rest.now c.loop-next.invariant (c.in_default.ensures c.loop-next.pairs)
    (sym c.are_names.ensures ∙ c.if-not-are_names.false))
