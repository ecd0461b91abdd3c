use Rattle.std.proofs.Common.{subst, ◌∙◌, arith}
use Rattle.yarn_base.specs.Outside.{Named}
use Rattle.std.proofs.Common.{Option}
use Rattle.yarn_cli.specs.Read.{IsAdded}
use Rattle.yarn_cli.proofs.ReadLemmas.{sources-step, unread-is, Rose-later}
use Rattle.yarn_cli.proofs.read.read_all.Goals as goal

pub returns-in-Err-Failed-clause-read : goal.returns-in-Err-Failed-clause-read
returns-in-Err-Failed-clause-read g c =
    let inv = c.loop-name.invariant in
    let fault = c.in-Err-Failed.ensures in (
      unread-is _ c.args.names.now c.loop-name.name-index _ c.loop-name.sources _ c.loop-name-test.true c.name-item.is inv.0
          (fault.named search),
      Rose-later _ _ _ inv.2 (fault.cause.failed search),
    )

pub loop-name-preserved : goal.loop-name-preserved
loop-name-preserved g c =
    let inv = c.loop-name.invariant in
    let added = subst (λ (told : Option Named). IsAdded told c.name-item.result c.loop-name.sources c.add_source.new.sources) inv.1 c.in-Ok.ensures.added in (
      sources-step _ c.args.names.now c.loop-name.name-index _ _ _ c.loop-name-test.true c.name-item.is inv.0 added,
      c.in-Ok.ensures.same ∙ inv.1,
      omega (arith, inv.2, c.in-Ok.ensures.cause.later),
      c.in-Ok.ensures.writes ∙ inv.3,
    )
