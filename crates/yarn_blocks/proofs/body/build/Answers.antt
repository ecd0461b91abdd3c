use Rattle.yarn_blocks.specs.View.{stmts_of}
use Rattle.yarn_blocks.proofs.FrameLemmas.{not_refused, built}
use Rattle.yarn_blocks.proofs.body.build.Goals as goal

pub unreachable-requires : goal.unreachable-requires
unreachable-requires c = not_refused c.args.lines _ c.in-Err-Refused.field-0 c.into_parts-stmts.ensures c.in-Err-Refused.field-0-is c.in-Err-Refused.ensures c.requires

pub returns-in-Ok : goal.returns-in-Ok
returns-in-Ok c = built c.args.lines _ (stmts_of c.in-Ok.stmts) c.into_parts-stmts.ensures c.in-Ok.ensures
