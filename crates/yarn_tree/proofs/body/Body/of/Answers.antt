use Rattle.std.proofs.Common.{List, subst}
use Rattle.yarn_blocks.specs.declared.entry.Entry.{Entry}
use Rattle.yarn_blocks.specs.BodyLine.{TakesNotable}
use Rattle.yarn_blocks.specs.View.{stmts_of}
use Rattle.yarn_tree.proofs.BareLemmas.{bare-found}
use Rattle.yarn_tree.proofs.body.Body.of.Goals as goal

pub invariant_of-result : goal.invariant_of-result
invariant_of-result c = λ told.
    bare-found c.args.lines c.take_notable.new.self c.take_notable.result c.is_none-is_bare.result (stmts_of c.in_ok-stmts.stmts)
    (subst (λ (lines : List Entry). TakesNotable lines c.take_notable.result c.take_notable.new.self) c.lines.ensures c.take_notable.ensures) c.is_none-is_bare.ensures told c.in_ok-stmts.ensures
