use Rattle.std.proofs.Common.{◌∙◌, ap, arith, length}
use Rattle.yarn_table.proofs.TableLemmas.{more_ids}
use Rattle.yarn_table.proofs.table.ids_of.Goals as goal

pub loop-line-preserved : goal.loop-line-preserved
loop-line-preserved c =
    c.in_ok-insert.ensures.keys ∙ more_ids c.args.base.now c.loop-line.line-index c.line-item.result c.loop-line.ids.keys c.in_ok-copy.field-0 c.requires (omega (arith, ap length c.as_slice-line-items.ensures)) (rw c.as_slice-line-items.ensures at c.line-item.is) c.in_ok-copy.ensures c.loop-line.invariant
