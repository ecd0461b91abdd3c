use Rattle.std.specs.Prelude.{map}
use Rattle.yarn_blocks.specs.View.{stmts_of}
use Rattle.yarn_types.specs.Units.{unit_of}
use Rattle.yarn_infer.proofs.BareLemmas.{bare-add}
use Rattle.yarn_infer.proofs.units.push_node.Goals as goal

pub returns-then-is_bare : goal.returns-then-is_bare
returns-then-is_bare c =
    bare-add c.args.file (stmts_of c.args.body.now) (map unit_of c.args.units.now.items) (c.is_bare.ensures c.if-is_bare.true)
