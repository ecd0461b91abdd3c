use Rattle.yarn_check.proofs.OneShapes.{one_shapes}
use Rattle.yarn_check.proofs.laws.shapes_are_one.Goals as goal

pub returns : goal.returns
returns c = one_shapes
