use Rattle.std.proofs.Common.{◌≡◌, map, take}
use Rattle.yarn_check.specs.Shapes.{goal as goal_at}
use Rattle.yarn_check.specs.Views.{goal_of, stack_of}
use Rattle.yarn_check.proofs.flow.all.Given as goal

abbrev pub invariant-loop-label : goal.invariant-loop-label
invariant-loop-label l = map goal_of l.goals.items ≡ map (λ label. goal_at label (stack_of l.stack)) (take l.label-index l.labels)
