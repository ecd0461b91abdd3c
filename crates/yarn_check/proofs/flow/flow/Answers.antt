use Rattle.std.proofs.Common.{◌≡◌, ◌∙◌, sym, ap, [], ◌∷◌, ◌+◌, ◌++◌, map, reverse, Some, None, List, if◌then◌else◌}
use Rattle.yarn_value.specs.declared.value.Kind.TheVariants as kind
use Rattle.yarn_code.specs.declared.program.Instr.TheVariants as code
use Rattle.yarn_check.specs.Shapes.{flow, goal as goal_at, goes_on, on_condition, on_kind, on_known, if_nothing, take_kinds, kind_called, kind_under, Of}
use Rattle.yarn_check.specs.declared.stack.Stack.{Stack}
use Rattle.yarn_check.specs.Views.{entry_of, goals_of, stack_of}
use Rattle.yarn_check.proofs.Taken.{if_ok}
use Rattle.yarn_check.proofs.flow.flow.Goals as goal

pub returns-in-CallFunc : goal.returns-in-CallFunc
returns-in-CallFunc c =
    let s = stack_of c.args.stack.value in
    if_ok (λ r. goals_of r ≡ flow c.args.names.now (code.CallFunc c.in-CallFunc.count c.in-CallFunc.name) c.args.place s.entries s.pending)
    (λ r. goals_of r ≡ flow c.args.names.now c.args.instr.now c.args.place s.entries s.pending) c.call.result c.call.ensures
    (λ r h. h ∙ ap (λ i. flow c.args.names.now i c.args.place s.entries s.pending) (sym c.in-CallFunc.is))
