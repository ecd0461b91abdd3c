use Rattle.std.proofs.Common.{◌≡◌, ◌∙◌, sym, ap, [], ◌∷◌, ◌+◌, ◌++◌, map, reverse, Some, None, List, if◌then◌else◌}
use Rattle.yarn_value.specs.declared.value.Kind.TheVariants as kind
use Rattle.yarn_check.specs.Shapes.{goal as goal_at, goes_on, on_condition, on_kind, on_known, if_nothing, take_kinds, kind_called, kind_under, Of}
use Rattle.yarn_check.specs.declared.stack.Stack.{Stack}
use Rattle.yarn_check.specs.Views.{entry_of, goals_of, stack_of}
use Rattle.yarn_check.proofs.Taken.{if_ok}
use Rattle.yarn_check.proofs.flow.call.Goals as goal

pub returns-then-can : goal.returns-then-can
returns-then-can c =
    let spec = λ (s : Stack). take_kinds c.args.count [] (stack_of s).entries (λ kinds rest. on_known (kind_called c.args.names.now c.args.name.now kinds) (λ k. goes_on c.args.place (Of k ∷ rest) s.pending)) in
    let after = goes_on c.args.place (stack_of c.call_function.new.stack).entries c.call_function.new.stack.pending in
    let at : spec c.args.stack.value ≡ after = sym (ap spec c.deref_mut.ensures.value) ∙ c.in_ok-can.ensures c.args.place ∙ ap (λ b. if b then after else None) c.if-can.true in
    if_ok (λ r. goals_of r ≡ after) (λ r. goals_of r ≡ spec c.args.stack.value) c.one.result c.one.ensures (λ r h. h ∙ sym at)

pub returns-else-can : goal.returns-else-can
returns-else-can c =
    let spec = λ (s : Stack). take_kinds c.args.count [] (stack_of s).entries (λ kinds rest. on_known (kind_called c.args.names.now c.args.name.now kinds) (λ k. goes_on c.args.place (Of k ∷ rest) s.pending)) in
    let after = goes_on c.args.place (stack_of c.call_function.new.stack).entries c.call_function.new.stack.pending in
    let at : spec c.args.stack.value ≡ None = sym (ap spec c.deref_mut.ensures.value) ∙ c.in_ok-can.ensures c.args.place ∙ ap (λ b. if b then after else None) c.if-can.false in
    sym at
