use Rattle.std.proofs.Common.{◌≡◌, ℕ, ◌∙◌, sym, ap, [], ◌∷◌, ◌+◌, ◌++◌, map, reverse, Some, None, List, if◌then◌else◌}
use Rattle.yarn_value.specs.declared.value.Kind.TheVariants as kind
use Rattle.yarn_check.specs.Shapes.{goal as goal_at, goes_on, on_condition, on_kind, on_known, if_nothing, take_kinds, kind_called, kind_under, Of}
use Rattle.yarn_check.specs.declared.stack.Stack.{Stack}
use Rattle.yarn_check.specs.Views.{entry_of, goals_of, stack_of}
use Rattle.yarn_check.proofs.Taken.{if_ok, nothing_pending}
use Rattle.yarn_check.proofs.flow.give_values.Goals as goal

pub returns-then-is_empty : goal.returns-then-is_empty
returns-then-is_empty c =
    let old = reverse (map entry_of c.args.stack.now.entries.items) in
    let pending = c.args.stack.now.pending in
    let none : pending ≡ [] = c.is_empty.ensures.0 c.if-is_empty.true in
    if_ok (λ can. (place : ℕ) → take_kinds c.args.count [] old (λ kinds rest. goes_on place rest pending) ≡ (if can then goes_on place (stack_of c.take_values.new.stack).entries c.take_values.new.stack.pending else None))
    (λ can. (place : ℕ) → if_nothing pending (take_kinds c.args.count [] old (λ kinds rest. goes_on place rest pending)) ≡ (if can then goes_on place (stack_of c.take_values.new.stack).entries c.take_values.new.stack.pending else None))
    c.take_values.result c.take_values.ensures
    (λ can h place. nothing_pending pending (take_kinds c.args.count [] old (λ kinds rest. goes_on place rest pending)) none ∙ h place)
