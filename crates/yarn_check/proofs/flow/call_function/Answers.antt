use Rattle.std.proofs.Common.{◌≡◌, ℕ, ◌∙◌, sym, ap, [], ◌∷◌, ◌+◌, ◌++◌, map, reverse, Some, None, List, if◌then◌else◌}
use Rattle.yarn_value.specs.declared.value.Kind.TheVariants as kind
use Rattle.yarn_check.specs.Shapes.{goal as goal_at, goes_on, on_condition, on_kind, on_known, if_nothing, take_kinds, kind_called, kind_under, Of}
use Rattle.yarn_check.specs.declared.stack.Stack.{Stack}
use Rattle.yarn_check.specs.Views.{entry_of, goals_of, stack_of}
use Rattle.yarn_check.proofs.Taken.{if_ok, taken}
use Rattle.yarn_check.proofs.flow.call_function.Goals as goal

pub returns-in-Some : goal.returns-in-Some
returns-in-Some c =
    let old = reverse (map entry_of c.args.stack.now.entries.items) in
    let next = reverse (map entry_of c.take.new.entries.items) in
    let takes = taken c.args.count old next c.in_ok-kinds.field-0 c.in-Some.kinds c.in-Some.is c.in_ok-kinds.ensures in
    let same : c.call-result.result ≡ kind_called c.args.names.now c.args.name.now c.in-Some.kinds.items = c.call-result.ensures ∙ ap (kind_called c.args.names.now c.args.name.now) c.as_slice.ensures.value in
    if_ok (λ can. (place : ℕ) → on_known c.call-result.result (λ k. goes_on place (Of k ∷ next) c.args.stack.now.pending) ≡ (if can then goes_on place (stack_of c.push_result.new.stack).entries c.push_result.new.stack.pending else None))
    (λ can. (place : ℕ) → take_kinds c.args.count [] old (λ kinds rest. on_known (kind_called c.args.names.now c.args.name.now kinds) (λ k. goes_on place (Of k ∷ rest) c.args.stack.now.pending)) ≡ (if can then goes_on place (stack_of c.push_result.new.stack).entries c.push_result.new.stack.pending else None))
    c.push_result.result c.push_result.ensures
    (λ can h place.
    takes (λ kinds rest. on_known (kind_called c.args.names.now c.args.name.now kinds) (λ k. goes_on place (Of k ∷ rest) c.args.stack.now.pending))
    ∙ ap (λ o. on_known o (λ k. goes_on place (Of k ∷ next) c.args.stack.now.pending)) (sym same) ∙ h place)
