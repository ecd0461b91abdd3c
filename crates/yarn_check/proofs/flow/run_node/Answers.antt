use Rattle.std.proofs.Common.{◌≡◌, ℕ, ◌∙◌, sym, ap, [], ◌∷◌, ◌+◌, ◌++◌, map, reverse, Some, None, List, if◌then◌else◌}
use Rattle.yarn_value.specs.declared.value.Kind.TheVariants as kind
use Rattle.yarn_check.specs.Shapes.{goal as goal_at, goes_on, on_condition, on_kind, on_known, if_nothing, take_kinds, kind_called, kind_under, Of}
use Rattle.yarn_check.specs.declared.stack.Stack.{Stack}
use Rattle.yarn_check.specs.Views.{entry_of, goals_of, stack_of}
use Rattle.yarn_check.proofs.Taken.{if_ok, nothing_pending}
use Rattle.yarn_check.proofs.flow.run_node.Goals as goal

pub returns-then-is_empty : goal.returns-then-is_empty
returns-then-is_empty c =
    let s = c.args.stack.value in
    let spec = λ (s : Stack). on_kind kind.Str (stack_of s).entries (λ rest. Some []) in
    let none : s.pending ≡ [] = sym (ap (λ (s : Stack). s.pending) c.deref.ensures) ∙ c.is_empty.ensures.0 c.if-is_empty.true in
    let at : spec s ≡ (if c.has_on_top-can.result then Some [] else None) = sym (ap spec c.deref-then-is_empty.ensures) ∙ c.has_on_top-can.ensures (Some []) in
    if_ok (λ r. goals_of r ≡ (if c.has_on_top-can.result then Some [] else None)) (λ r. goals_of r ≡ if_nothing s.pending (spec s)) c.end.result c.end.ensures
    (λ r h. h ∙ sym (nothing_pending s.pending (spec s) none ∙ at))
