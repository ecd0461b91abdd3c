use Rattle.std.proofs.Common.{◌≡◌, ◌∙◌, sym, ap, [], ◌∷◌, ◌+◌, ◌++◌, map, reverse, Some, None, List, if◌then◌else◌}
use Rattle.yarn_value.specs.declared.value.Kind.TheVariants as kind
use Rattle.yarn_check.specs.Shapes.{goal as goal_at, goes_on, on_condition, on_kind, on_known, if_nothing, take_kinds, kind_called, kind_under, Of}
use Rattle.yarn_check.specs.declared.stack.Stack.{Stack}
use Rattle.yarn_check.specs.Views.{entry_of, goals_of, stack_of}
use Rattle.yarn_check.proofs.Taken.{if_ok}
use Rattle.yarn_check.proofs.flow.jump_if_false.Goals as goal

pub returns-then-has_on_top : goal.returns-then-has_on_top
returns-then-has_on_top c =
    let go = Some (goal_at c.args.label (stack_of c.args.stack.value) ∷ goal_at (c.args.place + 1) (stack_of c.args.stack.value) ∷ []) in
    let spec = λ (s : Stack). on_kind kind.Truth (stack_of s).entries (λ rest. go) in
    let at : spec c.args.stack.value ≡ go = sym (ap spec c.deref.ensures) ∙ c.has_on_top.ensures go ∙ ap (λ b. if b then go else None) c.if-has_on_top.true in
    if_ok (λ r. goals_of r ≡ go) (λ r. goals_of r ≡ spec c.args.stack.value) c.both.result c.both.ensures (λ r h. h ∙ sym at)

pub returns-else-has_on_top : goal.returns-else-has_on_top
returns-else-has_on_top c =
    let go = Some (goal_at c.args.label (stack_of c.args.stack.value) ∷ goal_at (c.args.place + 1) (stack_of c.args.stack.value) ∷ []) in
    let spec = λ (s : Stack). on_kind kind.Truth (stack_of s).entries (λ rest. go) in
    let at : spec c.args.stack.value ≡ None = sym (ap spec c.deref.ensures) ∙ c.has_on_top.ensures go ∙ ap (λ b. if b then go else None) c.if-has_on_top.false in
    sym at
