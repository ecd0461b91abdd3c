use Rattle.std.proofs.Common.{◌≡◌, ◌∙◌, sym, ap, [], ◌∷◌, ◌+◌, ◌++◌, map, reverse, Some, None, List, if◌then◌else◌}
use Rattle.yarn_value.specs.declared.value.Kind.TheVariants as kind
use Rattle.yarn_check.specs.Shapes.{goal as goal_at, goes_on, on_condition, on_kind, on_known, if_nothing, take_kinds, kind_called, kind_under, Of}
use Rattle.yarn_check.specs.declared.stack.Stack.{Stack}
use Rattle.yarn_check.specs.Views.{entry_of, goals_of, stack_of}
use Rattle.yarn_check.proofs.Taken.{if_ok}
use Rattle.yarn_check.proofs.flow.store_variable.Goals as goal

pub returns-then-has_on_top : goal.returns-then-has_on_top
returns-then-has_on_top c =
    let go = goes_on c.args.place (stack_of c.args.stack.value).entries c.args.stack.value.pending in
    let spec = λ (s : Stack). on_kind c.in-Some.kind (stack_of s).entries (λ rest. go) in
    let known : kind_under c.args.names.now c.args.name.now ≡ Some c.in-Some.kind = sym c.variable.ensures ∙ c.in-Some.is in
    let at : spec c.args.stack.value ≡ go = sym (ap spec c.deref.ensures) ∙ c.has_on_top.ensures go ∙ ap (λ b. if b then go else None) c.if-has_on_top.true in
    let whole : on_known (kind_under c.args.names.now c.args.name.now) (λ k. on_kind k (stack_of c.args.stack.value).entries (λ rest. go)) ≡ go = ap (λ o. on_known o (λ k. on_kind k (stack_of c.args.stack.value).entries (λ rest. go))) known ∙ at in
    if_ok (λ r. goals_of r ≡ go) (λ r. goals_of r ≡ on_known (kind_under c.args.names.now c.args.name.now) (λ k. on_kind k (stack_of c.args.stack.value).entries (λ rest. go))) c.one.result c.one.ensures (λ r h. h ∙ sym whole)

pub returns-else-has_on_top : goal.returns-else-has_on_top
returns-else-has_on_top c =
    let go = goes_on c.args.place (stack_of c.args.stack.value).entries c.args.stack.value.pending in
    let spec = λ (s : Stack). on_kind c.in-Some.kind (stack_of s).entries (λ rest. go) in
    let known : kind_under c.args.names.now c.args.name.now ≡ Some c.in-Some.kind = sym c.variable.ensures ∙ c.in-Some.is in
    let at : spec c.args.stack.value ≡ None = sym (ap spec c.deref.ensures) ∙ c.has_on_top.ensures go ∙ ap (λ b. if b then go else None) c.if-has_on_top.false in
    sym (ap (λ o. on_known o (λ k. on_kind k (stack_of c.args.stack.value).entries (λ rest. go))) known ∙ at)
