use Rattle.std.proofs.Common.{◌≡◌, ◌∙◌, ap, map, reverse}
use Rattle.yarn_check.specs.Shapes.{on_kind}
use Rattle.yarn_check.specs.Views.{entry_of}
use Rattle.yarn_check.proofs.Taken.{top_is}
use Rattle.yarn_check.proofs.stack.Stack.has_on_top.Goals as goal

pub returns-in-Some : goal.returns-in-Some
returns-in-Some c = λ go.
    let items = c.as_slice.result.now in
    let top = top_is items c.in-Some.entry c.last.result c.in-Some.is c.last.ensures.value in
    let same : c.args.self.now.entries.items ≡ items = cc in
    ap (λ l. on_kind c.args.kind (reverse (map entry_of l)) (λ rest. go)) same
    ∙ ap (λ l. on_kind c.args.kind l (λ rest. go)) top.1
    ∙ c.is_of.ensures top.0 go
