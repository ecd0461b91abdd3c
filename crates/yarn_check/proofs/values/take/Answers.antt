use Rattle.std.proofs.Common.{◌∙◌, sym, ap, [], ◌∷◌, map, reverse, ◌-◌, ◌+◌}
use Rattle.std.proofs.lemmas.List.{reverse-append}
use Rattle.yarn_check.specs.Shapes as spec
use Rattle.yarn_check.specs.Views.{entry_of}
use Rattle.yarn_check.proofs.Taken.{less_one}
use Rattle.yarn_check.proofs.values.take.Goals as goal

pub returns-in-None : goal.returns-in-None
returns-in-None c = λ go.
    c.loop.invariant go
    ∙ ap (λ m. spec.take_kinds m (reverse c.loop.kinds.items) (reverse (map entry_of c.loop.entries.items)) go) (less_one c.args.count c.loop.counter c.loop-test.true)
    ∙ c.in-None.ensures go (reverse c.loop.kinds.items) (c.args.count - (c.loop.counter + 1))

pub loop-preserved : goal.loop-preserved
loop-preserved c = λ go.
    let more = c.args.count - (c.loop.counter + 1) in
    c.loop.invariant go
    ∙ ap (λ m. spec.take_kinds m (reverse c.loop.kinds.items) (reverse (map entry_of c.loop.entries.items)) go) (less_one c.args.count c.loop.counter c.loop-test.true)
    ∙ c.in-Some.ensures go (reverse c.loop.kinds.items) more
    ∙ ap (λ l. spec.take_kinds more l (reverse (map entry_of c.pop_kind.new.entries.items)) go) (sym (ap reverse c.in_ok-push-in-Some.ensures.items ∙ reverse-append c.loop.kinds.items (c.in-Some.kind ∷ [])))
