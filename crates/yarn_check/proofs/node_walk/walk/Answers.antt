use Rattle.std.proofs.Common.{◌≡◌, ◌∙◌, sym, ap, ◌+◌, length, get_or, None}
use Rattle.yarn_check.specs.Pass.{Moved}
use Rattle.yarn_check.specs.Views.{cells_of, stepped_of, stepped_from}
use Rattle.yarn_check.proofs.CellLists.{none_from}
use Rattle.yarn_check.proofs.Alike.{step_at}
use Rattle.yarn_check.proofs.node_walk.walk.Goals as goal

pub loop-place-preserved : goal.loop-place-preserved
loop-place-preserved c =
    let place = c.loop-place.place in
    let cells = cells_of c.loop-place.cells.items in
    let none : c.in_ok-fault.fault ≡ None = none_from c.in_ok-fault.fault c.in_default.not-Some in
    let coded = get_or c.args.code.now place c.index-code-place.result in
    let is : coded ≡ get_or c.args.code.now place coded = ap (get_or c.args.code.now place) c.index-code-place.is in
    let ran = ap (λ r. stepped_from (place + 1) (stepped_of r c.step.new.cells.items)) (sym none) ∙ c.in_ok-fault.ensures.whole in
    record {
      long = c.in_ok-fault.ensures.count ∙ c.loop-place.invariant.long;
      rest = step_at c.args.names.now c.args.code.now c.args.end place cells coded (Moved (cells_of c.step.new.cells.items)) c.loop-place-test.true c.requires.within is ran ∙ c.loop-place.invariant.rest;
    }
