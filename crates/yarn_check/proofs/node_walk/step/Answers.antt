use Rattle.std.proofs.Common.{◌≡◌, ◌∙◌, sym, ap, ◌+◌, get_or}
use Rattle.std.specs.Option.{option_and_then}
use Rattle.yarn_check.specs.Shapes.{flow}
use Rattle.yarn_check.specs.Pass.{Nothing, Alone, Several, Moved, put_all, sized, step}
use Rattle.yarn_check.specs.Views.{stack_of, coming_of, cells_of, stepped_of, stepped_from}
use Rattle.yarn_check.proofs.Taken.{if_ok}
use Rattle.yarn_check.proofs.Alike.{run_alike}
use Rattle.yarn_check.proofs.node_walk.step.Goals as goal

pub returns-in-Alone-clause-whole : goal.returns-in-Alone-clause-whole
returns-in-Alone-clause-whole c =
    let p = c.args.names.now in
    let i = c.args.instr.now in
    let place = c.args.place in
    let old = cells_of c.args.cells.now.items in
    let mid = cells_of c.take_out.new.cells.items in
    let s = stack_of c.in-Alone.stack.value in
    let came : get_or old place Nothing ≡ Alone s = sym c.take_out.ensures.came ∙ ap coming_of c.in-Alone.is in
    if_ok (λ r. stepped_of r c.run.new.cells.items ≡ sized s (option_and_then (λ goals. put_all place goals mid) (flow p i place s.entries s.pending)))
    (λ r. stepped_from (place + 1) (stepped_of r c.run.new.cells.items) ≡ stepped_from (place + 1) (step p i place old (get_or old place Nothing)))
    c.run.result c.run.ensures.whole
    (λ r h.
    ap (stepped_from (place + 1)) h ∙ run_alike place s (flow p i place s.entries s.pending) mid old c.take_out.ensures.left
    ∙ ap (λ k. stepped_from (place + 1) (step p i place old k)) (sym came))

pub returns-in-Nothing-clause-whole : goal.returns-in-Nothing-clause-whole
returns-in-Nothing-clause-whole c =
    let old = cells_of c.args.cells.now.items in
    let came : get_or old c.args.place Nothing ≡ Nothing = sym c.take_out.ensures.came ∙ ap coming_of c.in-Nothing.is in
    ap Moved c.take_out.ensures.left ∙ ap (λ k. stepped_from (c.args.place + 1) (step c.args.names.now c.args.instr.now c.args.place old k)) (sym came)

pub returns-in-Several-clause-whole : goal.returns-in-Several-clause-whole
returns-in-Several-clause-whole c =
    let old = cells_of c.args.cells.now.items in
    let came : get_or old c.args.place Nothing ≡ Several = sym c.take_out.ensures.came ∙ ap coming_of c.in-Several.is in
    ap (λ k. stepped_from (c.args.place + 1) (step c.args.names.now c.args.instr.now c.args.place old k)) (sym came)
