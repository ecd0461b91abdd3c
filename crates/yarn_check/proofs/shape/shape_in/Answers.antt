use Rattle.std.proofs.Common.{◌≡◌, length, take, ap, sym, ◌∙◌}
use Rattle.yarn_check.specs.Pass.{Ended, walk, beginning}
use Rattle.yarn_check.specs.Views.{cells_of, walked_of, walked_from}
use Rattle.yarn_check.proofs.ShapeLemmas.{in_cells}
use Rattle.yarn_check.proofs.shape.shape_in.Goals as goal

pub returns-in-Ended-clause-there : goal.returns-in-Ended-clause-there
returns-in-Ended-clause-there c =
    let at = c.args.at in
    let code = c.args.code.now in
    let walked : walked_from at (Ended (cells_of c.as_slice.result.now)) ≡ walked_from at (walk c.args.names.now (take at code) 0 (beginning (length code))) =
    ap (λ l. walked_from at (Ended (cells_of l))) c.as_slice.ensures.value ∙ ap (λ w. walked_from at (walked_of w)) (sym c.in-Ended.is) ∙ c.in_ok-cells.ensures in
    in_cells c.args.names.now code at c.as_slice.result.now c.shape_among.result walked c.shape_among.ensures
