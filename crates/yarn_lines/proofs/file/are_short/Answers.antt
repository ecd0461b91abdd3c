use Rattle.std.proofs.Common.{◌+◌, sym, ap, ◌∙◌, arith}
use Rattle.std.proofs.lemmas.List.{take_rest, length-take-le}
use Rattle.yarn_lines.specs.Lines.{pieces_of, first_from, is_long}
use Rattle.yarn_lines.proofs.ShortLemmas.{short-few, short-to_lf}
use Rattle.yarn_lines.proofs.file.are_short.Goals as goal

pub slice_bounds-rest-count : goal.slice_bounds-rest-count
slice_bounds-rest-count c =
    omega (arith, c.loop-rest-test.true, c.in-Some.ensures.0.high, length-take-le 65537 c.loop-rest.rest.now (omega (arith, c.loop-rest-test.true)))

pub slice_bounds-rest-start : goal.slice_bounds-rest-start
slice_bounds-rest-start c =
    omega (arith, c.loop-rest-test.true, c.in-Some.ensures.0.high, length-take-le 65537 c.loop-rest.rest.now (omega (arith, c.loop-rest-test.true)))

pub loop-rest-preserved : goal.loop-rest-preserved
loop-rest-preserved c =
    let size = length-take-le 65537 c.loop-rest.rest.now (omega (arith, c.loop-rest-test.true)) in
    λ none. c.loop-rest.invariant (short-to_lf c.loop-rest.rest.now c.in-Some.at c.loop-rest-test.true (omega (arith, c.in-Some.ensures.0.high, size))
    c.in-Some.ensures.1 (sym (ap (λ l. first_from is_long 1 (pieces_of l)) (take_rest c.loop-rest.rest.now (c.in-Some.at + 1))) ∙ none))

pub returns : goal.returns
returns c = λ _. c.loop-rest.invariant (short-few c.loop-rest.rest.now (omega (arith, c.loop-rest-test.false)))
