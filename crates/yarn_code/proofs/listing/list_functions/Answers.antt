use Rattle.yarn_code.specs.Listing.{function_line}
use Rattle.yarn_code.proofs.ListingLemmas.{Awaits-next, Awaits-none}
use Rattle.yarn_code.proofs.listing.list_functions.Goals as goal

pub loop-function-preserved : goal.loop-function-preserved
loop-function-preserved c =
    Awaits-next function_line c.args.functions.now c.as_slice-function-items.result.now c.loop-function.function-index c.function-item.result c.args.out.now c.loop-function.out c.list_function.new.out
    c.as_slice-function-items.ensures c.loop-function-test.true c.function-item.is c.loop-function.invariant c.in_ok-list_function.ensures

pub returns : goal.returns
returns c =
    Awaits-none function_line c.args.functions.now c.as_slice-function-items.result.now c.loop-function.function-index c.args.out.now c.loop-function.out
    c.as_slice-function-items.ensures c.loop-function-test.false c.loop-function.invariant
