use Rattle.yarn_code.specs.Listing.{variable_line}
use Rattle.yarn_code.proofs.ListingLemmas.{Awaits-next, Awaits-none}
use Rattle.yarn_code.proofs.listing.list_variables.Goals as goal

pub loop-variable-preserved : goal.loop-variable-preserved
loop-variable-preserved c =
    Awaits-next variable_line c.args.variables.now c.as_slice-variable-items.result.now c.loop-variable.variable-index c.variable-item.result c.args.out.now c.loop-variable.out c.list_variable.new.out
    c.as_slice-variable-items.ensures c.loop-variable-test.true c.variable-item.is c.loop-variable.invariant c.in_ok-list_variable.ensures

pub returns : goal.returns
returns c =
    Awaits-none variable_line c.args.variables.now c.as_slice-variable-items.result.now c.loop-variable.variable-index c.args.out.now c.loop-variable.out
    c.as_slice-variable-items.ensures c.loop-variable-test.false c.loop-variable.invariant
