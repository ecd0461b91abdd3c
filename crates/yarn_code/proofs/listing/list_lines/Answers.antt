use Rattle.yarn_code.specs.Listing.{base_line}
use Rattle.yarn_code.proofs.ListingLemmas.{Awaits-next, Awaits-none}
use Rattle.yarn_code.proofs.listing.list_lines.Goals as goal

pub loop-line-preserved : goal.loop-line-preserved
loop-line-preserved c =
    Awaits-next base_line c.args.lines.now c.as_slice-line-items.result.now c.loop-line.line-index c.line-item.result c.args.out.now c.loop-line.out c.list_line.new.out
    c.as_slice-line-items.ensures c.loop-line-test.true c.line-item.is c.loop-line.invariant c.in_ok-list_line.ensures

pub returns : goal.returns
returns c =
    Awaits-none base_line c.args.lines.now c.as_slice-line-items.result.now c.loop-line.line-index c.args.out.now c.loop-line.out
    c.as_slice-line-items.ensures c.loop-line-test.false c.loop-line.invariant
