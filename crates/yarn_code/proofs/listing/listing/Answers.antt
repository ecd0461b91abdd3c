use Rattle.yarn_code.proofs.ListingLemmas.{program_listed}
use Rattle.yarn_code.proofs.listing.listing.Goals as goal

pub returns : goal.returns
returns c =
    program_listed c.args.program.now c.in_ok-out.out c.list_files.new.out c.list_variables.new.out c.list_functions.new.out c.list_nodes.new.out c.list_lines.new.out
    c.in_ok-out.ensures c.in_ok-list_files.ensures c.in_ok-list_variables.ensures c.in_ok-list_functions.ensures c.in_ok-list_nodes.ensures c.in_ok-list_lines.ensures
