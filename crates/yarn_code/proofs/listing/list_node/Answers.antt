use Rattle.std.proofs.Common.{◌∷◌, [], codes}
use Rattle.std.specs.Fmt.{decimal}
use Rattle.yarn_code.specs.Listing.{line, each, instruction_line}
use Rattle.yarn_code.proofs.CodedLemmas.{OnOk-map}
use Rattle.yarn_code.proofs.ListingLemmas.{both_added}
use Rattle.yarn_code.proofs.listing.list_node.Goals as goal

pub returns : goal.returns
returns c =
    let node = c.args.one.now in
    OnOk-map c.list_code.result
    (λ told words tell. both_added c.args.out.now (line (codes "node") (node.title ∷ decimal node.file ∷ [])) (each (instruction_line words) 0 node.code) c.list_title.new.out c.list_code.new.out
    c.in_ok-list_title.ensures (told words tell))
    c.list_code.ensures
