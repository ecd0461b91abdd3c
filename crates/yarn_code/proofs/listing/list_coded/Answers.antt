use Rattle.std.proofs.Common.{rules}
use Rattle.yarn_code.proofs.CodedLemmas.{OnOk-map}
use Rattle.yarn_code.proofs.ListingLemmas.{coded_line}
use Rattle.yarn_code.proofs.listing.list_coded.Goals as goal

pub returns : goal.returns
returns c =
    let instr = c.args.one.now.instr in
    OnOk-map c.push_str-2.result
    (λ is words tell. coded_line c.args.at c.args.one.now.line (words instr) c.args.out.now c.push_str.new.self c.put_instr.new.out c.push_str-2.new.self
    (search rules) (c.in_ok-put_instr.ensures (words instr) (tell instr)) is)
    c.push_str-2.ensures.ok
