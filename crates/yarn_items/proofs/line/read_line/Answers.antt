use Rattle.std.proofs.Common.{◌≡◌, IfOk, subst}
use Rattle.yarn_items.specs.TextForm.{text_found, IsTextAnswer}
use Rattle.yarn_items.proofs.ReadLemmas.{line-read}
use Rattle.yarn_items.proofs.line.read_line.Goals as goal

pub returns-in-Some : goal.returns-in-Some
returns-in-Some c =
    let read = subst (IsTextAnswer (text_found c.args.text.now)) c.in-Some.is c.in_ok-read.ensures in
    let same = line-read (text_found c.args.text.now) c.in-Some.read read in
    subst (λ x. IfOk c.read_line_of.result (λ found. found ≡ x)) same c.read_line_of.ensures
