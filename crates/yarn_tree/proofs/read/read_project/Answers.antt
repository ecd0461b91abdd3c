use Rattle.std.proofs.Common.{sym}
use Rattle.yarn_tree.proofs.ReadLemmas.{too_much-told}
use Rattle.yarn_tree.proofs.read.read_project.Goals as goal

pub returns-in-Some : goal.returns-in-Some
returns-in-Some c = too_much-told c.args.signatures.now c.args.files c.in-Some.place c.refused.result (rw c.as_slice.ensures at (sym c.in-Some.ensures)) c.refused.ensures
