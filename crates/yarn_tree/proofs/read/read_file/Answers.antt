use Rattle.std.proofs.Common.{sym}
use Rattle.yarn_tree.proofs.ReadLemmas.{big-told}
use Rattle.yarn_tree.proofs.read.read_file.Goals as goal

pub returns-in-Some : goal.returns-in-Some
returns-in-Some c = big-told c.args.file.now c.in-Some.place c.refused.result (sym c.in-Some.ensures) c.refused.ensures
