use Rattle.std.proofs.Common.{Some, take}
use Rattle.yarn_table.proofs.WritingLemmas.{IsWriting}
use Rattle.yarn_table.proofs.write.write_table.Given as goal

abbrev pub invariant-loop-line : goal.invariant-loop-line
invariant-loop-line l = IsWriting (λ v. Some v.items) l.writer (l.files, l.nodes) (take l.line-index l.base)
