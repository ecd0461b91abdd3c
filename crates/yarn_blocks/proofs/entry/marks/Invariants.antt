use Rattle.std.proofs.Common.{◌≡◌, ◌++◌, drop}
use Rattle.yarn_blocks.specs.Entries.{marks_of}
use Rattle.yarn_blocks.proofs.entry.marks.Given as goal

abbrev pub invariant-loop-entry : goal.invariant-loop-entry
invariant-loop-entry l = l.marks.items ++ marks_of (drop l.entry-index l.entries) ≡ marks_of l.entries
