-- A read fails only where its number says so, or where there is no such file.
use Rattle.std.proofs.Common.{inl, inr, rules, sym, ◌∙◌}
use Rattle.yarn_base.proofs.memory_files.MemoryFilesFiles.read.Goals as goal
use Rattle.yarn_base.proofs.memory_files.MemoryFilesFiles.read.Goals.{in_default-find-via-in-Some+else-not-fails, in_default-find-via-in_default-find}

pub returns-in_default-find-clause-why : goal.returns-in_default-find-clause-why
returns-in_default-find-clause-why c failed = elim c.in_default-find.branch [ in_default-find-via-in-Some+else-not-fails w ↦ inl (sym c.next_fails-fails.ensures.value ∙ w.if-not-fails.false) | in_default-find-via-in_default-find w ↦ inr (search rules) ]
