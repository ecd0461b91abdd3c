-- The name stands nowhere among the files that were looked at.
use Rattle.std.proofs.Common.{◌≡◌, drop}
use Rattle.yarn_base.specs.StoredFiles.{file_of}
use Rattle.yarn_base.proofs.memory_files.find.Given as goal

abbrev pub invariant-loop-file : goal.invariant-loop-file
invariant-loop-file l = file_of l.files l.name ≡ file_of (drop l.file-index l.files) l.name
