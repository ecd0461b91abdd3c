use Rattle.yarn_code.specs.Layout.{file_name}
use Rattle.yarn_code.specs.Writing.{HasWritten}
use Rattle.yarn_code.proofs.encoding.put_files.Given as goal

abbrev pub invariant-loop-file : goal.invariant-loop-file
invariant-loop-file l = HasWritten file_name l.files l.file-index l.initial.out l.out
