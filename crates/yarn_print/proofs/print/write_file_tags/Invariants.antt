use Rattle.std.proofs.Common.{◌≡◌, ◌++◌, drop}
use Rattle.yarn_print.specs.Print.{file_tags_text}
use Rattle.yarn_print.proofs.print.write_file_tags.Given as goal

abbrev pub invariant-loop-tag : goal.invariant-loop-tag
invariant-loop-tag l = l.out ++ file_tags_text (drop l.tag-index l.tag-items) ≡ l.initial.out ++ file_tags_text l.tag-items
