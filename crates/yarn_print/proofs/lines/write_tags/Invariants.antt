use Rattle.std.proofs.Common.{◌≡◌, ◌++◌, drop}
use Rattle.yarn_print.specs.Print.{tags_text}
use Rattle.yarn_print.proofs.lines.write_tags.Given as goal

abbrev pub invariant-loop-tag : goal.invariant-loop-tag
invariant-loop-tag l = l.out ++ tags_text (drop l.tag-index l.tag-items) ≡ l.initial.out ++ tags_text l.tag-items
