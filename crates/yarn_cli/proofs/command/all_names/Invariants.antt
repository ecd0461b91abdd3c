use Rattle.std.proofs.Common.{◌≡◌, drop}
use Rattle.std.specs.List.{list_all}
use Rattle.yarn_cli.specs.Words.{is_name_word}
use Rattle.yarn_cli.proofs.command.all_names.Given as goal

abbrev pub invariant-loop-word : goal.invariant-loop-word
invariant-loop-word l = list_all is_name_word (drop l.word-index l.words) ≡ list_all is_name_word l.words
