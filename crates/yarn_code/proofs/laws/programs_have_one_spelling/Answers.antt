use Rattle.yarn_code.specs.Layout.{program_file}
use Rattle.yarn_code.proofs.FormatLemmas.{spelled_once, bad_once, spelled_not_bad, spelled_or_bad}
use Rattle.yarn_code.proofs.SpelledLemmas.{spelled_not_newer}
use Rattle.yarn_code.proofs.laws.programs_have_one_spelling.Goals as goal

pub returns : goal.returns
returns c = record {
  one_program = spelled_once program_file;
  one_place = bad_once program_file;
  not_both = spelled_not_bad program_file;
  either = spelled_or_bad program_file;
  known = spelled_not_newer;
}
