use Rattle.yarn_print.proofs.LineLaws.{lines_printed, printed_alone}
use Rattle.yarn_print.proofs.PrintFiles.{printed_stands_law}
use Rattle.yarn_print.proofs.print_laws.printed_stands.Goals as goal

pub returns : goal.returns
returns c = printed_stands_law lines_printed printed_alone
