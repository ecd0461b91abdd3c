use Rattle.yarn_print.proofs.Unlined.{prints_the_same_law}
use Rattle.yarn_print.proofs.print_laws.prints_the_same.Goals as goal

pub returns : goal.returns
returns c = prints_the_same_law
