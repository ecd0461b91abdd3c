-- The laws of printed lines, on which the law of printed files rests.
use Rattle.yarn_print.specs.PrintLaws.{LinesPrinted, PrintedAlone}
use Rattle.yarn_print.proofs.PrintAlone.{lines-printed, printed-alone}

pub lines_printed : LinesPrinted
lines_printed = lines-printed

pub printed_alone : PrintedAlone
printed_alone = printed-alone
