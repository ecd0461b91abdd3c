use Rattle.yarn_cli.proofs.CommandLemmas.{found_behind-pair}
use Rattle.yarn_cli.specs.View.{row_seen}
use Rattle.yarn_cli.proofs.command.next_pair.Goals as goal

pub returns-in-Some : goal.returns-in-Some
returns-in-Some c =
    found_behind-pair c.args.kind (row_seen c.in-Some.row) c.args.words.now c.word-item.result c.value-item.result c.in-len2-up.len_at_least
    c.word-item.is c.value-item.is (rw c.as_str.ensures.value at c.in-Some.ensures)
