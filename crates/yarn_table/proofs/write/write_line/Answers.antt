use Rattle.std.proofs.Common.{arith}
use Rattle.yarn_table.proofs.WritingLemmas.{on_any, texts_of_line}
use Rattle.yarn_table.proofs.write.write_line.Goals as goal

pub returns-clause-texts : goal.returns-clause-texts
returns-clause-texts c =
    on_any c.write_record.result
    (texts_of_line c.args.file.now c.args.node.now c.args.line.now c.as_str.ensures.utf8 c.as_str-2.ensures.utf8 c.as_str-3.ensures.utf8 c.as_str-4.ensures.utf8 (omega arith))
