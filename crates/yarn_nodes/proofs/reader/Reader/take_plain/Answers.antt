use Rattle.std.proofs.lemmas.Result.{on_ok_weaker}
use Rattle.yarn_nodes.proofs.ReaderLemmas.{plain-read}
use Rattle.yarn_nodes.proofs.reader.Reader.take_plain.Goals as goal

pub returns : goal.returns
returns c =
    let line = c.args.line in
    on_ok_weaker c.take_line.result
    (λ taken. plain-read c.args.self.now line c.said_plain.result c.take_line.new.self c.said_plain.ensures c.requires.inside
    (c.plain_lines_are_said.ensures line.text c.requires.plain) taken) c.take_line.ensures
