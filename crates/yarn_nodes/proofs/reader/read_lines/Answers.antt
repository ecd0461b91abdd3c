use Rattle.std.proofs.Common.{◌≡◌, ◌∷◌, ◌∙◌, sym, ap}
use Rattle.yarn_nodes.specs.Reading.{read_on}
use Rattle.yarn_nodes.proofs.reader.read_lines.Goals as goal

pub loop-reader-preserved : goal.loop-reader-preserved
loop-reader-preserved c =
    let taken : c.loop-reader.lines.lines ≡ c.in-Some.line ∷ c.take_first.new.self.lines = rw c.in-Some.is at c.in_ok-line.ensures.lines in
    record {
      read = sym (c.in_ok-take.ensures c.args.number c.args.name c.args.lines.end c.take_first.new.self.lines)
          ∙ ap (read_on c.loop-reader.reader c.args.number c.args.name c.args.lines.end) (sym taken) ∙ c.loop-reader.invariant.read;
      same_end = c.take_first.ensures.end ∙ c.loop-reader.invariant.same_end;
    }
