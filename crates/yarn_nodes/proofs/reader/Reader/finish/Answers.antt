use Rattle.std.proofs.Common.{◌∙◌, sym, ap}
use Rattle.yarn_nodes.specs.Reading.{misplaced_noted, fault_of_cut}
use Rattle.yarn_nodes.proofs.ReaderLemmas.{all_read, lines-end}
use Rattle.yarn_nodes.proofs.reader.Reader.finish.Goals as goal

pub returns : goal.returns
returns c =
    let reader = c.args.self in
    ap (all_read reader c.args.number c.args.name)
    (c.note_misplaced.ensures
    ∙ ap (misplaced_noted reader.notes) (c.cut_fault.ensures ∙ ap (fault_of_cut reader.stand c.args.end) c.in_ok-body.ensures))
    ∙ sym (lines-end reader c.args.number c.args.name c.args.end)
