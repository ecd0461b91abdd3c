use Rattle.std.proofs.Common.{◌∙◌, ◌++◌, ◌∷◌, [], ap}
use Rattle.yarn_code.proofs.EncodingLemmas.{program_written}
use Rattle.yarn_code.proofs.encoding.encode.Goals as goal

pub returns : goal.returns
returns c =
    program_written c.args.program.now c.extend_from_slice.new.self c.put_files.new.out c.put_variables.new.out c.put_functions.new.out c.put_nodes.new.out c.put_lines.new.out
    (c.in_ok-extend_from_slice.ensures.ok ∙ ap (λ l. l ++ 89 ∷ 83 ∷ 80 ∷ 49 ∷ []) c.new-out.ensures)
    c.in_ok-put_files.ensures c.in_ok-put_variables.ensures c.in_ok-put_functions.ensures
    (c.in_ok-put_nodes.ensures c.args.program.now c.requires.fields.nodes) (c.in_ok-put_lines.ensures c.args.program.now c.requires.fields.lines)
