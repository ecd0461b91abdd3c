use Rattle.std.proofs.Common.{◌≡◌, Ok, length, subst, sym, ◌∙◌}
use Rattle.std.proofs.lemmas.Result.{err_from_is_err_and}
use Rattle.yarn_code.specs.Decoding.{Stopped}
use Rattle.yarn_code.specs.FormatReading.{read}
use Rattle.yarn_code.specs.Layout.{many, file_name, variable, function, node, base_line}
use Rattle.yarn_code.proofs.BeginLemmas.{program_begins}
use Rattle.yarn_code.proofs.ProgramParts.{behind_files, behind_variables, behind_functions, behind_nodes, behind_lines}
use Rattle.yarn_code.proofs.ReadLoops.{then_ok, then_stops, stops_behind}
use Rattle.yarn_code.proofs.decoding.read_program.Goals as goal

pub returns-in_err-files : goal.returns-in_err-files
returns-in_err-files c =
    let stop = c.in_err-files.field-0.0 in
    let p = err_from_is_err_and c.from_residual-in_err-files.result c.from_residual-in_err-files.ensures.1 in
    let at_files = then_stops (many file_name) behind_files c.in_ok-rest.rest.now stop c.in_err-files.ensures in
    rw (p.1, p.2) (subst (Stopped stop) (sym (program_begins c.args.bytes.now c.in_ok-rest.field-0-0 c.in_ok-rest.rest.now c.in_ok-rest.ensures)) at_files)

pub returns-in_err-variables : goal.returns-in_err-variables
returns-in_err-variables c =
    let stop = c.in_err-variables.field-0.0 in
    let p = err_from_is_err_and c.from_residual-in_err-variables.result c.from_residual-in_err-variables.ensures.1 in
    let at_variables = then_stops (many variable) (behind_variables c.in_ok-files.files) c.in_ok-files.rest.now stop c.in_err-variables.ensures in
    let at_files = stops_behind (many file_name) behind_files c.in_ok-rest.rest.now c.in_ok-files.files c.in_ok-files.rest.now stop c.in_ok-files.ensures at_variables in
    rw (p.1, p.2) (subst (Stopped stop) (sym (program_begins c.args.bytes.now c.in_ok-rest.field-0-0 c.in_ok-rest.rest.now c.in_ok-rest.ensures)) at_files)

pub returns-in_err-functions : goal.returns-in_err-functions
returns-in_err-functions c =
    let stop = c.in_err-functions.field-0.0 in
    let p = err_from_is_err_and c.from_residual-in_err-functions.result c.from_residual-in_err-functions.ensures.1 in
    let at_functions = then_stops (many function) (behind_functions c.in_ok-files.files c.in_ok-variables.variables) c.in_ok-variables.rest.now stop c.in_err-functions.ensures in
    let at_variables = stops_behind (many variable) (behind_variables c.in_ok-files.files) c.in_ok-files.rest.now c.in_ok-variables.variables c.in_ok-variables.rest.now stop c.in_ok-variables.ensures at_functions in
    let at_files = stops_behind (many file_name) behind_files c.in_ok-rest.rest.now c.in_ok-files.files c.in_ok-files.rest.now stop c.in_ok-files.ensures at_variables in
    rw (p.1, p.2) (subst (Stopped stop) (sym (program_begins c.args.bytes.now c.in_ok-rest.field-0-0 c.in_ok-rest.rest.now c.in_ok-rest.ensures)) at_files)

pub returns-in_err-nodes : goal.returns-in_err-nodes
returns-in_err-nodes c =
    let stop = c.in_err-nodes.field-0.0 in
    let p = err_from_is_err_and c.from_residual-in_err-nodes.result c.from_residual-in_err-nodes.ensures.1 in
    let at_nodes = then_stops (many (node (length c.in_ok-files.files))) (behind_nodes c.in_ok-files.files c.in_ok-variables.variables c.in_ok-functions.functions) c.in_ok-functions.rest.now stop (subst (λ n. Stopped stop (read (many (node n)) c.in_ok-functions.rest.now)) c.len.ensures c.in_err-nodes.ensures) in
    let at_functions = stops_behind (many function) (behind_functions c.in_ok-files.files c.in_ok-variables.variables) c.in_ok-variables.rest.now c.in_ok-functions.functions c.in_ok-functions.rest.now stop c.in_ok-functions.ensures at_nodes in
    let at_variables = stops_behind (many variable) (behind_variables c.in_ok-files.files) c.in_ok-files.rest.now c.in_ok-variables.variables c.in_ok-variables.rest.now stop c.in_ok-variables.ensures at_functions in
    let at_files = stops_behind (many file_name) behind_files c.in_ok-rest.rest.now c.in_ok-files.files c.in_ok-files.rest.now stop c.in_ok-files.ensures at_variables in
    rw (p.1, p.2) (subst (Stopped stop) (sym (program_begins c.args.bytes.now c.in_ok-rest.field-0-0 c.in_ok-rest.rest.now c.in_ok-rest.ensures)) at_files)

pub returns-in_err-lines : goal.returns-in_err-lines
returns-in_err-lines c =
    let stop = c.in_err-lines.field-0.0 in
    let p = err_from_is_err_and c.from_residual-in_err-lines.result c.from_residual-in_err-lines.ensures.1 in
    let at_lines = then_stops (many (base_line (length c.in_ok-files.files) (length c.in_ok-nodes.nodes))) (behind_lines c.in_ok-files.files c.in_ok-variables.variables c.in_ok-functions.functions c.in_ok-nodes.nodes) c.in_ok-nodes.rest.now stop (subst (λ n. Stopped stop (read (many (base_line (length c.in_ok-files.files) n)) c.in_ok-nodes.rest.now)) c.len-3.ensures (subst (λ n. Stopped stop (read (many (base_line n c.len-3.result)) c.in_ok-nodes.rest.now)) c.len-2.ensures c.in_err-lines.ensures)) in
    let at_nodes = stops_behind (many (node (length c.in_ok-files.files))) (behind_nodes c.in_ok-files.files c.in_ok-variables.variables c.in_ok-functions.functions) c.in_ok-functions.rest.now c.in_ok-nodes.nodes c.in_ok-nodes.rest.now stop (subst (λ n. read (many (node n)) c.in_ok-functions.rest.now ≡ Ok (c.in_ok-nodes.nodes, c.in_ok-nodes.rest.now)) c.len.ensures c.in_ok-nodes.ensures) at_lines in
    let at_functions = stops_behind (many function) (behind_functions c.in_ok-files.files c.in_ok-variables.variables) c.in_ok-variables.rest.now c.in_ok-functions.functions c.in_ok-functions.rest.now stop c.in_ok-functions.ensures at_nodes in
    let at_variables = stops_behind (many variable) (behind_variables c.in_ok-files.files) c.in_ok-files.rest.now c.in_ok-variables.variables c.in_ok-variables.rest.now stop c.in_ok-variables.ensures at_functions in
    let at_files = stops_behind (many file_name) behind_files c.in_ok-rest.rest.now c.in_ok-files.files c.in_ok-files.rest.now stop c.in_ok-files.ensures at_variables in
    rw (p.1, p.2) (subst (Stopped stop) (sym (program_begins c.args.bytes.now c.in_ok-rest.field-0-0 c.in_ok-rest.rest.now c.in_ok-rest.ensures)) at_files)

pub returns : goal.returns
returns c =
    program_begins c.args.bytes.now c.in_ok-rest.field-0-0 c.in_ok-rest.rest.now c.in_ok-rest.ensures
    ∙ then_ok (many file_name) behind_files c.in_ok-rest.rest.now c.in_ok-files.files c.in_ok-files.rest.now c.in_ok-files.ensures
    ∙ then_ok (many variable) (behind_variables c.in_ok-files.files) c.in_ok-files.rest.now c.in_ok-variables.variables c.in_ok-variables.rest.now c.in_ok-variables.ensures
    ∙ then_ok (many function) (behind_functions c.in_ok-files.files c.in_ok-variables.variables) c.in_ok-variables.rest.now c.in_ok-functions.functions c.in_ok-functions.rest.now c.in_ok-functions.ensures
    ∙ then_ok (many (node (length c.in_ok-files.files))) (behind_nodes c.in_ok-files.files c.in_ok-variables.variables c.in_ok-functions.functions) c.in_ok-functions.rest.now c.in_ok-nodes.nodes c.in_ok-nodes.rest.now (subst (λ n. read (many (node n)) c.in_ok-functions.rest.now ≡ Ok (c.in_ok-nodes.nodes, c.in_ok-nodes.rest.now)) c.len.ensures c.in_ok-nodes.ensures)
    ∙ then_ok (many (base_line (length c.in_ok-files.files) (length c.in_ok-nodes.nodes))) (behind_lines c.in_ok-files.files c.in_ok-variables.variables c.in_ok-functions.functions c.in_ok-nodes.nodes) c.in_ok-nodes.rest.now c.in_ok-lines.lines c.in_ok-lines.rest.now (subst (λ n. read (many (base_line (length c.in_ok-files.files) n)) c.in_ok-nodes.rest.now ≡ Ok (c.in_ok-lines.lines, c.in_ok-lines.rest.now)) c.len-3.ensures (subst (λ n. read (many (base_line n c.len-3.result)) c.in_ok-nodes.rest.now ≡ Ok (c.in_ok-lines.lines, c.in_ok-lines.rest.now)) c.len-2.ensures c.in_ok-lines.ensures))
