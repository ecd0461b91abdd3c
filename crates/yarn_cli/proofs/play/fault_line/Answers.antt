use Rattle.std.proofs.Common.{ℕ, List, [], ◌∷◌, ◌++◌, ◌∙◌, ap, sym, append_assoc, codes}
use Rattle.std.specs.Fmt.{decimal}
use Rattle.yarn_cli.specs.Messages.{name_at}
use Rattle.yarn_cli.proofs.PlayLemmas.{line-said}
use Rattle.yarn_cli.proofs.play.fault_line.Goals as goal

pub returns : goal.returns
returns c =
    let said : List ℕ → List ℕ → List ℕ → List ℕ =
    λ file node text. file ++ (codes ":" ++ (decimal c.args.fault.line ++ (codes ": " ++ (node ++ (codes ": " ++ text))))) in
    let name = c.fault_name.result.0.now in
    let title = c.fault_name.result.1.now in
    line-said c.format.result (said c.file_name-file.result.now c.as_str-node.result.now (name ++ (title ++ 10 ∷ []))) _ c.format.ensures.ok
    (ap (λ file. said file c.as_str-node.result.now (name ++ (title ++ 10 ∷ []))) c.file_name-file.ensures
    ∙ ap (λ node. said (name_at c.args.names.now c.args.fault.file) node (name ++ (title ++ 10 ∷ []))) c.as_str-node.ensures.value
    ∙ ap (λ text. said (name_at c.args.names.now c.args.fault.file) c.args.fault.node.now text) (sym (append_assoc name title (10 ∷ [])))
    ∙ ap (λ text. said (name_at c.args.names.now c.args.fault.file) c.args.fault.node.now (text ++ 10 ∷ [])) c.fault_name.ensures)
