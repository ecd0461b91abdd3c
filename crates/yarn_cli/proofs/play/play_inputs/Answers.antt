use Rattle.std.proofs.Common.{List, ℕ, [], map, ap, subst, ◌∙◌}
use Rattle.yarn_tree.specs.Reading.{reading_of, IsFault}
use Rattle.yarn_tree.specs.Trees.{file_tree}
use Rattle.yarn_tree.specs.declared.refusal.ProjectFault.{ProjectFault}
use Rattle.yarn_cli.specs.Messages.{kind_text, name_at, refused}
use Rattle.yarn_cli.specs.Outcome.{trees_of}
use Rattle.yarn_cli.specs.Play.{of_project}
use Rattle.yarn_cli.specs.Playing.{vars_seen}
use Rattle.yarn_player.proofs.StepLemmas.{TakesFront-none}
use Rattle.yarn_cli.proofs.PlayLemmas.{reads-tell, project-ends}
use Rattle.yarn_cli.proofs.RunLemmas.{ends-run}
use Rattle.yarn_cli.proofs.play.play_inputs.Goals as goal

pub play_project-ended-requires : goal.play_project-ended-requires
play_project-ended-requires g c = reads-tell c.args.inputs.sources (map file_tree c.in-Ok.project.files) c.in-Ok.ensures

pub returns-in-Err-Refused : goal.returns-in-Err-Refused
returns-in-Err-Refused g c =
    let command = c.args.command.now in
    let reading = trees_of (reading_of [] c.args.inputs.sources) in
    let vars = vars_seen c.args.inputs.vars in
    let refusal = c.in-Err-Refused.refusal in
    let said = c.refused_at in
    ends-run command (of_project command reading vars) said.result _ _ _
    (project-ends command reading vars refusal.kind refusal.place said.result
    (subst (λ (fault : ProjectFault). IsFault reading fault) c.in-Err-Refused.field-0-is c.in-Err-Refused.ensures) said.ensures.cases
    (λ is. said.ensures.line is ∙ ap (λ (names : List (List ℕ)). refused (name_at names refusal.place.file) (kind_text refusal.kind) refusal.place.line) c.names.ensures))
    (TakesFront-none (g.I.Source.left c.args.input.now))
