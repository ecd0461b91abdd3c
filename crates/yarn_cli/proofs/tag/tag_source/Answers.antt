use Rattle.std.proofs.Common.{◌≡◌, Err, codes, string_bytes, refl, ap, subst, ◌∙◌}
use Rattle.yarn_base.specs.declared.Place.{Place}
use Rattle.yarn_tree.specs.Reading.{Reads}
use Rattle.yarn_tag.specs.Tagging.{UsesUp, IsTold, tagging_of}
use Rattle.yarn_cli.specs.declared.status.Status.TheVariants.{RefusedProject}
use Rattle.yarn_cli.specs.Command.{from_of}
use Rattle.yarn_cli.specs.Messages.{name_at, refused}
use Rattle.yarn_cli.specs.Outcome.{of_refusal}
use Rattle.yarn_cli.specs.Tag.{at_line, of_tagged, of_tags}
use Rattle.yarn_cli.proofs.RunLemmas.{prints-same, silent-prints}
use Rattle.yarn_cli.proofs.tag.tag_source.Goals as goal

-- src/tag.rt:52:1
pub returns-in-Err-IdsUsedUp : goal.returns-in-Err-IdsUsedUp
returns-in-Err-IdsUsedUp g c =
    let file = c.args.source.now in
    let names = c.args.command.now.names in
    let is : tagging_of file (from_of c.args.command.now) ≡ Reads UsesUp =
    subst (λ n. tagging_of file n ≡ Reads UsesUp) c.first_number.ensures
    (subst (λ fault. IsTold (tagging_of file c.first_number.result) (Err fault)) c.in-Err-IdsUsedUp.field-0-is c.in-Err-IdsUsedUp.ensures.value) in
    let said : c.refused_as.result.status ≡ RefusedProject → string_bytes c.refused_as.result.line ≡ refused (name_at names 0) (codes "IdsUsedUp") 0 =
    λ s. c.refused_as.ensures.line s
    ∙ (ap (λ (place : Place). refused (name_at c.names-names.result.now place.file) (codes "IdsUsedUp") place.line) c.at_line.ensures
    ∙ ap (λ named. refused (name_at named 0) (codes "IdsUsedUp") 0) c.names-names.ensures) in
    prints-same (of_tagged c.args.command.now file) (of_refusal names (codes "IdsUsedUp") (at_line 0)) c.refused_as.result _ _ (ap (of_tags names) is)
    (silent-prints (of_refusal names (codes "IdsUsedUp") (at_line 0)) c.refused_as.result _ refl tt c.refused_as.ensures.cases said)
