-- A rejected answer is an event of its own; behind a chosen one the walk goes on.
use Rattle.std.proofs.Common.{subst, Bool}
use Rattle.yarn_walker.specs.Walk.{IsChosen}
use Rattle.yarn_player.proofs.StepLemmas.{ShowsEvent-rejected, Shows-chosen, IfOk-then}
use Rattle.yarn_player.proofs.run.answer.Goals as goal

pub returns-then-not-branch-clause-shows : goal.returns-then-not-branch-clause-shows
returns-then-not-branch-clause-shows c =
    let rejects = subst (λ (b : Bool). IsChosen b c.args.number c.args.walk.now c.choose.new.self) c.if-not-branch.true c.in_ok-choose.ensures.meaning in
    ShowsEvent-rejected _ _ _ _ c.args.number rejects (λ table. c.in_ok-rejected.ensures)

pub returns-clause-shows : goal.returns-clause-shows
returns-clause-shows c =
    let chosen = subst (λ (b : Bool). IsChosen b c.args.number c.args.walk.now c.choose.new.self) c.if-not-branch.false c.in_ok-choose.ensures.meaning in
    IfOk-then c.show.result _ _ (Shows-chosen _ _ _ _ _ _ chosen c.in_ok-choose.ensures.sound.titles) c.show.ensures.shows
