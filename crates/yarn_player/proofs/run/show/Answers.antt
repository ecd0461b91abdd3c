use Rattle.std.proofs.Common.{[], refl}
use Rattle.yarn_walker.specs.declared.walk.Turn.TheVariants as turn
use Rattle.yarn_player.proofs.StepLemmas.{line_shown}
use Rattle.yarn_player.proofs.run.show.Goals as goal

pub returns-in_ok-line-in-Some-clause-shows : goal.returns-in_ok-line-in-Some-clause-shows
returns-in_ok-line-in-Some-clause-shows c =
    let none = c.new.ensures in
    let text = c.in-Some.text in
    line_shown _ _ _ _ (turn.Line text []) text [] refl c.in-Some.ensures.meaning c.in-Some.ensures.texts (rw none at c.in_ok-line-in-Some.ensures)
