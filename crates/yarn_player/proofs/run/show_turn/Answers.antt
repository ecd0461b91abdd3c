-- Each turn gives its event, or the end.
use Rattle.std.proofs.Common.{refl}
use Rattle.yarn_player.proofs.StepLemmas.{line_shown, command_shown, options_shown, quiet_shown, end_shown}
use Rattle.yarn_player.proofs.run.show_turn.Goals as goal
use Rattle.yarn_player.proofs.run.show_turn.Goals.{in-NodeStart, in-Line+in_ok-line-in-Line, in-Command+in_ok-command-in-Command, in-Options+in_ok-options-in-Options}

pub returns-in-End-clause-shows : goal.returns-in-End-clause-shows
returns-in-End-clause-shows c = end_shown _ _ _ _ _ c.in-End.is c.in_ok-next.ensures.meaning refl

pub returns-clause-shows : goal.returns-clause-shows
returns-clause-shows c =
    elim c.match-branch-2.branch [
      | in-NodeStart w ↦ rw w.page-is (quiet_shown _ _ _ _ _ w.in-NodeStart.is c.in_ok-next.ensures.meaning refl)
      | in-Line+in_ok-line-in-Line w ↦
          rw w.page-is (line_shown _ _ _ _ _ w.in-Line.text w.in-Line.values w.in-Line.is c.in_ok-next.ensures.meaning c.in_ok-next.ensures.texts w.in_ok-line-in-Line.ensures)
      | in-Command+in_ok-command-in-Command w ↦
          rw w.page-is (command_shown _ _ _ _ _ w.in-Command.text w.in-Command.values w.in-Command.is c.in_ok-next.ensures.meaning w.in_ok-command-in-Command.ensures)
      | in-Options+in_ok-options-in-Options w ↦
          let offered = w.offers.ensures in
          rw w.page-is (options_shown _ _ _ _ _ w.in-Options.is c.in_ok-next.ensures.meaning c.in_ok-next.ensures.texts (rw offered at w.in_ok-options-in-Options.ensures))
    ]
