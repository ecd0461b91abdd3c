use Rattle.std.proofs.Common.{[], Option, subst}
use Rattle.yarn_base.specs.Outside.{Named}
use Rattle.yarn_player.proofs.StepLemmas.{TakesFront-none}
use Rattle.yarn_tree.specs.Reading.{reading_of}
use Rattle.yarn_cli.specs.Outcome.{trees_of}
use Rattle.yarn_cli.specs.Play.{of_play, of_project}
use Rattle.yarn_cli.specs.Playing.{vars_seen, PlaysAs}
use Rattle.yarn_cli.proofs.PlayLemmas.{inputs-play}
use Rattle.yarn_cli.proofs.RunLemmas.{read-runs, fails-run}
use Rattle.yarn_cli.proofs.play.play_named.Goals as goal

pub returns-in-Ok : goal.returns-in-Ok
returns-in-Ok g c =
    let command = c.args.command.now in
    let inputs = c.in-Ok.inputs in
    let played = c.play_inputs in
    let facts = c.in-Ok.ensures in
    let left = g.I.Source.left c.args.input.now in
    let left_new = g.I.Source.left played.new.input in
    let out = g.O.Sink.written c.args.out.now in
    let out_new = g.O.Sink.written played.new.out in
    let whole = of_project command (trees_of (reading_of [] inputs.sources)) (vars_seen inputs.vars) in
    read-runs command (of_play command) whole played.result _ _ _ _ _ _ _
    (inputs-play command inputs played.result (g.F.Files.contents c.args.files.now) (g.F.Files.contents played.new.files) left left_new out out_new facts.inputs
    (subst (λ (contents : Option Named). PlaysAs whole played.result contents (g.F.Files.contents played.new.files) left left_new out out_new) facts.same played.ensures.played))
    facts.same facts.count facts.writes played.ensures

pub returns-in-Err : goal.returns-in-Err
returns-in-Err g c =
    let facts = c.in-Err.ensures in
    fails-run c.args.command.now (of_play c.args.command.now) c.in-Err.ended _ _ _ _ facts.unread facts.same facts.count facts.writes
    (TakesFront-none (g.I.Source.left c.args.input.now))
