use Rattle.yarn_base.proofs.Written.{IfSome-always}
use Rattle.std.proofs.Common.{map}
use Rattle.yarn_player.proofs.StepLemmas.{TakesFront-none}
use Rattle.yarn_tree.specs.Trees.{file_tree}
use Rattle.yarn_cli.specs.Outcome.{kinds_of}
use Rattle.yarn_cli.specs.Play.{of_kinds}
use Rattle.yarn_cli.specs.Playing.{of_walk, vars_seen}
use Rattle.yarn_cli.proofs.PlayLemmas.{plays-same}
use Rattle.yarn_cli.proofs.RunLemmas.{ends-run}
use Rattle.yarn_cli.proofs.play.play_project.Goals as goal

pub returns-in-Ok : goal.returns-in-Ok
returns-in-Ok g c =
    let command = c.args.command.now in
    let files = map file_tree c.args.project.now.files in
    let facts = c.play_walk.ensures in
    record {
      played = plays-same (of_kinds command files (kinds_of files) (vars_seen c.args.vars)) (of_walk command c.in-Ok.walk) c.play_walk.result _ _ _ _ _ _
          (IfSome-always (g.F.Files.contents c.args.files.now) _ (λ named. c.in-Ok.ensures.goes_on named)) facts.played;
      taken = facts.taken;
      files_stay = facts.files;
      read = facts.read;
      write = facts.write;
      reads_stay = facts.read_count;
      write_count = facts.write_count;
      input_count = facts.input_count;
      out_count = facts.out_count;
    }

pub returns-in-Err : goal.returns-in-Err
returns-in-Err g c =
    let files = map file_tree c.args.project.now.files in
    ends-run c.args.command.now (of_kinds c.args.command.now files (kinds_of files) (vars_seen c.args.vars)) c.in-Err.ended _ _ _ c.in-Err.ensures.goes_on
    (TakesFront-none (g.I.Source.left c.args.input.now))
