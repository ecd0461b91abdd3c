use Rattle.std.proofs.Common.{ℕ, IfSome, subst}
use Rattle.yarn_player.specs.Played.{first_from, IsPlayed, Writes, WritesSome}
use Rattle.yarn_cli.proofs.PlayLemmas.{walk-plays}
use Rattle.yarn_cli.proofs.play.play_walk.Goals as goal

pub returns-in-Ok-clause-played : goal.returns-in-Ok-clause-played
returns-in-Ok-clause-played g c =
    let walk = c.args.walk in
    let left = g.I.Source.left c.args.input.now in
    let left_new = g.I.Source.left c.play.new.input in
    let out = g.O.Sink.written c.args.out.now in
    let out_new = g.O.Sink.written c.play.new.out in
    let facts = c.in-Ok.ensures in
    walk-plays c.args.command.now walk c.requires.texts c.in-Ok.played c.end_run.result (g.F.Files.contents c.args.files.now) (g.F.Files.contents c.end_run.new.files)
    left left_new out out_new
    (subst (λ (n : ℕ). IfSome left (λ bytes. IsPlayed (first_from walk bytes n) c.in-Ok.played left_new)) c.limit.ensures facts.played)
    (subst (λ (n : ℕ). IfSome left (λ bytes. Writes walk (first_from walk bytes n) out out_new)) c.limit.ensures facts.written)
    (subst (λ (n : ℕ). IfSome left (λ bytes. WritesSome walk (first_from walk bytes n) out out_new)) c.limit.ensures facts.part)
    c.end_run.ensures.says c.end_run.ensures.saved
