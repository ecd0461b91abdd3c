use Rattle.std.proofs.Common.{Some, None, refl}
use Rattle.yarn_markup.proofs.LatestLemmas.{set_by}
use Rattle.yarn_markup.proofs.latest.set_latest.Goals as goal

pub returns-in_ok-insert-in-Some : goal.returns-in_ok-insert-in-Some
returns-in_ok-insert-in-Some c =
    set_by c.args.latest.now c.insert.new.self c.in_ok-copy-in-Some.field-0 c.args.name.now (Some c.in-Some.place) c.args.place
    c.in_ok-copy-in-Some.ensures c.in-Some.is c.in_ok-insert-in-Some.ensures.updates

pub returns-in-None : goal.returns-in-None
returns-in-None c =
    set_by c.args.latest.now c.remove.new.self c.args.name.now c.args.name.now None c.args.place refl c.in-None.is c.remove.ensures.updates
