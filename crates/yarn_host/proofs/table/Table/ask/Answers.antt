use Rattle.std.proofs.Common.{map, sym, ◌∙◌}
use Rattle.std.proofs.lemmas.List.{length-map}
use Rattle.yarn_host.proofs.NameLemmas.{callable_is_placed, meaning_of-there}
use Rattle.yarn_host.proofs.TapeLemmas.{ask_tells}
use Rattle.yarn_host.proofs.table.Table.ask.Goals as goal

pub place-at-requires : goal.place-at-requires
place-at-requires g c = callable_is_placed c.args.self.now.signatures c.args.name.now c.args.args.now c.requires

pub returns-clause-tells : goal.returns-clause-tells
returns-clause-tells g c =
    let t = c.args.self.now in
    let m = g.B.HostFunction.meaning in
    let there = meaning_of-there t.signatures (map m t.functions.items) c.args.name.now c.place-at.result (t.paired ∙ sym (length-map t.functions.items m)) c.place-at.ensures.value in
    ask_tells _ _ c.args.name.now c.args.args.now there.0 there.1 c.ask_at.result c.ask_at.ensures
