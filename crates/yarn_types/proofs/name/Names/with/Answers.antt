use Rattle.std.proofs.Common.{ap, sym, ◌∙◌, is_some}
use Rattle.yarn_types.specs.declared.name.First.{First}
use Rattle.yarn_types.specs.Names.{place_of}
use Rattle.yarn_types.proofs.NameLemmas.{places_pushed}
use Rattle.yarn_types.proofs.name.Names.with.Goals as goal

pub invariant_of-result : goal.invariant_of-result
invariant_of-result c =
    let first : First = record { name = c.args.name; place = c.args.place } in
    places_pushed c.self.inside.places c.insert.new.self c.as_str.result c.len.result c.self.inside.firsts.items c.push.new.self.items first c.in_ok-push.ensures.items c.as_str.ensures.value
    (c.len.ensures ∙ c.self.inside.firsts.ok.0) c.in_ok-insert.ensures.updates
    (ap (λ known. is_some (place_of known c.args.name.now)) c.self.view_is ∙ ap is_some (sym c.find.ensures) ∙ sym c.is_some.ensures ∙ c.if-is_some.false)
    c.self.invariant
