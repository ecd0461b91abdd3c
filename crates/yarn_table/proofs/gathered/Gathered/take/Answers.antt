use Rattle.std.proofs.Common.{◌∙◌, Some, ap, arith, position, refl, sym}
use Rattle.std.specs.Prelude.{bytes_eq}
use Rattle.std.specs.Option.{option_or}
use Rattle.yarn_table.proofs.HeldLemmas.{wanted-within}
use Rattle.yarn_table.proofs.GatheringLemmas.{taken_again, taken_new, taken_other}
use Rattle.yarn_table.proofs.gathered.Gathered.take.Goals as goal

pub returns-in_default : goal.returns-in_default
returns-in_default c = λ base rows is.
    let g = c.args.self.now in
    taken_other base rows (c.args.id.now, c.args.text.now) g is
    (sym c.in_default.is ∙ c.get_index_of.ensures.index ∙ ap (λ id. position (bytes_eq id) g.ids.keys) c.in_ok-id.ensures)

pub index_mut-requires : goal.index_mut-requires
index_mut-requires c =
    let held = c.args.self.now.held in
    let within = wanted-within held.items c.in-Some.at c.in-Some-wanted.holes (sym c.in-Some-wanted.is ∙ c.wanted.ensures) in
    omega (arith, within, held.ok)

pub returns-in_ok-self-in-Some-wanted : goal.returns-in_ok-self-in-Some-wanted
returns-in_ok-self-in-Some-wanted c = λ base rows is.
    let g = c.args.self.now in
    taken_new base rows (c.args.id.now, c.args.text.now) g is c.in-Some.at c.in-Some-wanted.holes _ c.in_ok-self-in-Some-wanted.field-0
    (sym c.in-Some.is ∙ c.get_index_of.ensures.index ∙ ap (λ id. position (bytes_eq id) g.ids.keys) c.in_ok-id.ensures)
    (sym c.in-Some-wanted.is ∙ c.wanted.ensures) c.in_ok-self-in-Some-wanted.ensures refl refl refl

pub returns-in-None : goal.returns-in-None
returns-in-None c = λ base rows is.
    let g = c.args.self.now in
    taken_again base rows (c.args.id.now, c.args.text.now) g is c.in-Some.at c.note.new.self
    (sym c.in-Some.is ∙ c.get_index_of.ensures.index ∙ ap (λ id. position (bytes_eq id) g.ids.keys) c.in_ok-id.ensures)
    (sym c.in-None.is ∙ c.wanted.ensures) c.note.ensures.ids c.note.ensures.held
    (c.note.ensures.repeated ∙ ap (λ id. option_or g.repeated (Some id)) c.in_ok-id.ensures)
