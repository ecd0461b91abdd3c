use Rattle.std.proofs.Common.{[], ◌∷◌, ◌++◌, true, false, ap, sym, ◌∙◌, append-nil}
use Rattle.yarn_tag.proofs.TagLemmas.{tag-pushed, begins-as}
use Rattle.yarn_tag.proofs.tagger.push_tag.Goals as goal

pub returns-in_ok-extend_from_slice-3 : goal.returns-in_ok-extend_from_slice-3
returns-in_ok-extend_from_slice-3 c =
    tag-pushed c.args.out.now c.args.rest.now c.args.number c.extend_from_slice.new.self c.extend_from_slice-2.new.self
    c.extend_from_slice-then-starts_with.new.self true c.in_ok-extend_from_slice.ensures.ok
    (c.in_ok-extend_from_slice-2.ensures.ok ∙ ap (λ id. c.extend_from_slice.new.self ++ id) c.id_of.ensures)
    (begins-as (47 ∷ 47 ∷ []) c.args.rest.now ∙ sym c.starts_with.ensures.value ∙ c.if-starts_with.true) c.in_ok-extend_from_slice-3.ensures.ok

pub returns-else-starts_with : goal.returns-else-starts_with
returns-else-starts_with c =
    tag-pushed c.args.out.now c.args.rest.now c.args.number c.extend_from_slice.new.self c.extend_from_slice-2.new.self
    c.extend_from_slice-2.new.self false c.in_ok-extend_from_slice.ensures.ok
    (c.in_ok-extend_from_slice-2.ensures.ok ∙ ap (λ id. c.extend_from_slice.new.self ++ id) c.id_of.ensures)
    (begins-as (47 ∷ 47 ∷ []) c.args.rest.now ∙ sym c.starts_with.ensures.value ∙ c.if-starts_with.false) (sym (append-nil _))
