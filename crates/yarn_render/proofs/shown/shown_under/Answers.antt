use Rattle.std.proofs.Common.{◌≡◌, ◌∙◌, List, ℕ, true, ap, sym}
use Rattle.std.specs.List.{list_all}
use Rattle.std.specs.Str.{chars}
use Rattle.yarn_markup.specs.Plain.{is_ordinary}
use Rattle.yarn_render.specs.Marks.{ended}
use Rattle.yarn_render.specs.Renders.{ShowsUnder}
use Rattle.yarn_render.proofs.RenderLemmas.{filled_shows, if_ok, plain_shows}
use Rattle.yarn_render.proofs.shown.shown_under.Goals as goal

pub returns-then-is_ordinary : goal.returns-then-is_ordinary
returns-then-is_ordinary c =
    let text = c.in_ok-text.text in
    let plain : list_all is_ordinary (chars text) ≡ true = sym (ap (λ (l : List ℕ). list_all is_ordinary (chars l)) c.as_str.ensures.value) ∙ sym c.is_ordinary.ensures ∙ c.if-is_ordinary.true in
    if_ok c.ended_with_lf.result (λ (line : List ℕ). line ≡ ended text) (ShowsUnder c.args.table.now c.args.plural.now c.args.marks c.args.id.now c.args.values.now)
    (λ line is. filled_shows c.args.table.now c.args.plural.now c.args.marks c.args.id.now c.args.values.now text line c.in_ok-text.ensures (plain_shows c.args.plural.now c.args.marks text line c.as_str.ensures.utf8 plain is))
    c.ended_with_lf.ensures
