use Rattle.std.proofs.Common.{◌∙◌, ap, sym}
use Rattle.std.specs.Option.{option_copied}
use Rattle.yarn_table.specs.Tables.{template_under}
use Rattle.yarn_table.proofs.TableLemmas.{template_at, template_under-zip}
use Rattle.yarn_table.proofs.table.StringTable.text.Goals as goal

pub returns-in_err-at : goal.returns-in_err-at
returns-in_err-at c =
    let id = c.args.id.now in
    let inside = c.self.inside in
    ap option_copied c.from_residual.ensures
    ∙ ap (λ found. template_at found inside.templates) (sym c.in_err-at.was ∙ c.get_index_of.ensures.index)
    ∙ template_under-zip id inside.ids.keys inside.templates ∙ ap (λ table. template_under table id) c.self.view_is

pub returns : goal.returns
returns c =
    let id = c.args.id.now in
    let inside = c.self.inside in
    c.get.ensures.value
    ∙ ap (λ found. template_at found inside.templates) (sym c.in_ok-at.was ∙ c.get_index_of.ensures.index)
    ∙ template_under-zip id inside.ids.keys inside.templates ∙ ap (λ table. template_under table id) c.self.view_is
