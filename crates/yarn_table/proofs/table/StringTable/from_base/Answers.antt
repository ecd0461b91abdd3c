use Rattle.std.proofs.Common.{◌≡◌, ◌∙◌, subst, sym}
use Rattle.yarn_table.specs.Tables.{Fits, Table, from_base}
use Rattle.yarn_table.proofs.TableLemmas.{zip-entries, fits}
use Rattle.yarn_table.proofs.table.StringTable.from_base.Goals as goal

pub returns-clause-table : goal.returns-clause-table
returns-clause-table c = c.new.ensures ∙ rw (c.in_ok-ids.ensures, c.in_ok-templates.ensures) (zip-entries (λ line. line.text) c.args.base.now)

pub returns-clause-fits : goal.returns-clause-fits
returns-clause-fits c =
    let table : c.new.result ≡ from_base c.args.base.now =
    c.new.ensures ∙ rw (c.in_ok-ids.ensures, c.in_ok-templates.ensures) (zip-entries (λ line. line.text) c.args.base.now) in
    subst (λ (t : Table). Fits t c.args.base.now) (sym table) (fits (λ line. line.text) c.args.base.now c.requires.distinct)
