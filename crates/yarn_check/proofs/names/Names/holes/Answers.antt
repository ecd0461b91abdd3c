use Rattle.std.proofs.Common.{◌∙◌, ap, sym, length, Some}
use Rattle.std.specs.Option.{option_copied, option_map}
use Rattle.yarn_value.specs.Values.{kind_of}
use Rattle.yarn_value.specs.declared.base.BaseLine.{BaseLine}
use Rattle.yarn_check.proofs.NameLemmas.{holes_first}
use Rattle.yarn_check.proofs.names.Names.holes.Goals as goal

pub returns-in-Some : goal.returns-in-Some
returns-in-Some c =
    ap (option_map (λ (l : BaseLine). l.holes)) (ap option_copied (sym c.in-Some.is) ∙ c.line_named.ensures)
    ∙ holes_first c.args.self.now.lines c.args.id.now

pub returns-in-None : goal.returns-in-None
returns-in-None c =
    ap (option_map (λ (l : BaseLine). l.holes)) (ap option_copied (sym c.in-None.is) ∙ c.line_named.ensures)
    ∙ holes_first c.args.self.now.lines c.args.id.now
