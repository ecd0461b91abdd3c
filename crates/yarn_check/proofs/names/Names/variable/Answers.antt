use Rattle.std.proofs.Common.{◌∙◌, ap, sym, length, Some}
use Rattle.std.specs.Option.{option_copied, option_map}
use Rattle.yarn_value.specs.Values.{kind_of}
use Rattle.yarn_code.specs.declared.program.Variable.{Variable}
use Rattle.yarn_check.proofs.NameLemmas.{kind_first}
use Rattle.yarn_check.proofs.names.Names.variable.Goals as goal

pub returns-in-Some : goal.returns-in-Some
returns-in-Some c =
    ap Some c.kind.ensures ∙ ap (option_map (λ (v : Variable). kind_of v.initial)) (ap option_copied (sym c.in-Some.is) ∙ c.variable_named.ensures)
    ∙ kind_first c.args.self.now.variables c.args.name.now

pub returns-in-None : goal.returns-in-None
returns-in-None c =
    ap (option_map (λ (v : Variable). kind_of v.initial)) (ap option_copied (sym c.in-None.is) ∙ c.variable_named.ensures)
    ∙ kind_first c.args.self.now.variables c.args.name.now
