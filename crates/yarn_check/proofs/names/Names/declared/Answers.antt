use Rattle.std.proofs.Common.{◌∙◌, ap, sym, length, Some}
use Rattle.std.specs.Option.{option_copied, option_map}
use Rattle.yarn_value.specs.Values.{kind_of}
use Rattle.yarn_value.specs.declared.signature.Signature.{Signature}
use Rattle.yarn_check.proofs.NameLemmas.{arity_first}
use Rattle.yarn_check.proofs.names.Names.declared.Goals as goal

pub returns-in-Some : goal.returns-in-Some
returns-in-Some c =
    ap Some c.len.ensures ∙ ap (option_map (λ (s : Signature). length s.params)) (ap option_copied (sym c.in-Some.is) ∙ c.function.ensures)
    ∙ arity_first c.args.self.now.functions c.args.name.now

pub returns-in-None : goal.returns-in-None
returns-in-None c =
    ap (option_map (λ (s : Signature). length s.params)) (ap option_copied (sym c.in-None.is) ∙ c.function.ensures)
    ∙ arity_first c.args.self.now.functions c.args.name.now
