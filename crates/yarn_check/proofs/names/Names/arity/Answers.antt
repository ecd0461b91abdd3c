use Rattle.std.proofs.Common.{◌∙◌, ap, Some}
use Rattle.yarn_value.specs.Builtins.{row_of}
use Rattle.yarn_check.proofs.NameLemmas.{arity-builtin, arity-declared}
use Rattle.yarn_check.proofs.names.Names.arity.Goals as goal

pub returns-in-Some : goal.returns-in-Some
returns-in-Some c =
    ap Some c.builtin_arity.ensures
    ∙ arity-builtin c.args.self.now.functions c.args.name.now (row_of c.in-Some.row) (rw c.as_str.ensures.value at c.in-Some.ensures)

pub returns-in-None : goal.returns-in-None
returns-in-None c = c.declared.ensures ∙ arity-declared c.args.self.now.functions c.args.name.now (rw c.as_str.ensures.value at c.in-None.ensures)
