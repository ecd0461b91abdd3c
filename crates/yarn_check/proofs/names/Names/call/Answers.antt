use Rattle.std.proofs.Common.{◌∙◌, sym, ap, if◌then◌else◌, Some, None}
use Rattle.yarn_value.specs.Builtins.{row_of}
use Rattle.yarn_check.proofs.NameLemmas.{call-builtin, call-host}
use Rattle.yarn_check.proofs.names.Names.call.Goals as goal

pub returns-then-takes : goal.returns-then-takes
returns-then-takes c =
    ap (λ b. if b then Some c.in-Some.row.result else None) (sym c.if-takes.true)
    ∙ call-builtin c.args.self.now c.args.name.now c.args.kinds.now (row_of c.in-Some.row) c.takes.result (rw c.as_str.ensures.value at c.in-Some.ensures) c.takes.ensures

pub returns-else-takes : goal.returns-else-takes
returns-else-takes c =
    ap (λ b. if b then Some c.in-Some.row.result else None) (sym c.if-takes.false)
    ∙ call-builtin c.args.self.now c.args.name.now c.args.kinds.now (row_of c.in-Some.row) c.takes.result (rw c.as_str.ensures.value at c.in-Some.ensures) c.takes.ensures

pub returns-in-None : goal.returns-in-None
returns-in-None c = c.host_call.ensures ∙ call-host c.args.self.now c.args.name.now c.args.kinds.now (rw c.as_str.ensures.value at c.in-None.ensures)
