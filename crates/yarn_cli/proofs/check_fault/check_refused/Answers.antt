use Rattle.std.proofs.Common.{subst, ap, codes, ◌∙◌}
use Rattle.yarn_check.specs.Faults.{UnknownVariable, UnknownFunction, UnknownLine, TooManyDeep}
use Rattle.yarn_check.specs.Told.{Names}
use Rattle.yarn_check.specs.declared.fault.CheckFault.{CheckFault}
use Rattle.yarn_cli.specs.Messages.{file_refused, with_name}
use Rattle.yarn_cli.proofs.ListLemmas.{fault-refuses}
use Rattle.yarn_cli.proofs.check_fault.check_refused.Goals as goal

pub returns-in-UnknownVariable : goal.returns-in-UnknownVariable
returns-in-UnknownVariable c program first names =
    let file = c.args.file.now in
    let said = c.with_name in
    fault-refuses file program first (UnknownVariable c.in-UnknownVariable.name) said.result
    (subst (λ (f : CheckFault). Names first f) c.in-UnknownVariable.is names) said.ensures.cases
    (λ is. said.ensures.line is ∙ ap (λ n. file_refused file (with_name (codes "UnknownVariable") n)) c.as_str.ensures.value)

pub returns-in-UnknownFunction : goal.returns-in-UnknownFunction
returns-in-UnknownFunction c program first names =
    let file = c.args.file.now in
    let said = c.with_name-in-UnknownFunction in
    fault-refuses file program first (UnknownFunction c.in-UnknownFunction.name) said.result
    (subst (λ (f : CheckFault). Names first f) c.in-UnknownFunction.is names) said.ensures.cases
    (λ is. said.ensures.line is ∙ ap (λ n. file_refused file (with_name (codes "UnknownFunction") n)) c.as_str-in-UnknownFunction.ensures.value)

pub returns-in-UnknownLine : goal.returns-in-UnknownLine
returns-in-UnknownLine c program first names =
    let file = c.args.file.now in
    let said = c.with_name-in-UnknownLine in
    fault-refuses file program first (UnknownLine c.in-UnknownLine.id) said.result
    (subst (λ (f : CheckFault). Names first f) c.in-UnknownLine.is names) said.ensures.cases
    (λ is. said.ensures.line is ∙ ap (λ n. file_refused file (with_name (codes "UnknownLine") n)) c.as_str-in-UnknownLine.ensures.value)

pub returns-in-TooManyDeep : goal.returns-in-TooManyDeep
returns-in-TooManyDeep c program first names =
    let said = c.with_places-in-TooManyDeep in
    fault-refuses c.args.file.now program first (TooManyDeep c.in-TooManyDeep.node c.in-TooManyDeep.place) said.result
    (subst (λ (f : CheckFault). Names first f) c.in-TooManyDeep.is names) said.ensures.cases said.ensures.line
