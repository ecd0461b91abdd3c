use Rattle.std.proofs.Common.{arith, ap, subst, ◌∙◌}
use Rattle.yarn_store.specs.Reading.{ReadsVars}
use Rattle.yarn_store.specs.declared.read.VarsFault.{VarsFault}
use Rattle.std.proofs.Common.{Err}
use Rattle.yarn_cli.specs.Messages.{file_refused, bad_vars, too_much}
use Rattle.yarn_cli.proofs.PlayLemmas.{long-ends, line-ends}
use Rattle.yarn_cli.proofs.vars.held_pairs.Goals as goal

pub returns-then-len-gt-VARS_LIMIT : goal.returns-then-len-gt-VARS_LIMIT
returns-then-len-gt-VARS_LIMIT c command files entries =
    let file = c.args.file.now in
    long-ends command files entries file.name.now file.bytes c.refused_vars.result (omega arith) c.refused_vars.ensures.cases
    (λ is. c.refused_vars.ensures.line is ∙ ap (λ n. file_refused n too_much) c.as_str.ensures.value)

pub returns-in-Err-BadVars : goal.returns-in-Err-BadVars
returns-in-Err-BadVars c command files entries =
    let file = c.args.file.now in
    line-ends command files entries file.name.now file.bytes c.bad_line.result c.in-Err-BadVars.line (omega arith)
    (subst (λ (f : VarsFault). ReadsVars file.bytes (Err f)) c.in-Err-BadVars.field-0-is c.in-Err-BadVars.ensures) c.bad_line.ensures.cases
    (λ is. c.bad_line.ensures.line is ∙ ap (λ n. file_refused n (bad_vars c.in-Err-BadVars.line)) c.as_str-in-Err-BadVars.ensures.value)
