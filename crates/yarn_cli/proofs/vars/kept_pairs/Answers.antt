use Rattle.std.proofs.Common.{◌∙◌, ap, sym, map}
use Rattle.yarn_tree.specs.Trees.{file_tree}
use Rattle.yarn_cli.specs.Messages.{file_refused, bad_variable}
use Rattle.yarn_cli.proofs.PlayLemmas.{variable-ends}
use Rattle.yarn_cli.proofs.vars.kept_pairs.Goals as goal

pub returns-in-Ok-Some : goal.returns-in-Ok-Some
returns-in-Ok-Some c command =
    let files = map file_tree c.args.files.now in
    let file = c.args.file.now in
    let some = c.in-Ok-Some in
    variable-ends command files c.args.typing.now.entries file.name.now file.bytes c.bad_variable.result c.in_ok-pairs.pairs some.name
    (c.in_ok-pairs.ensures command files c.args.typing.now.entries) (sym some.ensures ∙ some.field-0-is) c.bad_variable.ensures.cases
    (λ is. c.bad_variable.ensures.line is ∙ ap (λ n. file_refused n (bad_variable c.as_str-in-Ok-Some.result.now)) c.as_str.ensures.value
    ∙ ap (λ n. file_refused file.name.now (bad_variable n)) c.as_str-in-Ok-Some.ensures.value)
