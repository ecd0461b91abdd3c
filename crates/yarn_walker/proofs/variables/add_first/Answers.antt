use Rattle.std.proofs.Common.{◌++◌, ◌∙◌, ap, map}
use Rattle.std.proofs.lemmas.Result.{on_ok_weaker}
use Rattle.yarn_tree.specs.Trees.{file_tree}
use Rattle.yarn_meaning.specs.Variables.{typed_pairs, declared_in_files}
use Rattle.yarn_walker.specs.Variables.{pairs_of}
use Rattle.yarn_walker.proofs.VariableLemmas.{typed_pairs-kept}
use Rattle.yarn_walker.proofs.variables.add_first.Goals as goal

pub returns : goal.returns
returns c =
    on_ok_weaker c.add_typed.result
    (λ added. added
    ∙ ap (λ declared. pairs_of c.args.all.now.items ++ typed_pairs declared c.args.entries.now) c.in_ok-declared.ensures
    ∙ ap (λ pairs. pairs_of c.args.all.now.items ++ pairs) (typed_pairs-kept (declared_in_files (map file_tree c.args.files.now)) c.args.entries.now))
    c.add_typed.ensures
