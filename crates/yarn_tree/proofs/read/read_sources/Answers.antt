use Rattle.std.proofs.Common.{sym, subst}
use Rattle.yarn_tree.specs.Reading.{IsProjectRead}
use Rattle.yarn_tree.proofs.ReadLemmas.{split-read, unsplit-read}
use Rattle.yarn_tree.proofs.SizeLemmas.{are_fine}
use Rattle.yarn_tree.proofs.read.read_sources.Goals as goal

pub split_all-requires : goal.split_all-requires
split_all-requires c = are_fine c.args.sources.items c.requires

pub returns-in-Ok : goal.returns-in-Ok
returns-in-Ok c =
    subst (λ reading. IsProjectRead reading c.finish_project.result) (sym (split-read c.args.signatures.now c.args.sources.items c.in-Ok.splits c.requires c.in-Ok.ensures)) c.finish_project.ensures

pub returns-in-Err : goal.returns-in-Err
returns-in-Err c = unsplit-read c.args.signatures.now c.args.sources.items c.in-Err.fault c.requires c.in-Err.ensures
