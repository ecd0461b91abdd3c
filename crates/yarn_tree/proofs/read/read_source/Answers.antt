use Rattle.std.proofs.Common.{sym, subst}
use Rattle.yarn_tree.specs.Reading.{IsFileRead}
use Rattle.yarn_tree.proofs.ReadLemmas.{alone-read, unalone-read}
use Rattle.yarn_tree.proofs.read.read_source.Goals as goal

pub returns-in-Ok : goal.returns-in-Ok
returns-in-Ok c =
    subst (λ reading. IsFileRead reading c.finish_file.result) (sym (alone-read c.args.source.now c.in-Ok.split c.requires c.in-Ok.ensures)) c.finish_file.ensures

pub returns-in-Err : goal.returns-in-Err
returns-in-Err c = unalone-read c.args.source.now c.in-Err.fault c.requires c.in-Err.ensures
