use Rattle.yarn_cli.proofs.ReadLemmas.{source-is}
use Rattle.yarn_cli.proofs.read.read_source.Goals as goal

pub returns-in-Ok-clause-source : goal.returns-in-Ok-clause-source
returns-in-Ok-clause-source g c =
    source-is (g.F.Files.contents c.args.files.now) c.args.name.now _ _ _ c.in_ok-bytes.ensures.bytes c.in-Ok.ensures c.from_vec.ensures
