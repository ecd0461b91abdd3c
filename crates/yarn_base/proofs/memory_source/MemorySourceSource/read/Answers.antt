-- What a read of a source in memory gives.
use Rattle.yarn_base.proofs.Written.{left_after}
use Rattle.yarn_base.proofs.memory_source.MemorySourceSource.read.Goals as goal

pub returns-clause-bytes : goal.returns-clause-bytes
returns-clause-bytes c = rw (c.copy_first-count.ensures.copied, c.as_slice.ensures) (left_after c.args.self.now.bytes c.args.self.now.at c.copy_first-count.result)
