-- A file that is put under a name stands under it.
use Rattle.std.proofs.Common.{sym, arith}
use Rattle.yarn_base.proofs.Stored.{stored-push, stored-set, place_of-bound}
use Rattle.yarn_base.proofs.memory_files.put_in.Goals as goal

pub index_mut-requires : goal.index_mut-requires
index_mut-requires c = omega (arith, place_of-bound c.deref.result.now c.in-Some.at c.args.name (sym c.in-Some.ensures))

pub returns-in-Some-clause-ok : goal.returns-in-Some-clause-ok
returns-in-Some-clause-ok c = stored-set c.args.files.now.items c.in-Some.at c.args.name c.args.bytes (rw (← c.deref.ensures.value) (sym c.in-Some.ensures))

pub returns-in-Ok-clause-ok : goal.returns-in-Ok-clause-ok
returns-in-Ok-clause-ok c = rw c.in-Ok.ensures.items (stored-push c.args.files.now.items c.args.name c.args.bytes (rw (← c.deref.ensures.value) (sym c.in-None.ensures)))
