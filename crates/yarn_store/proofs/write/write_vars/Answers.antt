use Rattle.std.proofs.Common.{arith}
use Rattle.yarn_store.proofs.WritingLemmas.{IsWriting-step, IsWriting-end}
use Rattle.yarn_store.proofs.write.write_vars.Goals as goal

pub loop-at-preserved : goal.loop-at-preserved
loop-at-preserved c =
    IsWriting-step c.args.store.now c.loop-at.bytes c.push_line.new.bytes c.loop-at.at (c.pair_at.result.0.now, c.pair_at.result.1.now)
    c.loop-at.invariant c.pair_at.ensures c.in_ok-push_line.ensures.bytes c.in_ok-push_line.ensures.readable

pub returns-clause-bytes : goal.returns-clause-bytes
returns-clause-bytes c = (IsWriting-end c.args.store.now c.loop-at.bytes c.loop-at.at c.len-at-end.ensures.store c.loop-at.invariant (omega (arith, c.len-at-end.ensures.len))).0

pub returns-clause-read_again : goal.returns-clause-read_again
returns-clause-read_again c = (IsWriting-end c.args.store.now c.loop-at.bytes c.loop-at.at c.len-at-end.ensures.store c.loop-at.invariant (omega (arith, c.len-at-end.ensures.len))).1
