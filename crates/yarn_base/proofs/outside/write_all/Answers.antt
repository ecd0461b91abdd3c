-- One more piece is written.
use Rattle.std.proofs.Common.{◌++◌, take, ap, sym, ◌∙◌, arith}
use Rattle.std.specs.Io.KnownBytes.{append_known}
use Rattle.yarn_base.proofs.Written.{append_known-append, moves_front}
use Rattle.yarn_base.proofs.outside.write_all.Goals as goal

pub loop-rest-preserved : goal.loop-rest-preserved
loop-rest-preserved g c =
    let inv = c.loop-rest.invariant in
    let rest = c.loop-rest.rest.now in
    let n = c.in_ok-count.count in
    record {
      taken = inv.taken ++ take n rest;
      split = sym (moves_front _ inv.taken rest n (sym inv.split));
      after = c.in_ok-count.ensures.bytes ∙ ap (λ known. append_known known (take n rest)) inv.after ∙ append_known-append _ inv.taken (take n rest);
      later = omega (arith, inv.later, c.in_ok-count.ensures.cause.later);
    }
