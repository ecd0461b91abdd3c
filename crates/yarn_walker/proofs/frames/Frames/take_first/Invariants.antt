use Rattle.std.proofs.Common.{◌≡◌, vec_len}
use Rattle.yarn_walker.specs.Frames.{rest_of}
use Rattle.yarn_walker.proofs.frames.Frames.take_first.Given as goal

abbrev pub invariant-loop-first : goal.invariant-loop-first
invariant-loop-first l = rest_of l.initial.self ≡ rest_of l.self

abbrev pub decreases-loop-first : goal.decreases-loop-first
decreases-loop-first l = vec_len l.self.outer
