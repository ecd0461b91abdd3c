use Rattle.std.proofs.Common.{◌∙◌, ap}
use Rattle.yarn_walker.specs.Frames.{within}
use Rattle.yarn_walker.proofs.FrameLemmas.{within-none}
use Rattle.yarn_walker.proofs.frames.Frames.new.Goals as goal

pub returns : goal.returns
returns c = ap (within c.args.body.now) c.new.ensures.items ∙ within-none c.args.body.now
