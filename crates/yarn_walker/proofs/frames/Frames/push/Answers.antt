use Rattle.yarn_walker.proofs.FrameLemmas.{within-pushed}
use Rattle.yarn_walker.proofs.frames.Frames.push.Goals as goal

pub returns : goal.returns
returns c = within-pushed c.args.body c.args.self.now.body c.args.self.now.outer.items c.push.new.self.items c.in_ok-push.ensures.items
