use Rattle.std.proofs.Common.{sym, ◌∙◌}
use Rattle.std.specs.Prelude.{reverse}
use Rattle.std.proofs.lemmas.List.{length-reverse}
use Rattle.yarn_blocks.proofs.LevelLemmas.{length-in}
use Rattle.yarn_blocks.proofs.levels.count.Goals as goal

pub returns : goal.returns
returns c = sym (length-reverse c.args.items.now) ∙ sym (length-in (reverse c.args.items.now))
