use Rattle.std.proofs.Common.{sym, ◌∙◌, arith}
use Rattle.yarn_items.specs.Simple.{is_special}
use Rattle.yarn_items.proofs.SpecialLemmas.{found-within, none-further, last-tell}
use Rattle.yarn_items.proofs.special.has_special_by_blocks.Goals as goal

pub returns-then-block_has_special : goal.returns-then-block_has_special
returns-then-block_has_special c = sym (found-within is_special 16 c.loop-at.at c.args.text.now (sym c.if-block_has_special.ensures))

pub loop-at-preserved : goal.loop-at-preserved
loop-at-preserved c = (omega arith, none-further is_special 16 c.loop-at.at c.args.text.now c.loop-at.invariant.1 (sym c.if-block_has_special.ensures))

pub returns : goal.returns
returns c = c.block_has_special-2.ensures ∙ last-tell is_special 16 c.loop-at.at c.args.text.now c.requires (omega arith) c.loop-at.invariant.1
