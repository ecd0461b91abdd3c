use Rattle.std.proofs.Common.{refl}
use Rattle.std.proofs.lemmas.Simd.{length-chunk}
use Rattle.yarn_items.specs.declared.special.TheConstants.{BY_LOW_BITS}
use Rattle.yarn_items.proofs.SpecialLemmas.{low_bits-within, block-tells}
use Rattle.yarn_items.proofs.special.block_has_special.Goals as goal

pub swizzle-alike : goal.swizzle-alike
swizzle-alike c = low_bits-within _ (length-chunk c.args.at 16 c.args.text.now c.requires)

pub returns : goal.returns
returns c = block-tells BY_LOW_BITS c.args.text.now c.args.at c.requires c.type_inv.text refl
