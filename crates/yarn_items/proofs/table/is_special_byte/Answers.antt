use Rattle.std.proofs.Common.{◌≡◌, ◌+◌, ◌<◌, ◌∙◌, ap, refl, arith}
use Rattle.yarn_items.proofs.TableLemmas.{agrees-at}
use Rattle.yarn_items.specs.declared.table.TheConstants.{IS_SPECIAL}
use Rattle.yarn_items.specs.Simple.{is_special}
use Rattle.yarn_items.proofs.table.is_special_byte.Goals as goal

pub returns : goal.returns
returns c =
    let at : 0 + c.from.result ≡ c.args.byte = omega (arith, c.from.ensures) in
    let within : c.from.result < 256 = omega (arith, c.from.ensures, c.ranges.byte.fits) in agrees-at IS_SPECIAL 0 c.from.result refl within ∙ ap is_special at
