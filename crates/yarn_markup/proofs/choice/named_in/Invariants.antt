use Rattle.std.proofs.Common.{◌≡◌, drop}
use Rattle.yarn_markup.specs.Choice.{named}
use Rattle.yarn_markup.proofs.choice.named_in.Given as goal

abbrev pub invariant-loop-property : goal.invariant-loop-property
invariant-loop-property l = named l.name l.properties ≡ named l.name (drop l.property-index l.properties)
