use Rattle.std.proofs.Common.{◌≡◌, drop}
use Rattle.yarn_markup.specs.Choice.{named}
use Rattle.yarn_markup.specs.Steps.{options_of}
use Rattle.yarn_markup.proofs.choice.option_in.Given as goal

abbrev pub invariant-loop-property : goal.invariant-loop-property
invariant-loop-property l = named l.name (options_of l.by_value l.options) ≡ named l.name (options_of l.skips (drop l.property-index l.options))
