use Rattle.std.proofs.Common.{length}
use Rattle.yarn_markup.specs.Slots.{kept}
use Rattle.yarn_markup.specs.Latest.{IsTracked}
use Rattle.yarn_markup.proofs.MarkupLemmas.{Leads}
use Rattle.yarn_markup.proofs.markup.read_characters.Given as goal

abbrev pub invariant-loop-rest : goal.invariant-loop-rest
invariant-loop-rest l = (Leads l.plural l.text l.rest (kept l.reading)) × IsTracked l.reading.latest l.reading.slots.items

abbrev pub decreases-loop-rest : goal.decreases-loop-rest
decreases-loop-rest l = length l.rest
