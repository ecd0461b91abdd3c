use Rattle.yarn_markup.proofs.ReadingLemmas.{property_shorter, GoesOn-step, AddsProperties-end, GoesOn-start}
use Rattle.yarn_markup.proofs.property.read_properties.Goals as goal

pub loop-read-init : goal.loop-read-init
loop-read-init c = GoesOn-start _ _

pub loop-read-preserved : goal.loop-read-preserved
loop-read-preserved c =
    let found = rw c.in-Some.is at c.in_ok-read.ensures in
    GoesOn-step _ _ _ _ _ (record { property = c.in-Some.read.property; rest = c.in-Some.read.rest.now }) c.loop-read.invariant found c.in_ok-push_property-in-Some.ensures

pub loop-read-smaller : goal.loop-read-smaller
loop-read-smaller c =
    let found = rw c.in-Some.is at c.in_ok-read.ensures in
    property_shorter c.loop-read.rest.now (record { property = c.in-Some.read.property; rest = c.in-Some.read.rest.now }) found

pub returns-in-None : goal.returns-in-None
returns-in-None c =
    let nothing = rw c.in-None.is at c.in_ok-read.ensures in
    AddsProperties-end _ _ _ _ c.loop-read.invariant nothing
