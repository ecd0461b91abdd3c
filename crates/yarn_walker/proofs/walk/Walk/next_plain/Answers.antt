use Rattle.std.proofs.Common.{◌≡◌}
use Rattle.yarn_walker.specs.declared.walk.Seat.TheVariants.{Within}
use Rattle.yarn_walker.proofs.PlainLemmas.{plain_comes, plain_sound, plain_told}
use Rattle.yarn_walker.proofs.walk.Walk.next_plain.Goals as goal

pub returns-in-Within-clause-meaning : goal.returns-in-Within-clause-meaning
returns-in-Within-clause-meaning c =
    let w = c.args.self.now in
    let n = c.in-Within.field-0 in
    let seat : w.seat ≡ Within n c.in-Within.rest = c.in-Within.is in
    plain_comes w n c.in-Within.rest c.take_plain.new.self seat c.take_plain.result c.take_plain.ensures.some c.take_plain.ensures.plain

pub returns-in-Within-clause-sound : goal.returns-in-Within-clause-sound
returns-in-Within-clause-sound c =
    let w = c.args.self.now in
    let n = c.in-Within.field-0 in
    let seat : w.seat ≡ Within n c.in-Within.rest = c.in-Within.is in
    plain_sound w n c.in-Within.rest c.take_plain.new.self seat c.take_plain.result c.take_plain.ensures.some c.take_plain.ensures.none c.requires

pub returns-in-Within-clause-texts : goal.returns-in-Within-clause-texts
returns-in-Within-clause-texts c =
    let w = c.args.self.now in
    let n = c.in-Within.field-0 in
    let seat : w.seat ≡ Within n c.in-Within.rest = c.in-Within.is in
    plain_told w n c.in-Within.rest c.take_plain.new.self seat c.take_plain.result c.take_plain.ensures.some c.requires
