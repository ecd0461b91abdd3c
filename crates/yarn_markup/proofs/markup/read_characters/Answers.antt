use Rattle.std.proofs.Common.{◌≡◌, ◌<◌, length, refl, arith}
use Rattle.std.proofs.lemmas.Bool.Decides.{nat_tests}
use Rattle.yarn_markup.specs.Slots.{kept}
use Rattle.yarn_markup.proofs.LengthLemmas.{piece-shorter, no_characters}
use Rattle.yarn_markup.proofs.MarkupLemmas.{leads_step, refused_by, refused_broken, finishes}
use Rattle.yarn_markup.proofs.markup.read_characters.Goals as goal

pub returns-in_default : goal.returns-in_default
returns-in_default c =
    let some : 0 < length c.loop-rest.rest.now = grind (arith, nat_tests) in
    let nothing = rw c.in_default.is at c.in_ok-read.ensures in
    refused_broken c.args.plural.now c.args.text.now c.loop-rest.rest.now (kept c.loop-rest.reading) _ c.loop-rest.invariant.0 some nothing refl

pub returns-in-Err : goal.returns-in-Err
returns-in-Err c =
    let is = rw c.in-Some.is at c.in_ok-read.ensures in
    refused_by c.args.plural.now c.args.text.now c.loop-rest.rest.now c.in-Some.read.rest.now (kept c.loop-rest.reading) (kept c.take.new.self) c.in-Some.read.piece _
    c.in-Err.fault c.loop-rest.invariant.0 is refl c.in-Err.ensures.taken

pub loop-rest-smaller : goal.loop-rest-smaller
loop-rest-smaller c =
    let is = rw c.in-Some.is at c.in_ok-read.ensures in
    piece-shorter c.args.plural.now c.loop-rest.rest.now c.in-Some.read.piece c.in-Some.read.rest.now is

pub loop-rest-preserved : goal.loop-rest-preserved
loop-rest-preserved c =
    let is = rw c.in-Some.is at c.in_ok-read.ensures in (
      leads_step c.args.plural.now c.args.text.now c.loop-rest.rest.now c.in-Some.read.rest.now (kept c.loop-rest.reading) (kept c.take.new.self) c.in-Some.read.piece _
          c.loop-rest.invariant.0 is refl c.in_default-take.ensures.taken,
      c.in_default-take.ensures.tracked,
    )

pub returns : goal.returns
returns c =
    let none : length c.loop-rest.rest.now ≡ 0 = grind (arith, nat_tests) in
    finishes c.args.plural.now c.args.text.now c.loop-rest.rest.now (kept c.loop-rest.reading) c.loop-rest.invariant.0 (no_characters c.loop-rest.rest.now none) c.finish.result c.finish.ensures
