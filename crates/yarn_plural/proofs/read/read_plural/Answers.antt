use Rattle.std.proofs.Common.{◌≡◌, Some, rules}
use Rattle.yarn_plural.specs.Rules.{IsLine}
use Rattle.yarn_plural.specs.ReadingSteps.{after_line}
use Rattle.yarn_plural.proofs.ReadingLemmas.{IsReading-start, IsReading-step}
use Rattle.yarn_plural.proofs.read.read_plural.Goals as goal

pub loop-rest-init : goal.loop-rest-init
loop-rest-init c =
    let new = c.new-reader.ensures in
    rw c.as_slice-rest.ensures (IsReading-start c.args.bytes.now c.new-reader.result new.cardinal new.ordinal new.form new.repeated)

pub loop-rest-preserved : goal.loop-rest-preserved
loop-rest-preserved c =
    let l = c.loop-rest in
    let first = c.first_line in
    let is : IsLine first.result.0.now c.in-Some.found = search rules in
    let added : after_line l.reader c.in-Some.found l.number ≡ Some c.add.new.self = search rules in
    IsReading-step c.args.bytes.now l.number l.rest.now l.reader first.result.0.now first.result.1.now c.in-Some.found c.add.new.self l.invariant
    first.ensures.lines first.ensures.shorter is added
