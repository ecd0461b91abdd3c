-- Each way out of the loop, and each turn of it.
use Rattle.std.proofs.Common.{◌≡◌, ◌-◌, arith}
use Rattle.yarn_player.proofs.Shown.{IfSome-of, one_left, shown_stops, shown_turned, shown_event, shown_end, shown_limit, ended_played, ended_writes, ended_stops}
use Rattle.yarn_player.proofs.StepLemmas.{TakesFront-more}
use Rattle.yarn_player.proofs.run.play.Goals as goal

pub returns-in_err-end-clause-part : goal.returns-in_err-end-clause-part
returns-in_err-end-clause-part g c = IfSome-of _ _ (λ bytes told. shown_stops _ _ _ _ c.loop.invariant.shown _ c.step.ensures.part bytes told)

pub returns-in_err-end-clause-taken : goal.returns-in_err-end-clause-taken
returns-in_err-end-clause-taken g c = TakesFront-more _ _ _ c.loop.invariant.shown.taken c.step.ensures.taken

pub returns-in_err-finish-clause-part : goal.returns-in_err-finish-clause-part
returns-in_err-finish-clause-part g c =
    let one = one_left c.args.limit c.loop.counter c.loop-test.true in
    let steps = rw c.in-Some.is at c.in_ok-end.ensures.steps in
    IfSome-of _ _ (λ bytes told. ended_stops _ _ _ _ _ (shown_end _ _ _ _ c.loop.invariant.shown _ _ _ one steps bytes told) _ c.finish.ensures.part)

pub returns-in_err-finish-clause-taken : goal.returns-in_err-finish-clause-taken
returns-in_err-finish-clause-taken g c = TakesFront-more _ _ _ c.loop.invariant.shown.taken c.step.ensures.taken

pub returns-in-Some-clause-played : goal.returns-in-Some-clause-played
returns-in-Some-clause-played g c =
    let one = one_left c.args.limit c.loop.counter c.loop-test.true in
    let steps = rw c.in-Some.is at c.in_ok-end.ensures.steps in
    IfSome-of _ _ (λ bytes told. ended_played _ _ _ _ _ (shown_end _ _ _ _ c.loop.invariant.shown _ _ _ one steps bytes told) _ c.in_ok-finish.ensures.end c.in_ok-finish.ensures.store)

pub returns-in-Some-clause-written : goal.returns-in-Some-clause-written
returns-in-Some-clause-written g c =
    let one = one_left c.args.limit c.loop.counter c.loop-test.true in
    let steps = rw c.in-Some.is at c.in_ok-end.ensures.steps in
    IfSome-of _ _ (λ bytes told. ended_writes _ _ _ _ _ (shown_end _ _ _ _ c.loop.invariant.shown _ _ _ one steps bytes told) _ c.in_ok-finish.ensures.ok)

pub returns-in-Some-clause-part : goal.returns-in-Some-clause-part
returns-in-Some-clause-part g c =
    let one = one_left c.args.limit c.loop.counter c.loop-test.true in
    let steps = rw c.in-Some.is at c.in_ok-end.ensures.steps in
    IfSome-of _ _ (λ bytes told. ended_stops _ _ _ _ _ (shown_end _ _ _ _ c.loop.invariant.shown _ _ _ one steps bytes told) _ c.finish.ensures.part)

pub returns-in-Some-clause-taken : goal.returns-in-Some-clause-taken
returns-in-Some-clause-taken g c = TakesFront-more _ _ _ c.loop.invariant.shown.taken c.step.ensures.taken

pub returns-in_err-turn_full-clause-part : goal.returns-in_err-turn_full-clause-part
returns-in_err-turn_full-clause-part g c =
    let one = one_left c.args.limit c.loop.counter c.loop-test.true in
    let steps = rw c.in_default.is at c.in_ok-end.ensures.steps in
    IfSome-of _ _ (λ bytes told. shown_stops _ _ _ _ (shown_event _ _ _ _ c.loop.invariant.shown _ _ one steps c.in_ok-end.ensures.sound c.step.ensures.taken) _ c.turn_full.ensures.part bytes told)

pub returns-in_err-turn_full-clause-taken : goal.returns-in_err-turn_full-clause-taken
returns-in_err-turn_full-clause-taken g c = TakesFront-more _ _ _ c.loop.invariant.shown.taken c.step.ensures.taken

pub loop-preserved : goal.loop-preserved
loop-preserved g c =
    let one = one_left c.args.limit c.loop.counter c.loop-test.true in
    let steps = rw c.in_default.is at c.in_ok-end.ensures.steps in
    record {
      shown = shown_turned _ _ _ _ (shown_event _ _ _ _ c.loop.invariant.shown _ _ one steps c.in_ok-end.ensures.sound c.step.ensures.taken) _ _ _ c.in_ok-turn_full.ensures.ok;
      input_count = omega (arith, c.loop.invariant.input_count, c.step.ensures.input.later);
      output_count = omega (arith, c.loop.invariant.output_count, c.step.ensures.output.later, c.turn_full.ensures.cause.later);
    }

pub returns-in_err-finish-2-clause-part : goal.returns-in_err-finish-2-clause-part
returns-in_err-finish-2-clause-part g c = IfSome-of _ _ (λ bytes told. shown_stops _ _ _ _ c.loop.invariant.shown _ c.finish-2.ensures.part bytes told)

pub returns-clause-played : goal.returns-clause-played
returns-clause-played g c =
    let over : c.args.limit - c.loop.counter ≡ 0 = omega arith in
    IfSome-of _ _ (λ bytes told. ended_played _ _ _ _ _ (shown_limit _ _ _ _ c.loop.invariant.shown over bytes told) _ c.in_ok-finish-2.ensures.end c.in_ok-finish-2.ensures.store)

pub returns-clause-written : goal.returns-clause-written
returns-clause-written g c =
    let over : c.args.limit - c.loop.counter ≡ 0 = omega arith in
    IfSome-of _ _ (λ bytes told. ended_writes _ _ _ _ _ (shown_limit _ _ _ _ c.loop.invariant.shown over bytes told) _ c.in_ok-finish-2.ensures.ok)

pub returns-clause-part : goal.returns-clause-part
returns-clause-part g c = IfSome-of _ _ (λ bytes told. shown_stops _ _ _ _ c.loop.invariant.shown _ c.finish-2.ensures.part bytes told)
