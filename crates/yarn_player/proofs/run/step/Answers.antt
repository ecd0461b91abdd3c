-- A step takes the next answer where the walk asks, and nothing of the input where it doesn't.
use Rattle.std.proofs.Common.{ℕ, List, Option, Some, None, refl, []}
use Rattle.yarn_code.specs.Taking.{TakesAnswer}
use Rattle.yarn_player.specs.Played.{TakesFront}
use Rattle.yarn_player.specs.Steps.{NoAnswer, Answer}
use Rattle.yarn_player.proofs.StepLemmas.{Steps-shown, Steps-waits, TakesFront-answer, IsWritten-all, IsWritten-same, left_behind}
use Rattle.yarn_player.proofs.run.step.Goals as goal

-- what isn't told stays so
answer_front : (old new : Option (List ℕ)) (result : Option ℕ) → TakesAnswer old new result → TakesFront old new
answer_front None new result takes = record { front = []; split = rw takes refl }
answer_front (Some bytes) new result takes = TakesFront-answer bytes new result takes

pub returns-in_err-answer-in-Ok-Some-clause-taken : goal.returns-in_err-answer-in-Ok-Some-clause-taken
returns-in_err-answer-in-Ok-Some-clause-taken g c = answer_front _ _ _ c.in-Ok-Some.ensures.ok

pub returns-in_ok-answer-in-Ok-Some-clause-taken : goal.returns-in_ok-answer-in-Ok-Some-clause-taken
returns-in_ok-answer-in-Ok-Some-clause-taken g c = answer_front _ _ _ c.in-Ok-Some.ensures.ok

pub returns-in-Ok-None-clause-taken : goal.returns-in-Ok-None-clause-taken
returns-in-Ok-None-clause-taken g c = answer_front _ _ _ c.in-Ok-None.ensures.ok

pub returns-in-Ok-None-clause-steps : goal.returns-in-Ok-None-clause-steps
returns-in-Ok-None-clause-steps g c =
    let hands = IsWritten-all _ _ _ _ _ c.in_ok-turn.ensures.ok c.turn.ensures.cause.later in
    Steps-waits _ _ (rw c.in-Ok-None.field-0-is at c.in-Ok-None.ensures.ok) (refl {a = c.args.walk.now}) (c.asks.ensures.waits c.if-not-asks.false) (rw c.in_ok-turn.ensures.empty hands)

pub returns-in_ok-answer-in-Ok-Some-clause-steps : goal.returns-in_ok-answer-in-Ok-Some-clause-steps
returns-in_ok-answer-in-Ok-Some-clause-steps g c =
    let hands = IsWritten-all _ _ _ _ _ c.in_ok-turn.ensures.ok c.turn.ensures.cause.later in
    let takes = rw c.in-Ok-Some.field-0-is at c.in-Ok-Some.ensures.ok in
    Steps-shown (Answer c.in-Ok-Some.number) _ _ [] _ (rw c.in_ok-turn.ensures.empty at c.in_ok-answer-in-Ok-Some.ensures.shows) hands (left_behind _ _ _ takes)

pub returns-then-not-asks-clause-steps : goal.returns-then-not-asks-clause-steps
returns-then-not-asks-clause-steps g c =
    Steps-shown NoAnswer _ _ c.args.page.now.bytes.items _ c.in_ok-show.ensures.shows (IsWritten-same _ _ _) (λ bytes told. (bytes, told, refl))
