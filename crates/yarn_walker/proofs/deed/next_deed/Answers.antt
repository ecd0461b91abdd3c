use Rattle.std.proofs.Common.{[], Ok, Some, None, ap, subst, ◌∙◌}
use Rattle.yarn_blocks.specs.Tree.{Cons}
use Rattle.yarn_blocks.specs.View.{stmt_of}
use Rattle.yarn_meaning.specs.Does.{does_all}
use Rattle.yarn_meaning.specs.Texts.{TellsAll, said_in}
use Rattle.yarn_walker.specs.States.{at, no_hosts}
use Rattle.yarn_walker.specs.Frames.{rest_of}
use Rattle.yarn_walker.specs.Deeds.{DoesFirst, KeepsTextsFirst}
use Rattle.yarn_walker.proofs.deed.next_deed.Goals as goal

pub returns-in-Some-2-clause-texts : goal.returns-in-Some-2-clause-texts
returns-in-Some-2-clause-texts c =
    let first = Cons (stmt_of c.in-Some.statement.now) (rest_of c.take_first.new.self) in
    let keeps : KeepsTextsFirst first (Ok (Some c.in-Some-2.deed)) (rest_of c.deed_of.new.rest) =
    subst (λ o. KeepsTextsFirst first (Ok o) (rest_of c.deed_of.new.rest)) c.in-Some-2.is c.in_ok-deed.ensures.texts in
    λ table told. keeps table (subst (λ s. TellsAll table (said_in s)) c.in-Some.ensures.some (c.loop-statement.invariant.texts table told))

pub loop-statement-preserved : goal.loop-statement-preserved
loop-statement-preserved c =
    let first = Cons (stmt_of c.in-Some.statement.now) (rest_of c.take_first.new.self) in
    let new = rest_of c.deed_of.new.rest in
    let before = c.loop-statement.store in
    let does : DoesFirst first before (Ok None) new c.deed_of.new.store =
    subst (λ o. DoesFirst first before (Ok o) new c.deed_of.new.store) c.in_default-2.is c.in_ok-deed.ensures.meaning in
    let keeps : KeepsTextsFirst first (Ok None) new = subst (λ o. KeepsTextsFirst first (Ok o) new) c.in_default-2.is c.in_ok-deed.ensures.texts in
    record {
      meaning = λ answers. c.loop-statement.invariant.meaning answers ∙ ap (λ s. does_all no_hosts s (at before answers)) c.in-Some.ensures.some ∙ does answers;
      texts = λ table told. keeps table (subst (λ s. TellsAll table (said_in s)) c.in-Some.ensures.some (c.loop-statement.invariant.texts table told));
    }
