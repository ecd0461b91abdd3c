use Rattle.std.proofs.Common.{◌∙◌, arith}
use Rattle.yarn_walker.proofs.FrameLemmas.{within-first, within-popped, within-over}
use Rattle.yarn_walker.proofs.frames.Frames.take_first.Goals as goal

pub returns-in-Some-clause-some : goal.returns-in-Some-clause-some
returns-in-Some-clause-some c =
    c.loop-first.invariant ∙ within-first c.loop-first.self.body.now c.in-Some.rest.now c.in-Some.first.now c.loop-first.self.outer.items c.in-Some.ensures.cases.0

pub returns-in_err-self-clause-none : goal.returns-in_err-self-clause-none
returns-in_err-self-clause-none c =
    λ none. (
      c.loop-first.invariant
          ∙ within-over c.loop-first.self.body.now c.loop-first.self.outer.items c.in_default.ensures.cases (omega (arith, c.in_err-self.ensures.cases, c.loop-first.self.outer.ok.0)),
      within-over c.loop-first.self.body.now c.pop.new.self.items c.in_default.ensures.cases (omega (arith, c.in_err-self.ensures.cases, c.pop.new.self.ok.0)),
    )

pub loop-first-preserved : goal.loop-first-preserved
loop-first-preserved c =
    c.loop-first.invariant ∙ within-popped c.loop-first.self.body.now c.in_ok-self.field-0 c.loop-first.self.outer.items c.pop.new.self.items c.in_default.ensures.cases c.in_ok-self.ensures.items
