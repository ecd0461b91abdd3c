use Rattle.std.proofs.Common.{◌≡◌, ◌+◌, ◌-◌, ◌∷◌, ◌∙◌, sym, ap, drop, length, take, arith, length-drop}
use Rattle.std.proofs.lemmas.List.{take_all}
use Rattle.yarn_plural.specs.Steps.{pieces}
use Rattle.yarn_plural.proofs.PieceLemmas.{cut-there, cut-not, cut-none}
use Rattle.yarn_plural.proofs.parse.cut.Goals as goal

pub returns-then-is-clause-pieces : goal.returns-then-is-clause-pieces
returns-then-is-clause-pieces c =
    let ts = c.args.tokens.now in
    let at = c.loop-at.at in
    let rest = drop (at + 1) ts in
    let all : take (length ts - (at + 1)) rest ≡ rest = take_all (length ts - (at + 1)) rest (omega (arith, length-drop (at + 1) ts)) in
    cut-there c.args.joint ts at _ c.loop-at.invariant c.loop-at-test.true (sym c.is.ensures ∙ c.if-is.true)
    ∙ ap (λ l. take at ts ∷ pieces c.args.joint l) (sym all)

pub loop-at-preserved : goal.loop-at-preserved
loop-at-preserved c = cut-not c.args.joint c.args.tokens.now c.loop-at.at _ c.loop-at.invariant c.loop-at-test.true (sym c.is.ensures ∙ c.if-is.false)

pub returns-clause-pieces : goal.returns-clause-pieces
returns-clause-pieces c = cut-none c.args.joint c.args.tokens.now c.loop-at.at c.loop-at.invariant c.loop-at-test.false
