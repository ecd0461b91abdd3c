use Rattle.std.proofs.Common.{◌≡◌, ◌+◌, drop, rules, arith}
use Rattle.std.proofs.lemmas.List.{drop_all}
use Rattle.yarn_render.proofs.RenderLemmas.{leads_on, leads_last}
use Rattle.yarn_render.proofs.event.push_options.Goals as goal

pub loop-choice-preserved : goal.loop-choice-preserved
loop-choice-preserved c =
    let counted : c.in_ok-number.number ≡ c.loop-choice.number + 1 = grind arith in
    leads_on c.args.table.now c.args.plural.now c.args.marks c.args.choices.now c.args.out.now c.loop-choice.number c.in_ok-number.number c.loop-choice.choice-index
    c.choice-item.result c.loop-choice.out c.push_start.new.out c.push_under.new.out c.loop-choice.invariant (search rules) c.choice-item.is counted c.in_ok-push_start.ensures c.in_ok-push_under.ensures

pub returns : goal.returns
returns c =
    leads_last c.args.table.now c.args.plural.now c.args.marks c.args.choices.now c.args.out.now c.loop-choice.number (drop c.loop-choice.choice-index c.args.choices.now) c.loop-choice.out
    c.loop-choice.invariant (grind (arith, drop_all))
