use Rattle.std.proofs.Common.{◌≡◌, OnOk, None, sym, subst, rules, arith}
use Rattle.std.proofs.lemmas.Grind.{common_steps}
use Rattle.yarn_value.specs.Pairs.{value_under}
use Rattle.yarn_walker.proofs.VariableLemmas.{with_missing_one-new}
use Rattle.yarn_walker.proofs.variables.keep.Goals as goal

pub returns : goal.returns
returns c =
    let new : value_under c.args.store.now c.args.name ≡ None = grind (arith, common_steps) in
    subst (λ store. OnOk c.map_err.result (c.set.new.self ≡ store)) (sym (with_missing_one-new c.args.store.now c.args.name c.args.value new)) (search rules)
