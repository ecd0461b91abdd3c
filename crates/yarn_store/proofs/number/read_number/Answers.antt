use Rattle.std.proofs.Common.{◌≡◌, true, sym, ap, ◌∙◌}
use Rattle.yarn_store.specs.Steps.{begins_plainly}
use Rattle.yarn_store.proofs.NumberLemmas.{reads, plain_plus, found_number}
use Rattle.yarn_store.proofs.number.read_number.Goals as goal

pub returns-then-begins_plainly : goal.returns-then-begins_plainly
returns-then-begins_plainly c =
    let text = c.args.text.now in
    let plain : begins_plainly text ≡ true = ap begins_plainly (sym c.as_bytes.ensures.value) ∙ sym c.begins_plainly.ensures ∙ c.if-begins_plainly.true in
    rw c.ok.ensures.value (found_number text c.parse.result plain (reads text c.parse.result (plain_plus text plain) c.parse.ensures.value.0))
