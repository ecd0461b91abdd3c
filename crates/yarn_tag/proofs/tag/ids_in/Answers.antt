use Rattle.std.proofs.Common.{◌<◌, ℕ, List, Some, take, length, ap, sym, ◌∙◌, arith}
use Rattle.yarn_tag.specs.declared.spoken.Spoken.{Spoken}
use Rattle.yarn_tag.specs.declared.sets.Ids.{Ids}
use Rattle.yarn_tag.specs.Sets.{has, and_id}
use Rattle.yarn_tag.specs.Tagged.{has_id}
use Rattle.yarn_tag.proofs.SaidLemmas.{took, ids-with, ids-without}
use Rattle.yarn_tag.proofs.tag.ids_in.Goals.{in-Some+in_ok-insert, in_default}
use Rattle.yarn_tag.proofs.tag.ids_in.Goals as goal

pub loop-spoken-preserved : goal.loop-spoken-preserved
loop-spoken-preserved c =
    let said = c.args.said.now in
    let at = c.loop-spoken.spoken-index in
    let s = c.spoken-item.result in
    let less : at < length said = let h = c.loop-spoken-test.true in let k = c.loop-spoken.auto.spoken-index-end in omega arith in
    let more = ap (λ (l : List Spoken). has_id l) (sym (took said at s less c.spoken-item.is)) in
    elim c.match-spoken.branch [
      | in-Some+in_ok-insert w ↦
          ap (λ (x : Ids). has x) w.ids-is ∙ w.in_ok-insert.ensures ∙ ap (and_id w.as_str.result.now) c.loop-spoken.invariant
          ∙ ids-with (take at said) s w.as_str.result.now (w.in-Some.is ∙ ap (λ (i : List ℕ). Some i) (sym w.as_str.ensures.value)) ∙ more
      | in_default w ↦
          ap (λ (x : Ids). has x) w.ids-is ∙ c.loop-spoken.invariant
          ∙ ids-without (take at said) s w.in_default.is ∙ more
    ]
