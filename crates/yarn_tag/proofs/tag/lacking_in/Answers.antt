use Rattle.std.proofs.Common.{◌<◌, List, take, length, ap, sym, ◌∙◌, arith, Bool, not}
use Rattle.yarn_tag.specs.declared.spoken.Spoken.{Spoken}
use Rattle.yarn_tag.specs.declared.sets.LineSet.{LineSet}
use Rattle.yarn_tag.specs.Sets.{has_line, and_line}
use Rattle.yarn_tag.specs.Tagged.{lacks}
use Rattle.yarn_tag.proofs.SaidLemmas.{took, lacks-with, lacks-without}
use Rattle.yarn_tag.proofs.tag.lacking_in.Goals.{then-is_none+in_ok-insert, else-is_none}
use Rattle.yarn_tag.proofs.tag.lacking_in.Goals as goal

pub loop-spoken-preserved : goal.loop-spoken-preserved
loop-spoken-preserved c =
    let said = c.args.said.now in
    let at = c.loop-spoken.spoken-index in
    let s = c.spoken-item.result in
    let less : at < length said = let h = c.loop-spoken-test.true in let k = c.loop-spoken.auto.spoken-index-end in omega arith in
    let more = ap (λ (l : List Spoken). lacks l) (sym (took said at s less c.spoken-item.is)) in
    elim c.if-is_none.branch [
      | then-is_none+in_ok-insert w ↦
          ap (λ (x : LineSet). has_line x) w.lines-is ∙ w.in_ok-insert.ensures ∙ ap (and_line s.line) c.loop-spoken.invariant
          ∙ lacks-with (take at said) s (ap not c.is_none.ensures ∙ ap (λ (b : Bool). not (not b)) w.if-is_none.true) ∙ more
      | else-is_none w ↦
          ap (λ (x : LineSet). has_line x) w.lines-is ∙ c.loop-spoken.invariant
          ∙ lacks-without (take at said) s (ap not c.is_none.ensures ∙ ap (λ (b : Bool). not (not b)) w.if-is_none.false) ∙ more
    ]
