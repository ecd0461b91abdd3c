use Rattle.std.proofs.Common.{◌<◌, subst, sym}
use Rattle.yarn_store.specs.Steps.{IsShortQuoted}
use Rattle.yarn_store.proofs.SpellingLemmas.{long_quoted, none_quoted}
use Rattle.yarn_store.proofs.pair.read_quoted.Goals as goal
use Rattle.yarn_store.proofs.pair.read_quoted.Goals.{in_default-via-in-Some+else-len-le-LONGEST_TEXT, in_default-via-in_default}

pub returns : goal.returns
returns c short =
    let s = c.in_ok-spelled.spelled in
    let found = c.in_ok-text.field-0 in
    let there = subst IsShortQuoted (sym c.in_ok-spelled.ensures) short in
    elim c.in_default.branch [
      | in_default-via-in-Some+else-len-le-LONGEST_TEXT w ↦ long_quoted s found w.in-Some.text c.in_ok-text.ensures w.in-Some.is (subst (λ n. 65536 < n) w.len.ensures w.if-len-le-LONGEST_TEXT.false) there
      | in_default-via-in_default w ↦ none_quoted s found c.in_ok-text.ensures w.in_default.is there
    ]
