use Rattle.std.proofs.Common.{◌∷◌, IsUtf8, subst, sym, ap, ◌∙◌, arith}
use Rattle.std.proofs.lemmas.Str.Pattern.{split_parts}
use Rattle.yarn_store.specs.Steps.{CanBeCut, IsCut}
use Rattle.yarn_store.proofs.SpellingLemmas.{no_space_no_cut, other_sign_no_cut, cut_at_sign}
use Rattle.yarn_store.proofs.pair.cut.Goals as goal

pub returns-in_default-split_once : goal.returns-in_default-split_once
returns-in_default-split_once c =
    let parts = split_parts 32 c.in-Ok.line.now c.split_once.result c.split_once.ensures.cases (omega arith) in
    let free = rw c.in_default-split_once.is at parts in
    subst (λ l. CanBeCut l → ⊥) c.in-Ok.ensures.cases.0 (no_space_no_cut c.in-Ok.line.now free)

pub returns-in-Some-strip_prefix : goal.returns-in-Some-strip_prefix
returns-in-Some-strip_prefix c =
    let parts = split_parts 32 c.in-Ok.line.now c.split_once.result c.split_once.ensures.cases (omega arith) in
    let both = rw c.in-Some.is at parts in
    let sign = c.in-Some-strip_prefix.ensures.cases in
    subst (λ l. IsCut l c.in-Some.name.now c.in-Some-strip_prefix.spelled.now) c.in-Ok.ensures.cases.0
    (cut_at_sign c.in-Ok.line.now c.in-Some.name.now c.in-Some.behind.now c.in-Some-strip_prefix.spelled.now
    (subst IsUtf8 (sym c.in-Ok.ensures.cases.0) c.in-Ok.ensures.cases.1) both.0 both.1 (sign.1.1 ∙ ap (λ l. 61 ∷ 32 ∷ l) (sym sign.2)))

pub returns-in-None : goal.returns-in-None
returns-in-None c =
    let parts = split_parts 32 c.in-Ok.line.now c.split_once.result c.split_once.ensures.cases (omega arith) in
    let both = rw c.in-Some.is at parts in
    subst (λ l. CanBeCut l → ⊥) c.in-Ok.ensures.cases.0 (other_sign_no_cut c.in-Ok.line.now c.in-Some.name.now c.in-Some.behind.now both.0 both.1 c.in-None.ensures.cases)
