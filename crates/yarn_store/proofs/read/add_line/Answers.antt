use Rattle.std.proofs.Common.{◌≡◌, [], Some, subst, sym, ap, ◌∙◌, rules}
use Rattle.std.specs.Prelude.{MatchOption}
use Rattle.yarn_value.specs.Pairs.{put}
use Rattle.yarn_store.specs.Variables.{StandsFor}
use Rattle.yarn_store.specs.Steps.{IsPairLine}
use Rattle.yarn_store.proofs.ReadingLemmas.{not_empty, found_there, found_none, put-new, after_line-name, after_line-new, after_line-other}
use Rattle.yarn_store.proofs.read.add_line.Goals as goal

pub returns-then-is_some : goal.returns-then-is_some
returns-then-is_some c =
    let line = c.args.line.now in
    let some : ¬ (line ≡ []) = not_empty line (sym c.is_empty.ensures ∙ c.if-is_empty.false) in
    let stands : StandsFor line (c.in-Some.name, c.in-Some.value) =
    subst (λ o. MatchOption o (¬ IsPairLine line) (λ p. StandsFor line p)) c.in-Some.is c.in_ok-name.ensures in
    after_line-name c.args.store.now line some (c.in-Some.name, c.in-Some.value) stands (found_there c.get.result _ c.get.ensures (sym c.is_some.ensures ∙ c.if-is_some.true))

pub returns : goal.returns
returns c =
    let line = c.args.line.now in
    let store = c.args.store.now in
    let name = c.in-Some.name in
    let some : ¬ (line ≡ []) = not_empty line (sym c.is_empty.ensures ∙ c.if-is_empty.false) in
    let stands : StandsFor line (name, c.in-Some.value) =
    subst (λ o. MatchOption o (¬ IsPairLine line) (λ p. StandsFor line p)) c.in-Some.is c.in_ok-name.ensures in
    let none = found_none c.get.result _ c.get.ensures (sym c.is_some.ensures ∙ c.if-is_some.false) in
    let made : c.set.new.self ≡ put store name c.in-Some.value = search rules in
    after_line-new store line some (name, c.in-Some.value) stands none ∙ ap Some (sym (made ∙ put-new store name c.in-Some.value none))

pub returns-in_default : goal.returns-in_default
returns-in_default c =
    let line = c.args.line.now in
    let some : ¬ (line ≡ []) = not_empty line (sym c.is_empty.ensures ∙ c.if-is_empty.false) in
    let other : ¬ IsPairLine line = subst (λ o. MatchOption o (¬ IsPairLine line) (λ p. StandsFor line p)) c.in_default.is c.in_ok-name.ensures in
    after_line-other c.args.store.now line some other
