use Rattle.std.proofs.Common.{◌≡◌, true, false, subst, sym, ap, ◌∙◌}
use Rattle.std.specs.Prelude.{MatchOption}
use Rattle.std.specs.Str.{chars}
use Rattle.yarn_base.specs.Name.{is_variable_of}
use Rattle.yarn_store.specs.Variables.{StandsFor, Spells}
use Rattle.yarn_store.specs.Steps.{IsValue}
use Rattle.yarn_store.proofs.SpellingLemmas.{cut_of_line, no_variable, no_value, stands_for}
use Rattle.yarn_store.proofs.pair.read_pair.Goals as goal

pub returns-in_default : goal.returns-in_default
returns-in_default c stands = c.in_default.ensures (cut_of_line c.args.line.now stands)

pub returns-then-not-is_variable : goal.returns-then-not-is_variable
returns-then-not-is_variable c =
    let other : is_variable_of (chars c.in-Some.name.now) ≡ false =
    ap (λ name. is_variable_of (chars name)) (sym c.in_ok-name.ensures) ∙ sym c.is_variable.ensures ∙ c.if-not-is_variable.true in
    no_variable c.args.line.now c.in-Some.name.now c.in-Some.spelled.now c.in-Some.ensures other

pub returns-in-Some-2 : goal.returns-in-Some-2
returns-in-Some-2 c =
    let variable : is_variable_of (chars c.in-Some.name.now) ≡ true =
    ap (λ name. is_variable_of (chars name)) (sym c.in_ok-name.ensures) ∙ sym c.is_variable.ensures ∙ c.if-not-is_variable.false in
    let spells : Spells c.in-Some.spelled.now c.in-Some-2.value =
    subst (λ o. MatchOption o (¬ IsValue c.in-Some.spelled.now) (λ v. Spells c.in-Some.spelled.now v)) c.in-Some-2.is c.in_ok-value.ensures in
    subst (λ name. StandsFor c.args.line.now (name, c.in-Some-2.value)) (sym c.in_ok-name.ensures)
    (stands_for c.args.line.now c.in-Some.name.now c.in-Some.spelled.now c.in-Some.ensures c.in-Some-2.value variable spells)

pub returns-in-None : goal.returns-in-None
returns-in-None c =
    let none : ¬ IsValue c.in-Some.spelled.now =
    subst (λ o. MatchOption o (¬ IsValue c.in-Some.spelled.now) (λ v. Spells c.in-Some.spelled.now v)) c.in-None.is c.in_ok-value.ensures in
    no_value c.args.line.now c.in-Some.name.now c.in-Some.spelled.now c.in-Some.ensures none
