use Rattle.std.proofs.Common.{◌≡◌, ◌∷◌, ◌++◌, [], length, Some, None, rules, arith, ap}
use Rattle.std.proofs.lemmas.Bool.Decides.{nat_tests}
use Rattle.std.proofs.lemmas.List.{nil_from_length}
use Rattle.yarn_plural.specs.Tokens.{is_blank}
use Rattle.yarn_plural.specs.Steps.{next_of}
use Rattle.yarn_plural.proofs.TokenLemmas.{IsScanning-start, IsScanning-step, IsScanning-end, IsScanning-none, next_of-shorter, past-shorter}
use Rattle.yarn_plural.proofs.scan.read_tokens.Goals as goal

pub loop-rest-init : goal.loop-rest-init
loop-rest-init c = rw (c.new-tokens.ensures, c.first_run.ensures.past) (IsScanning-start c.args.text.now)

pub returns-in_default : goal.returns-in_default
returns-in_default c =
    let rest = c.loop-rest.rest.now in
    let none : next_of rest ≡ None = search rules in
    let some : ¬ (rest ≡ []) = λ e. let h : length rest ≡ 0 = ap length e in grind (arith, nat_tests) in
    IsScanning-none c.args.text.now c.loop-rest.tokens rest c.loop-rest.invariant some none

pub loop-rest-smaller : goal.loop-rest-smaller
loop-rest-smaller c =
    let rest = c.loop-rest.rest.now in
    let next : next_of rest ≡ Some (c.in-Some.token, c.in-Some.behind.now) = search rules in
    let shorter = next_of-shorter rest c.in-Some.token c.in-Some.behind.now next in
    let short = past-shorter is_blank c.in-Some.behind.now in
    rw c.first_run-in-loop-rest.ensures.past (omega (arith, shorter, short))

pub loop-rest-preserved : goal.loop-rest-preserved
loop-rest-preserved c =
    let rest = c.loop-rest.rest.now in
    let next : next_of rest ≡ Some (c.in-Some.token, c.in-Some.behind.now) = search rules in
    let pushed : c.push.new.self ≡ c.loop-rest.tokens ++ c.in-Some.token ∷ [] = search rules in
    rw (pushed, c.first_run-in-loop-rest.ensures.past) (IsScanning-step c.args.text.now c.loop-rest.tokens rest c.in-Some.token c.in-Some.behind.now c.loop-rest.invariant next)

pub returns : goal.returns
returns c = IsScanning-end c.args.text.now c.loop-rest.tokens c.loop-rest.rest.now c.loop-rest.invariant (nil_from_length c.loop-rest.rest.now (grind (arith, nat_tests)))
