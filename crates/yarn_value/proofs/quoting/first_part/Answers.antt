use Rattle.std.proofs.Common.{◌≡◌, ◌++◌, subst, sym, ap, ◌∙◌, arith, None, inl, inr}
use Rattle.std.proofs.lemmas.Str.{encode_ascii}
use Rattle.yarn_value.specs.Quoting.{IsBody, letter}
use Rattle.yarn_value.proofs.QuotingLemmas.{no_body-raw, escape-plain, is_plain}
use Rattle.yarn_value.proofs.quoting.first_part.Goals as goal

pub returns-in-10 : goal.returns-in-10
returns-in-10 c = λ body. no_body-raw c.in-Some.first c.in-Some.rest.now (inl c.in-10.is) (subst IsBody (c.in-Some.ensures.bytes ∙ ap (λ l. l ++ c.in-Some.rest.now) (encode_ascii c.in-Some.first (omega arith))) body)

pub returns-in-13 : goal.returns-in-13
returns-in-13 c = λ body. no_body-raw c.in-Some.first c.in-Some.rest.now (inr c.in-13.is) (subst IsBody (c.in-Some.ensures.bytes ∙ ap (λ l. l ++ c.in-Some.rest.now) (encode_ascii c.in-Some.first (omega arith))) body)

pub returns-in_default : goal.returns-in_default
returns-in_default c =
    let plain : letter c.in-Some.first ≡ None = is_plain c.in-Some.first (λ e. omega arith) (λ e. omega arith) (λ e. omega arith) (λ e. omega arith) in
    record {
      bytes = c.in-Some.ensures.bytes ∙ ap (λ l. l ++ c.in-Some.rest.now) (sym (escape-plain c.in-Some.first plain));
      utf8 = c.in-Some.ensures.utf8;
      shorter = c.in-Some.ensures.shorter;
    }
