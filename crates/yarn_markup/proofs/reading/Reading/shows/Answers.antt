use Rattle.std.proofs.Common.{◌≡◌, List, ℕ, ◌++◌, ◌+◌, length, ap, ◌∙◌, arith, rules}
use Rattle.std.proofs.lemmas.Grind.{common_steps}
use Rattle.std.specs.Str.{chars}
use Rattle.yarn_markup.specs.Slots.{kept}
use Rattle.yarn_markup.proofs.SlotLemmas.{given_taken}
use Rattle.yarn_markup.proofs.reading.Reading.shows.Goals as goal

pub returns-clause-taken : goal.returns-clause-taken
returns-clause-taken c = λ at.
    let count : c.in_ok-self.field-0 ≡ c.args.self.now.count + length (chars c.args.text.now) = first_of (search rules, grind (arith, common_steps)) in
    given_taken (kept c.args.self.now) c.args.text.now at _ _ (c.in_ok-push_str.ensures.ok ∙ ap (λ (l : List ℕ). c.args.self.now.plain ++ l) c.as_str-2.ensures.value) count
