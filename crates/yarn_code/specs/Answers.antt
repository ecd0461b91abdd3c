-- What an answer of the player chooses (docs/language.md, The meaning).
use Rattle.std.specs.Prelude.{ℕ, zero, suc, List, [], ◌∷◌, Bool, true, false, if◌then◌else◌, Option, Some, None}
use Rattle.yarn_code.specs.declared.event.Choice.{Choice}
use Rattle.yarn_code.specs.Answer.{Answered}

-- the answer is the number of an option, from 0, that can be chosen
abbrev pub is_open : ℕ → List Choice → Bool
is_open n [] = false
is_open zero (c ∷ cs) = c.available
is_open (suc n) (c ∷ cs) = is_open n cs

-- the same of an answer from 1
abbrev pub chooses : ℕ → List Choice → Bool
chooses zero cs = false
chooses (suc n) cs = is_open n cs

abbrev pub any_open : List Choice → Bool
any_open [] = false
any_open (c ∷ cs) = if c.available then true else any_open cs

abbrev pub less_one : ℕ → ℕ
less_one zero = 0
less_one (suc n) = n

abbrev pub at_answer : {R : Type 0} → Option Answered → R → (ℕ → List ℕ → R) → R
at_answer None none some = none
at_answer (Some a) none some = some a.number a.rest
