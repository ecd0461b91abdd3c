-- What is told of scripted replies: everything (docs/guide-hosts.md, The functions of this crate).
use Rattle.std.specs.Prelude.{◌≡◌, ℕ, List, [], drop, false, Some}
use Rattle.yarn_base.specs.Calls.{is_to_fail}
use Rattle.yarn_value.specs.declared.value.Value.{Value}
use Rattle.yarn_host.specs.declared.scripted.Scripted.{Scripted}
use Rattle.yarn_host.specs.Meaning.{Meaning}

-- these replies are left, these arguments came; it accepts no arguments, so it may fail at any
abbrev pub script : List Value → List (List Value) → ℕ → ℕ → Meaning
script left came faults asked = record {
  left = Some left;
  came = Some came;
  faults = faults;
  asked = asked;
  accepts = λ args. false;
}

abbrev pub replies_left : Scripted → List Value
replies_left s = drop s.at s.replies

abbrev pub scripted : Scripted → Meaning
scripted s = script (replies_left s) s.came s.faults s.asked

-- the numbers of the calls that are to fail, from 1
abbrev pub failing_calls : Scripted → List ℕ
failing_calls s = s.failing
