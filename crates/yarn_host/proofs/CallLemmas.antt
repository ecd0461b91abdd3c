-- A call of one of several functions.
use Rattle.std.proofs.Common.{ℕ, ◌<◌, List, length, map, get_or, option_map, Result, ap, ◌∙◌, slice_set}
use Rattle.std.proofs.lemmas.List.{map-set}
use Rattle.std.proofs.lemmas.Option.{slice_get-map, slice_get-get_or}
use Rattle.yarn_value.specs.declared.value.Value.{Value}
use Rattle.yarn_host.specs.declared.function.HostFault.{HostFault}
use Rattle.yarn_host.specs.Meaning.{Meaning}
use Rattle.yarn_host.specs.Calls.{Called, CalledAt}

pub called_at : {B : Type 0} (m : B → Meaning) (functions : List B) (at : ℕ) (args : List Value) (result : Result Value HostFault) (other after : B) →
    at < length functions → Called (m (get_or functions at other)) (m after) args result →
    CalledAt (map m functions) (map m (slice_set functions at after)) at args result
called_at m functions at args result other after within called = record {
  before = m (get_or functions at other);
  after = m after;
  was = slice_get-map m functions at ∙ ap (option_map m) (slice_get-get_or functions at other within);
  now = map-set m functions at after;
  called = called;
}
