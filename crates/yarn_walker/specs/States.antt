-- Runs without host functions: what expressions know there, and a state without replies.
use Rattle.std.specs.Prelude.{ℕ, List, []}
use Rattle.yarn_code.specs.Moments.{State}
use Rattle.yarn_value.specs.Pairs.{Pairs}
use Rattle.yarn_value.specs.Evaluation.{Scope}

-- no host functions
abbrev pub no_hosts : Scope
no_hosts = record { functions = [] }

-- the store, and the bytes of the input that are left
abbrev pub at : Pairs → List ℕ → State
at store answers = record { store = store; answers = answers; tape = [] }
