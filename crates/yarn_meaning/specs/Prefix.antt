-- Fewer events are the front of more.
use Rattle.std.specs.Prelude.{◌≡◌, ℕ, ◌+◌, List, ◌++◌}
use Rattle.yarn_value.specs.declared.signature.Signature.{Signature}
use Rattle.yarn_tree.specs.Trees.{FileTree}
use Rattle.yarn_code.specs.Moments.{State, Moment, Outcome}
use Rattle.yarn_meaning.specs.First.{first_of}

-- the moments of the one are the first of the other's
pub record IsPrefix (fewer more : Outcome) : Type 0 where
  pub rest : List Moment
  pub joins : fewer.moments ++ rest ≡ more.moments

-- the first k events are the front of the first k + 1
abbrev pub Grows : Type 0
Grows = (functions : List Signature) (files : List FileTree) (start : List ℕ) (st : State) (k : ℕ) →
    IsPrefix (first_of functions files start st k) (first_of functions files start st (k + 1))
