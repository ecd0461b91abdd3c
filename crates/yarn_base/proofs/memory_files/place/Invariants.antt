-- The name stands nowhere among the files that were looked at.
use Rattle.std.proofs.Common.{◌≡◌, ◌+◌, drop, option_map}
use Rattle.yarn_base.specs.StoredFiles.{place_of}
use Rattle.yarn_base.proofs.memory_files.place.Given as goal

abbrev pub invariant-loop-at : goal.invariant-loop-at
invariant-loop-at l = place_of l.files l.name ≡ option_map (λ k. l.at + k) (place_of (drop l.at l.files) l.name)
