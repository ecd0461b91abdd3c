-- The first place of two.
use Rattle.std.specs.Prelude.{Option, Some, None}

abbrev pub or_later : {A : Type 0} → Option A → Option A → Option A
or_later None later = later
or_later (Some first) later = Some first
