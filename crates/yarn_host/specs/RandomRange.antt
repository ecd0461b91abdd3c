-- What is told of a number of a range, and which is picked (docs/guide-hosts.md, The functions of this crate).
use Rattle.std.specs.Prelude.{◌%◌, ℤ, pos, ◌+ℤ◌, int_le, List, [], ◌∷◌, Bool, false, Option, Some, None, if◌then◌else◌}
use Rattle.rand_pcg.specs.Lcg.{Lcg}
use Rattle.rand_pcg.specs.Pcg.{pcg64}
use Rattle.yarn_value.specs.declared.value.Value.{Value}
use Rattle.yarn_value.specs.declared.value.Value.TheVariants.{Number, Str, Truth}
use Rattle.yarn_host.specs.declared.range.RandomRange.{RandomRange}
use Rattle.yarn_host.specs.Ranges.{width_of}
use Rattle.yarn_host.specs.Meaning.{Meaning, untold}

-- the number that is picked from a to b, and the generator after it
abbrev pub picked : ℤ → ℤ → Lcg → Option ℤ × Lcg
picked a b g =
    if int_le a b then (Some (a +ℤ pos ((pcg64 g).0 % width_of a b)), (pcg64 g).1)
    else (None, g)

abbrev pub range_generator : RandomRange → Lcg
range_generator r = r.generator

-- two numbers of which the first isn't above the second
abbrev pub is_range : List Value → Bool
is_range [] = false
is_range (v ∷ []) = false
is_range (Number a ∷ Number b ∷ []) = int_le a b
is_range (Number a ∷ Str t ∷ []) = false
is_range (Number a ∷ Truth b ∷ []) = false
is_range (Str t ∷ v ∷ []) = false
is_range (Truth b ∷ v ∷ []) = false
is_range (u ∷ v ∷ w ∷ vs) = false

abbrev pub random_range : RandomRange → Meaning
random_range r = untold is_range r.faults r.asked
