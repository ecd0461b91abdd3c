-- What is told of a die, and what it rolls (docs/guide-hosts.md, The functions of this crate).
use Rattle.std.specs.Prelude.{zero, suc, ◌+◌, ◌%◌, ℤ, pos, negsuc, List, [], ◌∷◌, Bool, true, false, Option, Some, None}
use Rattle.rand_pcg.specs.Lcg.{Lcg}
use Rattle.rand_pcg.specs.Pcg.{pcg64}
use Rattle.yarn_value.specs.declared.value.Value.{Value}
use Rattle.yarn_value.specs.declared.value.Value.TheVariants.{Number, Str, Truth}
use Rattle.yarn_host.specs.declared.dice.Dice.{Dice}
use Rattle.yarn_host.specs.Meaning.{Meaning, untold}

-- the number that a die of n sides shows, and the generator after it
abbrev pub rolled : ℤ → Lcg → Option ℤ × Lcg
rolled (negsuc k) g = (None, g)
rolled (pos zero) g = (None, g)
rolled (pos (suc k)) g = (Some (pos (1 + (pcg64 g).0 % suc k)), (pcg64 g).1)

abbrev pub generator_of : Dice → Lcg
generator_of d = d.generator

-- one number of at least 1
abbrev pub is_number_of_sides : List Value → Bool
is_number_of_sides [] = false
is_number_of_sides (Number (negsuc k) ∷ []) = false
is_number_of_sides (Number (pos zero) ∷ []) = false
is_number_of_sides (Number (pos (suc k)) ∷ []) = true
is_number_of_sides (Str t ∷ []) = false
is_number_of_sides (Truth b ∷ []) = false
is_number_of_sides (v ∷ w ∷ vs) = false

abbrev pub die : Dice → Meaning
die d = untold is_number_of_sides d.faults d.asked
