-- The options as the walk offers them.
use Rattle.std.specs.Prelude.{ℕ, suc, List, [], ◌∷◌, ◌++◌}
use Rattle.yarn_meaning.specs.Filled.{filled}
use Rattle.yarn_walker.specs.declared.offer.Offer.{Offer}
use Rattle.yarn_player.specs.Transcript.{option_text}

abbrev pub offers_text : ℕ → List Offer → List ℕ
offers_text n [] = []
offers_text n (o ∷ os) = option_text n o.available (filled o.text.now.text o.values) ++ offers_text (suc n) os
