-- More lines and options.
use Rattle.std.proofs.Common.{◌≡◌, List, [], ◌∷◌, ◌++◌, map, sym, ap, ◌∙◌, append_assoc}
use Rattle.std.proofs.lemmas.List.{map-append}
use Rattle.yarn_blocks.specs.declared.tree.LineText.{LineText}
use Rattle.yarn_tag.specs.declared.spoken.Spoken.{Spoken}
use Rattle.yarn_tag.specs.Tagged.{spoken_of}

-- some lines behind others
pub spoken-more : (said : List Spoken) (a b : List LineText) → said ++ map spoken_of (a ++ b) ≡ (said ++ map spoken_of a) ++ map spoken_of b
spoken-more said a b = ap (λ (l : List Spoken). said ++ l) (map-append spoken_of a b) ∙ sym (append_assoc said (map spoken_of a) (map spoken_of b))

-- a line before others
pub spoken-one-more : (said : List Spoken) (text : LineText) (b : List LineText) →
    said ++ map spoken_of (text ∷ b) ≡ (said ++ spoken_of text ∷ []) ++ map spoken_of b
spoken-one-more said text b = spoken-more said (text ∷ []) b
