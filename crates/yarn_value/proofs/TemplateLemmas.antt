-- Expanding part by part.
use Rattle.std.proofs.Common.{◌≡◌, ℕ, suc, ◌+◌, ◌<◌, List, [], ◌∷◌, ◌++◌, map, length, drop, get_or, refl, sym, ap, ◌∙◌, append_assoc, drop-cons, add-one, slice_get}
use Rattle.yarn_value.specs.declared.value.Value.{Value}
use Rattle.yarn_value.specs.declared.template.Piece.{Piece}
use Rattle.yarn_value.specs.Templates.{Part, Byte, Hole, expanded, text_at}
use Rattle.yarn_value.specs.Pieces.{part_list, parts_of}

pub expanded-append : (a b : List Part) (values : List Value) → expanded (a ++ b) values ≡ expanded a values ++ expanded b values
expanded-append [] b values = refl
expanded-append (Byte x ∷ a) b values = ap (λ l. x ∷ l) (expanded-append a b values)
expanded-append (Hole k ∷ a) b values =
    ap (λ l. text_at (slice_get values k) ++ l) (expanded-append a b values)
    ∙ sym (append_assoc (text_at (slice_get values k)) (expanded a values) (expanded b values))

pub expanded-bytes : (bytes : List ℕ) (values : List Value) → expanded (map Byte bytes) values ≡ bytes
expanded-bytes [] values = refl
expanded-bytes (b ∷ bytes) values = ap (λ l. b ∷ l) (expanded-bytes bytes values)

pub ruleset expanding = (expanded-bytes)

pub expanded-step : (pieces : List Piece) (index : ℕ) (piece : Piece) (values : List Value) (out new whole : List ℕ) → index < length pieces → piece ≡ get_or pieces index piece →
    out ++ expanded (parts_of (drop index pieces)) values ≡ whole → new ≡ out ++ expanded (part_list piece) values → new ++ expanded (parts_of (drop (index + 1) pieces)) values ≡ whole
expanded-step pieces index piece values out new whole inside is so_far grown =
    let cut : drop index pieces ≡ piece ∷ drop (index + 1) pieces = rw (add-one index) (drop-cons pieces index piece inside ∙ ap (λ p. p ∷ drop (suc index) pieces) (sym is)) in
    ap (λ l. l ++ expanded (parts_of (drop (index + 1) pieces)) values) grown
    ∙ append_assoc out (expanded (part_list piece) values) (expanded (parts_of (drop (index + 1) pieces)) values)
    ∙ ap (λ l. out ++ l) (sym (expanded-append (part_list piece) (parts_of (drop (index + 1) pieces)) values) ∙ ap (λ l. expanded (parts_of l) values) (sym cut)) ∙ so_far
