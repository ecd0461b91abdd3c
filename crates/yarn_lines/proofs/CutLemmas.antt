-- A part of a part of some bytes.
use Rattle.std.proofs.Common.{◌≡◌, ℕ, ◌+◌, ◌-◌, ◌≤◌, List, take, drop, ap, ◌∙◌, arith}
use Rattle.std.proofs.lemmas.List.{take-take, drop-take, drop-drop}
use Rattle.yarn_base.specs.Part.{cut}

cut-take : (xs : List ℕ) (front len n : ℕ) → front + len ≤ n → take len (drop front (take n xs)) ≡ take len (drop front xs)
cut-take xs front len n le =
    let more : n ≡ front + (n - front) = omega arith in
    ap (λ m. take len (drop front (take m xs))) more ∙ ap (take len) (drop-take front (n - front) xs) ∙ take-take len (n - front) (drop front xs) (omega arith)

pub cut-in_cut : (whole piece text : List ℕ) (from n front len : ℕ) → piece ≡ cut from n whole → text ≡ take len (drop front piece) →
    front + len ≤ n → text ≡ cut (from + front) len whole
cut-in_cut whole piece text from n front len piece_is text_is le =
    text_is ∙ ap (λ l. take len (drop front l)) piece_is ∙ cut-take (drop from whole) front len n le ∙ ap (take len) (drop-drop front from whole)
