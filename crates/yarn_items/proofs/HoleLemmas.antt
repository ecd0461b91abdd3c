-- The expressions of the substitutions of a text are found where they stand.
use Rattle.std.proofs.Common.{◌≡◌, ℕ, List, [], ◌∷◌, ◌++◌, Option, Some, None, chars, refl, ap, subst, ◌∙◌}
use Rattle.yarn_expr.specs.declared.token.Token.{Token}
use Rattle.yarn_expr.specs.declared.tree.Expr.{Expr}
use Rattle.yarn_commands.specs.declared.read.Part.{Part}
use Rattle.yarn_commands.specs.Reading.{expression}
use Rattle.yarn_commands.proofs.Sound.{expression-sound}
use Rattle.yarn_commands.proofs.Only.{expression-only}
use Rattle.yarn_items.specs.Text.{Piece, Char, Pair, Hole, AreHoles, no_more, past_char, past_pair, at_hole}
use Rattle.yarn_items.specs.Holes.{Held, with_part, held_in}

hole-only : (inside : List ℕ) (pieces : List Piece) (h : Held) (o : Option Part) → expression (chars inside) ≡ o →
    (l : Option Held) → ((later : Held) → l ≡ Some later → AreHoles pieces later.tokens later.holes) →
    with_part o l ≡ Some h → AreHoles (Hole inside ∷ pieces) h.tokens h.holes
hole-only inside pieces h None is l later told = absurd cc
hole-only inside pieces h (Some part) is None later told = absurd cc
hole-only inside pieces h (Some part) is (Some behind) later told =
    let same : ◌≡◌ {A = Held} (record { tokens = part.tokens ++ behind.tokens; holes = part.expr ∷ behind.holes }) h = cc in
    subst (λ (x : Held). AreHoles (Hole inside ∷ pieces) x.tokens x.holes) same (at_hole (expression-sound (chars inside) part is) (later behind refl))

pub held-only : (pieces : List Piece) (h : Held) → held_in pieces ≡ Some h → AreHoles pieces h.tokens h.holes
held-only [] h found =
    let same : ◌≡◌ {A = Held} (record { tokens = []; holes = [] }) h = cc in
    subst (λ (x : Held). AreHoles [] x.tokens x.holes) same no_more
held-only (Char c ∷ pieces) h found = past_char (held-only pieces h found)
held-only (Pair c ∷ pieces) h found = past_pair (held-only pieces h found)
held-only (Hole inside ∷ pieces) h found = hole-only inside pieces h (expression (chars inside)) refl (held_in pieces) (held-only pieces) found

pub held-found : {pieces : List Piece} {tokens : List Token} {holes : List Expr} → AreHoles pieces tokens holes →
    held_in pieces ≡ Some (record { tokens = tokens; holes = holes })
held-found no_more = refl
held-found (past_char later) = held-found later
held-found (past_pair later) = held-found later
held-found (at_hole {inside = inside} {pieces = pieces} {own = own} {e = e} is later) =
    ap (λ o. with_part o (held_in pieces)) (expression-only (chars inside) own e is) ∙ ap (with_part (Some (record { expr = e; tokens = own }))) (held-found later)

abbrev pub characters : List ℕ → List Piece
characters [] = []
characters (b ∷ bytes) = Char b ∷ characters bytes

-- characters hold no expression
pub held-characters : (pieces : List Piece) (bytes : List ℕ) → held_in (pieces ++ characters bytes) ≡ held_in pieces
held-characters [] [] = refl
held-characters [] (b ∷ bytes) = held-characters [] bytes
held-characters (Char c ∷ pieces) bytes = held-characters pieces bytes
held-characters (Pair c ∷ pieces) bytes = held-characters pieces bytes
held-characters (Hole inside ∷ pieces) bytes = ap (with_part (expression (chars inside))) (held-characters pieces bytes)
