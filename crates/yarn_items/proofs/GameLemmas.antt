-- The text that is found of a command for the game has its pieces, and its pieces are found.
use Rattle.std.proofs.Common.{◌≡◌, ℕ, zero, suc, ◌+◌, ◌<◌, List, [], ◌∷◌, length, Bool, true, false, nat_eq, Option, Some, None, refl, sym, ap, subst, ◌∙◌, arith}
use Rattle.std.proofs.lemmas.Bool.{eqb-true}
use Rattle.yarn_items.specs.declared.brace.Place.TheVariants.{Outside}
use Rattle.yarn_items.specs.declared.first.Kind.TheVariants.{Game}
use Rattle.yarn_items.specs.Brace.{Cut, to_brace}
use Rattle.yarn_items.specs.Text.{Piece, Char, Pair, Hole}
use Rattle.yarn_items.specs.Game.{GamePieces, no_piece, last, pair, hole, char, is_char, game_text}
use Rattle.yarn_items.specs.Scan.{Front, Begins, Ends, Broken, hole_front, pair_front, front_of, Scan, with_piece, scan}
use Rattle.yarn_items.specs.Holes.{Held, held_in}
use Rattle.yarn_items.specs.TextForm.{GameFound, game_with, game_of, game_found, HasGamePieces, GameTextsArePieces, PiecesAreGameTexts}
use Rattle.yarn_items.proofs.BraceLemmas.{brace-only, brace-found}
use Rattle.yarn_items.proofs.ScanLemmas.{front-shorter, scan-begins, scan-ends, scan-breaks}
use Rattle.yarn_items.proofs.HoleLemmas.{held-only, held-found}

-- What is found has its pieces.

-- a piece at the front of others
abbrev Adds : List ℕ → Piece → List ℕ → Type 0
Adds bytes p more = (pieces : List Piece) → GamePieces more pieces → GamePieces bytes (p ∷ pieces)

last-piece : {pieces : List Piece} → GamePieces [] pieces → GamePieces (92 ∷ []) (Char 92 ∷ pieces)
last-piece no_piece = last

add-pair : (b : ℕ) (bytes more : List ℕ) (p : Piece) → nat_eq b 92 ≡ true → pair_front bytes ≡ Begins p more → Adds (b ∷ bytes) p more
add-pair b [] more p is told = λ pieces read.
    let same : [] ≡ more = cc in
    let own : Char 92 ≡ p = cc in
    let made = last-piece (subst (λ l. GamePieces l pieces) (sym same) read) in
    subst (λ q. GamePieces (b ∷ []) (q ∷ pieces)) own (subst (λ x. GamePieces (x ∷ []) (Char 92 ∷ pieces)) (sym (eqb-true b 92 is)) made)
add-pair b (c ∷ bytes) more p is told = λ pieces read.
    let same : bytes ≡ more = cc in
    let own : Pair c ≡ p = cc in
    let made : GamePieces (92 ∷ c ∷ bytes) (Pair c ∷ pieces) = pair (subst (λ l. GamePieces l pieces) (sym same) read) in
    subst (λ q. GamePieces (b ∷ c ∷ bytes) (q ∷ pieces)) own (subst (λ x. GamePieces (x ∷ c ∷ bytes) (Pair c ∷ pieces)) (sym (eqb-true b 92 is)) made)

add-hole : (b : ℕ) (bytes more : List ℕ) (p : Piece) → nat_eq b 123 ≡ true → hole_front (to_brace Outside bytes) ≡ Begins p more → Adds (b ∷ bytes) p more
add-hole b bytes more p is told = of (to_brace Outside bytes) refl told
  where
    of : (o : Option Cut) → to_brace Outside bytes ≡ o → hole_front o ≡ Begins p more → Adds (b ∷ bytes) p more
    of None found told = absurd cc
    of (Some cut) found told = λ pieces read.
        let same : cut.rest ≡ more = cc in
        let own : Hole cut.inside ≡ p = cc in
        let made : GamePieces (123 ∷ bytes) (Hole cut.inside ∷ pieces) = hole (brace-only Outside bytes cut found) (subst (λ l. GamePieces l pieces) (sym same) read) in
        subst (λ q. GamePieces (b ∷ bytes) (q ∷ pieces)) own (subst (λ x. GamePieces (x ∷ bytes) (Hole cut.inside ∷ pieces)) (sym (eqb-true b 123 is)) made)

add-char : (b : ℕ) (bytes more : List ℕ) (p : Piece) → is_char b ≡ true → Begins (Char b) bytes ≡ Begins p more → Adds (b ∷ bytes) p more
add-char b bytes more p is told = λ pieces read.
    let same : bytes ≡ more = cc in
    let own : Char b ≡ p = cc in
    subst (λ q. GamePieces (b ∷ bytes) (q ∷ pieces)) own (char is (subst (λ l. GamePieces l pieces) (sym same) read))

front-adds : (bytes more : List ℕ) (p : Piece) → front_of Game bytes ≡ Begins p more → Adds bytes p more
front-adds [] more p is = absurd cc
front-adds (b ∷ bytes) more p is = of (nat_eq b 92) (nat_eq b 123) refl refl
  where
    of : (t h : Bool) → nat_eq b 92 ≡ t → nat_eq b 123 ≡ h → Adds (b ∷ bytes) p more
    of true h i j = add-pair b bytes more p i (rw i at is)
    of false true i j = add-hole b bytes more p j (rw (i, j) at is)
    of false false i j = add-char b bytes more p (rw (i, j) refl) (rw (i, j) at is)

front-ends : (bytes : List ℕ) → front_of Game bytes ≡ Ends → bytes ≡ []
front-ends [] is = refl
front-ends (b ∷ bytes) is = of (nat_eq b 92) (nat_eq b 123) refl refl
  where
    no_pair : (bytes : List ℕ) → pair_front bytes ≡ Ends → ⊥
    no_pair [] is = cc
    no_pair (c ∷ bytes) is = cc

    no_hole : (o : Option Cut) → hole_front o ≡ Ends → ⊥
    no_hole None is = cc
    no_hole (Some cut) is = cc

    of : (t h : Bool) → nat_eq b 92 ≡ t → nat_eq b 123 ≡ h → b ∷ bytes ≡ []
    of true h i j = absurd (no_pair bytes (rw i at is))
    of false true i j = absurd (no_hole (to_brace Outside bytes) (rw (i, j) at is))
    of false false i j = let told = rw (i, j) at is in absurd cc

scan-one : (bytes more : List ℕ) (p : Piece) (s : Scan) → Adds bytes p more → (o : Option Scan) →
    ((later : Scan) → o ≡ Some later → GamePieces more later.pieces) → with_piece p o ≡ Some s → GamePieces bytes s.pieces
scan-one bytes more p s adds None later told = absurd cc
scan-one bytes more p s adds (Some behind) later told =
    let same : ◌≡◌ {A = Scan} (record { pieces = p ∷ behind.pieces; rest = behind.rest }) s = cc in
    subst (λ (x : Scan). GamePieces bytes x.pieces) same (adds behind.pieces (later behind refl))

scan-only : (n : ℕ) (bytes : List ℕ) (s : Scan) → length bytes < n → scan Game bytes ≡ Some s → GamePieces bytes s.pieces
scan-only zero bytes s h found = absurd (omega (arith, h))
scan-only (suc n) bytes s h found = of (scan-only n) (front_of Game bytes) refl
  where
    of : ((more : List ℕ) (later : Scan) → length more < n → scan Game more ≡ Some later → GamePieces more later.pieces) →
        (f : Front) → front_of Game bytes ≡ f → GamePieces bytes s.pieces
    of behind (Begins p more) is =
        let less : length more < n = omega (arith, h, front-shorter Game bytes p more is) in
        scan-one bytes more p s (front-adds bytes more p is) (scan Game more) (λ later. behind more later less) (sym (scan-begins Game bytes more p is) ∙ found)
    of behind Ends is =
        let told = sym (scan-ends Game bytes is) ∙ found in
        let same : ◌≡◌ {A = Scan} (record { pieces = []; rest = bytes }) s = cc in
        subst (λ (x : Scan). GamePieces bytes x.pieces) same (subst (λ l. GamePieces l []) (sym (front-ends bytes is)) no_piece)
    of behind Broken is = let told = sym (scan-breaks Game bytes is) ∙ found in absurd cc

pub game-texts-are-pieces : GameTextsArePieces
unfolding game_found
game-texts-are-pieces content t found = of (scan Game content) refl found
  where
    with_held : (s : Scan) → scan Game content ≡ Some s → (o : Option Held) → held_in s.pieces ≡ o → game_with s o ≡ Some t → HasGamePieces content t
    with_held s is None held told = absurd cc
    with_held s is (Some h) held told =
        let read = scan-only (length content + 1) content s (omega arith) is in
        let own : ◌≡◌ {A = GameFound} (record { text = game_text s.pieces; holes = h.holes; tokens = h.tokens }) t = cc in
        let made : HasGamePieces content (record { text = game_text s.pieces; holes = h.holes; tokens = h.tokens }) =
        record { pieces = s.pieces; read = read; own = refl; held = held-only s.pieces h held } in
        subst (HasGamePieces content) own made

    of : (o : Option Scan) → scan Game content ≡ o → game_of o ≡ Some t → HasGamePieces content t
    of None is told = absurd cc
    of (Some s) is told = with_held s is (held_in s.pieces) refl told

-- Pieces are found.

front-char : (c : ℕ) (bytes : List ℕ) → is_char c ≡ true → front_of Game (c ∷ bytes) ≡ Begins (Char c) bytes
front-char c bytes is = of (nat_eq c 92) (nat_eq c 123) refl refl
  where
    of : (t h : Bool) → nat_eq c 92 ≡ t → nat_eq c 123 ≡ h → front_of Game (c ∷ bytes) ≡ Begins (Char c) bytes
    of true h i j = let told = rw i at is in absurd cc
    of false true i j = let told = rw (i, j) at is in absurd cc
    of false false i j = rw (i, j) refl

scan-more : (bytes more : List ℕ) (p : Piece) (pieces : List Piece) → front_of Game bytes ≡ Begins p more →
    scan Game more ≡ Some (record { pieces = pieces; rest = [] }) → scan Game bytes ≡ Some (record { pieces = p ∷ pieces; rest = [] })
scan-more bytes more p pieces front later = scan-begins Game bytes more p front ∙ ap (with_piece p) later

scan-found : {bytes : List ℕ} {pieces : List Piece} → GamePieces bytes pieces → scan Game bytes ≡ Some (record { pieces = pieces; rest = [] })
scan-found no_piece = scan-ends Game [] refl
scan-found last = scan-more (92 ∷ []) [] (Char 92) [] refl (scan-ends Game [] refl)
scan-found (pair {c = c} {bytes = bytes} {pieces = pieces} read) = scan-more (92 ∷ c ∷ bytes) bytes (Pair c) pieces refl (scan-found read)
scan-found (hole {bytes = bytes} {inside = inside} {more = more} {pieces = pieces} is read) =
    scan-more (123 ∷ bytes) more (Hole inside) pieces (ap hole_front (brace-found is)) (scan-found read)
scan-found (char {c = c} {bytes = bytes} {pieces = pieces} is read) = scan-more (c ∷ bytes) bytes (Char c) pieces (front-char c bytes is) (scan-found read)

pub pieces-are-game-texts : PiecesAreGameTexts
unfolding game_found
pieces-are-game-texts content pieces tokens holes read held =
    ap game_of (scan-found read) ∙ ap (game_with (record { pieces = pieces; rest = [] })) (held-found held)
