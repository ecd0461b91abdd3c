-- The text that is found at the front of a line has its pieces, and pieces up to an end are found.
use Rattle.std.proofs.Common.{◌≡◌, ℕ, zero, suc, ◌+◌, ◌<◌, List, [], ◌∷◌, ◌++◌, length, Bool, true, false, nat_eq, Option, Some, None, inl, inr, codes, refl, sym, ap, subst, ◌∙◌, arith, append_assoc}
use Rattle.std.proofs.lemmas.Bool.{eqb-true, and_parts}
use Rattle.yarn_lines.specs.Lines.{is_blank, begins_with, leading, past_leading}
use Rattle.yarn_items.specs.declared.brace.Place.TheVariants.{Outside}
use Rattle.yarn_items.specs.declared.first.Kind.TheVariants.{Line}
use Rattle.yarn_items.specs.Brace.{ToBrace, Cut, to_brace}
use Rattle.yarn_items.specs.Text.{Piece, Char, Pair, Hole, Pieces, no_piece, pair, hole, char, is_escaped, begins_pair, begins_other, kept_from, pair_text, hole_text, trimmed, table_text}
use Rattle.yarn_items.specs.Scan.{Front, Begins, Ends, Broken, hole_front, pair_front, front_of, Scan, with_piece, scan}
use Rattle.yarn_items.specs.Holes.{Held, held_in}
use Rattle.yarn_items.specs.TextForm.{Stops, TextFound, text_with, text_of, text_found, HasPieces, TextsArePieces, PiecesAreTexts}
use Rattle.yarn_items.proofs.Utf8Lemmas.{begins-first}
use Rattle.yarn_items.proofs.BraceLemmas.{brace-only, brace-found}
use Rattle.yarn_items.proofs.ScanLemmas.{front-shorter, scan-begins, scan-ends, scan-breaks}
use Rattle.yarn_items.proofs.HoleLemmas.{held-only, held-found, characters, held-characters}
use Rattle.yarn_items.proofs.TrailingLemmas.{blank-unlike, leading-blanks, trimmed-more}

-- What is found has its pieces.

-- a piece at the front of others
abbrev Adds : List ℕ → Piece → List ℕ → Type 0
Adds bytes p more = (pieces : List Piece) (rest : List ℕ) → Pieces more pieces rest → Pieces bytes (p ∷ pieces) rest

add-pair : (b : ℕ) (bytes more : List ℕ) (p : Piece) → begins_pair (b ∷ bytes) ≡ true → pair_front bytes ≡ Begins p more → Adds (b ∷ bytes) p more
add-pair b [] more p is told = absurd cc
add-pair b (c ∷ bytes) more p is told = λ pieces rest read.
    let both = and_parts (nat_eq b 92) (is_escaped c) is in
    let same : bytes ≡ more = cc in
    let own : Pair c ≡ p = cc in
    let made : Pieces (92 ∷ c ∷ bytes) (Pair c ∷ pieces) rest = pair both.1 (subst (λ l. Pieces l pieces rest) (sym same) read) in
    subst (λ q. Pieces (b ∷ c ∷ bytes) (q ∷ pieces) rest) own (subst (λ x. Pieces (x ∷ c ∷ bytes) (Pair c ∷ pieces) rest) (sym (eqb-true b 92 both.0)) made)

add-hole : (b : ℕ) (bytes more : List ℕ) (p : Piece) → nat_eq b 123 ≡ true → hole_front (to_brace Outside bytes) ≡ Begins p more → Adds (b ∷ bytes) p more
add-hole b bytes more p is told = of (to_brace Outside bytes) refl told
  where
    of : (o : Option Cut) → to_brace Outside bytes ≡ o → hole_front o ≡ Begins p more → Adds (b ∷ bytes) p more
    of None found told = absurd cc
    of (Some cut) found told = λ pieces rest read.
        let same : cut.rest ≡ more = cc in
        let own : Hole cut.inside ≡ p = cc in
        let made : Pieces (123 ∷ bytes) (Hole cut.inside ∷ pieces) rest = hole (brace-only Outside bytes cut found) (subst (λ l. Pieces l pieces rest) (sym same) read) in
        subst (λ q. Pieces (b ∷ bytes) (q ∷ pieces) rest) own (subst (λ x. Pieces (x ∷ bytes) (Hole cut.inside ∷ pieces) rest) (sym (eqb-true b 123 is)) made)

add-char : (b : ℕ) (bytes more : List ℕ) (p : Piece) → begins_pair (b ∷ bytes) ≡ false → begins_other (b ∷ bytes) ≡ false →
    Begins (Char b) bytes ≡ Begins p more → Adds (b ∷ bytes) p more
add-char b bytes more p no_pair no_other told = λ pieces rest read.
    let same : bytes ≡ more = cc in
    let own : Char b ≡ p = cc in
    subst (λ q. Pieces (b ∷ bytes) (q ∷ pieces) rest) own (char no_pair no_other (subst (λ l. Pieces l pieces rest) (sym same) read))

front-adds : (bytes more : List ℕ) (p : Piece) → front_of Line bytes ≡ Begins p more → Adds bytes p more
front-adds [] more p is = absurd cc
front-adds (b ∷ bytes) more p is = of (begins_pair (b ∷ bytes)) (nat_eq b 123) (begins_other (b ∷ bytes)) refl refl refl
  where
    of : (t h o : Bool) → begins_pair (b ∷ bytes) ≡ t → nat_eq b 123 ≡ h → begins_other (b ∷ bytes) ≡ o → Adds (b ∷ bytes) p more
    of true h o i j k = add-pair b bytes more p i (rw i at is)
    of false true o i j k = add-hole b bytes more p j (rw (i, j) at is)
    of false false true i j k = let told = rw (i, k, j) at is in absurd cc
    of false false false i j k = add-char b bytes more p i k (rw (i, k, j) at is)

no-brace : (b : ℕ) (bytes : List ℕ) → nat_eq b 123 ≡ false → begins_other (b ∷ bytes) ≡ true → Stops (b ∷ bytes)
no-brace b bytes other is = of (begins_with (codes "#") (b ∷ bytes)) (begins_with (codes "//") (b ∷ bytes)) (begins_with (codes "<<") (b ∷ bytes)) refl refl refl
  where
    of : (k l m : Bool) → begins_with (codes "#") (b ∷ bytes) ≡ k → begins_with (codes "//") (b ∷ bytes) ≡ l → begins_with (codes "<<") (b ∷ bytes) ≡ m →
        Stops (b ∷ bytes)
    of true l m i j k = inr (inl i)
    of false true m i j k = inr (inr (inl j))
    of false false true i j k = inr (inr (inr k))
    of false false false i j k = let h = rw (i, j, k, other) at is in absurd cc

front-stops : (bytes : List ℕ) → front_of Line bytes ≡ Ends → Stops bytes
front-stops [] is = inl refl
front-stops (b ∷ bytes) is = of (begins_pair (b ∷ bytes)) (nat_eq b 123) (begins_other (b ∷ bytes)) refl refl refl
  where
    no_pair : (bytes : List ℕ) → pair_front bytes ≡ Ends → ⊥
    no_pair [] is = cc
    no_pair (c ∷ bytes) is = cc

    no_hole : (o : Option Cut) → hole_front o ≡ Ends → ⊥
    no_hole None is = cc
    no_hole (Some cut) is = cc

    of : (t h o : Bool) → begins_pair (b ∷ bytes) ≡ t → nat_eq b 123 ≡ h → begins_other (b ∷ bytes) ≡ o → Stops (b ∷ bytes)
    of true h o i j k = absurd (no_pair bytes (rw i at is))
    of false true o i j k = absurd (no_hole (to_brace Outside bytes) (rw (i, j) at is))
    of false false true i j k = no-brace b bytes j k
    of false false false i j k = let told = rw (i, k, j) at is in absurd cc

record IsScan (bytes : List ℕ) (s : Scan) : Type 0 where
  pub read : Pieces bytes s.pieces s.rest
  pub stops : Stops s.rest

scan-one : (bytes more : List ℕ) (p : Piece) (s : Scan) → Adds bytes p more → (o : Option Scan) →
    ((later : Scan) → o ≡ Some later → IsScan more later) → with_piece p o ≡ Some s → IsScan bytes s
scan-one bytes more p s adds None later told = absurd cc
scan-one bytes more p s adds (Some behind) later told =
    let same : ◌≡◌ {A = Scan} (record { pieces = p ∷ behind.pieces; rest = behind.rest }) s = cc in
    let is = later behind refl in
    subst (IsScan bytes) same (record { read = adds behind.pieces behind.rest is.read; stops = is.stops })

scan-only : (n : ℕ) (bytes : List ℕ) (s : Scan) → length bytes < n → scan Line bytes ≡ Some s → IsScan bytes s
scan-only zero bytes s h found = absurd (omega (arith, h))
scan-only (suc n) bytes s h found = of (scan-only n) (front_of Line bytes) refl
  where
    of : ((more : List ℕ) (later : Scan) → length more < n → scan Line more ≡ Some later → IsScan more later) →
        (f : Front) → front_of Line bytes ≡ f → IsScan bytes s
    of behind (Begins p more) is =
        let less : length more < n = omega (arith, h, front-shorter Line bytes p more is) in
        scan-one bytes more p s (front-adds bytes more p is) (scan Line more) (λ later. behind more later less) (sym (scan-begins Line bytes more p is) ∙ found)
    of behind Ends is =
        let told = sym (scan-ends Line bytes is) ∙ found in
        let same : ◌≡◌ {A = Scan} (record { pieces = []; rest = bytes }) s = cc in
        subst (IsScan bytes) same (record { read = no_piece; stops = front-stops bytes is })
    of behind Broken is = let told = sym (scan-breaks Line bytes is) ∙ found in absurd cc

pub texts-are-pieces : TextsArePieces
unfolding text_found
texts-are-pieces bytes t found = of (scan Line bytes) refl found
  where
    with_held : (s : Scan) → scan Line bytes ≡ Some s → (o : Option Held) → held_in s.pieces ≡ o → text_with s o ≡ Some t → HasPieces bytes t
    with_held s is None held told = absurd cc
    with_held s is (Some h) held told =
        let read = scan-only (length bytes + 1) bytes s (omega arith) is in
        let own : ◌≡◌ {A = TextFound} (record { text = table_text s.pieces; holes = h.holes; tokens = h.tokens; rest = s.rest }) t = cc in
        let made : HasPieces bytes (record { text = table_text s.pieces; holes = h.holes; tokens = h.tokens; rest = s.rest }) =
        record { pieces = s.pieces; read = read.read; own = refl; held = held-only s.pieces h held; stops = read.stops } in
        subst (HasPieces bytes) own made

    of : (o : Option Scan) → scan Line bytes ≡ o → text_of o ≡ Some t → HasPieces bytes t
    of None is told = absurd cc
    of (Some s) is told = with_held s is (held_in s.pieces) refl told

-- Pieces are found.

pub front-pair : (c : ℕ) (bytes : List ℕ) → is_escaped c ≡ true → front_of Line (92 ∷ c ∷ bytes) ≡ Begins (Pair c) bytes
front-pair c bytes is = rw is refl

pub brace-no_pair : (bytes : List ℕ) → begins_pair (123 ∷ bytes) ≡ false
brace-no_pair [] = refl
brace-no_pair (c ∷ bytes) = refl

front-hole : (bytes inside more : List ℕ) → ToBrace false bytes inside more → front_of Line (123 ∷ bytes) ≡ Begins (Hole inside) more
front-hole bytes inside more is = rw (brace-no_pair bytes) (ap hole_front (brace-found is))

other-no_brace : (c : ℕ) (bytes : List ℕ) → begins_other (c ∷ bytes) ≡ false → nat_eq c 123 ≡ false
other-no_brace c bytes is = of (nat_eq c 123) refl
  where
    of : (t : Bool) → nat_eq c 123 ≡ t → nat_eq c 123 ≡ false
    of true t = let h = rw t at is in absurd cc
    of false t = t

pub front-char : (c : ℕ) (bytes : List ℕ) → begins_pair (c ∷ bytes) ≡ false → begins_other (c ∷ bytes) ≡ false → front_of Line (c ∷ bytes) ≡ Begins (Char c) bytes
front-char c bytes no_pair no_other = rw (no_pair, no_other, other-no_brace c bytes no_other) refl

-- a text ends before a hashtag, a comment or a condition
ends-at : (k b : ℕ) (bytes front : List ℕ) → ((more : List ℕ) → begins_with (k ∷ front) (k ∷ more) ≡ true → front_of Line (k ∷ more) ≡ Ends) →
    begins_with (k ∷ front) (b ∷ bytes) ≡ true → front_of Line (b ∷ bytes) ≡ Ends
ends-at k b bytes front ends is =
    let same : b ≡ k = begins-first k b front bytes is in
    subst (λ x. front_of Line (x ∷ bytes) ≡ Ends) (sym same) (ends bytes (subst (λ x. begins_with (k ∷ front) (x ∷ bytes) ≡ true) same is))

ends-hash : (more : List ℕ) → begins_with (codes "#") (35 ∷ more) ≡ true → front_of Line (35 ∷ more) ≡ Ends
ends-hash [] is = refl
ends-hash (c ∷ more) is = refl

ends-comment : (more : List ℕ) → begins_with (codes "//") (47 ∷ more) ≡ true → front_of Line (47 ∷ more) ≡ Ends
ends-comment [] is = absurd cc
ends-comment (c ∷ more) is = rw is refl

ends-condition : (more : List ℕ) → begins_with (codes "<<") (60 ∷ more) ≡ true → front_of Line (60 ∷ more) ≡ Ends
ends-condition [] is = absurd cc
ends-condition (c ∷ more) is = rw is refl

pub stops-front : (bytes : List ℕ) → Stops bytes → front_of Line bytes ≡ Ends
stops-front bytes (inl none) = ap (front_of Line) none
stops-front [] (inr is) = refl
stops-front (b ∷ bytes) (inr (inl is)) = ends-at 35 b bytes [] ends-hash is
stops-front (b ∷ bytes) (inr (inr (inl is))) = ends-at 47 b bytes (codes "/") ends-comment is
stops-front (b ∷ bytes) (inr (inr (inr is))) = ends-at 60 b bytes (codes "<") ends-condition is

scan-more : (bytes more rest : List ℕ) (p : Piece) (pieces : List Piece) → front_of Line bytes ≡ Begins p more →
    scan Line more ≡ Some (record { pieces = pieces; rest = rest }) → scan Line bytes ≡ Some (record { pieces = p ∷ pieces; rest = rest })
scan-more bytes more rest p pieces front later = scan-begins Line bytes more p front ∙ ap (with_piece p) later

blank-no_pair : (b : ℕ) (bytes : List ℕ) → is_blank b ≡ true → begins_pair (b ∷ bytes) ≡ false
blank-no_pair b [] is = refl
blank-no_pair b (c ∷ bytes) is = rw (blank-unlike 92 b refl refl is) refl

blank-no_other : (b : ℕ) (bytes : List ℕ) → is_blank b ≡ true → begins_other (b ∷ bytes) ≡ false
blank-no_other b bytes is = rw (blank-unlike 123 b refl refl is, blank-unlike 35 b refl refl is, blank-unlike 47 b refl refl is, blank-unlike 60 b refl refl is) refl

scan-blanks : (bytes : List ℕ) → Stops (past_leading bytes) → scan Line bytes ≡ Some (record { pieces = characters (leading bytes); rest = past_leading bytes })
scan-blanks [] stops = scan-ends Line [] refl
scan-blanks (b ∷ bytes) stops = of (scan-blanks bytes) (is_blank b) refl
  where
    of : (Stops (past_leading bytes) → scan Line bytes ≡ Some (record { pieces = characters (leading bytes); rest = past_leading bytes })) →
        (t : Bool) → is_blank b ≡ t →
        scan Line (b ∷ bytes) ≡ Some (record { pieces = characters (leading (b ∷ bytes)); rest = past_leading (b ∷ bytes) })
    of later true t =
        let ends : Stops (past_leading bytes) = rw t at stops in
        rw t (scan-more (b ∷ bytes) bytes (past_leading bytes) (Char b) (characters (leading bytes)) (front-char b bytes (blank-no_pair b bytes t) (blank-no_other b bytes t)) (later ends))
    of later false t = let ends : Stops (b ∷ bytes) = rw t at stops in rw t (scan-ends Line (b ∷ bytes) (stops-front (b ∷ bytes) ends))

scan-found : {bytes rest : List ℕ} {pieces : List Piece} → Pieces bytes pieces rest → Stops (past_leading rest) →
    scan Line bytes ≡ Some (record { pieces = pieces ++ characters (leading rest); rest = past_leading rest })
scan-found (no_piece {rest = rest}) stops = scan-blanks rest stops
scan-found (pair {c = c} {bytes = bytes} {rest = rest} {pieces = pieces} is read) stops =
    scan-more (92 ∷ c ∷ bytes) bytes (past_leading rest) (Pair c) (pieces ++ characters (leading rest)) (front-pair c bytes is) (scan-found read stops)
scan-found (hole {bytes = bytes} {inside = inside} {more = more} {rest = rest} {pieces = pieces} is read) stops =
    scan-more (123 ∷ bytes) more (past_leading rest) (Hole inside) (pieces ++ characters (leading rest)) (front-hole bytes inside more is) (scan-found read stops)
scan-found (char {c = c} {bytes = bytes} {rest = rest} {pieces = pieces} no_pair no_other read) stops =
    scan-more (c ∷ bytes) bytes (past_leading rest) (Char c) (pieces ++ characters (leading rest)) (front-char c bytes no_pair no_other) (scan-found read stops)

kept-characters : (bytes : List ℕ) (k : ℕ) → kept_from k (characters bytes) ≡ bytes
kept-characters [] k = refl
kept-characters (b ∷ bytes) k = ap (λ l. b ∷ l) (kept-characters bytes k)

kept-more : (pieces : List Piece) (bytes : List ℕ) (k : ℕ) → kept_from k (pieces ++ characters bytes) ≡ kept_from k pieces ++ bytes
kept-more [] bytes k = kept-characters bytes k
kept-more (Char c ∷ pieces) bytes k = ap (λ l. c ∷ l) (kept-more pieces bytes k)
kept-more (Pair c ∷ pieces) bytes k = ap (λ l. pair_text c ++ l) (kept-more pieces bytes k) ∙ sym (append_assoc (pair_text c) (kept_from k pieces) bytes)
kept-more (Hole inside ∷ pieces) bytes k =
    ap (λ l. hole_text k ++ l) (kept-more pieces bytes (k + 1)) ∙ sym (append_assoc (hole_text k) (kept_from (k + 1) pieces) bytes)

pub pieces-are-texts : PiecesAreTexts
unfolding text_found
pieces-are-texts bytes rest pieces tokens holes read held stops =
    let all = pieces ++ characters (leading rest) in
    let own : table_text all ≡ table_text pieces = ap trimmed (kept-more pieces (leading rest) 0) ∙ trimmed-more (kept_from 0 pieces) (leading rest) (leading-blanks rest) in
    let found : held_in all ≡ Some (record { tokens = tokens; holes = holes }) = held-characters pieces (leading rest) ∙ held-found held in
    ap text_of (scan-found read stops) ∙ ap (text_with (record { pieces = all; rest = past_leading rest })) found
    ∙ ap (λ (l : List ℕ). Some (record { text = l; holes = holes; tokens = tokens; rest = past_leading rest })) own
