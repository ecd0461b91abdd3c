-- The lines of a tagged file are the lines of the file, with an id where one is lacking.
use Rattle.std.proofs.Common.{◌≡◌, ℕ, ◌+◌, ◌≤◌, List, [], ◌∷◌, ◌++◌, length, drop, slice_range, Bool, true, false, cond, ◌&&◌, nat_eq, refl, sym, ap, ◌∙◌, subst, append_assoc, append-nil, arith, IsUtf8}
use Rattle.std.specs.List.{list_any, All}
use Rattle.std.proofs.lemmas.Bool.{true≢false, eqb-true, and_parts, and_left, and_right, or_parts, or_from}
use Rattle.std.proofs.lemmas.List.Elements.{All-nil, All-cons, All-head, All-tail}
use Rattle.yarn_lines.specs.declared.line.RawLine.{RawLine}
use Rattle.yarn_lines.specs.Lines.{begins_with, mark_length, onto, pieces_of, pieces_in, counts, text_of, with_line, lines_from, lines_of}
use Rattle.yarn_tree.specs.Scan.{end_of}
use Rattle.yarn_tag.specs.Tagged.{Becomes, tag_before}
use Rattle.yarn_tag.proofs.TagBytes.{place_in, piece_with, is_put, piece_again, pieces_again, end_behind, joined, AreAgain, becomes-again}
use Rattle.yarn_tag.proofs.TagCut.{is_lf, text_with, FineText, PieceWith, piece-with, with-free, with-utf8}

-- the text of a line that lacks an id may have one where it ends
abbrev pub AreFine : (ℕ → Bool) → ℕ → List (List ℕ) → Type 0
AreFine lacking k [] = Unit {0}
AreFine lacking k (piece ∷ pieces) = (is_put lacking k piece ≡ true → FineText (text_of piece)) × AreFine lacking (k + 1) pieces

abbrev pub text_again : (ℕ → Bool) → (ℕ → ℕ) → RawLine → List ℕ
text_again lacking numbers line = cond (lacking line.number) (text_with (numbers line.number) line.text) line.text

-- the same lines, with an id where one is lacking
pub data LinesPut (lacking : ℕ → Bool) (numbers : ℕ → ℕ) : List RawLine → List RawLine → Type 0 where
  no_line : LinesPut lacking numbers [] []
  and_line : {a b : RawLine} {before after : List RawLine} → b.number ≡ a.number → b.indent ≡ a.indent → b.text ≡ text_again lacking numbers a →
      LinesPut lacking numbers before after → LinesPut lacking numbers (a ∷ before) (b ∷ after)

is_put-parts : (lacking : ℕ → Bool) (k : ℕ) (piece : List ℕ) → is_put lacking k piece ≡ true → (counts (text_of piece) ≡ true) × (lacking k ≡ true)
is_put-parts lacking k piece is = and_parts (counts (text_of piece)) (lacking k) is

module _ (lacking : ℕ → Bool) (numbers : ℕ → ℕ) where
  -- a line that stays
  line-stays : (k at there : ℕ) (piece : List ℕ) (before after : List RawLine) → is_put lacking k piece ≡ false → LinesPut lacking numbers before after →
      LinesPut lacking numbers (with_line k at piece before) (with_line k there piece after)
  line-stays k at there piece before after off more = by_counts (counts (text_of piece)) refl
    where
      by_counts : (t : Bool) → counts (text_of piece) ≡ t → LinesPut lacking numbers (with_line k at piece before) (with_line k there piece after)
      by_counts true t =
          let none : lacking k ≡ false = ap (λ (c : Bool). c && lacking k) (sym t) ∙ off in
          rw t (and_line refl refl (ap (λ (b : Bool). cond b (text_with (numbers k) (text_of piece)) (text_of piece)) (sym none)) more)
      by_counts false t = rw t more

  -- a line that gets an id
  line-gets : (k at there : ℕ) (piece : List ℕ) (before after : List RawLine) → is_put lacking k piece ≡ true → PieceWith (numbers k) piece → LinesPut lacking numbers before after →
      LinesPut lacking numbers (with_line k at piece before) (with_line k there (piece_with (numbers k) piece) after)
  line-gets k at there piece before after on p more =
      let parts = is_put-parts lacking k piece on in
      let some = parts.0 in
      let again = p.counted in
      rw (some, again)
      (and_line refl p.indent (p.text ∙ ap (λ (b : Bool). cond b (text_with (numbers k) (text_of piece)) (text_of piece)) (sym parts.1)) more)

  pub lines-put : (k at there : ℕ) (pieces : List (List ℕ)) → AreFine lacking k pieces →
      LinesPut lacking numbers (lines_from k at pieces) (lines_from k there (pieces_again lacking numbers k pieces))
  lines-put k at there [] fine = no_line
  lines-put k at there (piece ∷ pieces) fine = by_put (is_put lacking k piece) refl (λ a b. lines-put (k + 1) a b pieces fine.1)
    where
      by_put : (t : Bool) → is_put lacking k piece ≡ t → ((a b : ℕ) → LinesPut lacking numbers (lines_from (k + 1) a pieces) (lines_from (k + 1) b (pieces_again lacking numbers (k + 1) pieces))) →
          LinesPut lacking numbers (lines_from k at (piece ∷ pieces)) (lines_from k there (piece_again lacking numbers k piece ∷ pieces_again lacking numbers (k + 1) pieces))
      by_put true t later =
          let p = piece-with (numbers k) piece (is_put-parts lacking k piece t).0 (fine.0 t) in
          rw t (line-gets k at there piece _ _ t p (later _ _))
      by_put false t later = rw t (line-stays k at there piece _ _ t (later _ _))

  -- what holds of lines with tags
  again-all : (P : List ℕ → Type 0) → ((n : ℕ) (piece : List ℕ) → PieceWith n piece → P piece → P (piece_with n piece)) →
      (k : ℕ) (pieces : List (List ℕ)) → AreFine lacking k pieces → All P pieces → All P (pieces_again lacking numbers k pieces)
  again-all P with_tag k [] fine all = All-nil P
  again-all P with_tag k (piece ∷ pieces) fine all =
      All-cons P (piece_again lacking numbers k piece) (pieces_again lacking numbers (k + 1) pieces) (by_put (is_put lacking k piece) refl)
      (again-all P with_tag (k + 1) pieces fine.1 (All-tail P piece pieces all))
    where
      by_put : (t : Bool) → is_put lacking k piece ≡ t → P (piece_again lacking numbers k piece)
      by_put true t =
          rw t (with_tag (numbers k) piece (piece-with (numbers k) piece (is_put-parts lacking k piece t).0 (fine.0 t)) (All-head P piece pieces all))
      by_put false t = rw t (All-head P piece pieces all)

-- ---- lines and the bytes that they make

-- a last line without an LF isn't empty
abbrev Closed : Bool → List (List ℕ) → Type 0
Closed ended [] = Unit {0}
Closed ended (piece ∷ []) = ended ≡ false → piece ≡ [] → ⊥
Closed ended (piece ∷ next ∷ pieces) = Closed ended (next ∷ pieces)

abbrev IsFree : List ℕ → Type 0
IsFree piece = list_any is_lf piece ≡ false

record Joins (bytes : List ℕ) (pieces : List (List ℕ)) : Type 0 where
  ended : Bool
  is : bytes ≡ joined ended pieces
  closed : Closed ended pieces

not_empty : (b : ℕ) (l : List ℕ) → b ∷ l ≡ [] → ⊥
not_empty b l e = absurd cc

feed-joins : (bytes : List ℕ) (pieces : List (List ℕ)) → Joins bytes pieces → Joins (10 ∷ bytes) ([] ∷ pieces)
feed-joins bytes [] j = record { ended = true; is = ap (λ (l : List ℕ). 10 ∷ l) j.is; closed = λ e. absurd (true≢false e) }
feed-joins bytes (piece ∷ pieces) j = record { ended = j.ended; is = ap (λ (l : List ℕ). 10 ∷ l) j.is; closed = j.closed }

more-closed : (ended : Bool) (b : ℕ) (piece : List ℕ) (pieces : List (List ℕ)) → Closed ended (piece ∷ pieces) → Closed ended ((b ∷ piece) ∷ pieces)
more-closed ended b piece [] closed = λ e none. not_empty b piece none
more-closed ended b piece (next ∷ pieces) closed = closed

onto-joins : (b : ℕ) (bytes : List ℕ) (pieces : List (List ℕ)) → Joins bytes pieces → Joins (b ∷ bytes) (onto b pieces)
onto-joins b bytes [] j = record { ended = false; is = ap (λ (l : List ℕ). b ∷ l) j.is; closed = λ e none. not_empty b [] none }
onto-joins b bytes (piece ∷ pieces) j = record { ended = j.ended; is = ap (λ (l : List ℕ). b ∷ l) j.is; closed = more-closed j.ended b piece pieces j.closed }

pieces-join : (bytes : List ℕ) → Joins bytes (pieces_of bytes)
pieces-join [] = record { ended = true; is = refl; closed = tt }
pieces-join (b ∷ bytes) = of (pieces-join bytes) (nat_eq b 10) refl
  where
    of : Joins bytes (pieces_of bytes) → (t : Bool) → nat_eq b 10 ≡ t → Joins (b ∷ bytes) (pieces_of (b ∷ bytes))
    of j true t =
        rw t (subst (λ (c : ℕ). Joins (c ∷ bytes) ([] ∷ pieces_of bytes)) (sym (eqb-true b 10 t)) (feed-joins bytes (pieces_of bytes) j))
    of j false t = rw t (onto-joins b bytes (pieces_of bytes) j)

onto-free : (b : ℕ) (pieces : List (List ℕ)) → is_lf b ≡ false → All IsFree pieces → All IsFree (onto b pieces)
onto-free b [] plain all = All-cons IsFree (b ∷ []) [] (or_from (is_lf b) false plain refl) all
onto-free b (piece ∷ pieces) plain all =
    All-cons IsFree (b ∷ piece) pieces (or_from (is_lf b) (list_any is_lf piece) plain (All-head IsFree piece pieces all)) (All-tail IsFree piece pieces all)

pieces-free : (bytes : List ℕ) → All IsFree (pieces_of bytes)
pieces-free [] = All-nil IsFree
pieces-free (b ∷ bytes) = of (pieces-free bytes) (nat_eq b 10) refl
  where
    of : All IsFree (pieces_of bytes) → (t : Bool) → nat_eq b 10 ≡ t → All IsFree (pieces_of (b ∷ bytes))
    of later true t = rw t (All-cons IsFree [] (pieces_of bytes) refl later)
    of later false t = rw t (onto-free b (pieces_of bytes) t later)

piece-first : (line rest : List ℕ) → IsFree line → pieces_of (line ++ 10 ∷ rest) ≡ line ∷ pieces_of rest
piece-first [] rest free = refl
piece-first (b ∷ line) rest free =
    let parts = or_parts (is_lf b) (list_any is_lf line) free in
    let first = parts.0 in
    rw first (ap (onto b) (piece-first line rest parts.1))

piece-last : (b : ℕ) (line : List ℕ) → IsFree (b ∷ line) → pieces_of (b ∷ line) ≡ (b ∷ line) ∷ []
piece-last b [] free = let first = (or_parts (is_lf b) false free).0 in rw first refl
piece-last b (c ∷ line) free =
    let parts = or_parts (is_lf b) (list_any is_lf (c ∷ line)) free in
    let first = parts.0 in
    rw first (ap (onto b) (piece-last c line parts.1))

last-joined : (ended : Bool) (piece : List ℕ) → IsFree piece → (ended ≡ false → piece ≡ [] → ⊥) → pieces_of (piece ++ (end_behind ended [] ++ [])) ≡ piece ∷ []
last-joined true piece free some = piece-first piece [] free
last-joined false [] free some = absurd (some refl refl)
last-joined false (b ∷ piece) free some = ap pieces_of (append-nil (b ∷ piece)) ∙ piece-last b piece free

joined-pieces : (ended : Bool) (pieces : List (List ℕ)) → All IsFree pieces → Closed ended pieces → pieces_of (joined ended pieces) ≡ pieces
joined-pieces ended [] all closed = refl
joined-pieces ended (piece ∷ []) all closed = last-joined ended piece (All-head IsFree piece [] all) closed
joined-pieces ended (piece ∷ next ∷ pieces) all closed =
    piece-first piece (joined ended (next ∷ pieces)) (All-head IsFree piece (next ∷ pieces) all)
    ∙ ap (λ (l : List (List ℕ)). piece ∷ l) (joined-pieces ended (next ∷ pieces) (All-tail IsFree piece (next ∷ pieces) all) closed)

with-some : (n : ℕ) (piece : List ℕ) → PieceWith n piece → piece_with n piece ≡ [] → ⊥
with-some n piece p none = of p.front (sym p.with ∙ none)
  where
    of : (front : List ℕ) → front ++ (tag_before (drop (end_of (text_of piece)) (text_of piece)) n ++ p.back) ≡ [] → ⊥
    of [] e = absurd cc
    of (b ∷ front) e = absurd cc

module _ (lacking : ℕ → Bool) (numbers : ℕ → ℕ) (ended : Bool) where
  again-closed : (k : ℕ) (pieces : List (List ℕ)) → AreFine lacking k pieces → Closed ended pieces → Closed ended (pieces_again lacking numbers k pieces)
  again-closed k [] fine closed = tt
  again-closed k (piece ∷ []) fine closed = λ off none. by_put (is_put lacking k piece) refl off none
    where
      by_put : (t : Bool) → is_put lacking k piece ≡ t → ended ≡ false → piece_again lacking numbers k piece ≡ [] → ⊥
      by_put true t off none =
          let p = piece-with (numbers k) piece (is_put-parts lacking k piece t).0 (fine.0 t) in
          with-some (numbers k) piece p (rw t at none)
      by_put false t off none = closed off (rw t at none)
  again-closed k (piece ∷ next ∷ pieces) fine closed = again-closed (k + 1) (next ∷ pieces) fine.1 closed

-- ---- a byte order mark

abbrev mark : List ℕ
mark = 239 ∷ 187 ∷ 191 ∷ []

-- bytes that differ from some byte on, which is none of the mark's
mark-apart : (front s rest : List ℕ) (c : ℕ) → nat_eq c 239 ≡ false → nat_eq c 187 ≡ false → nat_eq c 191 ≡ false →
    begins_with mark (front ++ s) ≡ false → begins_with mark (front ++ c ∷ rest) ≡ false
mark-apart [] s rest c one two three is = and_left (nat_eq c 239) _ one
mark-apart (a ∷ []) s rest c one two three is = and_right (nat_eq a 239) _ (and_left (nat_eq c 187) _ two)
mark-apart (a ∷ b ∷ []) s rest c one two three is = and_right (nat_eq a 239) _ (and_right (nat_eq b 187) _ (and_left (nat_eq c 191) _ three))
mark-apart (a ∷ b ∷ d ∷ front) s rest c one two three is = is

no-mark : (lacking : ℕ → Bool) (numbers : ℕ → ℕ) (ended : Bool) (k : ℕ) (pieces : List (List ℕ)) → AreFine lacking k pieces →
    begins_with mark (joined ended pieces) ≡ false → begins_with mark (joined ended (pieces_again lacking numbers k pieces)) ≡ false
no-mark lacking numbers ended k [] fine is = is
no-mark lacking numbers ended k (piece ∷ pieces) fine is = by_put (is_put lacking k piece) refl
  where
    again : List (List ℕ)
    again = pieces_again lacking numbers (k + 1) pieces

    stays : (end : Bool) (ps : List (List ℕ)) → begins_with mark (piece ++ (end_behind end ps ++ joined end ps)) ≡ false →
        begins_with mark (piece ++ (end_behind end (pieces_again lacking numbers (k + 1) ps) ++ joined end (pieces_again lacking numbers (k + 1) ps))) ≡ false
    stays end [] plain = plain
    stays end (next ∷ ps) plain = mark-apart piece (10 ∷ joined end (next ∷ ps)) _ 10 refl refl refl plain

    by_put : (t : Bool) → is_put lacking k piece ≡ t → begins_with mark (piece_again lacking numbers k piece ++ (end_behind ended again ++ joined ended again)) ≡ false
    by_put true t =
        let p = piece-with (numbers k) piece (is_put-parts lacking k piece t).0 (fine.0 t) in
        let tag = tag_before (drop (end_of (text_of piece)) (text_of piece)) (numbers k) in
        let behind : List ℕ = end_behind ended again ++ joined ended again in
        rw t
        (ap (λ (l : List ℕ). begins_with mark (l ++ behind)) p.with
        ∙ ap (begins_with mark) (append_assoc p.front (tag ++ p.back) behind)
        ∙ mark-apart p.front (p.back ++ (end_behind ended pieces ++ joined ended pieces)) _ 32 refl refl refl
        (ap (begins_with mark) (sym (append_assoc p.front p.back (end_behind ended pieces ++ joined ended pieces)))
        ∙ ap (λ (l : List ℕ). begins_with mark (l ++ (end_behind ended pieces ++ joined ended pieces))) (sym p.cut)
        ∙ is))
    by_put false t = rw t (stays ended pieces is)

-- ---- the file

-- the lines of a tagged file
pub record FileAgain (lacking : ℕ → Bool) (bytes out : List ℕ) : Type 0 where
  pub numbers : ℕ → ℕ
  pub lines : LinesPut lacking numbers (lines_of bytes).lines (lines_of out).lines
  pub utf8 : All IsUtf8 (pieces_in out)

-- the bytes of the mark
marked : (bytes : List ℕ) → begins_with mark bytes ≡ true → bytes ≡ 239 ∷ 187 ∷ 191 ∷ drop 3 bytes
marked [] is = absurd (true≢false (sym is))
marked (a ∷ []) is = absurd (true≢false (sym (and_parts (nat_eq a 239) false is).1))
marked (a ∷ b ∷ []) is = absurd (true≢false (sym (and_parts (nat_eq b 187) false (and_parts (nat_eq a 239) _ is).1).1))
marked (a ∷ b ∷ c ∷ bytes) is =
    let first = and_parts (nat_eq a 239) (nat_eq b 187 && (nat_eq c 191 && true)) is in
    let second = and_parts (nat_eq b 187) (nat_eq c 191 && true) first.1 in
    let third = and_parts (nat_eq c 191) true second.1 in
    let one = eqb-true a 239 first.0 in
    let two = eqb-true b 187 second.0 in
    let three = eqb-true c 191 third.0 in
    rw (one, two, three) refl

pub file-again : (bytes out : List ℕ) (lacking : ℕ → Bool) (taken : List ℕ → Bool) (start : ℕ) → ((piece : List ℕ) → place_in piece ≤ length piece) →
    All IsUtf8 (pieces_in bytes) → AreFine lacking 1 (pieces_in bytes) → Becomes bytes lacking taken start 0 (lines_of bytes).lines out → FileAgain lacking bytes out
file-again bytes out lacking taken start within utf8 fine b = by_mark (begins_with mark bytes) refl
  where
    pieces : List (List ℕ)
    pieces = pieces_in bytes

    body : List ℕ
    body = drop (mark_length bytes) bytes

    j : Joins body pieces
    j = pieces-join body

    a : AreAgain lacking 1 pieces j.ended (slice_range bytes 0 (mark_length bytes)) out
    a = becomes-again bytes lacking taken j.ended within 1 (mark_length bytes) pieces 0 start out j.is (omega arith) b

    new : List (List ℕ)
    new = pieces_again lacking a.numbers 1 pieces

    cut : pieces_of (joined j.ended new) ≡ new
    cut =
        joined-pieces j.ended new
        (again-all lacking a.numbers IsFree (λ n piece p free. with-free n piece p free) 1 pieces fine (pieces-free body))
        (again-closed lacking a.numbers j.ended 1 pieces fine j.closed)

    whole_utf8 : All IsUtf8 new
    whole_utf8 = again-all lacking a.numbers IsUtf8 (λ n piece p is. with-utf8 n piece p is) 1 pieces fine utf8

    ready : (n : ℕ) → mark_length out ≡ n → drop n out ≡ joined j.ended new → FileAgain lacking bytes out
    ready n is left =
        let all : pieces_in out ≡ new = ap (λ (m : ℕ). pieces_of (drop m out)) is ∙ ap pieces_of left ∙ cut in
        record {
          numbers = a.numbers;
          lines =
              subst (λ (l : List (List ℕ)). LinesPut lacking a.numbers (lines_of bytes).lines (lines_from 1 (mark_length out) l)) (sym all)
              (lines-put lacking a.numbers 1 (mark_length bytes) (mark_length out) pieces fine);
          utf8 = subst (λ (l : List (List ℕ)). All IsUtf8 l) (sym all) whole_utf8;
        }

    by_mark : (t : Bool) → begins_with mark bytes ≡ t → FileAgain lacking bytes out
    by_mark true t =
        let at : mark_length bytes ≡ 3 = ap (λ (c : Bool). cond c 3 0) t in
        let is : out ≡ 239 ∷ 187 ∷ 191 ∷ joined j.ended new =
        a.is ∙ ap (λ (m : ℕ). slice_range bytes 0 m ++ joined j.ended new) at ∙ ap (λ (l : List ℕ). slice_range l 0 3 ++ joined j.ended new) (marked bytes t) in
        ready 3 (ap mark_length is) (ap (drop 3) is)
    by_mark false t =
        let at : mark_length bytes ≡ 0 = ap (λ (c : Bool). cond c 3 0) t in
        let is : out ≡ joined j.ended new = a.is ∙ ap (λ (m : ℕ). slice_range bytes 0 m ++ joined j.ended new) at in
        let same : bytes ≡ joined j.ended pieces = ap (λ (m : ℕ). drop m bytes) (sym at) ∙ j.is in
        let plain : begins_with mark out ≡ false =
        ap (begins_with mark) is ∙ no-mark lacking a.numbers j.ended 1 pieces fine (ap (begins_with mark) (sym same) ∙ t) in
        ready 0 (ap (λ (c : Bool). cond c 3 0) plain) is
