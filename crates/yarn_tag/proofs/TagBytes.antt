-- The bytes of a tagged file, cut into lines: each line that lacks an id has one, and all others stay.
use Rattle.std.proofs.Common.{◌≡◌, ℕ, ◌+◌, ◌-◌, ◌≤◌, ◌<◌, List, [], ◌∷◌, ◌++◌, length, take, drop, slice_range, Bool, true, false, cond, ◌&&◌, nat_eq, ◌⊎◌, inl, inr, refl, sym, ap, ◌∙◌, subst, append_assoc, arith}
use Rattle.std.proofs.lemmas.Bool.{eqb-true, eq-eqb}
use Rattle.std.proofs.lemmas.List.{drop-drop, take-append-drop, take-append-le, drop-append-le, length-append, length-take-le}
use Rattle.std.proofs.Math.Seq.{take-add, take-append-add}
use Rattle.yarn_lines.specs.declared.line.RawLine.{RawLine}
use Rattle.yarn_lines.specs.Lines.{leading, content, text_of, counts, indent_of, lines_from}
use Rattle.yarn_tree.specs.Scan.{end_of}
use Rattle.yarn_tag.specs.Tagged.{Becomes, rest, kept, tagged, IsEnd, tag_before}

-- the place of a tag in a line
abbrev pub place_in : List ℕ → ℕ
place_in piece = length (leading (content piece)) + end_of (text_of piece)

-- a line with the tag of a number
abbrev pub piece_with : ℕ → List ℕ → List ℕ
piece_with n piece = take (place_in piece) piece ++ (tag_before (drop (end_of (text_of piece)) (text_of piece)) n ++ drop (place_in piece) piece)

-- a line has text, and lacks an id
abbrev pub is_put : (ℕ → Bool) → ℕ → List ℕ → Bool
is_put lacking k piece = counts (text_of piece) && lacking k

abbrev pub piece_again : (ℕ → Bool) → (ℕ → ℕ) → ℕ → List ℕ → List ℕ
piece_again lacking numbers k piece = cond (is_put lacking k piece) (piece_with (numbers k) piece) piece

-- lines of which the first has that number, each with the tag of its own number
abbrev pub pieces_again : (ℕ → Bool) → (ℕ → ℕ) → ℕ → List (List ℕ) → List (List ℕ)
pieces_again lacking numbers k [] = []
pieces_again lacking numbers k (piece ∷ pieces) = piece_again lacking numbers k piece ∷ pieces_again lacking numbers (k + 1) pieces

-- what stands behind a line
abbrev pub end_behind : Bool → List (List ℕ) → List ℕ
end_behind ended [] = cond ended (10 ∷ []) []
end_behind ended (piece ∷ pieces) = 10 ∷ []

-- lines one after the other, the last one with an LF or without
abbrev pub joined : Bool → List (List ℕ) → List ℕ
joined ended [] = []
joined ended (piece ∷ pieces) = piece ++ (end_behind ended pieces ++ joined ended pieces)

pieces-same : (lacking : ℕ → Bool) (f g : ℕ → ℕ) (k : ℕ) (pieces : List (List ℕ)) → ((j : ℕ) → k ≤ j → f j ≡ g j) → pieces_again lacking f k pieces ≡ pieces_again lacking g k pieces
pieces-same lacking f g k [] same = refl
pieces-same lacking f g k (piece ∷ pieces) same =
    ap (λ n. cond (is_put lacking k piece) (piece_with n piece) piece ∷ pieces_again lacking f (k + 1) pieces) (same k (omega arith))
    ∙ ap (λ (l : List (List ℕ)). piece_again lacking g k piece ∷ l) (pieces-same lacking f g (k + 1) pieces (λ j le. same j (omega (arith, le))))

-- the numbers with one more in front
abbrev numbers_with : ℕ → ℕ → (ℕ → ℕ) → ℕ → ℕ
numbers_with k n numbers j = cond (nat_eq j k) n (numbers j)

pub nat_eq-self : (k : ℕ) → nat_eq k k ≡ true
nat_eq-self k = eq-eqb k k refl

pub nat_eq-other : (j k : ℕ) → k < j → nat_eq j k ≡ false
nat_eq-other j k less = of (nat_eq j k) refl
  where
    of : (t : Bool) → nat_eq j k ≡ t → nat_eq j k ≡ false
    of true t = let e = eqb-true j k t in absurd (omega arith)
    of false t = t

-- lines with tags, of which the first has that number
pub record AreAgain (lacking : ℕ → Bool) (k : ℕ) (pieces : List (List ℕ)) (ended : Bool) (front out : List ℕ) : Type 0 where
  pub numbers : ℕ → ℕ
  pub is : out ≡ front ++ joined ended (pieces_again lacking numbers k pieces)

-- ---- parts of lists

take-one : (ended : Bool) (pieces : List (List ℕ)) → take 1 (end_behind ended pieces ++ joined ended pieces) ≡ end_behind ended pieces
take-one true [] = refl
take-one false [] = refl
take-one ended (piece ∷ pieces) = refl

drop-one : (ended : Bool) (pieces : List (List ℕ)) → drop 1 (end_behind ended pieces ++ joined ended pieces) ≡ joined ended pieces
drop-one true [] = refl
drop-one false [] = refl
drop-one ended (piece ∷ pieces) = refl

take-line : (ended : Bool) (x : List ℕ) (pieces : List (List ℕ)) → take (length x + 1) (x ++ (end_behind ended pieces ++ joined ended pieces)) ≡ x ++ end_behind ended pieces
take-line ended x pieces = take-append-add x (end_behind ended pieces ++ joined ended pieces) 1 ∙ ap (λ (l : List ℕ). x ++ l) (take-one ended pieces)

drop-line : (ended : Bool) (x : List ℕ) (pieces : List (List ℕ)) → drop (length x + 1) (x ++ (end_behind ended pieces ++ joined ended pieces)) ≡ joined ended pieces
drop-line ended x pieces = sym (drop-drop 1 (length x) (x ++ (end_behind ended pieces ++ joined ended pieces))) ∙ ap (drop 1) (drop-seam x _) ∙ drop-one ended pieces
  where
    drop-seam : (xs ys : List ℕ) → drop (length xs) (xs ++ ys) ≡ ys
    drop-seam [] ys = refl
    drop-seam (y ∷ xs) ys = drop-seam xs ys

-- what stands between two places, cut at a third
range-cut : (bytes : List ℕ) (at place more to : ℕ) → at ≤ place → to ≡ place + more → slice_range bytes at to ≡ slice_range bytes at place ++ take more (drop place bytes)
range-cut bytes at place more to le is =
    ap (λ n. take n (drop at bytes)) (omega (arith, le, is))
    ∙ take-add (place - at) more (drop at bytes)
    ∙ ap (λ (l : List ℕ). slice_range bytes at place ++ take more l) (drop-drop (place - at) at bytes ∙ ap (λ n. drop n bytes) (omega (arith, le)))

-- no bytes are left
range-all : (bytes : List ℕ) (at place : ℕ) → at ≤ place → drop place bytes ≡ [] → drop at bytes ≡ slice_range bytes at place ++ []
range-all bytes at place le none =
    sym (take-append-drop (place - at) (drop at bytes))
    ∙ ap (λ (l : List ℕ). slice_range bytes at place ++ l) (drop-drop (place - at) at bytes ∙ ap (λ n. drop n bytes) (omega (arith, le)) ∙ none)

end-again : (lacking : ℕ → Bool) (numbers : ℕ → ℕ) (k : ℕ) (ended : Bool) (pieces : List (List ℕ)) → end_behind ended (pieces_again lacking numbers k pieces) ≡ end_behind ended pieces
end-again lacking numbers k ended [] = refl
end-again lacking numbers k ended (piece ∷ pieces) = refl

-- ---- one line

-- what the bytes behind a line become
record Kept (bytes : List ℕ) (lacking : ℕ → Bool) (taken : List ℕ → Bool) (next at : ℕ) (line : RawLine) (lines : List RawLine) (out : List ℕ) : Type 0 where
  off : lacking line.number ≡ false
  more : Becomes bytes lacking taken next at lines out

record Put (bytes : List ℕ) (lacking : ℕ → Bool) (taken : List ℕ → Bool) (at : ℕ) (line : RawLine) (lines : List RawLine) (out : List ℕ) : Type 0 where
  n : ℕ
  end : ℕ
  later : List ℕ
  on : lacking line.number ≡ true
  ends : IsEnd line.text end
  more : Becomes bytes lacking taken (n + 1) (line.at + end) lines later
  is : out ≡ slice_range bytes at (line.at + end) ++ (tag_before (drop end line.text) n ++ later)

first-line : {bytes : List ℕ} {lacking : ℕ → Bool} {taken : List ℕ → Bool} {next at : ℕ} {line : RawLine} {lines : List RawLine} {out : List ℕ} →
    Becomes bytes lacking taken next at (line ∷ lines) out →
    Kept bytes lacking taken next at line lines out ⊎ Put bytes lacking taken at line lines out
first-line (kept off more) = inl (record { off = off; more = more })
first-line (tagged {out = later} n end on free ends more) = inr (record { n = n; end = end; later = later; on = on; ends = ends; more = more; is = refl })

no-line : {bytes : List ℕ} {lacking : ℕ → Bool} {taken : List ℕ → Bool} {next at : ℕ} {out : List ℕ} → Becomes bytes lacking taken next at [] out → out ≡ drop at bytes
no-line rest = refl

-- ---- all lines

module _ (bytes : List ℕ) (lacking : ℕ → Bool) (taken : List ℕ → Bool) (ended : Bool) (within : (piece : List ℕ) → place_in piece ≤ length piece) where
  -- what holds of lines from a place on, wherever the bytes are written up to
  abbrev pub Again : ℕ → ℕ → List (List ℕ) → Type 0
  Again k place pieces = (at next : ℕ) (out : List ℕ) → drop place bytes ≡ joined ended pieces → at ≤ place →
      Becomes bytes lacking taken next at (lines_from k place pieces) out → AreAgain lacking k pieces ended (slice_range bytes at place) out

  module _ (k place : ℕ) (piece : List ℕ) (pieces : List (List ℕ)) (later : Again (k + 1) (place + length piece + 1) pieces) (whole : drop place bytes ≡ joined ended (piece ∷ pieces)) where
    left : drop (place + length piece + 1) bytes ≡ joined ended pieces
    left =
        ap (λ n. drop n bytes) (omega arith)
        ∙ sym (drop-drop (length piece + 1) place bytes)
        ∙ ap (drop (length piece + 1)) whole
        ∙ drop-line ended piece pieces

    -- a line that stays
    stays : (at next : ℕ) (out : List ℕ) → at ≤ place → is_put lacking k piece ≡ false →
        Becomes bytes lacking taken next at (lines_from (k + 1) (place + length piece + 1) pieces) out → AreAgain lacking k (piece ∷ pieces) ended (slice_range bytes at place) out
    stays at next out le off b =
        let a = later at next out left (omega (arith, le)) b in
        let rest_of : List (List ℕ) = pieces_again lacking a.numbers (k + 1) pieces in
        record {
          numbers = a.numbers;
          is =
              a.is
              ∙ ap (λ (l : List ℕ). l ++ joined ended rest_of)
              (range-cut bytes at place (length piece + 1) (place + length piece + 1) le (omega arith)
              ∙ ap (λ (l : List ℕ). slice_range bytes at place ++ l) (ap (take (length piece + 1)) whole ∙ take-line ended piece pieces))
              ∙ append_assoc (slice_range bytes at place) (piece ++ end_behind ended pieces) (joined ended rest_of)
              ∙ ap (λ (l : List ℕ). slice_range bytes at place ++ l)
              (append_assoc piece (end_behind ended pieces) (joined ended rest_of)
              ∙ ap (λ (l : List ℕ). piece ++ (l ++ joined ended rest_of)) (sym (end-again lacking a.numbers (k + 1) ended pieces))
              ∙ ap (λ (t : Bool). cond t (piece_with (a.numbers k) piece) piece ++ (end_behind ended rest_of ++ joined ended rest_of)) (sym off));
        }

    -- a line with a tag
    gets : (at n end j : ℕ) (out more : List ℕ) → at ≤ place → is_put lacking k piece ≡ true → end ≡ end_of (text_of piece) → j ≡ place_in piece →
        out ≡ slice_range bytes at (place + j) ++ (tag_before (drop end (text_of piece)) n ++ more) →
        Becomes bytes lacking taken (n + 1) (place + j) (lines_from (k + 1) (place + length piece + 1) pieces) more →
        AreAgain lacking k (piece ∷ pieces) ended (slice_range bytes at place) out
    gets at n end j out more le on ends here is b = record { numbers = numbers; is = whole_is }
      where
        fits : j ≤ length piece
        fits = subst (λ (m : ℕ). m ≤ length piece) (sym here) (within piece)

        a : AreAgain lacking (k + 1) pieces ended (slice_range bytes (place + j) (place + length piece + 1)) more
        a = later (place + j) (n + 1) more left (omega (arith, fits)) b

        numbers : ℕ → ℕ
        numbers = numbers_with k n a.numbers

        rest_of : List (List ℕ)
        rest_of = pieces_again lacking numbers (k + 1) pieces

        same_rest : pieces_again lacking a.numbers (k + 1) pieces ≡ rest_of
        same_rest = pieces-same lacking a.numbers numbers (k + 1) pieces (λ m from. ap (λ (t : Bool). cond t n (a.numbers m)) (sym (nat_eq-other m k (omega (arith, from)))))

        tail : List ℕ
        tail = end_behind ended pieces ++ joined ended pieces

        before : slice_range bytes at (place + j) ≡ slice_range bytes at place ++ take j piece
        before =
            range-cut bytes at place j (place + j) le refl
            ∙ ap (λ (l : List ℕ). slice_range bytes at place ++ l) (ap (take j) whole ∙ take-append-le j piece tail fits)

        behind : slice_range bytes (place + j) (place + length piece + 1) ≡ drop j piece ++ end_behind ended pieces
        behind =
            ap (λ (l : List ℕ). take (place + length piece + 1 - (place + j)) l)
            (sym (drop-drop j place bytes) ∙ ap (drop j) whole ∙ drop-append-le j piece tail fits)
            ∙ ap (λ m. take m (drop j piece ++ tail)) size
            ∙ take-line ended (drop j piece) pieces
          where
            size : place + length piece + 1 - (place + j) ≡ length (drop j piece) + 1
            size =
                let e : length (take j piece ++ drop j piece) ≡ length piece = ap length (take-append-drop j piece) in
                let f = length-append (take j piece) (drop j piece) in
                let g : length (take j piece) ≡ j = length-take-le j piece fits in
                omega (arith, e, f, g, fits)

        tag : List ℕ
        tag = tag_before (drop end (text_of piece)) n

        again : List ℕ
        again = take j piece ++ (tag ++ drop j piece)

        same_again : again ≡ piece_again lacking numbers k piece
        same_again =
            ap (λ (m : ℕ). take m piece ++ (tag ++ drop m piece)) here
            ∙ ap (λ (e : ℕ). take (place_in piece) piece ++ (tag_before (drop e (text_of piece)) n ++ drop (place_in piece) piece)) ends
            ∙ ap (λ (m : ℕ). piece_with m piece) (ap (λ (t : Bool). cond t n (a.numbers k)) (sym (nat_eq-self k)))
            ∙ ap (λ (t : Bool). cond t (piece_with (numbers k) piece) piece) (sym on)

        ending : more ≡ drop j piece ++ (end_behind ended rest_of ++ joined ended rest_of)
        ending =
            a.is
            ∙ ap (λ (l : List ℕ). l ++ joined ended (pieces_again lacking a.numbers (k + 1) pieces)) behind
            ∙ append_assoc (drop j piece) (end_behind ended pieces) (joined ended (pieces_again lacking a.numbers (k + 1) pieces))
            ∙ ap (λ (l : List (List ℕ)). drop j piece ++ (end_behind ended pieces ++ joined ended l)) same_rest
            ∙ ap (λ (l : List ℕ). drop j piece ++ (l ++ joined ended rest_of)) (sym (end-again lacking numbers (k + 1) ended pieces))

        whole_is : out ≡ slice_range bytes at place ++ joined ended (piece_again lacking numbers k piece ∷ rest_of)
        whole_is =
            is
            ∙ ap (λ (l : List ℕ). l ++ (tag ++ more)) before
            ∙ append_assoc (slice_range bytes at place) (take j piece) (tag ++ more)
            ∙ ap (λ (l : List ℕ). slice_range bytes at place ++ (take j piece ++ (tag ++ l))) ending
            ∙ ap (λ (l : List ℕ). slice_range bytes at place ++ l)
            (ap (λ (l : List ℕ). take j piece ++ l) (sym (append_assoc tag (drop j piece) (end_behind ended rest_of ++ joined ended rest_of)))
            ∙ sym (append_assoc (take j piece) (tag ++ drop j piece) (end_behind ended rest_of ++ joined ended rest_of))
            ∙ ap (λ (l : List ℕ). l ++ (end_behind ended rest_of ++ joined ended rest_of)) same_again)

    one-more : Again k place (piece ∷ pieces)
    one-more at next out whole' le b = by_counts (counts (text_of piece)) refl
      where
        by_lacking : counts (text_of piece) ≡ true →
            Kept bytes lacking taken next at (record { number = k; indent = indent_of piece; at = place + length (leading (content piece)); text = text_of piece }) (lines_from (k + 1) (place + length piece + 1) pieces) out
            ⊎ Put bytes lacking taken at (record { number = k; indent = indent_of piece; at = place + length (leading (content piece)); text = text_of piece }) (lines_from (k + 1) (place + length piece + 1) pieces) out →
            AreAgain lacking k (piece ∷ pieces) ended (slice_range bytes at place) out
        by_lacking some (inl h) = stays at next out le (ap (λ (t : Bool). t && lacking k) some ∙ h.off) h.more
        by_lacking some (inr h) =
            let move : place + length (leading (content piece)) + h.end ≡ place + (length (leading (content piece)) + h.end) = omega arith in
            gets at h.n h.end (length (leading (content piece)) + h.end) out h.later le (ap (λ (t : Bool). t && lacking k) some ∙ h.on) h.ends.is
            (ap (λ (e : ℕ). length (leading (content piece)) + e) h.ends.is)
            (h.is ∙ ap (λ (m : ℕ). slice_range bytes at m ++ (tag_before (drop h.end (text_of piece)) h.n ++ h.later)) move)
            (subst (λ (m : ℕ). Becomes bytes lacking taken (h.n + 1) m (lines_from (k + 1) (place + length piece + 1) pieces) h.later) move h.more)

        by_counts : (t : Bool) → counts (text_of piece) ≡ t → AreAgain lacking k (piece ∷ pieces) ended (slice_range bytes at place) out
        by_counts true t = by_lacking t (first-line (rw t at b))
        by_counts false t = stays at next out le (ap (λ (c : Bool). c && lacking k) t) (rw t at b)

  pub becomes-again : (k place : ℕ) (pieces : List (List ℕ)) → Again k place pieces
  becomes-again k place [] at next out none le b = record { numbers = λ j. 0; is = no-line b ∙ range-all bytes at place le none }
  becomes-again k place (piece ∷ pieces) at next out whole le b = one-more k place piece pieces (becomes-again (k + 1) (place + length piece + 1) pieces) whole at next out whole le b
