-- Taking lines: what the first piece behind a place is, and what is left behind it.
use Rattle.std.proofs.Common.{◌≡◌, ℕ, ◌+◌, ◌<◌, ◌≤◌, List, ◌∷◌, length, take, drop, Bool, true, false, Option, Some, None, Ok, refl, sym, ap, subst, ◌∙◌, arith, IsUtf8}
use Rattle.std.specs.Option.{is_some}
use Rattle.std.proofs.lemmas.Bool.{ltb-false}
use Rattle.std.proofs.lemmas.List.{drop-drop, length-take-le, length-drop}
use Rattle.yarn_lines.specs.Lines.{pieces_of, first_from, is_long, lines_from, with_line, text_of, counts}
use Rattle.yarn_lines.specs.Piece.{length_to_lf, line_of}
use Rattle.yarn_lines.specs.Taking.{AreLeft, Takes}
use Rattle.yarn_lines.specs.declared.line.RawLine.{RawLine}
use Rattle.yarn_lines.proofs.PieceLemmas.{first_from-none, length_to_lf-le, pieces_of-first}
use Rattle.yarn_lines.proofs.Utf8Lemmas.{utf8_first}

-- the first piece of what is left may be a line, and what is left behind it
pub record Step (whole piece : List ℕ) (at number : ℕ) : Type 0 where
  pub short : length piece ≤ 65536
  pub within : at + length piece ≤ length whole
  pub utf8 : IsUtf8 piece
  pub lines : lines_from number at (pieces_of (drop at whole))
      ≡ with_line number at piece (lines_from (number + 1) (at + (length piece + 1)) (pieces_of (drop (at + (length piece + 1)) whole)))
  pub count : length (pieces_of (drop at whole)) ≡ length (pieces_of (drop (at + (length piece + 1)) whole)) + 1
  pub left : AreLeft whole (at + (length piece + 1)) (number + 1)

pub step : (whole piece : List ℕ) (at number : ℕ) → AreLeft whole at number → at < length whole →
    piece ≡ take (length_to_lf (drop at whole)) (drop at whole) → Step whole piece at number
step whole piece at number left lt is =
    let rest = drop at whole in
    let size : length piece ≡ length_to_lf rest = ap length is ∙ length-take-le (length_to_lf rest) rest (length_to_lf-le rest) in
    let next : at + length piece + 1 ≡ at + (length piece + 1) = omega arith in
    let behind : drop (length_to_lf rest + 1) rest ≡ drop (at + (length piece + 1)) whole =
    ap (λ n. drop (n + 1) rest) (sym size) ∙ drop-drop (length piece + 1) at whole in
    let pieces_behind = pieces_of (drop (at + (length piece + 1)) whole) in
    let pieces : pieces_of rest ≡ piece ∷ pieces_behind =
    pieces_of-first rest (omega (arith, length-drop at whole)) ∙ ap (λ l. l ∷ pieces_of (drop (length_to_lf rest + 1) rest)) (sym is)
    ∙ ap (λ l. piece ∷ pieces_of l) behind in
    let utf8 = utf8_first rest left.utf8 in
    let short = first_from-none is_long number piece pieces_behind (ap (first_from is_long number) (sym pieces) ∙ left.short) in
    record {
      short = ltb-false 65536 (length piece) short.0;
      within = omega (arith, size, length_to_lf-le rest, length-drop at whole);
      utf8 = subst IsUtf8 (sym is) utf8.0;
      lines = ap (lines_from number at) pieces ∙ ap (λ n. with_line number at piece (lines_from (number + 1) n pieces_behind)) next;
      count = omega (arith, ap length pieces);
      left = record { utf8 = subst IsUtf8 behind utf8.1; small = left.small; count = omega (arith, left.count); short = short.1 };
    }

with_line-some : (number at : ℕ) (piece : List ℕ) (lines : List RawLine) (line : RawLine) → Some line ≡ line_of number at piece →
    with_line number at piece lines ≡ line ∷ lines
with_line-some number at piece lines line is = by_test (counts (text_of piece)) refl
  where
    by_test : (t : Bool) → counts (text_of piece) ≡ t → with_line number at piece lines ≡ line ∷ lines
    by_test true t = let h = rw t at is in rw t (cc)
    by_test false t = let h = rw t at is in absurd (cc)

with_line-none : (number at : ℕ) (piece : List ℕ) (lines : List RawLine) → None ≡ line_of number at piece → with_line number at piece lines ≡ lines
with_line-none number at piece lines is = by_test (counts (text_of piece)) refl
  where
    by_test : (t : Bool) → counts (text_of piece) ≡ t → with_line number at piece lines ≡ lines
    by_test true t = let h = rw t at is in absurd (cc)
    by_test false t = rw t refl

-- where the first piece is a line, it is the first of what is left
pub takes : (whole piece : List ℕ) (at number : ℕ) (before : List RawLine) (line : Option RawLine) → Step whole piece at number →
    lines_from number at (pieces_of (drop at whole)) ≡ before → line ≡ line_of number at piece → is_some line ≡ true →
    Takes before (Ok line) (lines_from (number + 1) (at + (length piece + 1)) (pieces_of (drop (at + (length piece + 1)) whole)))
takes whole piece at number before None next same is some = absurd cc
takes whole piece at number before (Some line) next same is some =
    let behind = lines_from (number + 1) (at + (length piece + 1)) (pieces_of (drop (at + (length piece + 1)) whole)) in
    sym same ∙ next.lines ∙ with_line-some number at piece behind line is

-- where it is none, nothing of what is left is skipped with it
pub skips : (whole piece : List ℕ) (at number : ℕ) (before : List RawLine) (line : Option RawLine) → Step whole piece at number →
    lines_from number at (pieces_of (drop at whole)) ≡ before → line ≡ line_of number at piece → is_some line ≡ false →
    lines_from (number + 1) (at + (length piece + 1)) (pieces_of (drop (at + (length piece + 1)) whole)) ≡ before
skips whole piece at number before (Some line) next same is none = absurd cc
skips whole piece at number before None next same is none =
    let behind = lines_from (number + 1) (at + (length piece + 1)) (pieces_of (drop (at + (length piece + 1)) whole)) in
    sym (with_line-none number at piece behind is) ∙ sym next.lines ∙ same
