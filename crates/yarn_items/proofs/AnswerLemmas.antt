-- A text that the code has read is the one that is found.
use Rattle.std.proofs.Common.{◌≡◌, ℕ, ◌-◌, List, [], take, drop, false, Option, Some, None, refl, sym, ap, subst, ◌∙◌, IsUtf8, length}
use Rattle.std.proofs.lemmas.List.{take_rest}
use Rattle.yarn_expr.specs.declared.tree.Expr.{Expr}
use Rattle.yarn_items.specs.declared.item.Literals.{Literals}
use Rattle.yarn_items.specs.declared.first.Kind.{Kind}
use Rattle.yarn_items.specs.declared.first.Kind.TheVariants.{Line, Game}
use Rattle.yarn_items.specs.declared.text.TextRead.{TextRead}
use Rattle.yarn_items.specs.declared.game.GameRead.{GameRead}
use Rattle.yarn_items.specs.Text.{kept_from, trimmed}
use Rattle.yarn_items.specs.Item.{literals_of}
use Rattle.yarn_items.specs.Scan.{Ends, front_of, Scan, scan}
use Rattle.yarn_items.specs.Holes.{Held, held_in}
use Rattle.yarn_items.specs.TextForm.{text_with, text_of, text_found, game_with, game_of, game_found, IsTextAnswer, IsGameAnswer}
use Rattle.yarn_items.specs.Run.{chars_length, begins_more}
use Rattle.yarn_items.specs.Written.{no_literals, Written, written_with, written_of, written, joined, IsWritten, IsWrittenAnswer}
use Rattle.yarn_items.proofs.RunLemmas.{line-parts, plain-line}
use Rattle.yarn_items.proofs.WrittenLemmas.{joined-end, written-ends}

-- a text as it is written at its end
pub ends-answer : (kind : Kind) (bytes text : List ℕ) (holes : List Expr) (literals : Literals) (rest : List ℕ) (read : TextRead) →
    written kind 0 bytes ≡ joined text holes literals (written kind (length holes) rest) → front_of kind rest ≡ Ends →
    read.text ≡ text → read.holes ≡ holes → read.literals ≡ literals → read.rest.now ≡ rest → IsUtf8 rest → IsWrittenAnswer (written kind 0 bytes) (Some read)
ends-answer kind bytes text holes literals rest read so_far ends same_text same_holes same_literals same_rest utf8 =
    let is = so_far ∙ ap (joined text holes literals) (written-ends kind rest (length holes) ends) ∙ joined-end text holes literals rest in
    subst (λ (o : Option Written). IsWrittenAnswer o (Some read)) (sym is)
    (record { text = same_text; holes = same_holes; literals = same_literals; rest = same_rest; utf8 = utf8 })

some-written : (o : Option Written) (read : TextRead) → IsWrittenAnswer o (Some read) → (w : Written) × (o ≡ Some w) × IsWritten w read
some-written None read is = absurd is
some-written (Some w) read is = (w, refl, is)

none-written : (o : Option Written) → IsWrittenAnswer o None → o ≡ None
none-written None is = refl
none-written (Some w) is = absurd is

-- The text of a line, without the blanks around it.

pub text-answer : (bytes : List ℕ) (w : Written) (read : TextRead) → written Line 0 bytes ≡ Some w → read.text ≡ trimmed w.text → read.holes ≡ w.holes →
    read.literals ≡ w.literals → read.rest.now ≡ w.rest → IsUtf8 w.rest → IsTextAnswer (text_found bytes) (Some read)
unfolding text_found written
text-answer bytes w read is text holes literals rest utf8 = of (scan Line bytes) is
  where
    with_held : (s : Scan) (h : Option Held) → written_with Line 0 s h ≡ Some w → IsTextAnswer (text_with s h) (Some read)
    with_held s None told = absurd cc
    with_held s (Some h) told =
        let same : ◌≡◌ {A = Written} w (record { text = kept_from 0 s.pieces; holes = h.holes; literals = literals_of h.tokens; rest = s.rest }) = cc in
        record {
          text = text ∙ ap (λ (x : Written). trimmed x.text) same;
          holes = holes ∙ ap (λ (x : Written). x.holes) same;
          literals = literals ∙ ap (λ (x : Written). x.literals) same;
          rest = rest ∙ ap (λ (x : Written). x.rest) same;
          utf8 = subst (λ (x : Written). IsUtf8 x.rest) same utf8;
        }

    of : (o : Option Scan) → written_of Line 0 o ≡ Some w → IsTextAnswer (text_of o) (Some read)
    of None told = absurd cc
    of (Some s) told = with_held s (held_in s.pieces) told

pub text-trimmed : (bytes : List ℕ) (all read : TextRead) → IsWrittenAnswer (written Line 0 bytes) (Some all) → read.text ≡ trimmed all.text →
    read.holes ≡ all.holes → read.literals ≡ all.literals → read.rest.now ≡ all.rest.now → IsTextAnswer (text_found bytes) (Some read)
text-trimmed bytes all read is text holes literals rest =
    let has = some-written (written Line 0 bytes) all is in
    let same = has.2 in
    text-answer bytes has.0 read has.1 (text ∙ ap trimmed same.text) (holes ∙ same.holes) (literals ∙ same.literals) (rest ∙ same.rest) same.utf8

pub text-none : (bytes : List ℕ) → IsWrittenAnswer (written Line 0 bytes) None → IsTextAnswer (text_found bytes) None
unfolding text_found written
text-none bytes is = of (scan Line bytes) (none-written (written Line 0 bytes) is)
  where
    with_held : (s : Scan) (h : Option Held) → written_with Line 0 s h ≡ None → IsTextAnswer (text_with s h) None
    with_held s None told = tt
    with_held s (Some h) told = absurd cc

    of : (o : Option Scan) → written_of Line 0 o ≡ None → IsTextAnswer (text_of o) None
    of None told = tt
    of (Some s) told = with_held s (held_in s.pieces) told

-- The text of a command for the game.

pub game-some : (bytes : List ℕ) (all : TextRead) (read : GameRead) → IsWrittenAnswer (written Game 0 bytes) (Some all) → read.text ≡ all.text →
    read.holes ≡ all.holes → read.literals ≡ all.literals → IsGameAnswer (game_found bytes) (Some read)
unfolding game_found written
game-some bytes all read is text holes literals = of (scan Game bytes) is
  where
    with_held : (s : Scan) (h : Option Held) → IsWrittenAnswer (written_with Game 0 s h) (Some all) → IsGameAnswer (game_with s h) (Some read)
    with_held s None told = absurd told
    with_held s (Some h) told = record { text = text ∙ told.text; holes = holes ∙ told.holes; literals = literals ∙ told.literals }

    of : (o : Option Scan) → IsWrittenAnswer (written_of Game 0 o) (Some all) → IsGameAnswer (game_of o) (Some read)
    of None told = absurd told
    of (Some s) told = with_held s (held_in s.pieces) told

pub game-none : (bytes : List ℕ) → IsWrittenAnswer (written Game 0 bytes) None → IsGameAnswer (game_found bytes) None
unfolding game_found written
game-none bytes is = of (scan Game bytes) is
  where
    with_held : (s : Scan) (h : Option Held) → IsWrittenAnswer (written_with Game 0 s h) None → IsGameAnswer (game_with s h) None
    with_held s None told = tt
    with_held s (Some h) told = absurd told

    of : (o : Option Scan) → IsWrittenAnswer (written_of Game 0 o) None → IsGameAnswer (game_of o) None
    of None told = tt
    of (Some s) told = with_held s (held_in s.pieces) told

-- The text of a line that has neither pairs nor substitutions.

-- what stands behind so many bytes
abbrev pub from_place : ℕ → List ℕ → List ℕ
from_place n bytes = take (length bytes - n) (drop n bytes)

pub plain-answer : (read : TextRead) (bytes : List ℕ) (n : ℕ) → n ≡ chars_length bytes → begins_more (from_place n bytes) ≡ false → IsUtf8 bytes →
    read.text ≡ trimmed (take n bytes) → read.holes ≡ [] → read.literals ≡ no_literals → read.rest.now ≡ from_place n bytes →
    IsTextAnswer (text_found bytes) (Some read)
plain-answer read bytes n is ends utf8 text holes literals rest =
    let behind = take_rest bytes n in
    let stops : begins_more (drop n bytes) ≡ false = ap begins_more (sym behind) ∙ ends in
    text-answer bytes (record { text = take n bytes; holes = []; literals = no_literals; rest = drop n bytes }) read (plain-line bytes n is stops) text holes literals
    (rest ∙ behind) (line-parts bytes n is utf8).1
