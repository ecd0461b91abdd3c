-- Each text has pieces up to its end or to a `[` that begins no tag, and has them once.
use Rattle.std.proofs.Common.{◌≡◌, ℕ, zero, suc, ◌+◌, ◌-◌, ◌<◌, ◌≤◌, List, [], ◌∷◌, ◌++◌, length, Bool, Option, Some, None, refl, sym, ap, ◌∙◌, subst, arith}
use Rattle.yarn_plural.specs.declared.table.PluralTable.{PluralTable}
use Rattle.yarn_markup.specs.declared.marked.Property.{Property}
use Rattle.yarn_markup.specs.declared.tag.Tag.{Tag}
use Rattle.yarn_markup.specs.declared.piece.Piece.{Piece}
use Rattle.yarn_markup.specs.declared.piece.Piece.TheVariants.{Stands}
use Rattle.yarn_markup.specs.Characters.{past_blanks}
use Rattle.yarn_markup.specs.Tags.{Found, property_at, Properties, none, more, Head, End, head_at, end_at, IsTag, Close, close_at}
use Rattle.yarn_markup.specs.Pieces.{Front, Nothing, Character, Bracket, front, kind_of, Step, meaning, closing, IsBracketed, closes, tag, IsPiece, character, bracket, Item, At, Broken, Reads, ends, broken, goes}
use Rattle.yarn_markup.proofs.ReadingLemmas.{property_shorter}
use Rattle.yarn_markup.proofs.TagLemmas.{properties_once, tags_once, tag_of}
use Rattle.yarn_markup.proofs.PieceLemmas.{no_opening, no_piece, same_meaning, pieces_once}
use Rattle.yarn_markup.proofs.LengthLemmas.{piece-shorter}

-- ---- each text has its properties

pub record Has (text : List ℕ) : Type 0 where
  pub further : List Property
  pub behind : List ℕ
  pub goes : Properties text further behind

with_found : (text : List ℕ) (found : Found) → property_at text ≡ Some found → Has found.rest → Has text
with_found text found e has = record { further = found.property ∷ has.further; behind = has.behind; goes = more found e has.goes }

properties_within : (n : ℕ) (text : List ℕ) → length text ≤ n → Has text
properties_within zero [] h = record { further = []; behind = []; goes = none refl }
properties_within zero (c ∷ cs) h = absurd (omega arith)
properties_within (suc n) text h = by_first (property_at text) refl (λ found e. properties_within n found.rest (omega (arith, h, property_shorter text found e)))
  where
    by_first : (o : Option Found) → property_at text ≡ o → ((found : Found) → property_at text ≡ Some found → Has found.rest) → Has text
    by_first None e f = record { further = []; behind = text; goes = none e }
    by_first (Some found) e f = with_found text found e (f found e)

pub properties_of : (text : List ℕ) → Has text
properties_of text = properties_within (length text) text (omega arith)

-- ---- a tag or none

pub data TagOr (text : List ℕ) : Type 0 where
  is_tag : (own : Tag) (lone : Bool) (rest : List ℕ) → IsTag text own lone rest → TagOr text
  is_none : ((own : Tag) (lone : Bool) (rest : List ℕ) → IsTag text own lone rest → ⊥) → TagOr text

no_head : (text : List ℕ) → head_at (past_blanks text) ≡ None → (own : Tag) (lone : Bool) (rest : List ℕ) → IsTag text own lone rest → ⊥
no_head text e own lone rest is = let f = is.begins in absurd (cc (e, f))

no_end : (text : List ℕ) (head : Head) → head_at (past_blanks text) ≡ Some head → (has : Has head.rest) → end_at has.behind ≡ None →
    (own : Tag) (lone : Bool) (rest : List ℕ) → IsTag text own lone rest → ⊥
no_end text head e has none_there own lone rest is =
    let heads : is.head ≡ head = (let f = is.begins in cc (e, f)) in
    let same = properties_once has.goes (subst (λ (h : Head). Properties h.rest is.further is.behind) heads is.goes) in
    let there : end_at has.behind ≡ end_at is.behind = ap end_at same.rest_is in
    let g = is.ends in
    absurd (cc (none_there, there, g))

tag_with : (text : List ℕ) (head : Head) → head_at (past_blanks text) ≡ Some head → (has : Has head.rest) (o : Option End) → end_at has.behind ≡ o → TagOr text
tag_with text head e has None f = is_none (no_end text head e has f)
tag_with text head e has (Some end) f =
    is_tag (tag_of head has.further) end.lone end.rest
    (record { head = head; further = has.further; behind = has.behind; begins = e; goes = has.goes; ends = f; own = refl })

tag_from : (text : List ℕ) (o : Option Head) → head_at (past_blanks text) ≡ o → TagOr text
tag_from text None e = is_none (no_head text e)
tag_from text (Some head) e = let has = properties_of head.rest in tag_with text head e has (end_at has.behind) refl

-- ---- a piece or none

pub data BracketOr (plural : PluralTable) (inside : List ℕ) : Type 0 where
  is_bracket : (piece : Piece) (rest : List ℕ) → IsBracketed plural inside piece rest → BracketOr plural inside
  no_bracket : ((piece : Piece) (rest : List ℕ) → IsBracketed plural inside piece rest → ⊥) → BracketOr plural inside

no_meaning : (plural : PluralTable) (inside : List ℕ) → close_at inside ≡ None → (own : Tag) (lone : Bool) (behind : List ℕ) → IsTag inside own lone behind →
    meaning plural (kind_of own.name) own lone behind ≡ None → (piece : Piece) (rest : List ℕ) → IsBracketed plural inside piece rest → ⊥
no_meaning plural inside n own lone behind is m piece rest (closes close e) = absurd cc
no_meaning plural inside n own lone behind is m piece rest (tag other one later step k its j) =
    let same = same_meaning plural own other lone one behind later (tags_once is its) in
    absurd (cc (same, m, j))

bracket_with : (plural : PluralTable) (inside : List ℕ) → close_at inside ≡ None → (own : Tag) (lone : Bool) (behind : List ℕ) → IsTag inside own lone behind →
    (o : Option Step) → meaning plural (kind_of own.name) own lone behind ≡ o → BracketOr plural inside
bracket_with plural inside n own lone behind is None m = no_bracket (no_meaning plural inside n own lone behind is m)
bracket_with plural inside n own lone behind is (Some step) m = is_bracket step.piece step.rest (tag own lone behind step n is m)

bracket_tag : (plural : PluralTable) (inside : List ℕ) → close_at inside ≡ None → TagOr inside → BracketOr plural inside
bracket_tag plural inside n (is_tag own lone rest is) = bracket_with plural inside n own lone rest is (meaning plural (kind_of own.name) own lone rest) refl
bracket_tag plural inside n (is_none none_there) = no_bracket (no_opening plural inside n none_there)

bracket_from : (plural : PluralTable) (inside : List ℕ) (o : Option Close) → close_at inside ≡ o → BracketOr plural inside
bracket_from plural inside (Some close) e = is_bracket (closing close.name) close.rest (closes close e)
bracket_from plural inside None e = bracket_tag plural inside e (tag_from inside (head_at (past_blanks inside)) refl)

pub data PieceOr (plural : PluralTable) (text : List ℕ) : Type 0 where
  is_piece : (piece : Piece) (rest : List ℕ) → IsPiece plural text piece rest → PieceOr plural text
  not_piece : ((piece : Piece) (rest : List ℕ) → IsPiece plural text piece rest → ⊥) → PieceOr plural text

no_bracketed : (plural : PluralTable) (text inside : List ℕ) → front text ≡ Bracket inside → ((piece : Piece) (rest : List ℕ) → IsBracketed plural inside piece rest → ⊥) →
    (piece : Piece) (rest : List ℕ) → IsPiece plural text piece rest → ⊥
no_bracketed plural text inside e nothing piece rest (character c behind f) = absurd cc
no_bracketed plural text inside e nothing piece rest (bracket other own after f is) =
    let same : other ≡ inside = cc in
    nothing own after (subst (λ (x : List ℕ). IsBracketed plural x own after) same is)

piece_bracket : (plural : PluralTable) (text inside : List ℕ) → front text ≡ Bracket inside → BracketOr plural inside → PieceOr plural text
piece_bracket plural text inside e (is_bracket piece rest is) = is_piece piece rest (bracket inside piece rest e is)
piece_bracket plural text inside e (no_bracket nothing) = not_piece (no_bracketed plural text inside e nothing)

piece_from : (plural : PluralTable) (text : List ℕ) (f : Front) → front text ≡ f → PieceOr plural text
piece_from plural text Nothing e = not_piece (no_piece plural text e)
piece_from plural text (Character c rest) e = is_piece (Stands c) rest (character c rest e)
piece_from plural text (Bracket inside) e = piece_bracket plural text inside e (bracket_from plural inside (close_at inside) refl)

-- ---- each text has its items

pub record HasItems (plural : PluralTable) (at : ℕ) (text : List ℕ) : Type 0 where
  pub items : List Item
  pub read : Reads plural at text items

items_with : (plural : PluralTable) (at c : ℕ) (cs : List ℕ) → PieceOr plural (c ∷ cs) →
    ((piece : Piece) (rest : List ℕ) → IsPiece plural (c ∷ cs) piece rest → HasItems plural (at + (length (c ∷ cs) - length rest)) rest) → HasItems plural at (c ∷ cs)
items_with plural at c cs (is_piece piece rest is) f =
    let has = f piece rest is in
    record { items = At at piece ∷ has.items; read = goes piece rest is has.read }
items_with plural at c cs (not_piece nothing) f = record { items = Broken at ∷ []; read = broken (omega arith) nothing }

items_within : (plural : PluralTable) (n at : ℕ) (text : List ℕ) → length text ≤ n → HasItems plural at text
items_within plural n at [] h = record { items = []; read = ends refl }
items_within plural zero at (c ∷ cs) h = absurd (omega arith)
items_within plural (suc n) at (c ∷ cs) h =
    items_with plural at c cs (piece_from plural (c ∷ cs) (front (c ∷ cs)) refl)
    (λ piece rest is. items_within plural n (at + (length (c ∷ cs) - length rest)) rest (omega (arith, h, piece-shorter plural (c ∷ cs) piece rest is)))

pub items_of : (plural : PluralTable) (at : ℕ) (text : List ℕ) → HasItems plural at text
items_of plural at text = items_within plural (length text) at text (omega arith)

-- ---- and has them once

nothing_there : (plural : PluralTable) (text : List ℕ) (piece : Piece) (rest : List ℕ) → text ≡ [] → IsPiece plural text piece rest → ⊥
nothing_there plural text piece rest e is = absurd (omega (arith, ap length e, piece-shorter plural text piece rest is))

pub items_once : (plural : PluralTable) (at : ℕ) (text : List ℕ) (a b : List Item) → Reads plural at text a → Reads plural at text b → a ≡ b
items_once plural at text a b (ends e) (ends f) = refl
items_once plural at text a b (ends e) (broken some nothing) = absurd (omega (arith, ap length e, some))
items_once plural at text a b (ends e) (goes piece rest is further) = absurd (nothing_there plural text piece rest e is)
items_once plural at text a b (broken some nothing) (ends e) = absurd (omega (arith, ap length e, some))
items_once plural at text a b (broken some nothing) (broken other none_there) = refl
items_once plural at text a b (broken some nothing) (goes piece rest is further) = absurd (nothing piece rest is)
items_once plural at text a b (goes piece rest is further) (ends e) = absurd (nothing_there plural text piece rest e is)
items_once plural at text a b (goes piece rest is further) (broken some nothing) = absurd (nothing piece rest is)
items_once plural at text a b (goes {items = xs} piece rest is further) (goes {items = ys} other behind its going) =
    let same = pieces_once plural text piece other rest behind is its in
    let back : Reads plural (at + (length text - length rest)) rest ys =
    subst (λ (r : List ℕ). Reads plural (at + (length text - length r)) r ys) (sym same.rest_is) going in
    ap (λ (p : Piece). At at p ∷ xs) same.own ∙ ap (λ (l : List Item). At at other ∷ l) (items_once plural (at + (length text - length rest)) rest xs ys further back)
