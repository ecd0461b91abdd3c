-- Pieces: a text begins with one piece at most, and what is found is that piece.
use Rattle.std.proofs.Common.{◌≡◌, ℕ, ◌+◌, ◌-◌, ◌<◌, ◌≤◌, List, [], ◌∷◌, length, take, drop, Bool, true, false, cond, nat_eq, Option, Some, None, refl, sym, ap, ◌∙◌, subst, arith, length-drop}
use Rattle.yarn_base.specs.Name.{is_name_of}
use Rattle.yarn_plural.specs.declared.table.PluralTable.{PluralTable}
use Rattle.yarn_plural.specs.declared.table.Form.{Form}
use Rattle.yarn_markup.specs.declared.marked.Property.{Property}
use Rattle.yarn_markup.specs.declared.tag.Tag.{Tag}
use Rattle.yarn_markup.specs.declared.tag.TagRead.{TagRead}
use Rattle.yarn_markup.specs.declared.kind.Kind.{Kind}
use Rattle.yarn_markup.specs.declared.piece.Piece.{Piece}
use Rattle.yarn_markup.specs.declared.piece.PieceRead.{PieceRead}
use Rattle.yarn_markup.specs.declared.piece.Piece.TheVariants.{Stands}
use Rattle.yarn_markup.specs.Tags.{Close, close_at, IsTag}
use Rattle.yarn_markup.specs.Pieces.{Front, Nothing, Character, Bracket, front, kind_of, Step, meaning, closing, IsBracketed, closes, tag, IsPiece, character, bracket}
use Rattle.yarn_markup.specs.Steps.{IsMeaningAnswer, IsBracketAnswer, IsPieceAnswer}
use Rattle.yarn_markup.proofs.TagLemmas.{SameTag, tags_once}

-- ---- what is found

pub no_opening : (plural : PluralTable) (inside : List ℕ) → close_at inside ≡ None →
    ((own : Tag) (lone : Bool) (rest : List ℕ) → IsTag inside own lone rest → ⊥) →
    (piece : Piece) (rest : List ℕ) → IsBracketed plural inside piece rest → ⊥
no_opening plural inside open_tag nothing piece rest (closes close e) = absurd cc
no_opening plural inside open_tag nothing piece rest (tag own lone behind step n is m) = nothing own lone behind is

-- a tag that is the same has the same meaning
pub same_meaning : (plural : PluralTable) (a b : Tag) (lone one : Bool) (rest behind : List ℕ) → SameTag a b lone one rest behind →
    meaning plural (kind_of a.name) a lone rest ≡ meaning plural (kind_of b.name) b one behind
same_meaning plural a b lone one rest behind same =
    ap (λ (t : Tag). meaning plural (kind_of t.name) t lone rest) same.own
    ∙ ap (λ (l : Bool). meaning plural (kind_of b.name) b l rest) same.lone_is
    ∙ ap (λ (r : List ℕ). meaning plural (kind_of b.name) b one r) same.rest_is

pub bracket_of_meaning : (plural : PluralTable) (inside : List ℕ) → close_at inside ≡ None →
    (read : TagRead) → IsTag inside read.tag read.lone read.rest.now → (found : Option PieceRead) →
    IsMeaningAnswer plural read found → IsBracketAnswer plural inside found
bracket_of_meaning plural inside open_tag read is None nothing = λ piece rest other. no_meaning piece rest other
  where
    no_meaning : (piece : Piece) (rest : List ℕ) → IsBracketed plural inside piece rest → ⊥
    no_meaning piece rest (closes close e) = absurd cc
    no_meaning piece rest (tag own lone behind step n its m) =
        let same = same_meaning plural read.tag own read.lone lone read.rest.now behind (tags_once is its) in
        absurd (cc (same, nothing, m))
bracket_of_meaning plural inside open_tag read is (Some found) e =
    tag read.tag read.lone read.rest.now (record { piece = found.piece; rest = found.rest.now }) open_tag is e

pub piece_of_bracket : (plural : PluralTable) (text inside : List ℕ) → front text ≡ Bracket inside → (found : Option PieceRead) →
    IsBracketAnswer plural inside found → IsPieceAnswer plural text found
piece_of_bracket plural text inside at None nothing = λ piece rest is. no_bracket piece rest is
  where
    no_bracket : (piece : Piece) (rest : List ℕ) → IsPiece plural text piece rest → ⊥
    no_bracket piece rest (character c behind e) = absurd cc
    no_bracket piece rest (bracket other own after e is) =
        let same : other ≡ inside = cc in
        nothing own after (subst (λ (x : List ℕ). IsBracketed plural x own after) same is)
piece_of_bracket plural text inside at (Some read) is = bracket inside read.piece read.rest.now at is

pub no_piece : (plural : PluralTable) (text : List ℕ) → front text ≡ Nothing → (piece : Piece) (rest : List ℕ) → IsPiece plural text piece rest → ⊥
no_piece plural text at piece rest (character c behind e) = absurd cc
no_piece plural text at piece rest (bracket inside own after e is) = absurd cc

-- ---- one piece

pub record SamePiece (a b : Piece) (rest behind : List ℕ) : Type 0 where
  pub own : a ≡ b
  pub rest_is : rest ≡ behind

same_close : (a b : Close) → a ≡ b → SamePiece (closing a.name) (closing b.name) a.rest b.rest
same_close a b e = record { own = ap (λ (x : Close). closing x.name) e; rest_is = ap (λ (x : Close). x.rest) e }

same_step : (a b : Step) → a ≡ b → SamePiece a.piece b.piece a.rest b.rest
same_step a b e = record { own = ap (λ (x : Step). x.piece) e; rest_is = ap (λ (x : Step). x.rest) e }

brackets_once : (plural : PluralTable) (inside : List ℕ) (a b : Piece) (rest behind : List ℕ) →
    IsBracketed plural inside a rest → IsBracketed plural inside b behind → SamePiece a b rest behind
brackets_once plural inside a b rest behind (closes one e) (closes two f) = let same : one ≡ two = cc in same_close one two same
brackets_once plural inside a b rest behind (closes one e) (tag own lone after step n is m) = absurd cc
brackets_once plural inside a b rest behind (tag own lone after step n is m) (closes two f) = absurd cc
brackets_once plural inside a b rest behind (tag own lone after step n is m) (tag other one later next k its j) =
    let e = same_meaning plural own other lone one after later (tags_once is its) in
    let same : step ≡ next = cc (e, m, j) in
    same_step step next same

pub pieces_once : (plural : PluralTable) (text : List ℕ) (a b : Piece) (rest behind : List ℕ) →
    IsPiece plural text a rest → IsPiece plural text b behind → SamePiece a b rest behind
pieces_once plural text a b rest behind (character c after e) (character d later f) =
    let same : c ≡ d = cc in
    let left : after ≡ later = cc in
    record { own = ap Stands same; rest_is = left }
pieces_once plural text a b rest behind (character c after e) (bracket inside own later f is) = absurd cc
pieces_once plural text a b rest behind (bracket inside own after e is) (character d later f) = absurd cc
pieces_once plural text a b rest behind (bracket inside own after e is) (bracket other one later f its) =
    let same : inside ≡ other = cc in
    brackets_once plural other own one after later (subst (λ (x : List ℕ). IsBracketed plural x own after) same is) its
