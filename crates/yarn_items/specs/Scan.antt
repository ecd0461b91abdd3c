-- The pieces of a text, read once from the left (docs/language.md, Texts and Texts and commands).
use Rattle.std.specs.Prelude.{ℕ, zero, suc, List, [], ◌∷◌, length, if◌then◌else◌, nat_eq, Option, Some, None}
use Rattle.yarn_items.specs.declared.brace.Place.TheVariants.{Outside}
use Rattle.yarn_items.specs.declared.first.Kind.{Kind}
use Rattle.yarn_items.specs.declared.first.Kind.TheVariants.{Line, Game}
use Rattle.yarn_items.specs.Brace.{Cut, to_brace}
use Rattle.yarn_items.specs.Text.{Piece, Char, Pair, Hole, begins_pair, begins_other}

-- the piece at the front, and what follows it; or the text ends there; or a substitution begins there that has no end
pub data Front : Type 0 where
  Begins : Piece → List ℕ → Front
  Ends : Front
  Broken : Front

abbrev pub hole_front : Option Cut → Front
hole_front None = Broken
hole_front (Some cut) = Begins (Hole cut.inside) cut.rest

-- behind the `\` of a pair
abbrev pub pair_front : List ℕ → Front
pair_front [] = Begins (Char 92) []
pair_front (c ∷ bytes) = Begins (Pair c) bytes

abbrev pub front_of : Kind → List ℕ → Front
front_of _ [] = Ends
front_of Line (b ∷ bytes) =
    if begins_pair (b ∷ bytes) then pair_front bytes
    else if nat_eq b 123 then hole_front (to_brace Outside bytes)
    else if begins_other (b ∷ bytes) then Ends
    else Begins (Char b) bytes
front_of Game (b ∷ bytes) =
    if nat_eq b 92 then pair_front bytes
    else if nat_eq b 123 then hole_front (to_brace Outside bytes)
    else Begins (Char b) bytes

-- the pieces up to an end, and what follows them
pub record Scan : Type 0 where
  pub pieces : List Piece
  pub rest : List ℕ

abbrev pub with_piece : Piece → Option Scan → Option Scan
with_piece piece None = None
with_piece piece (Some later) = Some (record { pieces = piece ∷ later.pieces; rest = later.rest })

-- that front and the pieces behind it, which are read that way
abbrev pub go_on : (List ℕ → Option Scan) → List ℕ → Front → Option Scan
go_on later bytes (Begins piece rest) = with_piece piece (later rest)
go_on later bytes Ends = Some (record { pieces = []; rest = bytes })
go_on later bytes Broken = None

-- the pieces of no more than so many bytes
abbrev pub scan_within : ℕ → Kind → List ℕ → Option Scan
scan_within zero kind bytes = Some (record { pieces = []; rest = bytes })
scan_within (suc n) kind bytes = go_on (λ rest. scan_within n kind rest) bytes (front_of kind bytes)

-- none where a substitution has no end
unfoldable pub scan : Kind → List ℕ → Option Scan
scan kind bytes = scan_within (length bytes) kind bytes
