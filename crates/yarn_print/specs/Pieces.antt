-- How a text is written part by part.
use Rattle.std.specs.Prelude.{ℕ, ◌+◌, List, [], ◌∷◌, Bool, true, false, not, ◌&&◌, nat_eq, if◌then◌else◌}
use Rattle.std.specs.List.{flat_map}
use Rattle.yarn_expr.specs.declared.tree.Expr.{Expr}
use Rattle.yarn_print.specs.declared.texts.Spelling.{Spelling}
use Rattle.yarn_print.specs.declared.texts.Spelling.TheVariants as spelling
use Rattle.yarn_print.specs.Print.{is_marked, spelled, hole_printed, text_printed, game_printed}

-- a text in its spelling
abbrev pub printed : Spelling → Bool → List ℕ → List Expr → List ℕ
printed spelling.Text in_hole text es = text_printed in_hole text es
printed spelling.Game in_hole text es = game_printed in_hole text es

-- a text without substitutions
abbrev pub printed_text : List ℕ → List ℕ
printed_text text = flat_map spelled text

abbrev pub written : Spelling → List ℕ → List ℕ
written spelling.Text text = printed_text text
written spelling.Game text = text

-- how many bytes stand before the first that needs a `\`
abbrev pub plain_length : List ℕ → ℕ
plain_length [] = 0
plain_length (b ∷ bytes) = if is_marked b then 0 else plain_length bytes + 1

-- a byte that needs a `\`, or bytes of which none does
abbrev pub part_text : Bool → List ℕ → List ℕ
part_text marked part = if marked then 92 ∷ part else part

-- a substitution begins with a `{` that something follows, where the byte before doesn't take the `{` with it
abbrev pub begins_hole : Bool → List ℕ → Bool
begins_hole true text = false
begins_hole false (b ∷ c ∷ bytes) = nat_eq b 123
begins_hole false text = false

-- a `\` takes the next byte with it
abbrev pub skips_behind : Bool → ℕ → Bool
skips_behind skips b = not skips && nat_eq b 92

-- how many bytes stand before the first substitution, where the byte before these takes the first of them with it or doesn't
abbrev pub length_to_hole : Bool → List ℕ → ℕ
length_to_hole skips [] = 0
length_to_hole skips (b ∷ bytes) = if begins_hole skips (b ∷ bytes) then 0 else length_to_hole (skips_behind skips b) bytes + 1

-- what stands behind the first `}`
abbrev pub past_brace : List ℕ → List ℕ
past_brace [] = []
past_brace (b ∷ bytes) = if nat_eq b 125 then bytes else past_brace bytes

-- the expression of the substitution that begins there
abbrev pub hole_if : Expr → List ℕ → List ℕ
hole_if e [] = []
hole_if e (b ∷ bytes) = hole_printed e
