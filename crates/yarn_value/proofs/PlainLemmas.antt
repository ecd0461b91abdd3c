-- A text without backslashes and `{` is a template of its own bytes.
use Rattle.std.proofs.Common.{◌≡◌, ℕ, suc, ◌+◌, ◌<◌, ◌≤◌, List, [], ◌∷◌, ◌++◌, map, length, Bool, true, false, not, ◌||◌, ◌&&◌, nat_eq, nat_le, Option, Some, None, refl, sym, ap, ◌∙◌, arith, append-nil}
use Rattle.std.specs.List.{list_all}
use Rattle.std.proofs.lemmas.Bool.{le-leb, lt-leb}
use Rattle.yarn_value.specs.declared.template.Piece.{Piece}
use Rattle.yarn_value.specs.declared.template.Piece.TheVariants as piece
use Rattle.yarn_value.specs.Pieces.{parts_of}
use Rattle.yarn_value.specs.Templates.{Mark, Stands, Plain, Part, Byte, before, marks, placeholders, size, part_of, limited, template_found, template_of}
use Rattle.yarn_value.specs.TemplateReading.{is_plain}

abbrev all_stand : List ℕ → List Mark
all_stand bytes = map Stands bytes

-- where each byte stands for itself
plain-step : (holes b : ℕ) (bytes : List ℕ) (x y : Bool) → nat_eq b 92 ≡ x → nat_eq b 123 ≡ y → not (x || y) ≡ true →
    marks holes Plain (b ∷ bytes) ≡ before (Stands b) (marks holes Plain bytes)
plain-step holes b bytes false false x y e = rw (x, y) refl
plain-step holes b bytes false true x y e = absurd cc
plain-step holes b bytes true y x z e = absurd cc

and-first : (a b : Bool) → (a && b) ≡ true → a ≡ true
and-first true b e = refl
and-first false b e = e

and-rest : (a b : Bool) → (a && b) ≡ true → b ≡ true
and-rest true b e = e
and-rest false b e = absurd cc

plain-marks : (holes : ℕ) (bytes : List ℕ) → list_all is_plain bytes ≡ true → marks holes Plain bytes ≡ Some (all_stand bytes)
plain-marks holes [] e = refl
plain-marks holes (b ∷ bytes) e =
    plain-step holes b bytes (nat_eq b 92) (nat_eq b 123) refl refl (and-first (is_plain b) (list_all is_plain bytes) e)
    ∙ ap (before (Stands b)) (plain-marks holes bytes (and-rest (is_plain b) (list_all is_plain bytes) e))

stand-size : (bytes : List ℕ) → size (all_stand bytes) ≡ length bytes
stand-size [] = refl
stand-size (b ∷ bytes) = let later = stand-size bytes in omega (arith, later)

stand-placeholders : (bytes : List ℕ) → placeholders (all_stand bytes) ≡ 0
stand-placeholders [] = refl
stand-placeholders (b ∷ bytes) = stand-placeholders bytes

stand-parts : (bytes : List ℕ) → map part_of (all_stand bytes) ≡ map Byte bytes
stand-parts [] = refl
stand-parts (b ∷ bytes) = ap (λ (l : List Part). Byte b ∷ l) (stand-parts bytes)

plain-limited : (holes : ℕ) (bytes : List ℕ) → list_all is_plain bytes ≡ true → template_of bytes holes ≡ limited (all_stand bytes)
plain-limited holes bytes e = ap template_found (plain-marks holes bytes e)

limit : (bytes : List ℕ) (fits : Bool) → nat_le (length bytes) 65536 ≡ fits →
    (nat_le (placeholders (all_stand bytes)) 64 && nat_le (size (all_stand bytes)) 65536) ≡ fits
limit bytes fits e = rw (stand-placeholders bytes, stand-size bytes) e

pub plain_read : (holes : ℕ) (text copy : List ℕ) (pieces : List Piece) (parts : List Part) → list_all is_plain text ≡ true → length text ≤ 65536 →
    copy ≡ text → pieces ≡ piece.Run copy ∷ [] → parts ≡ parts_of pieces → template_of text holes ≡ Some parts
plain_read holes text copy pieces parts plain le same is read =
    let within = limit text true (le-leb (length text) 65536 le) in
    let own : parts ≡ map Byte text = read ∙ ap parts_of is ∙ append-nil (map Byte copy) ∙ ap (map Byte) same in
    plain-limited holes text plain ∙ rw within (ap (λ (l : List Part). Some l) (stand-parts text ∙ sym own))

pub plain_long : (holes : ℕ) (text : List ℕ) → list_all is_plain text ≡ true → 65536 < length text → template_of text holes ≡ None
plain_long holes text plain lt =
    let beyond = limit text false (lt-leb (length text) 65536 lt) in
    plain-limited holes text plain ∙ rw beyond refl
