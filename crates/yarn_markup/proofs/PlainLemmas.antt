-- A text without `[`, `\` and `:` is its own plain text.
use Rattle.std.proofs.Common.{◌≡◌, ℕ, zero, suc, ◌+◌, ◌-◌, ◌<◌, ◌≤◌, List, [], ◌∷◌, ◌++◌, length, take, drop, Bool, true, false, not, cond, nat_eq, ◌||◌, ◌&&◌, Option, Some, None, Ok, IsUtf8, refl, sym, ap, ◌∙◌, subst, arith, encode_utf8, encode_utf8_all}
use Rattle.std.specs.Str.{chars}
use Rattle.std.specs.List.{list_all}
use Rattle.std.proofs.lemmas.Str.{encodes-chars, length-le-encodes}
use Rattle.std.proofs.lemmas.Bool.Decides.{nat_tests}
use Rattle.yarn_plural.specs.declared.table.PluralTable.{PluralTable}
use Rattle.yarn_markup.specs.declared.marked.Attribute.{Attribute}
use Rattle.yarn_markup.specs.declared.piece.Piece.TheVariants.{Stands}
use Rattle.yarn_markup.specs.Characters.{run_length}
use Rattle.yarn_markup.specs.Plain.{is_ordinary}
use Rattle.yarn_markup.specs.Pieces.{Character, Bracket, behind_backslash, front, character, Item, At, Reads, ends, goes}
use Rattle.yarn_markup.specs.Attributes.{plain_text, attributes, fault, is_speaker, begins_blank, past_colon, character_with, character_of, character_at}
use Rattle.yarn_markup.specs.Markup.{IsMarkup}

all_stand : ℕ → List ℕ → List Item
all_stand at [] = []
all_stand at (c ∷ cs) = At at (Stands c) ∷ all_stand (at + 1) cs

and_first : (a b : Bool) → (a && b) ≡ true → a ≡ true
and_first true b e = refl
and_first false b e = e

and_rest : (a b : Bool) → (a && b) ≡ true → b ≡ true
and_rest true b e = e
and_rest false b e = absurd cc

-- ordinary characters stand for themselves
ordinary_front : (c : ℕ) (cs : List ℕ) → is_ordinary c ≡ true → front (c ∷ cs) ≡ Character c cs
ordinary_front c cs e = by_tests (nat_eq c 92) (nat_eq c 91) (not_backslash c e) (not_bracket c e)
  where
    not_backslash : (c : ℕ) → is_ordinary c ≡ true → nat_eq c 92 ≡ false
    not_backslash c e = grind (arith, nat_tests)

    not_bracket : (c : ℕ) → is_ordinary c ≡ true → nat_eq c 91 ≡ false
    not_bracket c e = grind (arith, nat_tests)

    by_tests : (a b : Bool) → a ≡ false → b ≡ false → cond a (behind_backslash cs) (cond b (Bracket cs) (Character c cs)) ≡ Character c cs
    by_tests true b e f = absurd cc
    by_tests false true e f = absurd cc
    by_tests false false e f = refl

one_place : (at n : ℕ) → at + 1 ≡ at + (suc n - n)
one_place at n = omega arith

all_read : (plural : PluralTable) (at : ℕ) (cs : List ℕ) → list_all is_ordinary cs ≡ true → Reads plural at cs (all_stand at cs)
unfolding all_stand
all_read plural at [] e = ends refl
all_read plural at (c ∷ cs) e =
    goes (Stands c) cs (character c cs (ordinary_front c cs (and_first (is_ordinary c) (list_all is_ordinary cs) e)))
    (subst (λ (n : ℕ). Reads plural n cs (all_stand (at + 1) cs)) (one_place at (length cs)) (all_read plural (at + 1) cs (and_rest (is_ordinary c) (list_all is_ordinary cs) e)))

all_shown : (at : ℕ) (cs : List ℕ) → plain_text (all_stand at cs) ≡ encode_utf8_all cs
unfolding all_stand
all_shown at [] = refl
all_shown at (c ∷ cs) = ap (λ (l : List ℕ). encode_utf8 c ++ l) (all_shown (at + 1) cs)

no_attributes : (at now : ℕ) (cs : List ℕ) → attributes now (all_stand at cs) ≡ []
unfolding all_stand
no_attributes at now [] = refl
no_attributes at now (c ∷ cs) = no_attributes (at + 1) (now + 1) cs

no_fault : (at : ℕ) (cs : List ℕ) → fault [] (all_stand at cs) ≡ None
unfolding all_stand
no_fault at [] = refl
no_fault at (c ∷ cs) = no_fault (at + 1) cs

-- no name stands before a colon
later_ordinary : (n : ℕ) (cs : List ℕ) → list_all is_ordinary cs ≡ true → list_all is_ordinary (drop n cs) ≡ true
later_ordinary zero cs e = e
later_ordinary (suc n) [] e = e
later_ordinary (suc n) (c ∷ cs) e = later_ordinary n cs (and_rest (is_ordinary c) (list_all is_ordinary cs) e)

no_colon : (cs : List ℕ) → list_all is_ordinary cs ≡ true → past_colon cs ≡ None
no_colon [] e = refl
no_colon (c ∷ cs) e = by_first (nat_eq c 58) (not_colon c (and_first (is_ordinary c) (list_all is_ordinary cs) e))
  where
    not_colon : (c : ℕ) → is_ordinary c ≡ true → nat_eq c 58 ≡ false
    not_colon c e = grind (arith, nat_tests)

    by_first : (b : Bool) → b ≡ false → cond (b && begins_blank cs) (Some cs) None ≡ None
    by_first true h = absurd cc
    by_first false h = refl

no_character : (cs : List ℕ) → list_all is_ordinary cs ≡ true → character_at cs ≡ []
no_character cs e =
    let n : ℕ = run_length is_speaker cs in
    by_first (nat_eq n 0) (take n cs) (past_colon (drop n cs)) (no_colon (drop n cs) (later_ordinary n cs e))
  where
    by_first : (b : Bool) (name : List ℕ) (o : Option (List ℕ)) → o ≡ None → cond b [] (character_with name o) ≡ []
    by_first true name o h = refl
    by_first false name o h = ap (character_with name) h

pub plain_markup : (plural : PluralTable) (text plain : List ℕ) (none : List Attribute) → IsUtf8 text → list_all is_ordinary (chars text) ≡ true → plain ≡ text → none ≡ [] →
    IsMarkup plural (chars text) (record { plain = plain; attributes = none })
plain_markup plural text plain none utf8 e same empty = record {
  items = all_stand 0 (chars text);
  read = all_read plural 0 (chars text) e;
  sound = no_fault 0 (chars text);
  plain = same ∙ sym (encodes-chars text utf8) ∙ sym (all_shown 0 (chars text));
  listed = empty ∙ sym (ap (λ (l : List Attribute). l ++ attributes 0 (all_stand 0 (chars text))) (no_character (chars text) e) ∙ no_attributes 0 0 (chars text));
}

-- a text has no more characters than bytes
pub chars-short : (text : List ℕ) → IsUtf8 text → length (chars text) ≤ length text
chars-short text utf8 = subst (λ (l : List ℕ). length (chars text) ≤ length l) (encodes-chars text utf8) (length-le-encodes (chars text))
