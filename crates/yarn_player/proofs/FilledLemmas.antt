-- What filling a text gives back, where no value is put in.
use Rattle.std.proofs.Common.{◌≡◌, ℕ, suc, List, [], ◌∷◌, map, length, Bool, true, false, nat_eq, nat_le, ◌||◌, ◌&&◌, Option, Some, None, is_some, refl, sym, ap, ◌∙◌, arith}
use Rattle.std.proofs.lemmas.Bool.{false≢true}
use Rattle.memchr.specs.Find.{Passes, Nowhere, IsFirstByte, is_byte2}
use Rattle.yarn_value.specs.declared.value.Value.{Value}
use Rattle.yarn_value.specs.Templates.{Stands, Part, Plain, part_of, before, marks, placeholders, size, limited, template_of, template_found, expanded}
use Rattle.yarn_meaning.specs.Filled.{of_parts, filled}

-- none of the bytes is a backslash or `{`
abbrev pub IsPlain : List ℕ → Type 0
IsPlain text = Nowhere (Passes (is_byte2 92 123) text) 0 (length text)

later_plain : (b : ℕ) (bs : List ℕ) → IsPlain (b ∷ bs) → IsPlain bs
later_plain b bs plain = λ k low high passes. plain (suc k) (omega arith) (omega arith) passes

by_tests : (holes b : ℕ) (bs : List ℕ) (slash brace : Bool) → nat_eq b 92 ≡ slash → nat_eq b 123 ≡ brace → (slash || brace ≡ true → ⊥) →
    marks holes Plain (b ∷ bs) ≡ before (Stands b) (marks holes Plain bs)
by_tests holes b bs true brace e f never = absurd (never refl)
by_tests holes b bs false true e f never = absurd (never refl)
by_tests holes b bs false false e f never = rw (e, f) refl

-- each byte stands for itself
all_stand : (holes : ℕ) (text : List ℕ) → IsPlain text → marks holes Plain text ≡ Some (map Stands text)
all_stand holes [] plain = refl
all_stand holes (b ∷ bs) plain =
    by_tests holes b bs (nat_eq b 92) (nat_eq b 123) refl refl (λ is. plain 0 (omega arith) (omega arith) is)
    ∙ ap (before (Stands b)) (all_stand holes bs (later_plain b bs plain))

given_back : (text : List ℕ) (values : List Value) → expanded (map part_of (map Stands text)) values ≡ text
given_back [] values = refl
given_back (b ∷ bs) values = ap (λ l. b ∷ l) (given_back bs values)

-- within the limits or not
within_or_not : (text : List ℕ) (values : List Value) (within : Bool) → nat_le (placeholders (map Stands text)) 64 && nat_le (size (map Stands text)) 65536 ≡ within →
    of_parts (limited (map Stands text)) text values ≡ text
within_or_not text values true e = rw e (given_back text values)
within_or_not text values false e = rw e refl

plain_stays : (text : List ℕ) (values : List Value) → IsPlain text → filled text values ≡ text
unfolding filled
plain_stays text values plain =
    ap (λ found. of_parts (template_found found) text values) (all_stand (length values) text plain)
    ∙ within_or_not text values (nat_le (placeholders (map Stands text)) 64 && nat_le (size (map Stands text)) 65536) refl

-- a text in which neither a backslash nor `{` is found stays as it is
pub none_found : (text : List ℕ) (values : List Value) (found : Option ℕ) → IsFirstByte (is_byte2 92 123) text found → is_some found ≡ false → filled text values ≡ text
none_found text values None first none = plain_stays text values first
none_found text values (Some at) first none = absurd (false≢true (sym none))

-- a text is filled by the parts of the template that it is
pub by_template : (text : List ℕ) (values : List Value) (holes : ℕ) (parts : List Part) → holes ≡ length values → template_of text holes ≡ Some parts →
    filled text values ≡ expanded parts values
unfolding filled
by_template text values holes parts e f = rw (sym e) (ap (λ found. of_parts found text values) f)

-- a text that is no template stays as it is
pub no_template : (text : List ℕ) (values : List Value) (holes : ℕ) → holes ≡ length values → template_of text holes ≡ None → filled text values ≡ text
unfolding filled
no_template text values holes e f = rw (sym e) (ap (λ found. of_parts found text values) f)
