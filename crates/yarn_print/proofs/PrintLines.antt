-- Lines that are printed: blanks, and a text without an end of a line and without blanks around it, so that what is read of
-- each is that text and as much indent.
use Rattle.std.proofs.Common.{◌≡◌, ℕ, zero, suc, List, [], ◌∷◌, ◌++◌, Bool, true, false, not, nat_eq, codes, refl, sym, ap, ◌∙◌, subst, arith}
use Rattle.std.specs.List.{list_any, list_all}
use Rattle.std.proofs.lemmas.Bool.{true≢false, not-true, not_from_false, or_parts, or_from, and_right}
use Rattle.std.proofs.lemmas.List.Folds.{list_any-append}
use Rattle.yarn_lines.specs.Lines.{is_blank, begins_with, without_cr, past_leading, without_trailing, leading, width, content, indent_of, text_of, counts}
use Rattle.yarn_items.specs.Text.{trimmed}
use Rattle.yarn_items.specs.Item.{is_cr}
use Rattle.yarn_print.specs.Print.{blanks}

-- an LF
abbrev pub is_lf : ℕ → Bool
is_lf b = nat_eq b 10

-- none of the bytes passes the test
abbrev pub IsFree : (ℕ → Bool) → List ℕ → Type 0
IsFree test bytes = list_any test bytes ≡ false

pub free-append : (test : ℕ → Bool) (front back : List ℕ) → IsFree test front → IsFree test back → IsFree test (front ++ back)
free-append test front back one two = list_any-append test front back ∙ or_from (list_any test front) (list_any test back) one two

pub free-parts : (test : ℕ → Bool) (front back : List ℕ) → IsFree test (front ++ back) → IsFree test front × IsFree test back
free-parts test front back whole = or_parts (list_any test front) (list_any test back) (sym (list_any-append test front back) ∙ whole)

pub free-tail : (test : ℕ → Bool) (b : ℕ) (bytes : List ℕ) → IsFree test (b ∷ bytes) → IsFree test bytes
free-tail test b bytes whole = (or_parts (test b) (list_any test bytes) whole).1

free-past_leading : (test : ℕ → Bool) (bytes : List ℕ) → IsFree test bytes → IsFree test (past_leading bytes)
free-past_leading test [] whole = refl
free-past_leading test (b ∷ bytes) whole = by_test (free-past_leading test bytes) (is_blank b) refl
  where
    by_test : (IsFree test bytes → IsFree test (past_leading bytes)) → (t : Bool) → is_blank b ≡ t → IsFree test (past_leading (b ∷ bytes))
    by_test later true t = rw t (later (free-tail test b bytes whole))
    by_test later false t = rw t whole

free-without_trailing : (test : ℕ → Bool) (bytes : List ℕ) → IsFree test bytes → IsFree test (without_trailing bytes)
free-without_trailing test [] whole = refl
free-without_trailing test (b ∷ bytes) whole = by_test (free-without_trailing test bytes) (list_all is_blank (b ∷ bytes)) refl
  where
    parts : (test b ≡ false) × IsFree test bytes
    parts = or_parts (test b) (list_any test bytes) whole

    by_test : (IsFree test bytes → IsFree test (without_trailing bytes)) → (t : Bool) → list_all is_blank (b ∷ bytes) ≡ t → IsFree test (without_trailing (b ∷ bytes))
    by_test later true t = rw t refl
    by_test later false t = rw t (or_from (test b) (list_any test (without_trailing bytes)) parts.0 (later parts.1))

pub free-trimmed : (test : ℕ → Bool) (bytes : List ℕ) → IsFree test bytes → IsFree test (trimmed bytes)
free-trimmed test bytes whole = free-past_leading test (without_trailing bytes) (free-without_trailing test bytes whole)

free-without_cr : (test : ℕ → Bool) (bytes : List ℕ) → IsFree test bytes → IsFree test (without_cr bytes)
free-without_cr test [] whole = refl
free-without_cr test (b ∷ []) whole = by_test (nat_eq b 13) refl
  where
    by_test : (t : Bool) → nat_eq b 13 ≡ t → IsFree test (without_cr (b ∷ []))
    by_test true t = rw t refl
    by_test false t = rw t whole
free-without_cr test (b ∷ c ∷ bytes) whole =
    let parts = or_parts (test b) (list_any test (c ∷ bytes)) whole in
    or_from (test b) (list_any test (without_cr (c ∷ bytes))) parts.0 (free-without_cr test (c ∷ bytes) parts.1)

pub free-text_of : (test : ℕ → Bool) (piece : List ℕ) → IsFree test piece → IsFree test (text_of piece)
free-text_of test piece whole = free-trimmed test (without_cr piece) (free-without_cr test piece whole)

-- the bytes begin with something other than a blank
abbrev pub begins_solid : List ℕ → Bool
begins_solid [] = false
begins_solid (b ∷ bytes) = not (is_blank b)

-- and end so
abbrev pub ends_solid : List ℕ → Bool
ends_solid [] = false
ends_solid (b ∷ []) = not (is_blank b)
ends_solid (b ∷ c ∷ bytes) = ends_solid (c ∷ bytes)

pub ends_solid-behind : (front bytes : List ℕ) → ends_solid bytes ≡ true → ends_solid (front ++ bytes) ≡ true
ends_solid-behind [] bytes solid = solid
ends_solid-behind (a ∷ front) bytes solid = of (front ++ bytes) (ends_solid-behind front bytes solid)
  where
    of : (l : List ℕ) → ends_solid l ≡ true → ends_solid (a ∷ l) ≡ true
    of [] is = absurd (true≢false (sym is))
    of (b ∷ l) is = is

pub not_all_blank : (bytes : List ℕ) → ends_solid bytes ≡ true → list_all is_blank bytes ≡ false
not_all_blank [] solid = absurd (true≢false (sym solid))
not_all_blank (b ∷ []) solid = let h = not-true (is_blank b) solid in rw h refl
not_all_blank (b ∷ c ∷ bytes) solid = and_right (is_blank b) (list_all is_blank (c ∷ bytes)) (not_all_blank (c ∷ bytes) solid)

pub without_trailing-solid : (bytes : List ℕ) → ends_solid bytes ≡ true → without_trailing bytes ≡ bytes
without_trailing-solid [] solid = refl
without_trailing-solid (b ∷ []) solid = let h = not-true (is_blank b) solid in rw h refl
without_trailing-solid (b ∷ c ∷ bytes) solid =
    let some = not_all_blank (b ∷ c ∷ bytes) solid in
    rw some (ap (λ l. b ∷ l) (without_trailing-solid (c ∷ bytes) solid))

pub past_leading-solid : (bytes : List ℕ) → begins_solid bytes ≡ true → past_leading bytes ≡ bytes
past_leading-solid [] solid = refl
past_leading-solid (b ∷ bytes) solid = let h = not-true (is_blank b) solid in rw h refl

pub trimmed-solid : (bytes : List ℕ) → begins_solid bytes ≡ true → ends_solid bytes ≡ true → trimmed bytes ≡ bytes
trimmed-solid bytes begins ends = ap past_leading (without_trailing-solid bytes ends) ∙ past_leading-solid bytes begins

-- bytes that are empty, or have no blanks around them
pub data IsTight : List ℕ → Type 0 where
  no_byte : IsTight []
  solid : {b : ℕ} {bytes : List ℕ} → begins_solid (b ∷ bytes) ≡ true → ends_solid (b ∷ bytes) ≡ true → IsTight (b ∷ bytes)

pub trimmed-tight : {bytes : List ℕ} → IsTight bytes → trimmed bytes ≡ bytes
trimmed-tight no_byte = refl
trimmed-tight (solid {b} {bytes} begins ends) = trimmed-solid (b ∷ bytes) begins ends

-- empty, or without blanks behind
data IsShut : List ℕ → Type 0 where
  no_byte : IsShut []
  shut : {b : ℕ} {bytes : List ℕ} → ends_solid (b ∷ bytes) ≡ true → IsShut (b ∷ bytes)

shut-without_trailing : (bytes : List ℕ) → IsShut (without_trailing bytes)
shut-without_trailing [] = no_byte
shut-without_trailing (b ∷ bytes) = by_blank (shut-without_trailing bytes) (is_blank b) refl
  where
    some_left : (t : Bool) → list_all is_blank bytes ≡ t → t ≡ false → IsShut (without_trailing bytes) → ends_solid (b ∷ without_trailing bytes) ≡ true
    some_left true t is later = absurd (true≢false is)
    some_left false t is later = of bytes t later
      where
        of : (l : List ℕ) → list_all is_blank l ≡ false → IsShut (without_trailing l) → ends_solid (b ∷ without_trailing l) ≡ true
        of [] none shut_later = absurd (true≢false none)
        of (c ∷ l) none shut_later = let h = rw none at shut_later in rw none (ends h)
          where
            ends : IsShut (c ∷ without_trailing l) → ends_solid (c ∷ without_trailing l) ≡ true
            ends (shut is) = is

    alone : (l : List ℕ) → is_blank b ≡ false → IsShut l → ends_solid (b ∷ l) ≡ true
    alone [] not_blank later = not_from_false (is_blank b) not_blank
    alone (c ∷ l) not_blank (shut is) = is

    by_all : (t : Bool) → list_all is_blank bytes ≡ t → is_blank b ≡ true → IsShut (without_trailing bytes) → IsShut (without_trailing (b ∷ bytes))
    by_all true t blank later = rw (blank, t) no_byte
    by_all false t blank later = rw (blank, t) (shut (some_left false t refl later))

    by_blank : IsShut (without_trailing bytes) → (t : Bool) → is_blank b ≡ t → IsShut (without_trailing (b ∷ bytes))
    by_blank later true t = by_all (list_all is_blank bytes) refl t later
    by_blank later false t = rw t (shut (alone (without_trailing bytes) t later))

tight-past_leading : {bytes : List ℕ} → IsShut bytes → IsTight (past_leading bytes)
tight-past_leading no_byte = no_byte
tight-past_leading (shut {b} {bytes} ends) = of b bytes ends
  where
    of : (c : ℕ) (l : List ℕ) → ends_solid (c ∷ l) ≡ true → IsTight (past_leading (c ∷ l))
    of c [] is = let h = not-true (is_blank c) is in rw h (solid is is)
    of c (d ∷ l) is = by_test (of d l is) (is_blank c) refl
      where
        by_test : IsTight (past_leading (d ∷ l)) → (t : Bool) → is_blank c ≡ t → IsTight (past_leading (c ∷ d ∷ l))
        by_test later true t = rw t later
        by_test later false t = rw t (solid (not_from_false (is_blank c) t) is)

pub tight-trimmed : (bytes : List ℕ) → IsTight (trimmed bytes)
tight-trimmed bytes = tight-past_leading (shut-without_trailing bytes)

-- ---- a line with blanks before it

without_cr-free : (bytes : List ℕ) → IsFree is_cr bytes → without_cr bytes ≡ bytes
without_cr-free [] whole = refl
without_cr-free (b ∷ []) whole = let first = (or_parts (is_cr b) false whole).0 in rw first refl
without_cr-free (b ∷ c ∷ bytes) whole = ap (λ l. b ∷ l) (without_cr-free (c ∷ bytes) (free-tail is_cr b (c ∷ bytes) whole))

pub free-blanks : (test : ℕ → Bool) (n : ℕ) (text : List ℕ) → test 32 ≡ false → IsFree test text → IsFree test (blanks n ++ text)
free-blanks test zero text no_blank whole = whole
free-blanks test (suc n) text no_blank whole = or_from (test 32) (list_any test (blanks n ++ text)) no_blank (free-blanks test n text no_blank whole)

-- a text that isn't empty and has no blanks around it
pub record IsSolid (text : List ℕ) : Type 0 where
  pub begins : begins_solid text ≡ true
  pub ends : ends_solid text ≡ true

pub solid-trimmed : (text : List ℕ) → trimmed text ≡ text → (text ≡ [] → ⊥) → IsSolid text
solid-trimmed text bare some = of (subst IsTight bare (tight-trimmed text)) some
  where
    of : {bytes : List ℕ} → IsTight bytes → (bytes ≡ [] → ⊥) → IsSolid bytes
    of no_byte other = absurd (other refl)
    of (solid begins ends) other = record { begins = begins; ends = ends }

content-indented : (n : ℕ) (text : List ℕ) → IsSolid text → IsFree is_cr text → content (blanks n ++ text) ≡ blanks n ++ text
content-indented n text is no_cr =
    ap without_trailing (without_cr-free (blanks n ++ text) (free-blanks is_cr n text refl no_cr)) ∙ without_trailing-solid (blanks n ++ text) (ends_solid-behind (blanks n) text is.ends)

past_blanks : (n : ℕ) (text : List ℕ) → begins_solid text ≡ true → past_leading (blanks n ++ text) ≡ text
past_blanks zero text begins = past_leading-solid text begins
past_blanks (suc n) text begins = past_blanks n text begins

leading-solid : (text : List ℕ) → begins_solid text ≡ true → leading text ≡ []
leading-solid [] begins = refl
leading-solid (b ∷ text) begins = let h = not-true (is_blank b) begins in rw h refl

leading-blanks : (n : ℕ) (text : List ℕ) → begins_solid text ≡ true → leading (blanks n ++ text) ≡ blanks n
leading-blanks zero text begins = leading-solid text begins
leading-blanks (suc n) text begins = ap (λ l. 32 ∷ l) (leading-blanks n text begins)

width-blanks : (n : ℕ) → width (blanks n) ≡ n
width-blanks zero = refl
width-blanks (suc n) = let later = width-blanks n in omega (arith, later)

pub text-indented : (n : ℕ) (text : List ℕ) → IsSolid text → IsFree is_cr text → text_of (blanks n ++ text) ≡ text
text-indented n text is no_cr = ap past_leading (content-indented n text is no_cr) ∙ past_blanks n text is.begins

pub indent-indented : (n : ℕ) (text : List ℕ) → IsSolid text → IsFree is_cr text → indent_of (blanks n ++ text) ≡ n
indent-indented n text is no_cr =
    ap (λ l. width (leading l)) (content-indented n text is no_cr) ∙ ap width (leading-blanks n text is.begins) ∙ width-blanks n

pub counts-solid : (text : List ℕ) → begins_solid text ≡ true → begins_with (codes "//") text ≡ false → counts text ≡ true
counts-solid [] begins no_comment = begins
counts-solid (b ∷ text) begins no_comment = rw no_comment refl
