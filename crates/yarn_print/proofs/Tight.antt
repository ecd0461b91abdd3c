-- Texts without blanks around them.
use Rattle.std.proofs.Common.{◌≡◌, ℕ, ◌<◌, ◌≤◌, List, [], ◌∷◌, ◌++◌, length, length-append, Bool, true, false, not, nat_eq, encode_utf8_all, encode_utf8, refl, sym, ap, ◌∙◌, arith}
use Rattle.std.specs.List.{list_all}
use Rattle.std.proofs.lemmas.Bool.{ne_eqb, true≢false, not-true, not_from_false, and_parts, and_from, or_from, and_right}
use Rattle.std.proofs.lemmas.Str.{length-encode, len_utf8_bounds}
use Rattle.yarn_base.specs.Name.{continues_name}
use Rattle.yarn_expr.proofs.Runs.{AllOf}
use Rattle.yarn_lines.specs.Lines.{is_blank, past_leading, without_trailing}
use Rattle.yarn_items.specs.Text.{trimmed}
use Rattle.yarn_print.proofs.Quiet.{no_name, name-differs, all-encodes}

-- the bytes begin with something other than a blank
abbrev pub begins_solid : List ℕ → Bool
begins_solid [] = false
begins_solid (b ∷ bytes) = not (is_blank b)

-- and end so
abbrev pub ends_solid : List ℕ → Bool
ends_solid [] = false
ends_solid (b ∷ []) = not (is_blank b)
ends_solid (b ∷ c ∷ bytes) = ends_solid (c ∷ bytes)

pub ends_solid-behind : (front bytes : List ℕ) → ends_solid bytes ≡ true → ends_solid (front ++ bytes) ≡ true
ends_solid-behind [] bytes solid = solid
ends_solid-behind (a ∷ front) bytes solid = of (front ++ bytes) (ends_solid-behind front bytes solid)
  where
    of : (l : List ℕ) → ends_solid l ≡ true → ends_solid (a ∷ l) ≡ true
    of [] is = absurd (true≢false (sym is))
    of (b ∷ l) is = is

pub not_all_blank : (bytes : List ℕ) → ends_solid bytes ≡ true → list_all is_blank bytes ≡ false
not_all_blank [] solid = absurd (true≢false (sym solid))
not_all_blank (b ∷ []) solid = let h = not-true (is_blank b) solid in rw h refl
not_all_blank (b ∷ c ∷ bytes) solid = and_right (is_blank b) (list_all is_blank (c ∷ bytes)) (not_all_blank (c ∷ bytes) solid)

pub without_trailing-solid : (bytes : List ℕ) → ends_solid bytes ≡ true → without_trailing bytes ≡ bytes
without_trailing-solid [] solid = refl
without_trailing-solid (b ∷ []) solid = let h = not-true (is_blank b) solid in rw h refl
without_trailing-solid (b ∷ c ∷ bytes) solid =
    let some = not_all_blank (b ∷ c ∷ bytes) solid in
    rw some (ap (λ l. b ∷ l) (without_trailing-solid (c ∷ bytes) solid))

pub past_leading-solid : (bytes : List ℕ) → begins_solid bytes ≡ true → past_leading bytes ≡ bytes
past_leading-solid [] solid = refl
past_leading-solid (b ∷ bytes) solid = let h = not-true (is_blank b) solid in rw h refl

pub trimmed-solid : (bytes : List ℕ) → begins_solid bytes ≡ true → ends_solid bytes ≡ true → trimmed bytes ≡ bytes
trimmed-solid bytes begins ends = ap past_leading (without_trailing-solid bytes ends) ∙ past_leading-solid bytes begins

-- bytes that are empty, or have no blanks around them
pub data IsTight : List ℕ → Type 0 where
  no_byte : IsTight []
  solid : {b : ℕ} {bytes : List ℕ} → begins_solid (b ∷ bytes) ≡ true → ends_solid (b ∷ bytes) ≡ true → IsTight (b ∷ bytes)

pub trimmed-tight : {bytes : List ℕ} → IsTight bytes → trimmed bytes ≡ bytes
trimmed-tight no_byte = refl
trimmed-tight (solid {b} {bytes} begins ends) = trimmed-solid (b ∷ bytes) begins ends

-- empty, or without blanks behind
data IsShut : List ℕ → Type 0 where
  no_byte : IsShut []
  shut : {b : ℕ} {bytes : List ℕ} → ends_solid (b ∷ bytes) ≡ true → IsShut (b ∷ bytes)

shut-without_trailing : (bytes : List ℕ) → IsShut (without_trailing bytes)
shut-without_trailing [] = no_byte
shut-without_trailing (b ∷ bytes) = by_blank (shut-without_trailing bytes) (is_blank b) refl
  where
    some_left : (t : Bool) → list_all is_blank bytes ≡ t → t ≡ false → IsShut (without_trailing bytes) → ends_solid (b ∷ without_trailing bytes) ≡ true
    some_left true t is later = absurd (true≢false is)
    some_left false t is later = of bytes t later
      where
        of : (l : List ℕ) → list_all is_blank l ≡ false → IsShut (without_trailing l) → ends_solid (b ∷ without_trailing l) ≡ true
        of [] none shut_later = absurd (true≢false none)
        of (c ∷ l) none shut_later = let h = rw none at shut_later in rw none (ends h)
          where
            ends : IsShut (c ∷ without_trailing l) → ends_solid (c ∷ without_trailing l) ≡ true
            ends (shut is) = is

    alone : (l : List ℕ) → is_blank b ≡ false → IsShut l → ends_solid (b ∷ l) ≡ true
    alone [] not_blank later = not_from_false (is_blank b) not_blank
    alone (c ∷ l) not_blank (shut is) = is

    by_all : (t : Bool) → list_all is_blank bytes ≡ t → is_blank b ≡ true → IsShut (without_trailing bytes) → IsShut (without_trailing (b ∷ bytes))
    by_all true t blank later = rw (blank, t) no_byte
    by_all false t blank later = rw (blank, t) (shut (some_left false t refl later))

    by_blank : IsShut (without_trailing bytes) → (t : Bool) → is_blank b ≡ t → IsShut (without_trailing (b ∷ bytes))
    by_blank later true t = by_all (list_all is_blank bytes) refl t later
    by_blank later false t = rw t (shut (alone (without_trailing bytes) t later))

tight-past_leading : {bytes : List ℕ} → IsShut bytes → IsTight (past_leading bytes)
tight-past_leading no_byte = no_byte
tight-past_leading (shut {b} {bytes} ends) = of b bytes ends
  where
    of : (c : ℕ) (l : List ℕ) → ends_solid (c ∷ l) ≡ true → IsTight (past_leading (c ∷ l))
    of c [] is = let h = not-true (is_blank c) is in rw h (solid is is)
    of c (d ∷ l) is = by_test (of d l is) (is_blank c) refl
      where
        by_test : IsTight (past_leading (d ∷ l)) → (t : Bool) → is_blank c ≡ t → IsTight (past_leading (c ∷ d ∷ l))
        by_test later true t = rw t later
        by_test later false t = rw t (solid (not_from_false (is_blank c) t) is)

pub tight-trimmed : (bytes : List ℕ) → IsTight (trimmed bytes)
tight-trimmed bytes = tight-past_leading (shut-without_trailing bytes)

-- not empty, and without blanks around it
pub record Solid (bytes : List ℕ) : Type 0 where
  pub begins : begins_solid bytes ≡ true
  pub ends : ends_solid bytes ≡ true

pub solid-trimmed : (bytes : List ℕ) → Solid bytes → trimmed bytes ≡ bytes
solid-trimmed bytes s = trimmed-solid bytes s.begins s.ends

pub solid-some : (bytes : List ℕ) → Solid bytes → bytes ≡ [] → ⊥
solid-some [] s e = absurd (true≢false (sym s.begins))
solid-some (b ∷ bytes) s e = absurd cc

pub begins-front : (front back : List ℕ) → begins_solid front ≡ true → begins_solid (front ++ back) ≡ true
begins-front [] back is = absurd (true≢false (sym is))
begins-front (b ∷ front) back is = is

-- what stands between two of these may be anything
pub solid-around : (a b c : List ℕ) → Solid a → Solid c → Solid (a ++ (b ++ c))
solid-around a b c one two = record { begins = begins-front a (b ++ c) one.begins; ends = ends_solid-behind a (b ++ c) (ends_solid-behind b c two.ends) }

-- a text that isn't empty, of bytes none of which is a blank
pub solid-all : (b : ℕ) (bytes : List ℕ) → list_all (λ c. not (is_blank c)) (b ∷ bytes) ≡ true → Solid (b ∷ bytes)
solid-all b bytes all = record { begins = (and_parts (not (is_blank b)) _ all).0; ends = last b bytes all }
  where
    last : (b : ℕ) (bytes : List ℕ) → list_all (λ c. not (is_blank c)) (b ∷ bytes) ≡ true → ends_solid (b ∷ bytes) ≡ true
    last b [] all = (and_parts (not (is_blank b)) true all).0
    last b (c ∷ bytes) all = last c bytes (and_parts (not (is_blank b)) (list_all (λ c. not (is_blank c)) (c ∷ bytes)) all).1

pub solid-long : (bytes : List ℕ) → 0 < length bytes → list_all (λ c. not (is_blank c)) bytes ≡ true → Solid bytes
solid-long [] some all = absurd (omega arith)
solid-long (b ∷ bytes) some all = solid-all b bytes all

not_blank-high : (b : ℕ) → 128 ≤ b → not (is_blank b) ≡ true
not_blank-high b le = not_from_false (is_blank b) (or_from (nat_eq b 32) (nat_eq b 9) (ne_eqb b 32 (λ e. omega arith)) (ne_eqb b 9 (λ e. omega arith)))

not_blank-names : (cs : List ℕ) → AllOf continues_name cs → list_all (λ b. not (is_blank b)) cs ≡ true
not_blank-names [] all = refl
not_blank-names (c ∷ cs) all =
    and_from (not (is_blank c)) (list_all (λ b. not (is_blank b)) cs)
    (not_from_false (is_blank c) (or_from (nat_eq c 32) (nat_eq c 9) (name-differs 32 c (no_name 32 refl refl refl) all.0) (name-differs 9 c (no_name 9 refl refl refl) all.0)))
    (not_blank-names cs all.1)

encodes-some : (c : ℕ) (cs : List ℕ) → 0 < length (encode_utf8_all (c ∷ cs))
encodes-some c cs = omega (arith, length-append (encode_utf8 c) (encode_utf8_all cs), length-encode c, (len_utf8_bounds c).0)

pub solid-chars : (c : ℕ) (cs : List ℕ) → list_all (λ b. not (is_blank b)) (c ∷ cs) ≡ true → Solid (encode_utf8_all (c ∷ cs))
solid-chars c cs all = solid-long (encode_utf8_all (c ∷ cs)) (encodes-some c cs) (all-encodes (λ b. not (is_blank b)) (c ∷ cs) not_blank-high all)

pub solid-name : (c : ℕ) (cs : List ℕ) → AllOf continues_name (c ∷ cs) → Solid (encode_utf8_all (c ∷ cs))
solid-name c cs all = solid-chars c cs (not_blank-names (c ∷ cs) all)

pub solid-variable : (cs : List ℕ) → AllOf continues_name cs → Solid (encode_utf8_all (36 ∷ cs))
solid-variable cs all = solid-chars 36 cs (not_blank-names cs all)
