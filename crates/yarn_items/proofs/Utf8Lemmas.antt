-- Which parts of a line are UTF-8: what stands before and behind a character of ASCII, and the texts that are made of these.
use Rattle.std.proofs.Common.{◌≡◌, ℕ, ◌-◌, ◌<◌, ◌≤◌, List, [], ◌∷◌, ◌++◌, length, take, drop, get_or, Bool, true, false, nat_eq, ◌⊎◌, inl, inr, refl, ap, subst, arith, append-nil, IsUtf8}
use Rattle.std.specs.List.{list_all}
use Rattle.std.proofs.lemmas.Bool.{eqb-true, or_cases, and_parts}
use Rattle.std.proofs.lemmas.List.{take_at, drop_at, take_rest, length-append, take-append-drop}
use Rattle.std.proofs.lemmas.Str.{IsUtf8-take, IsUtf8-drop, IsUtf8-append, IsUtf8-nil, IsCharBoundary-before_ascii, IsCharBoundary-after_ascii}
use Rattle.yarn_lines.specs.Lines.{is_blank, past_leading, without_trailing, begins_with}
use Rattle.yarn_items.specs.Text.{trimmed}

-- nothing, or a character of ASCII at the front
abbrev pub BeginsAscii : List ℕ → Type 0
BeginsAscii [] = Unit {0}
BeginsAscii (b ∷ bytes) = b < 128

at_seam : (a b : List ℕ) (x d : ℕ) → get_or (a ++ x ∷ b) (length a) d ≡ x
at_seam [] b x d = refl
at_seam (y ∷ a) b x d = at_seam a b x d

pub split-utf8 : (a b : List ℕ) → BeginsAscii b → IsUtf8 (a ++ b) → IsUtf8 a × IsUtf8 b
split-utf8 a [] begins utf8 = (subst IsUtf8 (append-nil a) utf8, IsUtf8-nil)
split-utf8 a (x ∷ b) begins utf8 =
    let all = a ++ x ∷ b in
    let within : length a < length all = omega (arith, length-append a (x ∷ b)) in
    let boundary = IsCharBoundary-before_ascii all (length a) within (rw (at_seam a b x 0) begins) in (
      subst IsUtf8 (take_at a (x ∷ b) (length a) refl) (IsUtf8-take all (length a) utf8 boundary),
      subst IsUtf8 (drop_at a (x ∷ b) (length a) refl) (IsUtf8-drop all (length a) utf8 boundary),
    )

pub behind-utf8 : (x : ℕ) (b : List ℕ) → x < 128 → IsUtf8 (x ∷ b) → IsUtf8 b
behind-utf8 x b small utf8 = IsUtf8-drop (x ∷ b) 1 utf8 (IsCharBoundary-after_ascii (x ∷ b) 0 utf8 (omega arith) small)

-- one character of ASCII left out
pub without-utf8 : (a b : List ℕ) (x : ℕ) → x < 128 → IsUtf8 (a ++ x ∷ b) → IsUtf8 (a ++ b)
without-utf8 a b x small utf8 =
    let parts = split-utf8 a (x ∷ b) small utf8 in
    IsUtf8-append a b parts.0 (behind-utf8 x b small parts.1)

-- a part at the front, where a character of ASCII follows it
pub front-utf8 : (bytes : List ℕ) (n : ℕ) → BeginsAscii (drop n bytes) → IsUtf8 bytes → IsUtf8 (take n bytes)
front-utf8 bytes n begins utf8 = (split-utf8 (take n bytes) (drop n bytes) begins (rw (take-append-drop n bytes) utf8)).0

pub rest-utf8 : (bytes : List ℕ) (n : ℕ) → BeginsAscii (drop n bytes) → IsUtf8 bytes → IsUtf8 (drop n bytes)
rest-utf8 bytes n begins utf8 = (split-utf8 (take n bytes) (drop n bytes) begins (rw (take-append-drop n bytes) utf8)).1

-- Blanks.

pub blank-ascii : (b : ℕ) → is_blank b ≡ true → b < 128
blank-ascii b is = of (or_cases (nat_eq b 32) (nat_eq b 9) is)
  where
    of : (nat_eq b 32 ≡ true) ⊎ (nat_eq b 9 ≡ true) → b < 128
    of (inl e) = omega (arith, eqb-true b 32 e)
    of (inr e) = omega (arith, eqb-true b 9 e)

pub blanks-begin : (blanks : List ℕ) → list_all is_blank blanks ≡ true → BeginsAscii blanks
blanks-begin [] is = tt
blanks-begin (b ∷ blanks) is = blank-ascii b (and_parts (is_blank b) (list_all is_blank blanks) is).0

pub past_leading-utf8 : (bytes : List ℕ) → IsUtf8 bytes → IsUtf8 (past_leading bytes)
past_leading-utf8 [] utf8 = utf8
past_leading-utf8 (b ∷ bytes) utf8 = by_test (past_leading-utf8 bytes) (is_blank b) refl
  where
    by_test : (IsUtf8 bytes → IsUtf8 (past_leading bytes)) → (t : Bool) → is_blank b ≡ t → IsUtf8 (past_leading (b ∷ bytes))
    by_test later true t = rw t (later (behind-utf8 b bytes (blank-ascii b t) utf8))
    by_test later false t = rw t utf8

pub past_leading-length : (bytes : List ℕ) → length (past_leading bytes) ≤ length bytes
past_leading-length [] = omega arith
past_leading-length (b ∷ bytes) = by_test (past_leading-length bytes) (is_blank b) refl
  where
    by_test : length (past_leading bytes) ≤ length bytes → (t : Bool) → is_blank b ≡ t → length (past_leading (b ∷ bytes)) ≤ length (b ∷ bytes)
    by_test later true t = rw t (omega (arith, later))
    by_test later false t = rw t (omega arith)

pub past_leading-solid : (bytes : List ℕ) → past_leading (past_leading bytes) ≡ past_leading bytes
past_leading-solid [] = refl
past_leading-solid (b ∷ bytes) = by_test (past_leading-solid bytes) (is_blank b) refl
  where
    by_test : past_leading (past_leading bytes) ≡ past_leading bytes → (t : Bool) → is_blank b ≡ t →
        past_leading (past_leading (b ∷ bytes)) ≡ past_leading (b ∷ bytes)
    by_test later true t = rw t later
    by_test later false t = rw t (rw t refl)

-- the blanks at the end
pub record Trailing (bytes : List ℕ) : Type 0 where
  pub blanks : List ℕ
  pub split : bytes ≡ without_trailing bytes ++ blanks
  pub between : list_all is_blank blanks ≡ true

pub trailing : (bytes : List ℕ) → Trailing bytes
trailing [] = record { blanks = []; split = refl; between = refl }
trailing (b ∷ bytes) = by_test (trailing bytes) (list_all is_blank (b ∷ bytes)) refl
  where
    by_test : Trailing bytes → (t : Bool) → list_all is_blank (b ∷ bytes) ≡ t → Trailing (b ∷ bytes)
    by_test later true is = record { blanks = b ∷ bytes; split = rw is refl; between = is }
    by_test later false is = record { blanks = later.blanks; split = rw is (ap (λ l. b ∷ l) later.split); between = later.between }

pub without_trailing-utf8 : (bytes : List ℕ) → IsUtf8 bytes → IsUtf8 (without_trailing bytes)
without_trailing-utf8 bytes utf8 =
    let cut = trailing bytes in
    (split-utf8 (without_trailing bytes) cut.blanks (blanks-begin cut.blanks cut.between) (subst IsUtf8 cut.split utf8)).0

pub trimmed-utf8 : (bytes : List ℕ) → IsUtf8 bytes → IsUtf8 (trimmed bytes)
trimmed-utf8 bytes utf8 = past_leading-utf8 (without_trailing bytes) (without_trailing-utf8 bytes utf8)

pub begins-first : (k b : ℕ) (front bytes : List ℕ) → begins_with (k ∷ front) (b ∷ bytes) ≡ true → b ≡ k
begins-first k b front bytes is = eqb-true b k (and_parts (nat_eq b k) (begins_with front bytes) is).0

-- what stands behind a `#`
pub behind_hash-utf8 : (bytes : List ℕ) → get_or bytes 0 0 ≡ 35 → IsUtf8 bytes → IsUtf8 (take (length bytes - 1) (drop 1 bytes))
behind_hash-utf8 [] is utf8 = absurd (omega arith)
behind_hash-utf8 (b ∷ bytes) is utf8 = rw (take_rest (b ∷ bytes) 1) (behind-utf8 b bytes (omega (arith, is)) utf8)
