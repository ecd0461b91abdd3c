-- A text with a byte order mark, and what stands behind it.
use Rattle.std.proofs.Common.{◌≡◌, ℕ, ◌≤◌, List, [], ◌∷◌, ◌++◌, length, take, drop, Bool, true, false, ◌&&◌, nat_eq, refl, sym, ap, subst, arith, IsUtf8}
use Rattle.std.specs.Str.{IsCharBoundary}
use Rattle.std.proofs.lemmas.Bool.{eqb-true, and_parts}
use Rattle.std.proofs.lemmas.Str.{IsUtf8-append, IsUtf8-drop, IsCharBoundary-start, IsCharBoundary-from_take}
use Rattle.yarn_lines.specs.Lines.{begins_with, mark_length}

abbrev mark : List ℕ
mark = 239 ∷ 187 ∷ 191 ∷ []

mark_utf8 : IsUtf8 mark
unfolding lib.Utf8.encode
mark_utf8 = (65279 ∷ [], (refl, refl))

-- the bytes that begin with a mark
marked : (bytes : List ℕ) → begins_with mark bytes ≡ true → bytes ≡ mark ++ drop 3 bytes
marked [] is = absurd cc
marked (a ∷ []) is = let both = and_parts (nat_eq a 239) false is in absurd (cc)
marked (a ∷ b ∷ []) is =
    let both = and_parts (nat_eq a 239) (nat_eq b 187 && false) is in
    let later = and_parts (nat_eq b 187) false both.1 in
    absurd (cc)
marked (a ∷ b ∷ c ∷ rest) is =
    let both = and_parts (nat_eq a 239) (nat_eq b 187 && (nat_eq c 191 && true)) is in
    let later = and_parts (nat_eq b 187) (nat_eq c 191 && true) both.1 in
    let last = and_parts (nat_eq c 191) true later.1 in
    rw (eqb-true a 239 both.0, eqb-true b 187 later.0, eqb-true c 191 last.0) refl

boundary_behind_mark : (bytes : List ℕ) → IsUtf8 bytes → IsCharBoundary bytes (mark_length bytes)
boundary_behind_mark bytes utf8 = by_test (begins_with mark bytes) refl
  where
    by_test : (t : Bool) → begins_with mark bytes ≡ t → IsCharBoundary bytes (mark_length bytes)
    by_test true is =
        let all = marked bytes is in
        let front : take 3 bytes ≡ mark = ap (take 3) all in
        let long : 3 ≤ length bytes = let h = ap length all in omega (arith, h) in
        rw is (IsCharBoundary-from_take bytes 3 utf8 long (subst IsUtf8 (sym front) mark_utf8))
    by_test false is = rw is (IsCharBoundary-start bytes utf8)

pub utf8_behind_mark : (bytes : List ℕ) → IsUtf8 bytes → IsUtf8 (drop (mark_length bytes) bytes)
utf8_behind_mark bytes utf8 = IsUtf8-drop bytes (mark_length bytes) utf8 (boundary_behind_mark bytes utf8)

pub utf8_with_mark : (bytes : List ℕ) → IsUtf8 (drop (mark_length bytes) bytes) → IsUtf8 bytes
utf8_with_mark bytes body = by_test (begins_with mark bytes) refl
  where
    by_test : (t : Bool) → begins_with mark bytes ≡ t → IsUtf8 bytes
    by_test true is = subst IsUtf8 (sym (marked bytes is)) (IsUtf8-append mark (drop 3 bytes) mark_utf8 (rw is at body))
    by_test false is = rw is at body
