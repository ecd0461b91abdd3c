-- Bytes that are written as they stand, up to the first that aren't.
use Rattle.std.proofs.Common.{◌≡◌, ℕ, suc, ◌+◌, ◌-◌, ◌<◌, ◌≤◌, List, [], ◌∷◌, length, take, drop, Bool, true, false, nat_eq, Some, codes, refl, sym, ap, subst, ◌∙◌, arith, add-one, IsUtf8}
use Rattle.std.proofs.lemmas.Bool.{eqb-true, and_parts, or_parts}
use Rattle.std.proofs.lemmas.List.{take_rest, drop-drop, length-drop}
use Rattle.yarn_lines.specs.Lines.{begins_with}
use Rattle.yarn_items.specs.declared.first.Kind.{Kind}
use Rattle.yarn_items.specs.declared.first.Kind.TheVariants.{Line, Game}
use Rattle.yarn_items.specs.Text.{Char, begins_pair, begins_other}
use Rattle.yarn_items.specs.Scan.{Begins, Ends, front_of}
use Rattle.yarn_items.specs.Run.{is_char_at, chars_length, begins_more, game_length}
use Rattle.yarn_items.specs.Written.{written, no_literals, joined}
use Rattle.yarn_items.proofs.Utf8Lemmas.{BeginsAscii, begins-first, front-utf8, rest-utf8}
use Rattle.yarn_items.proofs.TextLemmas.{front-char}
use Rattle.yarn_items.proofs.WrittenLemmas.{joined-nothing, joined-text, joined-end, written-char, written-pair, written-ends}

-- The text of a line.

char-parts : (bytes : List ℕ) → is_char_at bytes ≡ true → (begins_pair bytes ≡ false) × (begins_other bytes ≡ false)
char-parts bytes is = of (begins_pair bytes) (begins_other bytes) refl refl
  where
    of : (p o : Bool) → begins_pair bytes ≡ p → begins_other bytes ≡ o → (begins_pair bytes ≡ false) × (begins_other bytes ≡ false)
    of true o i j = let h = rw i at is in absurd cc
    of false true i j = let h = rw (i, j) at is in absurd cc
    of false false i j = (i, j)

-- these bytes at the front of a text, and what follows them
abbrev pub Runs : Kind → ℕ → List ℕ → ℕ → Type 0
Runs kind n bytes k = written kind k bytes ≡ joined (take n bytes) [] no_literals (written kind k (drop n bytes))

runs-none : (kind : Kind) (bytes : List ℕ) (k : ℕ) → Runs kind 0 bytes k
runs-none kind bytes k = sym (joined-nothing (written kind k bytes))

runs-char : (kind : Kind) (b : ℕ) (bytes : List ℕ) (n k : ℕ) → front_of kind (b ∷ bytes) ≡ Begins (Char b) bytes → Runs kind n bytes k → Runs kind (n + 1) (b ∷ bytes) k
runs-char kind b bytes n k front later =
    let one = written-char kind (b ∷ bytes) bytes b k front ∙ ap (joined (b ∷ []) [] no_literals) later
    ∙ joined-text (b ∷ []) (take n bytes) [] no_literals (written kind k (drop n bytes)) in
    rw (add-one n) one

chars-runs : (bytes : List ℕ) (k : ℕ) → Runs Line (chars_length bytes) bytes k
chars-runs [] k = runs-none Line [] k
chars-runs (b ∷ bytes) k = of (is_char_at (b ∷ bytes)) refl (chars-runs bytes k)
  where
    of : (t : Bool) → is_char_at (b ∷ bytes) ≡ t → Runs Line (chars_length bytes) bytes k → Runs Line (chars_length (b ∷ bytes)) (b ∷ bytes) k
    of true t later =
        let no = char-parts (b ∷ bytes) t in
        let same : chars_length (b ∷ bytes) ≡ chars_length bytes + 1 = rw t refl in
        subst (λ n. Runs Line n (b ∷ bytes) k) (sym same) (runs-char Line b bytes (chars_length bytes) k (front-char b bytes no.0 no.1) later)
    of false t later = let same : chars_length (b ∷ bytes) ≡ 0 = rw t refl in subst (λ n. Runs Line n (b ∷ bytes) k) (sym same) (runs-none Line (b ∷ bytes) k)

pub other-ascii : (bytes : List ℕ) → begins_other bytes ≡ true → BeginsAscii bytes
other-ascii [] is = tt
other-ascii (b ∷ bytes) is = by_test (begins_with (codes "{") (b ∷ bytes)) (begins_with (codes "#") (b ∷ bytes)) (begins_with (codes "//") (b ∷ bytes))
    (begins_with (codes "<<") (b ∷ bytes)) refl refl refl refl
  where
    by_test : (k l m n : Bool) → begins_with (codes "{") (b ∷ bytes) ≡ k → begins_with (codes "#") (b ∷ bytes) ≡ l →
        begins_with (codes "//") (b ∷ bytes) ≡ m → begins_with (codes "<<") (b ∷ bytes) ≡ n → b < 128
    by_test true l m n i j k e = omega (arith, begins-first 123 b [] bytes i)
    by_test false true m n i j k e = omega (arith, begins-first 35 b [] bytes j)
    by_test false false true n i j k e = omega (arith, begins-first 47 b (codes "/") bytes k)
    by_test false false false true i j k e = omega (arith, begins-first 60 b (codes "<") bytes e)
    by_test false false false false i j k e = let h = rw (i, j, k, e) at is in absurd cc

pair-ascii : (bytes : List ℕ) → begins_pair bytes ≡ true → BeginsAscii bytes
pair-ascii [] is = tt
pair-ascii (b ∷ []) is = absurd cc
pair-ascii (b ∷ c ∷ bytes) is = omega (arith, eqb-true b 92 (and_parts (nat_eq b 92) _ is).0)

no-char-ascii : (bytes : List ℕ) → is_char_at bytes ≡ false → BeginsAscii bytes
no-char-ascii bytes is = of (begins_pair bytes) (begins_other bytes) refl refl
  where
    of : (p o : Bool) → begins_pair bytes ≡ p → begins_other bytes ≡ o → BeginsAscii bytes
    of true o i j = pair-ascii bytes i
    of false true i j = other-ascii bytes j
    of false false i j = let h = rw (i, j) at is in absurd cc

chars-behind : (bytes : List ℕ) → BeginsAscii (drop (chars_length bytes) bytes)
chars-behind [] = tt
chars-behind (b ∷ bytes) = of (is_char_at (b ∷ bytes)) refl (chars-behind bytes)
  where
    of : (t : Bool) → is_char_at (b ∷ bytes) ≡ t → BeginsAscii (drop (chars_length bytes) bytes) → BeginsAscii (drop (chars_length (b ∷ bytes)) (b ∷ bytes))
    of true t later = rw (t, add-one (chars_length bytes)) later
    of false t later = rw t (no-char-ascii (b ∷ bytes) t)

pub line-parts : (bytes : List ℕ) (n : ℕ) → n ≡ chars_length bytes → IsUtf8 bytes → IsUtf8 (take n bytes) × IsUtf8 (drop n bytes)
line-parts bytes n is utf8 =
    let begins = subst (λ m. BeginsAscii (drop m bytes)) (sym is) (chars-behind bytes) in
    (front-utf8 bytes n begins utf8, rest-utf8 bytes n begins utf8)

chars-stop : (bytes : List ℕ) → chars_length (drop (chars_length bytes) bytes) ≡ 0
chars-stop [] = refl
chars-stop (b ∷ bytes) = of (is_char_at (b ∷ bytes)) refl (chars-stop bytes)
  where
    of : (t : Bool) → is_char_at (b ∷ bytes) ≡ t → chars_length (drop (chars_length bytes) bytes) ≡ 0 →
        chars_length (drop (chars_length (b ∷ bytes)) (b ∷ bytes)) ≡ 0
    of true t later = let same : chars_length (b ∷ bytes) ≡ suc (chars_length bytes) = rw t (omega arith) in
        subst (λ n. chars_length (drop n (b ∷ bytes)) ≡ 0) (sym same) later
    of false t later = let same : chars_length (b ∷ bytes) ≡ 0 = rw t refl in subst (λ n. chars_length (drop n (b ∷ bytes)) ≡ 0) (sym same) same

-- where neither a character nor a pair nor a substitution stands, a line's text ends
pub line-ends : (bytes : List ℕ) → chars_length bytes ≡ 0 → begins_pair bytes ≡ false → begins_with (codes "{") bytes ≡ false → front_of Line bytes ≡ Ends
line-ends [] none no_pair no_brace = refl
line-ends (b ∷ bytes) none no_pair no_brace = of (begins_other (b ∷ bytes)) (nat_eq b 123) refl refl
  where
    of : (o h : Bool) → begins_other (b ∷ bytes) ≡ o → nat_eq b 123 ≡ h → front_of Line (b ∷ bytes) ≡ Ends
    of o true i j = let told = rw j at no_brace in absurd cc
    of true false i j = rw (no_pair, i, j) refl
    of false false i j = let told = rw (no_pair, i) at none in absurd (omega (arith, told))

-- the text of a line that has neither pairs nor substitutions
pub plain-line : (bytes : List ℕ) (n : ℕ) → n ≡ chars_length bytes → begins_more (drop n bytes) ≡ false →
    written Line 0 bytes ≡ Some (record { text = take n bytes; holes = []; literals = no_literals; rest = drop n bytes })
plain-line bytes n is ends =
    let parts = or_parts (begins_pair (drop n bytes)) (begins_with (codes "{") (drop n bytes)) ends in
    let stop : chars_length (drop n bytes) ≡ 0 = subst (λ m. chars_length (drop m bytes) ≡ 0) (sym is) (chars-stop bytes) in
    let runs : Runs Line n bytes 0 = subst (λ m. Runs Line m bytes 0) (sym is) (chars-runs bytes 0) in
    let behind = written-ends Line (drop n bytes) 0 (line-ends (drop n bytes) stop parts.0 parts.1) in
    runs ∙ ap (joined (take n bytes) [] no_literals) behind ∙ joined-end (take n bytes) [] no_literals (drop n bytes)

-- The text of a command for the game.

game-runs : (bytes : List ℕ) (k : ℕ) → Runs Game (game_length false bytes) bytes k
game-runs [] k = runs-none Game [] k
game-runs (b ∷ []) k = of (nat_eq b 123) (nat_eq b 92) refl refl
  where
    of : (e s : Bool) → nat_eq b 123 ≡ e → nat_eq b 92 ≡ s → Runs Game (game_length false (b ∷ [])) (b ∷ []) k
    of true s i j = let same : game_length false (b ∷ []) ≡ 0 = rw i refl in subst (λ n. Runs Game n (b ∷ []) k) (sym same) (runs-none Game (b ∷ []) k)
    of false true i j =
        let same : game_length false (b ∷ []) ≡ 1 = rw i refl in
        let front : front_of Game (b ∷ []) ≡ Begins (Char b) [] = rw j (ap (λ x. Begins (Char x) []) (sym (eqb-true b 92 j))) in
        subst (λ n. Runs Game n (b ∷ []) k) (sym same) (runs-char Game b [] 0 k front (runs-none Game [] k))
    of false false i j =
        let same : game_length false (b ∷ []) ≡ 1 = rw i refl in
        let front : front_of Game (b ∷ []) ≡ Begins (Char b) [] = rw (j, i) refl in
        subst (λ n. Runs Game n (b ∷ []) k) (sym same) (runs-char Game b [] 0 k front (runs-none Game [] k))
game-runs (b ∷ c ∷ bytes) k = of (nat_eq b 123) (nat_eq b 92) refl refl (game-runs bytes k) (game-runs (c ∷ bytes) k)
  where
    of : (e s : Bool) → nat_eq b 123 ≡ e → nat_eq b 92 ≡ s → Runs Game (game_length false bytes) bytes k → Runs Game (game_length false (c ∷ bytes)) (c ∷ bytes) k →
        Runs Game (game_length false (b ∷ c ∷ bytes)) (b ∷ c ∷ bytes) k
    of true s i j behind later =
        let same : game_length false (b ∷ c ∷ bytes) ≡ 0 = rw i refl in
        subst (λ n. Runs Game n (b ∷ c ∷ bytes) k) (sym same) (runs-none Game (b ∷ c ∷ bytes) k)
    of false true i j behind later =
        let n = game_length false bytes in
        let same : game_length false (b ∷ c ∷ bytes) ≡ suc (suc n) = rw (i, j) (omega arith) in
        let is : b ≡ 92 = eqb-true b 92 j in
        let made : Runs Game (suc (suc n)) (92 ∷ c ∷ bytes) k = written-pair Game (92 ∷ c ∷ bytes) bytes c k refl ∙ ap (joined (92 ∷ c ∷ []) [] no_literals) behind
        ∙ joined-text (92 ∷ c ∷ []) (take n bytes) [] no_literals (written Game k (drop n bytes)) in
        subst (λ m. Runs Game m (b ∷ c ∷ bytes) k) (sym same) (subst (λ x. Runs Game (suc (suc n)) (x ∷ c ∷ bytes) k) (sym is) made)
    of false false i j behind later =
        let same : game_length false (b ∷ c ∷ bytes) ≡ game_length false (c ∷ bytes) + 1 = rw (i, j) refl in
        let front : front_of Game (b ∷ c ∷ bytes) ≡ Begins (Char b) (c ∷ bytes) = rw (j, i) refl in
        subst (λ n. Runs Game n (b ∷ c ∷ bytes) k) (sym same) (runs-char Game b (c ∷ bytes) (game_length false (c ∷ bytes)) k front later)

game-behind : (skips : Bool) (bytes : List ℕ) → BeginsAscii (drop (game_length skips bytes) bytes)
game-behind true [] = tt
game-behind false [] = tt
game-behind true (b ∷ bytes) = rw (add-one (game_length false bytes)) (game-behind false bytes)
game-behind false (b ∷ bytes) = of (nat_eq b 123) refl (game-behind (nat_eq b 92) bytes)
  where
    of : (e : Bool) → nat_eq b 123 ≡ e → BeginsAscii (drop (game_length (nat_eq b 92) bytes) bytes) → BeginsAscii (drop (game_length false (b ∷ bytes)) (b ∷ bytes))
    of true e later = rw e (omega (arith, eqb-true b 123 e))
    of false e later = rw (e, add-one (game_length (nat_eq b 92) bytes)) later

-- Both.

abbrev pub IsKept : Kind → List ℕ → List ℕ → List ℕ → Type 0
IsKept kind bytes own rest = ((k : ℕ) → written kind k bytes ≡ joined own [] no_literals (written kind k rest)) × (length rest < length bytes) × IsUtf8 own × IsUtf8 rest

run-kept : (kind : Kind) (bytes : List ℕ) (n : ℕ) → ((k : ℕ) → Runs kind n bytes k) → BeginsAscii (drop n bytes) → 0 < n → n ≤ length bytes → IsUtf8 bytes →
    IsKept kind bytes (take n bytes) (take (length bytes - n) (drop n bytes))
run-kept kind bytes n runs begins some within utf8 =
    let same : drop n bytes ≡ take (length bytes - n) (drop n bytes) = sym (take_rest bytes n) in
    subst (IsKept kind bytes (take n bytes)) same (runs, omega (arith, length-drop n bytes), front-utf8 bytes n begins utf8, rest-utf8 bytes n begins utf8)

pub line-kept : (bytes : List ℕ) (n : ℕ) → n ≡ chars_length bytes → 0 < n → n ≤ length bytes → IsUtf8 bytes →
    IsKept Line bytes (take n bytes) (take (length bytes - n) (drop n bytes))
line-kept bytes n is =
    run-kept Line bytes n (λ k. subst (λ m. Runs Line m bytes k) (sym is) (chars-runs bytes k)) (subst (λ m. BeginsAscii (drop m bytes)) (sym is) (chars-behind bytes))

pub game-kept : (bytes : List ℕ) (n : ℕ) → n ≡ game_length false bytes → 0 < n → n ≤ length bytes → IsUtf8 bytes →
    IsKept Game bytes (take n bytes) (take (length bytes - n) (drop n bytes))
game-kept bytes n is =
    run-kept Game bytes n (λ k. subst (λ m. Runs Game m bytes k) (sym is) (game-runs bytes k)) (subst (λ m. BeginsAscii (drop m bytes)) (sym is) (game-behind false bytes))

-- Steps of the loops that look for the end of such bytes.

chars-one : (bytes : List ℕ) → 0 < length bytes → is_char_at bytes ≡ true → chars_length bytes ≡ chars_length (drop 1 bytes) + 1
chars-one [] some is = absurd (omega (arith, some))
chars-one (b ∷ bytes) some is = rw is refl

pub chars-goes : (bytes : List ℕ) (at : ℕ) → at < length bytes → is_char_at (take (length bytes - at) (drop at bytes)) ≡ true →
    chars_length bytes ≡ at + chars_length (drop at bytes) → chars_length bytes ≡ at + 1 + chars_length (drop (at + 1) bytes)
chars-goes bytes at within is so_far =
    let here : is_char_at (drop at bytes) ≡ true = ap is_char_at (sym (take_rest bytes at)) ∙ is in
    let some : 0 < length (drop at bytes) = omega (arith, length-drop at bytes, within) in
    let same : chars_length (drop 1 (drop at bytes)) ≡ chars_length (drop (at + 1) bytes) = ap chars_length (drop-drop 1 at bytes) in
    omega (arith, so_far, chars-one (drop at bytes) some here, same)
