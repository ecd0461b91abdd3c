-- The parts of a text that is printed: where it may be cut, and what is written of each.
use Rattle.std.proofs.Common.{◌≡◌, ◌≢◌, ℕ, zero, suc, ◌+◌, ◌-◌, ◌*◌, ◌<◌, ◌≤◌, List, [], ◌∷◌, ◌++◌, length, take, drop, Bool, true, false, not, ◌&&◌, ◌||◌, if◌then◌else◌, nat_eq, nat_lt, codes, refl, sym, ap, ◌∙◌, subst, ◌⊎◌, inl, inr, arith, add-one, get_or, IsUtf8, append_assoc, append-nil, slice_get, Option, Some, None}
use Rattle.std.specs.Str.{IsCharBoundary}
use Rattle.std.specs.List.{list_any, list_all}
use Rattle.std.proofs.lemmas.Bool.{eqb-true, ltb-true, true≢false, and_parts, or_parts, cases_lt, not-true, ne_eqb}
use Rattle.std.proofs.lemmas.Str.{IsCharBoundary-before_ascii, IsCharBoundary-after_ascii, IsCharBoundary-end}
use Rattle.yarn_expr.specs.declared.tree.Expr.{Expr}
use Rattle.yarn_items.specs.Text.{is_kept}
use Rattle.yarn_print.specs.declared.texts.Spelling.{Spelling}
use Rattle.yarn_print.specs.declared.texts.Spelling.TheVariants as spelling
use Rattle.yarn_print.specs.Print.{is_marked, spelled, hole_printed, text_printed, game_printed, last_of, wants_blank, blanks}
use Rattle.yarn_print.specs.Pieces.{printed, printed_text, written, plain_length, begins_hole, skips_behind, length_to_hole, past_brace, hole_if}

-- what holds of each of some bytes holds of a byte among them
pub among : (test : ℕ → Bool) (bytes : List ℕ) (b : ℕ) → list_any (λ e. nat_eq e b) bytes ≡ true → list_all test bytes ≡ true → test b ≡ true
among test [] b one all = absurd (true≢false (sym one))
among test (c ∷ bytes) b one all = by_test (among test bytes b) (nat_eq c b) refl
  where
    parts : (test c ≡ true) × (list_all test bytes ≡ true)
    parts = and_parts (test c) (list_all test bytes) all

    by_test : (list_any (λ e. nat_eq e b) bytes ≡ true → list_all test bytes ≡ true → test b ≡ true) → (t : Bool) → nat_eq c b ≡ t → test b ≡ true
    by_test later true t = ap test (sym (eqb-true c b t)) ∙ parts.0
    by_test later false t = later (rw t at one) parts.1

pub marked_ascii : (b : ℕ) → is_marked b ≡ true → b < 128
marked_ascii b is = ltb-true b 128 (among (λ c. nat_lt c 128) (codes "#/<>") b is refl)

marked_at : (bytes : List ℕ) → plain_length bytes < length bytes → is_marked (get_or bytes (plain_length bytes) 0) ≡ true
marked_at [] lt = absurd (omega arith)
marked_at (b ∷ bytes) lt = by_test (marked_at bytes) (is_marked b) refl
  where
    by_test : (plain_length bytes < length bytes → is_marked (get_or bytes (plain_length bytes) 0) ≡ true) →
        (t : Bool) → is_marked b ≡ t → is_marked (get_or (b ∷ bytes) (plain_length (b ∷ bytes)) 0) ≡ true
    by_test later true t = rw t t
    by_test later false t =
        let shorter : plain_length bytes < length bytes = let h = rw t at lt in omega arith in
        rw (t, add-one) (later shorter)

-- a text may be cut before the first byte that needs a `\`
pub boundary_before_marked : (bytes : List ℕ) (n : ℕ) → n ≡ plain_length bytes → n ≤ length bytes → IsCharBoundary bytes n
boundary_before_marked bytes n is le = by_end (cases_lt n (length bytes))
  where
    by_end : (n < length bytes) ⊎ (length bytes ≤ n) → IsCharBoundary bytes n
    by_end (inl lt) =
        let within : plain_length bytes < length bytes = omega arith in
        IsCharBoundary-before_ascii bytes n lt (rw is (marked_ascii _ (marked_at bytes within)))
    by_end (inr ge) = let e : n ≡ length bytes = omega arith in rw e (IsCharBoundary-end bytes)

-- and behind that byte
pub boundary_behind_marked : (bytes : List ℕ) → IsUtf8 bytes → 0 < length bytes → plain_length bytes ≡ 0 → IsCharBoundary bytes 1
boundary_behind_marked bytes utf8 some none =
    let within : plain_length bytes < length bytes = omega arith in
    let low : get_or bytes 0 0 < 128 = marked_ascii _ (rw none at (marked_at bytes within)) in
    IsCharBoundary-after_ascii bytes 0 utf8 some low

-- what stands before it is written as it is
pub printed_text-plain : (bytes : List ℕ) (n : ℕ) → n ≡ plain_length bytes → printed_text bytes ≡ take n bytes ++ printed_text (drop n bytes)
printed_text-plain [] n is = rw is refl
printed_text-plain (b ∷ bytes) n is = rw is (by_test (printed_text-plain bytes (plain_length bytes) refl) (is_marked b) refl)
  where
    by_test : printed_text bytes ≡ take (plain_length bytes) bytes ++ printed_text (drop (plain_length bytes) bytes) → (t : Bool) → is_marked b ≡ t →
        printed_text (b ∷ bytes) ≡ take (plain_length (b ∷ bytes)) (b ∷ bytes) ++ printed_text (drop (plain_length (b ∷ bytes)) (b ∷ bytes))
    by_test later true t = rw (t, t) refl
    by_test later false t = rw (t, add-one) (ap (λ l. b ∷ l) later)

-- ---- substitutions

-- a text may be cut before a substitution
pub hole_within : (skips : Bool) (text : List ℕ) → length_to_hole skips text ≤ length text
hole_within skips [] = omega arith
hole_within skips (b ∷ bytes) = by_test (hole_within (skips_behind skips b) bytes) (begins_hole skips (b ∷ bytes)) refl
  where
    by_test : length_to_hole (skips_behind skips b) bytes ≤ length bytes → (t : Bool) → begins_hole skips (b ∷ bytes) ≡ t →
        length_to_hole skips (b ∷ bytes) ≤ length (b ∷ bytes)
    by_test later true t = rw t (omega arith)
    by_test later false t = rw t (omega arith)

hole_first : (skips : Bool) (b : ℕ) (bytes : List ℕ) → begins_hole skips (b ∷ bytes) ≡ true → b ≡ 123
hole_first true b bytes is = absurd (true≢false (sym is))
hole_first false b [] is = absurd (true≢false (sym is))
hole_first false b (c ∷ bytes) is = eqb-true b 123 is

hole_at : (skips : Bool) (text : List ℕ) → length_to_hole skips text < length text → get_or text (length_to_hole skips text) 0 ≡ 123
hole_at skips [] lt = absurd (omega arith)
hole_at skips (b ∷ bytes) lt = by_test (hole_at (skips_behind skips b) bytes) (begins_hole skips (b ∷ bytes)) refl
  where
    by_test : (length_to_hole (skips_behind skips b) bytes < length bytes → get_or bytes (length_to_hole (skips_behind skips b) bytes) 0 ≡ 123) →
        (t : Bool) → begins_hole skips (b ∷ bytes) ≡ t → get_or (b ∷ bytes) (length_to_hole skips (b ∷ bytes)) 0 ≡ 123
    by_test later true t = rw t (hole_first skips b bytes t)
    by_test later false t =
        let shorter : length_to_hole (skips_behind skips b) bytes < length bytes = let h = rw t at lt in omega arith in
        rw (t, add-one) (later shorter)

pub boundary_before_hole : (text : List ℕ) (n : ℕ) → n ≡ length_to_hole false text → IsCharBoundary text n
boundary_before_hole text n is = by_end (cases_lt n (length text))
  where
    by_end : (n < length text) ⊎ (length text ≤ n) → IsCharBoundary text n
    by_end (inl lt) =
        let within : length_to_hole false text < length text = omega arith in
        let at : get_or text n 0 ≡ 123 = rw is (hole_at false text within) in
        IsCharBoundary-before_ascii text n lt (omega arith)
    by_end (inr ge) = let e : n ≡ length text = let h = hole_within false text in omega arith in rw e (IsCharBoundary-end text)

-- the first byte that is looked at begins no substitution
no_hole_here : (skips : Bool) (b : ℕ) (bytes : List ℕ) → begins_hole skips (b ∷ bytes) ≡ false →
    length_to_hole skips (b ∷ bytes) ≡ 1 + length_to_hole (skips_behind skips b) bytes
no_hole_here skips b bytes is = rw is (omega arith)

-- what is written behind a substitution
pub past-brace : (how : Spelling) (text : List ℕ) (es : List Expr) → printed how true text es ≡ printed how false (past_brace text) es
past-brace spelling.Text [] es = refl
past-brace spelling.Text (c ∷ bytes) es = by_test (past-brace spelling.Text bytes es) (nat_eq c 125)
  where
    by_test : text_printed true bytes es ≡ text_printed false (past_brace bytes) es → (t : Bool) →
        text_printed (if t then false else true) bytes es ≡ text_printed false (if t then bytes else past_brace bytes) es
    by_test later true = refl
    by_test later false = later
past-brace spelling.Game [] es = refl
past-brace spelling.Game (c ∷ bytes) es = by_test (past-brace spelling.Game bytes es) (nat_eq c 125)
  where
    by_test : game_printed true bytes es ≡ game_printed false (past_brace bytes) es → (t : Bool) →
        game_printed (if t then false else true) bytes es ≡ game_printed false (if t then bytes else past_brace bytes) es
    by_test later true = refl
    by_test later false = later

kept_not_marked : (c : ℕ) → is_kept c ≡ true → is_marked c ≡ false
kept_not_marked c is = not-true (is_marked c) (among (λ b. not (is_marked b)) (codes "\\{}[]") c is refl)

-- a text without substitutions
text-plain : (text : List ℕ) → text_printed false text [] ≡ printed_text text
text-plain [] = refl
text-plain (b ∷ []) = sym (append-nil (spelled b))
text-plain (b ∷ c ∷ bytes) = by_pair (text-plain bytes) (text-plain (c ∷ bytes)) (nat_eq b 92 && is_kept c) refl
  where
    by_pair : text_printed false bytes [] ≡ printed_text bytes → text_printed false (c ∷ bytes) [] ≡ printed_text (c ∷ bytes) →
        (t : Bool) → (nat_eq b 92 && is_kept c) ≡ t → text_printed false (b ∷ c ∷ bytes) [] ≡ printed_text (b ∷ c ∷ bytes)
    by_pair later next true t =
        let parts = and_parts (nat_eq b 92) (is_kept c) t in
        let is = eqb-true b 92 parts.0 in
        let kept = parts.1 in
        let plain = kept_not_marked c kept in
        rw (is, kept, plain) (ap (λ l. 92 ∷ c ∷ l) later)
    by_pair later next false t = rw t (ap (λ l. spelled b ++ l) next)

game-plain : (text : List ℕ) → game_printed false text [] ≡ text
game-plain [] = refl
game-plain (b ∷ []) = refl
game-plain (b ∷ c ∷ bytes) = ap (λ l. b ∷ l) (game-plain (c ∷ bytes))

pub without_holes : (how : Spelling) (text : List ℕ) → printed how false text [] ≡ written how text
without_holes spelling.Text text = text-plain text
without_holes spelling.Game text = game-plain text

-- what is written of a text that is cut there
abbrev pub cut : Spelling → ℕ → List ℕ → Expr → List Expr → List ℕ
cut how n text e es = written how (take n text) ++ (hole_if e (drop n text) ++ printed how false (past_brace (drop n text)) es)

-- a character that is neither a `\` nor begins a substitution
text-char : (b : ℕ) (bytes : List ℕ) (e : Expr) (es : List Expr) → nat_eq b 92 ≡ false → nat_eq b 123 ≡ false →
    text_printed false (b ∷ bytes) (e ∷ es) ≡ spelled b ++ text_printed false bytes (e ∷ es)
text-char b [] e es no_back no_open = sym (append-nil (spelled b))
text-char b (c ∷ bytes) e es no_back no_open = rw (no_back, no_open) refl

game-char : (b : ℕ) (bytes : List ℕ) (e : Expr) (es : List Expr) → nat_eq b 92 ≡ false → nat_eq b 123 ≡ false →
    game_printed false (b ∷ bytes) (e ∷ es) ≡ b ∷ game_printed false bytes (e ∷ es)
game-char b [] e es no_back no_open = refl
game-char b (c ∷ bytes) e es no_back no_open = rw (no_back, no_open) refl

no_hole_first : (b : ℕ) (bytes : List ℕ) → nat_eq b 123 ≡ false → begins_hole false (b ∷ bytes) ≡ false
no_hole_first b [] no_open = refl
no_hole_first b (c ∷ bytes) no_open = no_open

passes : (b : ℕ) (bytes : List ℕ) → nat_eq b 92 ≡ false → nat_eq b 123 ≡ false → length_to_hole false (b ∷ bytes) ≡ length_to_hole false bytes + 1
passes b bytes no_back no_open =
    let skip : skips_behind false b ≡ false = no_back in
    no_hole_here false b bytes (no_hole_first b bytes no_open) ∙ ap (λ s. 1 + length_to_hole s bytes) skip ∙ omega arith

-- one byte more before the cut
spell-on : (b : ℕ) (n : ℕ) (bytes : List ℕ) (e : Expr) (es : List Expr) → spelled b ++ cut spelling.Text n bytes e es ≡ cut spelling.Text (n + 1) (b ∷ bytes) e es
spell-on b n bytes e es =
    rw add-one (sym (append_assoc (spelled b) (printed_text (take n bytes)) (hole_if e (drop n bytes) ++ text_printed false (past_brace (drop n bytes)) es)))

text-last : (b : ℕ) (e : Expr) (es : List Expr) → text_printed false (b ∷ []) (e ∷ es) ≡ cut spelling.Text (length_to_hole false (b ∷ [])) (b ∷ []) e es
text-last b e es = sym (append-nil (spelled b ++ []) ∙ append-nil (spelled b))

-- the text up to its first substitution, and what follows
text-hole : (text : List ℕ) (e : Expr) (es : List Expr) → text_printed false text (e ∷ es) ≡ cut spelling.Text (length_to_hole false text) text e es
text-hole [] e es = refl
text-hole (b ∷ []) e es = text-last b e es
text-hole (b ∷ c ∷ bytes) e es = by_open (text-hole bytes e es) (text-hole (c ∷ bytes) e es) (nat_eq b 123) refl
  where
    Is : Type 0
    Is = text_printed false (b ∷ c ∷ bytes) (e ∷ es) ≡ cut spelling.Text (length_to_hole false (b ∷ c ∷ bytes)) (b ∷ c ∷ bytes) e es

    by_kept : text_printed false bytes (e ∷ es) ≡ cut spelling.Text (length_to_hole false bytes) bytes e es → (t : Bool) → is_kept c ≡ t →
        text_printed false (92 ∷ c ∷ bytes) (e ∷ es) ≡ cut spelling.Text (length_to_hole false bytes + 1 + 1) (92 ∷ c ∷ bytes) e es
    by_kept later true t =
        let plain : spelled c ≡ c ∷ [] = let h = kept_not_marked c t in rw h refl in
        rw t (ap (λ l. 92 ∷ c ∷ l) later ∙ ap (λ l. 92 ∷ (l ++ cut spelling.Text (length_to_hole false bytes) bytes e es)) (sym plain)
        ∙ ap (λ l. 92 ∷ l) (spell-on c (length_to_hole false bytes) bytes e es) ∙ spell-on 92 (length_to_hole false bytes + 1) (c ∷ bytes) e es)
    by_kept later false t =
        let parts = or_parts (nat_eq 92 c) _ t in
        rw t (ap (λ l. 92 ∷ l) (text-char c bytes e es (no_back (nat_eq c 92) refl) (no_open (nat_eq c 123) refl) ∙ ap (λ l. spelled c ++ l) later
        ∙ spell-on c (length_to_hole false bytes) bytes e es) ∙ spell-on 92 (length_to_hole false bytes + 1) (c ∷ bytes) e es)
      where
        no_back : (u : Bool) → nat_eq c 92 ≡ u → nat_eq c 92 ≡ false
        no_back true u = let is = eqb-true c 92 u in absurd (true≢false (rw is at t))
        no_back false u = u

        no_open : (u : Bool) → nat_eq c 123 ≡ u → nat_eq c 123 ≡ false
        no_open true u = let is = eqb-true c 123 u in absurd (true≢false (rw is at t))
        no_open false u = u

    by_back : text_printed false bytes (e ∷ es) ≡ cut spelling.Text (length_to_hole false bytes) bytes e es →
        text_printed false (c ∷ bytes) (e ∷ es) ≡ cut spelling.Text (length_to_hole false (c ∷ bytes)) (c ∷ bytes) e es → nat_eq b 123 ≡ false → (t : Bool) → nat_eq b 92 ≡ t → Is
    by_back later next no_open true t =
        subst (λ x. text_printed false (x ∷ c ∷ bytes) (e ∷ es) ≡ cut spelling.Text (length_to_hole false (x ∷ c ∷ bytes)) (x ∷ c ∷ bytes) e es) (sym (eqb-true b 92 t)) (by_kept later (is_kept c) refl)
    by_back later next no_open false t =
        text-char b (c ∷ bytes) e es t no_open ∙ ap (λ l. spelled b ++ l) next ∙ spell-on b (length_to_hole false (c ∷ bytes)) (c ∷ bytes) e es
        ∙ ap (λ n. cut spelling.Text n (b ∷ c ∷ bytes) e es) (sym (passes b (c ∷ bytes) t no_open))

    by_open : text_printed false bytes (e ∷ es) ≡ cut spelling.Text (length_to_hole false bytes) bytes e es →
        text_printed false (c ∷ bytes) (e ∷ es) ≡ cut spelling.Text (length_to_hole false (c ∷ bytes)) (c ∷ bytes) e es → (t : Bool) → nat_eq b 123 ≡ t → Is
    by_open later next true t = let is = eqb-true b 123 t in rw is (ap (λ l. hole_printed e ++ l) (past-brace spelling.Text (c ∷ bytes) es))
    by_open later next false t = by_back later next t (nat_eq b 92) refl

-- and of a command for the game
keep-on : (b : ℕ) (n : ℕ) (bytes : List ℕ) (e : Expr) (es : List Expr) → b ∷ cut spelling.Game n bytes e es ≡ cut spelling.Game (n + 1) (b ∷ bytes) e es
keep-on b n bytes e es = rw add-one refl

game-hole : (text : List ℕ) (e : Expr) (es : List Expr) → game_printed false text (e ∷ es) ≡ cut spelling.Game (length_to_hole false text) text e es
game-hole [] e es = refl
game-hole (b ∷ []) e es = refl
game-hole (b ∷ c ∷ bytes) e es = by_open (game-hole bytes e es) (game-hole (c ∷ bytes) e es) (nat_eq b 123) refl
  where
    Is : Type 0
    Is = game_printed false (b ∷ c ∷ bytes) (e ∷ es) ≡ cut spelling.Game (length_to_hole false (b ∷ c ∷ bytes)) (b ∷ c ∷ bytes) e es

    by_back : game_printed false bytes (e ∷ es) ≡ cut spelling.Game (length_to_hole false bytes) bytes e es →
        game_printed false (c ∷ bytes) (e ∷ es) ≡ cut spelling.Game (length_to_hole false (c ∷ bytes)) (c ∷ bytes) e es → nat_eq b 123 ≡ false → (t : Bool) → nat_eq b 92 ≡ t → Is
    by_back later next no_open true t =
        subst (λ x. game_printed false (x ∷ c ∷ bytes) (e ∷ es) ≡ cut spelling.Game (length_to_hole false (x ∷ c ∷ bytes)) (x ∷ c ∷ bytes) e es) (sym (eqb-true b 92 t))
        (ap (λ l. 92 ∷ c ∷ l) later ∙ ap (λ l. 92 ∷ l) (keep-on c (length_to_hole false bytes) bytes e es) ∙ keep-on 92 (length_to_hole false bytes + 1) (c ∷ bytes) e es)
    by_back later next no_open false t =
        game-char b (c ∷ bytes) e es t no_open ∙ ap (λ l. b ∷ l) next ∙ keep-on b (length_to_hole false (c ∷ bytes)) (c ∷ bytes) e es
        ∙ ap (λ n. cut spelling.Game n (b ∷ c ∷ bytes) e es) (sym (passes b (c ∷ bytes) t no_open))

    by_open : game_printed false bytes (e ∷ es) ≡ cut spelling.Game (length_to_hole false bytes) bytes e es →
        game_printed false (c ∷ bytes) (e ∷ es) ≡ cut spelling.Game (length_to_hole false (c ∷ bytes)) (c ∷ bytes) e es → (t : Bool) → nat_eq b 123 ≡ t → Is
    by_open later next true t = let is = eqb-true b 123 t in rw is (ap (λ l. hole_printed e ++ l) (past-brace spelling.Game (c ∷ bytes) es))
    by_open later next false t = by_back later next t (nat_eq b 92) refl

pub to-hole : (how : Spelling) (text : List ℕ) (e : Expr) (es : List Expr) → printed how false text (e ∷ es) ≡ cut how (length_to_hole false text) text e es
to-hole spelling.Text text e es = text-hole text e es
to-hole spelling.Game text e es = game-hole text e es

-- a text of which a substitution was written
pub put-hole : (how : Spelling) (text : List ℕ) (e : Expr) (es : List Expr) (start first last run behind rest : List ℕ) →
    run ≡ take (length_to_hole false text) text → behind ≡ drop (length_to_hole false text) text → first ≡ start ++ written how run →
    last ≡ first ++ hole_if e behind → rest ≡ past_brace behind → last ++ printed how false rest es ≡ start ++ printed how false text (e ∷ es)
put-hole how text e es start first last run behind rest is_run is_behind is_first is_last is_rest =
    let left : List ℕ = printed how false (past_brace behind) es in
    ap (λ l. last ++ printed how false l es) is_rest ∙ ap (λ l. l ++ left) (is_last ∙ ap (λ l. l ++ hole_if e behind) is_first)
    ∙ append_assoc (start ++ written how run) (hole_if e behind) left ∙ append_assoc start (written how run) (hole_if e behind ++ left)
    ∙ ap (λ l. start ++ (written how l ++ (hole_if e behind ++ left))) is_run
    ∙ ap (λ l. start ++ (written how (take (length_to_hole false text) text) ++ (hole_if e l ++ printed how false (past_brace l) es))) is_behind
    ∙ ap (λ l. start ++ l) (sym (to-hole how text e es))

-- no byte of them is a `}`
abbrev pub NoBrace : List ℕ → Type 0
NoBrace bytes = (i : ℕ) → i < length bytes → get_or bytes i 0 ≢ 125

first_no_brace : (b : ℕ) (bytes : List ℕ) → NoBrace (b ∷ bytes) → nat_eq b 125 ≡ false
first_no_brace b bytes free = ne_eqb b 125 (free 0 (omega arith))

rest_no_brace : (b : ℕ) (bytes : List ℕ) → NoBrace (b ∷ bytes) → NoBrace bytes
rest_no_brace b bytes free i lt = free (suc i) (omega (arith, lt))

-- what stands behind the first `}`
pub past_brace-cut : (before rest : List ℕ) → NoBrace before → past_brace (before ++ 125 ∷ rest) ≡ rest
past_brace-cut [] rest free = refl
past_brace-cut (b ∷ before) rest free =
    let first = first_no_brace b before free in
    rw first (past_brace-cut before rest (rest_no_brace b before free))

pub past_brace-none : (text : List ℕ) → NoBrace text → past_brace text ≡ []
past_brace-none [] free = refl
past_brace-none (b ∷ text) free =
    let first = first_no_brace b text free in
    rw first (past_brace-none text (rest_no_brace b text free))

-- ---- ends of contents

at_end : (b : ℕ) (bytes : List ℕ) → slice_get (b ∷ bytes) (length bytes) ≡ Some (last_of b bytes)
at_end b [] = refl
at_end b (c ∷ bytes) = at_end c bytes

-- the last byte asks for a blank
abbrev pub asks_blank : Option ℕ → Bool
asks_blank None = false
asks_blank (Some b) = nat_eq b 62 || nat_eq b 92

pub asked_by_last : (content : List ℕ) (n : ℕ) → n ≡ length content - 1 → asks_blank (slice_get content n) ≡ wants_blank content
asked_by_last [] n is = refl
asked_by_last (b ∷ bytes) n is = let e : n ≡ length bytes = omega arith in rw e (ap asks_blank (at_end b bytes))

-- ---- blanks

pub blanks_on : (n k : ℕ) → blanks (n + k) ≡ blanks n ++ blanks k
blanks_on zero k = let e : 0 + k ≡ k = omega arith in rw e refl
blanks_on (suc n) k = let e : suc n + k ≡ suc (n + k) = omega arith in rw e (ap (λ l. 32 ∷ l) (blanks_on n k))

pub blanks_deeper : (depth : ℕ) → blanks (4 * (depth + 1)) ≡ blanks (4 * depth) ++ codes "    "
blanks_deeper depth = let e : 4 * (depth + 1) ≡ 4 * depth + 4 = omega arith in rw e (blanks_on (4 * depth) 4)
