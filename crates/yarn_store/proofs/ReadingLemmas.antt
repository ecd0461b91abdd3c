-- What a line adds to a store, and how far a file was read.
use Rattle.std.proofs.Common.{◌≡◌, ℕ, ◌+◌, ◌<◌, ◌≤◌, List, [], ◌∷◌, ◌++◌, length, Bool, true, false, Option, None, Some, is_some, refl, sym, ap, ◌∙◌, arith, length-append, Bor, ◌==◌}
use Rattle.std.specs.Option.{option_copied}
use Rattle.yarn_value.specs.declared.value.Value.{Value}
use Rattle.yarn_value.specs.declared.value.Value.TheVariants.{Number, Str, Truth}
use Rattle.yarn_store.specs.Pairs.{IsPair}
use Rattle.yarn_value.specs.Pairs.{Pair, same_name, value_under, put}
use Rattle.yarn_value.specs.Values.{IsShort}
use Rattle.yarn_store.specs.Lines.{lines_of}
use Rattle.yarn_store.specs.Variables.{StandsFor, Spells}
use Rattle.yarn_store.specs.LineReading.{pair_of}
use Rattle.yarn_store.specs.Reading.{with_pair, after_line, go_on, reading_from, vars_of, Holds, BadAt}
use Rattle.yarn_store.specs.Steps.{IsPairLine}
use Rattle.yarn_store.proofs.LineReadingLemmas.{found_is}

pub put-new : (ps : List Pair) (name : List ℕ) (value : Value) → value_under ps name ≡ None → put ps name value ≡ ps ++ (name, value) ∷ []
put-new [] name value none = refl
put-new (p ∷ ps) name value none = by_test (put-new ps name value) (same_name name p.0) refl
  where
    by_test : (value_under ps name ≡ None → put ps name value ≡ ps ++ (name, value) ∷ []) → (b : Bool) → same_name name p.0 ≡ b →
        put (p ∷ ps) name value ≡ (p ∷ ps) ++ (name, value) ∷ []
    by_test later true is = let h = rw is at none in absurd cc
    by_test later false is = rw (is, later (rw is at none)) refl

-- ---- one line

pub after_line-none : (before : List Pair) (line : List ℕ) → line ≡ [] → after_line before line ≡ Some before
after_line-none before line is = rw is refl

after_line-some : (before : List Pair) (line : List ℕ) → ¬ (line ≡ []) → after_line before line ≡ with_pair before (pair_of line)
after_line-some before [] some = absurd (some refl)
after_line-some before (b ∷ bytes) some = refl

-- what was found of a line that isn't empty
module _ (before : List Pair) (line : List ℕ) (some : ¬ (line ≡ [])) where
  pub after_line-other : ¬ IsPairLine line → after_line before line ≡ None
  after_line-other other = after_line-some before line some ∙ ap (with_pair before) (found_is line None other)

  pub after_line-name : (p : Pair) → StandsFor line p → is_some (value_under before p.0) ≡ true → after_line before line ≡ None
  after_line-name p stands there = after_line-some before line some ∙ ap (with_pair before) (found_is line (Some p) stands) ∙ (rw there refl)

  pub after_line-new : (p : Pair) → StandsFor line p → value_under before p.0 ≡ None → after_line before line ≡ Some (before ++ p ∷ [])
  after_line-new p stands none = after_line-some before line some ∙ ap (with_pair before) (found_is line (Some p) stands) ∙ (rw none refl)

-- what a look-up found is there
pub found_there : (o : Option (Bor Value)) (v : Option Value) → option_copied o ≡ v → is_some o ≡ true → is_some v ≡ true
found_there None v e there = absurd cc
found_there (Some x) v e there = ap is_some (sym e)

pub found_none : (o : Option (Bor Value)) (v : Option Value) → option_copied o ≡ v → is_some o ≡ false → v ≡ None
found_none None v e none = sym e
found_none (Some x) v e none = absurd cc

pub not_empty : (line : List ℕ) → (length line == 0) ≡ false → ¬ (line ≡ [])
not_empty [] e is = absurd cc
not_empty (b ∷ bytes) e is = absurd cc

short_value : (spelled : List ℕ) (v : Value) → Spells spelled v → IsShort v
short_value spelled (Number n) s = tt
short_value spelled (Str t) s = s.1
short_value spelled (Truth b) s = tt

-- the pair of a line that isn't too long is one that a store may hold
pub pair_of_line : (line : List ℕ) (p : Pair) → StandsFor line p → length line < 4294967296 → IsPair p.0 p.1
pair_of_line line p stands lt = record {
  variable = stands.variable;
  len = omega (arith, ap length stands.parts, length-append p.0 (32 ∷ 61 ∷ 32 ∷ stands.spelled));
  short = short_value stands.spelled p.1 stands.value;
}

-- ---- how far a file was read

-- the rest begins at the line of that number, behind those pairs
pub record IsReading (bytes : List ℕ) (store : List Pair) (number : ℕ) (rest : List ℕ) : Type 0 where
  pub same : vars_of bytes ≡ reading_from store number (lines_of rest)
  pub count : number + length rest ≤ 1 + length bytes

pub IsReading-start : (bytes rest : List ℕ) → rest ≡ bytes → IsReading bytes [] 1 rest
IsReading-start bytes rest is = rw is (record { same = refl; count = omega arith })

one_more : (store : List Pair) (number : ℕ) (rest line behind : List ℕ) (o : Option (List Pair)) → lines_of rest ≡ line ∷ lines_of behind → after_line store line ≡ o →
    reading_from store number (lines_of rest) ≡ go_on number (λ after. reading_from after (number + 1) (lines_of behind)) o
one_more store number rest line behind o lines is = ap (reading_from store number) lines ∙ ap (go_on number (λ after. reading_from after (number + 1) (lines_of behind))) is

pub IsReading-step : (bytes : List ℕ) (store after : List Pair) (number : ℕ) (rest line behind : List ℕ) → IsReading bytes store number rest →
    lines_of rest ≡ line ∷ lines_of behind → length behind < length rest → after_line store line ≡ Some after → IsReading bytes after (number + 1) behind
IsReading-step bytes store after number rest line behind so_far lines shorter adds = record {
  same = so_far.same ∙ one_more store number rest line behind (Some after) lines adds;
  count = omega (arith, so_far.count, shorter);
}

pub IsReading-end : (bytes : List ℕ) (store : List Pair) (number : ℕ) (rest : List ℕ) → IsReading bytes store number rest → rest ≡ [] → vars_of bytes ≡ Holds store
IsReading-end bytes store number rest so_far none = so_far.same ∙ ap (λ l. reading_from store number (lines_of l)) none

pub IsReading-bad : (bytes : List ℕ) (store : List Pair) (number : ℕ) (rest line behind : List ℕ) → IsReading bytes store number rest →
    lines_of rest ≡ line ∷ lines_of behind → after_line store line ≡ None → vars_of bytes ≡ BadAt number
IsReading-bad bytes store number rest line behind so_far lines bad = so_far.same ∙ one_more store number rest line behind None lines bad
