-- How an answer is taken byte by byte.
use Rattle.std.proofs.Common.{◌≡◌, ℕ, ◌+◌, ◌-◌, ◌≤◌, ◌<◌, zero, suc, List, [], ◌∷◌, ◌++◌, length, take, drop, false, nat_eq, Option, Some, None, IfSome, refl, sym, ap, ◌∙◌, arith, append_assoc, append-nil, length-append}
use Rattle.std.proofs.Math.Seq.{drop-append_seam}
use Rattle.std.proofs.lemmas.Bool.Decides.{nat_tests}
use Rattle.std.specs.Io.KnownBytes.{prepend_known, IsAtEnd}
use Rattle.yarn_code.specs.Answer.{to_lf, taken, before_lf, trimmed, number_of, answered, answer_of}
use Rattle.yarn_code.specs.Taking.{TakesAnswer, TakesPart}
use Rattle.yarn_code.specs.Scan.{Fits, scanned, scan_number}
use Rattle.yarn_code.specs.declared.scan.Scan.{Scan}
use Rattle.yarn_code.specs.declared.scan.Scan.TheVariants.{Blank}
use Rattle.yarn_code.proofs.Scanning.{scans, scans-number}

-- n bytes were taken, none of them LF; what any rest would give
pub record IsReading (old new : Option (List ℕ)) (before now n : ℕ) (scan : Scan) : Type 0 where
  pub front : List ℕ
  pub split : old ≡ prepend_known front new
  pub count : length front ≡ n
  pub goes_on : (rest : List ℕ) → taken (front ++ rest) ≡ front ++ to_lf (take (4096 - n) rest)
  pub line : (rest : List ℕ) → before_lf (front ++ rest) ≡ front ++ before_lf rest
  pub known : (rest : List ℕ) → scans Blank (front ++ rest) ≡ scans scan rest
  pub fits : Fits scan
  pub later : before ≤ now

prepend_known-append : (known : Option (List ℕ)) (xs ys : List ℕ) →
    prepend_known xs (prepend_known ys known) ≡ prepend_known (xs ++ ys) known
prepend_known-append None xs ys = refl
prepend_known-append (Some zs) xs ys = ap Some (sym (append_assoc xs ys zs))

prepend_known-nil : (known : Option (List ℕ)) → known ≡ prepend_known [] known
prepend_known-nil None = refl
prepend_known-nil (Some zs) = refl

start_taken : (rest : List ℕ) → taken rest ≡ to_lf (take (4096 - 0) rest)
unfolding taken
start_taken rest = refl

pub IsReading-start : (old : Option (List ℕ)) (before : ℕ) → IsReading old old before before 0 Blank
IsReading-start old before = record {
  front = [];
  split = prepend_known-nil old;
  count = refl;
  goes_on = start_taken;
  line = (λ rest. refl);
  known = (λ rest. refl);
  fits = tt;
  later = omega arith;
}

-- one byte more, by whether it is LF
after_byte : (k b : ℕ) (rest : List ℕ) → (b ≡ 10 → ⊥) → to_lf (take (suc k) (b ∷ rest)) ≡ b ∷ to_lf (take k rest)
unfolding to_lf
after_byte k b rest other = let is : nat_eq b 10 ≡ false = grind (arith, nat_tests) in rw is refl

line_byte : (b : ℕ) (rest : List ℕ) → (b ≡ 10 → ⊥) → before_lf (b ∷ rest) ≡ b ∷ before_lf rest
unfolding before_lf
line_byte b rest other = let is : nat_eq b 10 ≡ false = grind (arith, nat_tests) in rw is refl

at_lf : (k b : ℕ) (rest : List ℕ) → b ≡ 10 → to_lf (take (suc k) (b ∷ rest)) ≡ b ∷ []
unfolding to_lf
at_lf k b rest is = rw is refl

line_lf : (b : ℕ) (rest : List ℕ) → b ≡ 10 → before_lf (b ∷ rest) ≡ []
unfolding before_lf
line_lf b rest is = rw is refl

line_end : before_lf [] ≡ []
unfolding before_lf
line_end = refl

at_end : (k : ℕ) → to_lf (take k []) ≡ []
unfolding to_lf
at_end zero = refl
at_end (suc k) = refl

no_more : (rest : List ℕ) → to_lf (take 0 rest) ≡ []
unfolding to_lf
no_more rest = refl

pub IsReading-step : (old new newer : Option (List ℕ)) (before now later n b : ℕ) (scan next : Scan) → IsReading old new before now n scan →
    n < 4096 → (b ≡ 10 → ⊥) → new ≡ prepend_known (b ∷ []) newer → now ≤ later → next ≡ scanned scan b → Fits next →
    IsReading old newer before later (n + 1) next
IsReading-step old new newer before now later n b scan next so_far lt is e le after fits = record {
  front = so_far.front ++ b ∷ [];
  split = so_far.split ∙ ap (prepend_known so_far.front) e ∙ prepend_known-append newer so_far.front (b ∷ []);
  count = omega (arith, length-append so_far.front (b ∷ []), so_far.count);
  goes_on = (λ rest.
      let k : 4096 - n ≡ suc (4096 - (n + 1)) = omega arith in
      ap taken (append_assoc so_far.front (b ∷ []) rest) ∙ so_far.goes_on (b ∷ rest)
      ∙ ap (λ m. so_far.front ++ to_lf (take m (b ∷ rest))) k ∙ ap (λ l. so_far.front ++ l) (after_byte (4096 - (n + 1)) b rest is)
      ∙ sym (append_assoc so_far.front (b ∷ []) (to_lf (take (4096 - (n + 1)) rest))));
  line = (λ rest.
      ap before_lf (append_assoc so_far.front (b ∷ []) rest) ∙ so_far.line (b ∷ rest) ∙ ap (λ l. so_far.front ++ l) (line_byte b rest is)
      ∙ sym (append_assoc so_far.front (b ∷ []) (before_lf rest)));
  known = (λ rest.
      ap (scans Blank) (append_assoc so_far.front (b ∷ []) rest) ∙ so_far.known (b ∷ rest) ∙ ap (λ s. scans s rest) (sym after));
  fits = fits;
  later = omega (arith, so_far.later);
}

-- the number of the line that ends here
line_number : (old new : Option (List ℕ)) (before now n : ℕ) (scan : Scan) (so_far : IsReading old new before now n scan) →
    number_of (trimmed so_far.front) ≡ scan_number scan
line_number old new before now n scan so_far =
    sym (scans-number so_far.front) ∙ ap (λ l. scan_number (scans Blank l)) (sym (append-nil so_far.front)) ∙ ap scan_number (so_far.known [])

some_answer : (bytes : List ℕ) → 0 < length bytes → answer_of bytes ≡ Some (answered bytes)
unfolding answer_of
some_answer [] some = absurd (omega (arith, some))
some_answer (b ∷ bytes) some = refl

-- the bytes taken are all that the answer takes
answers : (old new : Option (List ℕ)) (all : List ℕ) (number : ℕ) → old ≡ prepend_known all new → 0 < length all →
    IfSome new (λ rest. taken (all ++ rest) ≡ all) → number_of (trimmed (before_lf all)) ≡ number → TakesAnswer old new (Some number)
answers old None all number e some whole is = rw e refl
answers old (Some rest) all number e some whole is =
    let longer : 0 < length (all ++ rest) = omega (arith, length-append all rest) in
    let a = some_answer (all ++ rest) longer in
    let numbered : number ≡ number_of (trimmed (before_lf (taken (all ++ rest)))) = sym is ∙ ap (λ l. number_of (trimmed (before_lf l))) (sym whole) in
    let left : rest ≡ drop (length (taken (all ++ rest))) (all ++ rest) =
    sym (drop-append_seam all rest) ∙ ap (λ l. drop (length l) (all ++ rest)) (sym whole) in
    rw (e, a) (ap Some numbered, ap Some left)

pub IsReading-lf : (old new newer : Option (List ℕ)) (before now n b : ℕ) (scan : Scan) → IsReading old new before now n scan →
    n < 4096 → b ≡ 10 → new ≡ prepend_known (b ∷ []) newer → TakesAnswer old newer (Some (scan_number scan))
IsReading-lf old new newer before now n b scan so_far lt is e =
    answers old newer (so_far.front ++ b ∷ []) (scan_number scan)
    (so_far.split ∙ ap (prepend_known so_far.front) e ∙ prepend_known-append newer so_far.front (b ∷ []))
    (omega (arith, length-append so_far.front (b ∷ [])))
    (all newer (λ rest.
    let k : 4096 - n ≡ suc (4096 - (n + 1)) = omega arith in
    ap taken (append_assoc so_far.front (b ∷ []) rest) ∙ so_far.goes_on (b ∷ rest)
    ∙ ap (λ m. so_far.front ++ to_lf (take m (b ∷ rest))) k ∙ ap (λ l. so_far.front ++ l) (at_lf (4096 - (n + 1)) b rest is)))
    (ap (λ l. number_of (trimmed l)) (so_far.line (b ∷ []) ∙ ap (λ l. so_far.front ++ l) (line_lf b [] is) ∙ append-nil so_far.front)
    ∙ line_number old new before now n scan so_far)
  where
    all : {P : List ℕ → Type 0} (o : Option (List ℕ)) → ((rest : List ℕ) → P rest) → IfSome o P
    all None h = tt
    all (Some rest) h = h rest

-- the line has no LF
line_whole : (old new : Option (List ℕ)) (before now n : ℕ) (scan : Scan) (so_far : IsReading old new before now n scan) →
    number_of (trimmed (before_lf so_far.front)) ≡ scan_number scan
line_whole old new before now n scan so_far =
    ap (λ l. number_of (trimmed (before_lf l))) (sym (append-nil so_far.front))
    ∙ ap (λ l. number_of (trimmed l)) (so_far.line [] ∙ ap (λ l. so_far.front ++ l) line_end ∙ append-nil so_far.front)
    ∙ line_number old new before now n scan so_far

pub IsReading-end : (old new : Option (List ℕ)) (before now n : ℕ) (scan : Scan) → IsReading old new before now n scan →
    0 < n → IsAtEnd new → TakesAnswer old new (Some (scan_number scan))
IsReading-end old new before now n scan so_far some ended =
    answers old new so_far.front (scan_number scan) so_far.split (omega (arith, so_far.count))
    (all new ended (λ rest none.
    so_far.goes_on rest ∙ ap (λ l. so_far.front ++ to_lf (take (4096 - n) l)) none ∙ ap (λ l. so_far.front ++ l) (at_end (4096 - n)) ∙ append-nil so_far.front))
    (line_whole old new before now n scan so_far)
  where
    all : {P : List ℕ → Type 0} (o : Option (List ℕ)) → IsAtEnd o → ((rest : List ℕ) → rest ≡ [] → P rest) → IfSome o P
    all None e h = tt
    all (Some rest) e h = h rest e

pub IsReading-full : (old new : Option (List ℕ)) (before now n : ℕ) (scan : Scan) → IsReading old new before now n scan →
    n ≡ 4096 → TakesAnswer old new (Some (scan_number scan))
IsReading-full old new before now n scan so_far full =
    answers old new so_far.front (scan_number scan) so_far.split (omega (arith, so_far.count))
    (all new (λ rest.
    let none : 4096 - n ≡ 0 = omega arith in
    so_far.goes_on rest ∙ ap (λ m. so_far.front ++ to_lf (take m rest)) none ∙ ap (λ l. so_far.front ++ l) (no_more rest) ∙ append-nil so_far.front))
    (line_whole old new before now n scan so_far)
  where
    all : {P : List ℕ → Type 0} (o : Option (List ℕ)) → ((rest : List ℕ) → P rest) → IfSome o P
    all None h = tt
    all (Some rest) h = h rest

no_answer : answer_of [] ≡ None
unfolding answer_of
no_answer = refl

-- no byte was taken, and none is left
pub IsReading-none : (old new : Option (List ℕ)) (before now n : ℕ) (scan : Scan) → IsReading old new before now n scan →
    n ≡ 0 → IsAtEnd new → TakesAnswer old new None
IsReading-none old new before now n scan so_far none ended = at_nothing new so_far.front so_far.split (so_far.count ∙ none) ended
  where
    at_nothing : (o : Option (List ℕ)) (front : List ℕ) → old ≡ prepend_known front o → length front ≡ 0 → IsAtEnd o → TakesAnswer old o None
    at_nothing None front e zero_long ended = rw e refl
    at_nothing (Some rest) [] e zero_long ended = rw (e, ended, no_answer) (refl, refl)
    at_nothing (Some rest) (b ∷ front) e zero_long ended = absurd (omega (arith, zero_long))

pub IsReading-part : (old new : Option (List ℕ)) (before now n : ℕ) (scan : Scan) → IsReading old new before now n scan → TakesPart old new
IsReading-part old new before now n scan so_far = record {
  front = so_far.front;
  split = so_far.split;
  within = part new so_far.split;
}
  where
    part : (o : Option (List ℕ)) → old ≡ prepend_known so_far.front o → IfSome old (λ bytes. (more : List ℕ) × (taken bytes ≡ so_far.front ++ more))
    part None e = rw e tt
    part (Some rest) e = rw e (to_lf (take (4096 - n) rest), so_far.goes_on rest)
