-- How far a template was read.
use Rattle.std.proofs.Common.{◌≡◌, ℕ, ◌+◌, ◌<◌, ◌≤◌, Bool, true, false, ◌&&◌, nat_le, ◌⊎◌, inl, inr, List, [], ◌∷◌, ◌++◌, map, length, Option, Some, None, IsUtf8, refl, sym, ap, ◌∙◌, subst, arith, append_assoc, append-nil}
use Rattle.std.proofs.lemmas.List.{map-append}
use Rattle.std.proofs.lemmas.Bool.Decides.{nat_tests}
use Rattle.yarn_value.specs.Templates as templates
use Rattle.yarn_value.specs.Templates.{Plain, Stands, Brace, Placeholder, Part, Byte, Hole, marks, part_of, placeholders, size, limited, template_found, template_of}
use Rattle.yarn_value.specs.declared.mark.Step.{Step}
use Rattle.yarn_value.specs.declared.template.Piece.{Piece}
use Rattle.yarn_value.specs.declared.template.Piece.TheVariants as piece
use Rattle.yarn_value.specs.Pieces.{part_list, parts_of}
use Rattle.yarn_value.specs.TemplateSteps.{marks_in, all_before, IsStep}
use Rattle.yarn_value.specs.TemplateReading.{IsTooMuch, built}

-- ---- counting

pub size-append : (a b : List templates.Mark) → size (a ++ b) ≡ size a + size b
size-append [] b = omega arith
size-append (Stands x ∷ a) b = omega (arith, size-append a b)
size-append (Brace x ∷ a) b = omega (arith, size-append a b)
size-append (Placeholder k ∷ a) b = omega (arith, size-append a b)

pub placeholders-append : (a b : List templates.Mark) → placeholders (a ++ b) ≡ placeholders a + placeholders b
placeholders-append [] b = omega arith
placeholders-append (Stands x ∷ a) b = placeholders-append a b
placeholders-append (Brace x ∷ a) b = placeholders-append a b
placeholders-append (Placeholder k ∷ a) b = omega (arith, placeholders-append a b)

pub size-stands : (bytes : List ℕ) → size (map Stands bytes) ≡ length bytes
size-stands [] = refl
size-stands (b ∷ bytes) = omega (arith, size-stands bytes)

pub placeholders-stands : (bytes : List ℕ) → placeholders (map Stands bytes) ≡ 0
placeholders-stands [] = refl
placeholders-stands (b ∷ bytes) = placeholders-stands bytes

pub ruleset counts = (size-stands, placeholders-stands)

-- ---- building

parts_of-append : (a b : List Piece) → parts_of (a ++ b) ≡ parts_of a ++ parts_of b
parts_of-append [] b = refl
parts_of-append (p ∷ a) b = ap (λ l. part_list p ++ l) (parts_of-append a b) ∙ sym (append_assoc (part_list p) (parts_of a) (parts_of b))

bytes_stand : (bytes : List ℕ) → map part_of (map Stands bytes) ≡ map Byte bytes
bytes_stand [] = refl
bytes_stand (b ∷ bytes) = ap (λ l. Byte b ∷ l) (bytes_stand bytes)

pub built-char : (pieces : List Piece) (run new bytes : List ℕ) → new ≡ run ++ bytes → built pieces new ≡ built pieces run ++ map part_of (map Stands bytes)
built-char pieces run new bytes grown =
    ap (λ r. parts_of pieces ++ map Byte r) grown ∙ ap (λ l. parts_of pieces ++ l) (map-append Byte run bytes)
    ∙ sym (append_assoc (parts_of pieces) (map Byte run) (map Byte bytes)) ∙ ap (λ l. built pieces run ++ l) (sym (bytes_stand bytes))

pub built-run : (pieces new : List Piece) (run : List ℕ) → new ≡ pieces ++ piece.Run run ∷ [] → parts_of new ≡ built pieces run
built-run pieces new run grown = ap parts_of grown ∙ parts_of-append pieces (piece.Run run ∷ []) ∙ ap (λ l. parts_of pieces ++ l) (append-nil (map Byte run))

pub built-hole : (pieces with_run new : List Piece) (run rest : List ℕ) (hole : ℕ) → with_run ≡ pieces ++ piece.Run run ∷ [] → new ≡ with_run ++ piece.Hole hole ∷ [] → rest ≡ [] → built new rest ≡ built pieces run ++ Hole hole ∷ []
built-hole pieces with_run new run rest hole first second none =
    ap (λ r. parts_of new ++ map Byte r) none ∙ append-nil (parts_of new) ∙ ap parts_of second ∙ parts_of-append with_run (piece.Hole hole ∷ [])
    ∙ ap (λ l. l ++ Hole hole ∷ []) (built-run pieces with_run run first)

-- ---- how far a text was read

pub record IsReading (holes : ℕ) (text rest : List ℕ) (pieces : List Piece) (run : List ℕ) (bytes found : ℕ) : Type 0 where
  pub done : List templates.Mark
  pub goes : marks holes Plain text ≡ all_before done (marks holes Plain rest)
  pub parts : built pieces run ≡ map part_of done
  pub bytes_are : bytes ≡ size done
  pub found_are : found ≡ placeholders done
  pub short : bytes ≤ 65536
  pub few : found ≤ 64
  pub utf8 : IsUtf8 rest

start_goes : (o : Option (List templates.Mark)) → o ≡ all_before [] o
start_goes None = refl
start_goes (Some ms) = refl

pub IsReading-start : (holes : ℕ) (text : List ℕ) (pieces : List Piece) (run : List ℕ) → IsUtf8 text → built pieces run ≡ [] → IsReading holes text text pieces run 0 0
IsReading-start holes text pieces run utf8 none = record {
  done = [];
  goes = start_goes (marks holes Plain text);
  parts = none;
  bytes_are = refl;
  found_are = refl;
  short = omega arith;
  few = omega arith;
  utf8 = utf8;
}

join_goes : (a b : List templates.Mark) (o : Option (List templates.Mark)) → all_before a (all_before b o) ≡ all_before (a ++ b) o
join_goes a b None = refl
join_goes a b (Some ms) = ap Some (sym (append_assoc a b ms))

above : (a b : ℕ) → b < a → nat_le a b ≡ false
above a b h = grind (arith, nat_tests)

within : (a b : ℕ) → a ≤ b → nat_le a b ≡ true
within a b h = grind (arith, nat_tests)

and_false : (b : Bool) → (b && false) ≡ false
and_false true = refl
and_false false = refl

by_limit : (all : List templates.Mark) → (65536 < size all) ⊎ (64 < placeholders all) → limited all ≡ None
by_limit all (inl h) =
    let second : nat_le (size all) 65536 ≡ false = above (size all) 65536 h in
    let whole : (nat_le (placeholders all) 64 && nat_le (size all) 65536) ≡ false = ap (λ t. nat_le (placeholders all) 64 && t) second ∙ and_false (nat_le (placeholders all) 64) in
    rw whole refl
by_limit all (inr h) = let first : nat_le (placeholders all) 64 ≡ false = above (placeholders all) 64 h in rw first refl

grown : (done front ms : List templates.Mark) → IsTooMuch (size done) (placeholders done) front → (65536 < size ((done ++ front) ++ ms)) ⊎ (64 < placeholders ((done ++ front) ++ ms))
grown done front ms (inl h) = inl (omega (arith, size-append (done ++ front) ms, size-append done front))
grown done front ms (inr h) = inr (omega (arith, placeholders-append (done ++ front) ms, placeholders-append done front))

over_limit : (done front : List templates.Mark) → IsTooMuch (size done) (placeholders done) front → (o : Option (List templates.Mark)) → template_found (all_before (done ++ front) o) ≡ None
over_limit done front much None = refl
over_limit done front much (Some ms) = by_limit ((done ++ front) ++ ms) (grown done front ms much)

module _ (holes : ℕ) (text rest : List ℕ) (pieces : List Piece) (run : List ℕ) (bytes found : ℕ) (so_far : IsReading holes text rest pieces run bytes found) where
  step_goes : (step : Step) → IsStep holes Plain rest step → marks holes Plain text ≡ all_before (so_far.done ++ marks_in step.mark) (marks holes Plain step.rest.now)
  step_goes step is = so_far.goes ∙ ap (all_before so_far.done) is.goes ∙ join_goes so_far.done (marks_in step.mark) (marks holes Plain step.rest.now)

  pub IsReading-step : (step : Step) (new : List Piece) (new_run : List ℕ) (new_bytes new_found : ℕ) → IsStep holes Plain rest step → built new new_run ≡ built pieces run ++ map part_of (marks_in step.mark) →
      new_bytes ≡ bytes + size (marks_in step.mark) → new_found ≡ found + placeholders (marks_in step.mark) → new_bytes ≤ 65536 → new_found ≤ 64 → IsReading holes text step.rest.now new new_run new_bytes new_found
  IsReading-step step new new_run new_bytes new_found is grown more_bytes more_found short few = record {
    done = so_far.done ++ marks_in step.mark;
    goes = step_goes step is;
    parts = grown ∙ ap (λ l. l ++ map part_of (marks_in step.mark)) so_far.parts ∙ sym (map-append part_of so_far.done (marks_in step.mark));
    bytes_are = more_bytes ∙ ap (λ n. n + size (marks_in step.mark)) so_far.bytes_are ∙ sym (size-append so_far.done (marks_in step.mark));
    found_are = more_found ∙ ap (λ n. n + placeholders (marks_in step.mark)) so_far.found_are ∙ sym (placeholders-append so_far.done (marks_in step.mark));
    short = short;
    few = few;
    utf8 = is.utf8;
  }

  pub IsReading-wrong : marks holes Plain rest ≡ None → template_of text holes ≡ None
  IsReading-wrong none = ap template_found (so_far.goes ∙ ap (all_before so_far.done) none)

  pub IsReading-end : rest ≡ [] → (new : List Piece) → parts_of new ≡ built pieces run → template_of text holes ≡ Some (parts_of new)
  IsReading-end none new are =
      let all : marks holes Plain text ≡ Some so_far.done = so_far.goes ∙ ap (λ l. all_before so_far.done (marks holes Plain l)) none ∙ ap Some (append-nil so_far.done) in
      let first : nat_le (placeholders so_far.done) 64 ≡ true = within (placeholders so_far.done) 64 (omega (arith, so_far.found_are, so_far.few)) in
      let second : nat_le (size so_far.done) 65536 ≡ true = within (size so_far.done) 65536 (omega (arith, so_far.bytes_are, so_far.short)) in
      ap template_found all ∙ (rw (first, second) refl) ∙ ap Some (sym (are ∙ so_far.parts))

  pub IsReading-too_much : (step : Step) → IsStep holes Plain rest step → IsTooMuch bytes found (marks_in step.mark) → template_of text holes ≡ None
  IsReading-too_much step is much =
      ap template_found (step_goes step is)
      ∙ over_limit so_far.done (marks_in step.mark) (subst (λ n. IsTooMuch n (placeholders so_far.done) (marks_in step.mark)) so_far.bytes_are (subst (λ n. IsTooMuch bytes n (marks_in step.mark)) so_far.found_are much)) (marks holes Plain step.rest.now)
