-- What a program file comes to, from what reading, decoding and checking it tell.
use Rattle.std.proofs.Common.{◌≡◌, ℕ, ◌+◌, ◌<◌, ◌≤◌, ◌⊎◌, List, [], length, take, option_map, Option, Some, None, IfSome, string_bytes, nat_lt, Bool, true, false, inl, inr, refl, sym, ap, subst, ◌∙◌, arith, length-take, take_all}
use Rattle.std.proofs.lemmas.Bool.Decides.{nat_tests}
use Rattle.yarn_base.specs.Outside.{Named, GivesFile}
use Rattle.yarn_code.specs.declared.program.Program.{Program}
use Rattle.yarn_code.specs.Decoded.{Decoding, BadAt, decoding_of}
use Rattle.yarn_check.specs.Faults.{CheckFault}
use Rattle.yarn_cli.specs.declared.message.Ended.{Ended}
use Rattle.yarn_cli.specs.declared.status.Status.TheVariants.{OutOfMemory, RefusedProgram}
use Rattle.yarn_cli.specs.Ended.{IsRefusal}
use Rattle.yarn_cli.specs.List.{of_program_refused, of_judged, of_decoded, decoding_within, of_listed}
use Rattle.yarn_cli.specs.Messages.{file_refused, check_text}
use Rattle.yarn_cli.specs.Outcome.{Outcome, of_one}
use Rattle.yarn_cli.specs.Runs.{FilesSeen, SinkSeen, PrintsRead, PrintsUnsaid}
use Rattle.yarn_cli.specs.Sources.{source_of}
use Rattle.yarn_cli.proofs.RunLemmas.{memory-prints, silent-prints, prints-same, made-unsaid}

-- ---- refusals

line-told : (name fault line : List ℕ) → line ≡ file_refused name fault →
    of_program_refused name fault ≡ record { status = RefusedProgram; out = []; err = line }
line-told name fault line is = ap (λ (l : List ℕ). record { status = RefusedProgram; out = []; err = l }) (sym is)

-- a program file is refused for that fault
pub refuses : (outcome : Outcome) (name fault : List ℕ) (ended : Ended) → outcome ≡ of_program_refused name fault →
    (ended.status ≡ RefusedProgram) ⊎ (ended.status ≡ OutOfMemory) →
    (ended.status ≡ RefusedProgram → string_bytes ended.line ≡ file_refused name fault) → IsRefusal outcome ended
refuses outcome name fault ended is cases line = record {
  cases = cases;
  told = λ e. is ∙ line-told name fault (string_bytes ended.line) (line e);
}

pub memory-refuses : (outcome : Outcome) (ended : Ended) → ended.status ≡ OutOfMemory → IsRefusal outcome ended
memory-refuses outcome ended is = record {
  cases = inr is;
  told = λ e. let h : OutOfMemory ≡ RefusedProgram = sym is ∙ e in absurd cc;
}

-- for a fault that the checker finds
pub fault-refuses : (name : List ℕ) (program : Program) (first : Option CheckFault) (fault : CheckFault) (ended : Ended) → first ≡ Some fault →
    (ended.status ≡ RefusedProgram) ⊎ (ended.status ≡ OutOfMemory) →
    (ended.status ≡ RefusedProgram → string_bytes ended.line ≡ file_refused name (check_text fault)) → IsRefusal (of_judged name program first) ended
fault-refuses name program first fault ended is =
    refuses (of_judged name program first) name (check_text fault) ended (ap (of_judged name program) is)

-- only its line is written
pub refusal_prints : (outcome : Outcome) (ended : Ended) (out : SinkSeen) → IsRefusal outcome ended → PrintsRead outcome ended out out
refusal_prints outcome ended out is = by_cases is.cases
  where
    said : Outcome
    said = record { status = RefusedProgram; out = []; err = string_bytes ended.line }

    by_cases : (ended.status ≡ RefusedProgram) ⊎ (ended.status ≡ OutOfMemory) → PrintsRead outcome ended out out
    by_cases (inl e) = prints-same outcome said ended out out (is.told e) (silent-prints said ended out refl tt (inl e) (λ s. refl))
    by_cases (inr e) = memory-prints outcome ended out e

-- ---- the bytes of a program file

pub within-long : (bytes : List ℕ) → 1073741824 < length bytes → decoding_within bytes ≡ BadAt 1073741824
within-long bytes lt = let is : nat_lt 1073741824 (length bytes) ≡ true = grind (arith, nat_tests) in rw is refl

pub within-fits : (bytes : List ℕ) → length bytes ≤ 1073741824 → decoding_within bytes ≡ decoding_of bytes
within-fits bytes le = let is : nat_lt 1073741824 (length bytes) ≡ false = grind (arith, nat_tests) in rw is refl

-- the bytes that are read tell the same as all of them
within-cut : (bytes : List ℕ) → decoding_within (take (1073741824 + 1) bytes) ≡ decoding_within bytes
within-cut bytes = by_test (nat_lt 1073741824 (length bytes)) refl
  where
    by_test : (t : Bool) → nat_lt 1073741824 (length bytes) ≡ t → decoding_within (take (1073741824 + 1) bytes) ≡ decoding_within bytes
    by_test true is =
        let longer : 1073741824 < length bytes = grind (arith, nat_tests) in
        let lt : 1073741824 < length (take (1073741824 + 1) bytes) = omega (arith, longer, length-take (1073741824 + 1) bytes) in
        within-long (take (1073741824 + 1) bytes) lt ∙ sym (within-long bytes longer)
    by_test false is =
        let le : length bytes ≤ 1073741824 = grind (arith, nat_tests) in
        let shorter : length bytes ≤ 1073741824 + 1 = omega (arith, le) in
        ap decoding_within (take_all (1073741824 + 1) bytes shorter)

of_one-read : (name : List ℕ) (o : Option (List ℕ)) (bytes : List ℕ) → option_map (take (1073741824 + 1)) o ≡ Some bytes →
    of_one of_listed name o ≡ of_decoded name (decoding_within bytes)
of_one-read name None bytes e = absurd cc
of_one-read name (Some all) bytes e =
    let is : take (1073741824 + 1) all ≡ bytes = cc in
    ap (of_decoded name) (sym (within-cut all) ∙ ap decoding_within is)

told-read : (told : Option Named) (name bytes : List ℕ) → GivesFile told name 1073741824 bytes →
    IfSome told (λ named. of_one of_listed name (named name) ≡ of_decoded name (decoding_within bytes))
told-read None name bytes gives = tt
told-read (Some named) name bytes gives = of_one-read name (named name) bytes gives

-- a program file that is read, under a name and with bytes that are those of the file
pub program-unsaid : (names : List (List ℕ)) (name other : List ℕ) (bytes kept : List ℕ) (ended : Ended) (files files_new : FilesSeen) (out out_new : SinkSeen) →
    other ≡ name → kept ≡ bytes → GivesFile files.contents other 1073741824 bytes → PrintsRead (of_decoded other (decoding_within kept)) ended out out_new →
    files_new.contents ≡ files.contents → files_new.write_faults ≡ files.write_faults → files.read_faults ≤ files_new.read_faults →
    PrintsUnsaid names (λ named. of_one of_listed name (named name)) ended files files_new out out_new
program-unsaid names name other bytes kept ended files files_new out out_new same kept_is gives =
    made-unsaid (λ named. of_one of_listed name (named name)) (of_decoded other (decoding_within kept)) names ended files files_new out out_new
    (subst (λ (n : List ℕ). IfSome files.contents (λ named. of_one of_listed n (named n) ≡ of_decoded other (decoding_within kept))) same
    (subst (λ (b : List ℕ). IfSome files.contents (λ named. of_one of_listed other (named other) ≡ of_decoded other (decoding_within b))) (sym kept_is)
    (told-read files.contents other bytes gives)))
