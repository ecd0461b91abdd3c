-- One file after the other, cut into lines.
use Rattle.std.proofs.Common.{◌≡◌, ℕ, ◌+◌, List, [], ◌∷◌, ◌++◌, Option, Some, None, Result, Ok, Err, OnOk, IfErr, MatchResult, refl, sym, ap, ◌∙◌, subst, append_assoc}
use Rattle.yarn_base.specs.declared.Place.{Place}
use Rattle.yarn_base.specs.declared.SourceFile.{SourceFile}
use Rattle.yarn_lines.specs.Lines.{Lines}
use Rattle.yarn_lines.specs.Lines.{lines_of}
use Rattle.yarn_tree.specs.declared.refusal.ProjectFault.{ProjectFault}
use Rattle.yarn_tree.specs.declared.refusal.ProjectFault.TheVariants.{Memory}
use Rattle.yarn_tree.specs.declared.refusal.RefusalKind.TheVariants.{BadUtf8, LineTooLong}
use Rattle.yarn_tree.specs.declared.split.Splitter.{Splitter}
use Rattle.yarn_tree.specs.declared.stages.SplitFile.{SplitFile}
use Rattle.yarn_nodes.specs.Places.{or_later}
use Rattle.yarn_tree.specs.Places.{at_file, first_line}
use Rattle.yarn_tree.specs.Reading.{Reading, Reads, Refuses, unless, IsFault, sources_split}
use Rattle.yarn_tree.specs.Splits.{bad_in, long_in, split_of, splits_from}
use Rattle.yarn_tree.specs.Splitter.{splits_on, split_put, long_noted}

abbrev told : Option Place → Option Place → List SplitFile → Reading (List SplitFile)
told bad long splits = unless BadUtf8 bad (unless LineTooLong long (Reads splits))

pub put-on : (splitter : Splitter) (source : SourceFile) (lines : Lines) → bad_in source ≡ None → long_in source ≡ None → lines ≡ lines_of source.bytes →
    (sources : List SourceFile) → splits_on splitter (source ∷ sources) ≡ splits_on (split_put splitter source.name lines) sources
put-on splitter source lines good short is sources =
    let n = splitter.number in
    ap (λ (o : Option ℕ). told (or_later (at_file n o) (first_line bad_in (n + 1) sources)) (or_later splitter.long (first_line long_in n (source ∷ sources)))
    (splitter.splits ++ splits_from n (source ∷ sources))) good
    ∙ ap (λ (o : Option ℕ). told (first_line bad_in (n + 1) sources) (or_later splitter.long (or_later (at_file n o) (first_line long_in (n + 1) sources)))
    (splitter.splits ++ splits_from n (source ∷ sources))) short
    ∙ ap (told (first_line bad_in (n + 1) sources) (or_later splitter.long (first_line long_in (n + 1) sources)))
    (sym (append_assoc splitter.splits (split_of n source ∷ []) (splits_from (n + 1) sources)))
    ∙ ap (λ (l : Lines). told (first_line bad_in (n + 1) sources) (or_later splitter.long (first_line long_in (n + 1) sources))
    ((splitter.splits ++ record { number = n; name = source.name; lines = l } ∷ []) ++ splits_from (n + 1) sources)) (sym is)

long_twice : (bad long later : Option Place) (place : Place) (a b : List SplitFile) →
    told bad (or_later long (Some place)) a ≡ told bad (or_later (or_later long (Some place)) later) b
long_twice bad None later place a b = refl
long_twice bad (Some first) later place a b = refl

pub long-on : (splitter : Splitter) (source : SourceFile) (line : ℕ) → bad_in source ≡ None → long_in source ≡ Some line →
    (sources : List SourceFile) → splits_on splitter (source ∷ sources) ≡ splits_on (long_noted splitter line) sources
long-on splitter source line good long sources =
    let n = splitter.number in
    ap (λ (o : Option ℕ). told (or_later (at_file n o) (first_line bad_in (n + 1) sources)) (or_later splitter.long (first_line long_in n (source ∷ sources)))
    (splitter.splits ++ splits_from n (source ∷ sources))) good
    ∙ ap (λ (o : Option ℕ). told (first_line bad_in (n + 1) sources) (or_later splitter.long (or_later (at_file n o) (first_line long_in (n + 1) sources)))
    (splitter.splits ++ splits_from n (source ∷ sources))) long
    ∙ long_twice (first_line bad_in (n + 1) sources) splitter.long (first_line long_in (n + 1) sources) (record { file = n; line = line })
    (splitter.splits ++ splits_from n (source ∷ sources)) (splitter.splits ++ splits_from (n + 1) sources)

pub bad-on : (splitter : Splitter) (source : SourceFile) (line : ℕ) → bad_in source ≡ Some line → (sources : List SourceFile) →
    splits_on splitter (source ∷ sources) ≡ Refuses BadUtf8 (record { file = splitter.number; line = line })
bad-on splitter source line bad sources =
    let n = splitter.number in
    ap (λ (o : Option ℕ). told (or_later (at_file n o) (first_line bad_in (n + 1) sources)) (or_later splitter.long (first_line long_in n (source ∷ sources)))
    (splitter.splits ++ splits_from n (source ∷ sources))) bad

-- a fault at the next of the files is the fault of all
pub fault-first : (all left rest : List SourceFile) (splitter : Splitter) (source : SourceFile) (fault : ProjectFault) → left ≡ source ∷ rest →
    splits_on splitter left ≡ sources_split all →
    ((sources : List SourceFile) → IsFault (splits_on splitter (source ∷ sources)) fault) → IsFault (sources_split all) fault
fault-first all left rest splitter source fault cut so_far at =
    subst (λ (r : Reading (List SplitFile)). IsFault r fault) (sym (ap (splits_on splitter) cut) ∙ so_far) (at rest)

-- what is told where the lines of a file are put behind the others
pub put-told : {U : Type 0} (result : Result U ProjectFault) (splitter next : Splitter) (source : SourceFile) (lines : Lines) →
    OnOk result (next ≡ split_put splitter source.name lines) → IfErr result (λ fault. fault ≡ Memory) →
    bad_in source ≡ None → long_in source ≡ None → lines ≡ lines_of source.bytes →
    MatchResult result (λ _. (sources : List SourceFile) → splits_on splitter (source ∷ sources) ≡ splits_on next sources)
    (λ fault. (sources : List SourceFile) → IsFault (splits_on splitter (source ∷ sources)) fault)
put-told (Ok u) splitter next source lines ok err good short is =
    λ sources. put-on splitter source lines good short is sources ∙ ap (λ (s : Splitter). splits_on s sources) (sym ok)
put-told (Err fault) splitter next source lines ok err good short is =
    λ sources. subst (λ (f : ProjectFault). IsFault (splits_on splitter (source ∷ sources)) f) (sym err) tt
