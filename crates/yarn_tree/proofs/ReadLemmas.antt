-- The reading of files, one stage after the other.
use Rattle.std.proofs.Common.{◌≡◌, List, Option, Some, None, sym, ap, ◌∙◌, subst}
use Rattle.yarn_base.specs.declared.Place.{Place}
use Rattle.yarn_base.specs.declared.SourceFile.{SourceFile}
use Rattle.yarn_value.specs.declared.signature.Signature.{Signature}
use Rattle.yarn_tree.specs.declared.refusal.ProjectFault.{ProjectFault}
use Rattle.yarn_tree.specs.declared.refusal.ProjectFault.TheVariants.{Refused, Memory}
use Rattle.yarn_tree.specs.declared.refusal.RefusalKind.TheVariants.{TooMuch, BadUtf8, LineTooLong}
use Rattle.yarn_tree.specs.declared.stages.SplitFile.{SplitFile}
use Rattle.yarn_tree.specs.Places.{at_file, first_line}
use Rattle.yarn_tree.specs.Size.{too_much, big_alone}
use Rattle.yarn_tree.specs.Splits.{bad_in, long_in, split_of, splits_from}
use Rattle.yarn_tree.specs.Reading.{Reading, Reads, unless, splits_read, reading_of, split_read, file_reading_of, sources_split, source_split, IsFault, IsTold}
use Rattle.yarn_tree.proofs.ChainLemmas.{told-here, fault-past}

-- one stage and what is read on
split-on : {A B : Type 0} (bad long : Option Place) (split found : A) (next : A → Reading B) →
    unless BadUtf8 bad (unless LineTooLong long (Reads split)) ≡ Reads found →
    unless BadUtf8 bad (unless LineTooLong long (next split)) ≡ next found
split-on None None split found next is = let same : split ≡ found = cc in ap next same
split-on None (Some place) split found next is = absurd cc
split-on (Some place) long split found next is = absurd cc

split-off : {A B : Type 0} (bad long : Option Place) (split : A) (next : Reading B) (fault : ProjectFault) →
    IsFault (unless BadUtf8 bad (unless LineTooLong long (Reads split))) fault → IsFault (unless BadUtf8 bad (unless LineTooLong long next)) fault
split-off bad long split next Memory is = tt
split-off None None split next (Refused refusal) is = absurd cc
split-off None (Some place) split next (Refused refusal) is = cc
split-off (Some place) long split next (Refused refusal) is = cc

pub too_much-told : (signatures : List Signature) (sources : List SourceFile) (place : Place) (fault : ProjectFault) → too_much 0 0 sources ≡ Some place → IsTold TooMuch (Some place) fault →
    IsFault (reading_of signatures sources) fault
unfolding reading_of
too_much-told signatures sources place fault is told =
    told-here TooMuch (too_much 0 0 sources) _ fault (subst (λ (o : Option Place). IsTold TooMuch o fault) (sym is) told)

pub split-read : (signatures : List Signature) (sources : List SourceFile) (splits : List SplitFile) → too_much 0 0 sources ≡ None → sources_split sources ≡ Reads splits →
    reading_of signatures sources ≡ splits_read signatures splits
unfolding reading_of
split-read signatures sources splits none is =
    ap (λ (o : Option Place). unless TooMuch o (unless BadUtf8 (first_line bad_in 0 sources) (unless LineTooLong (first_line long_in 0 sources) (splits_read signatures (splits_from 0 sources))))) none
    ∙ split-on (first_line bad_in 0 sources) (first_line long_in 0 sources) (splits_from 0 sources) splits (splits_read signatures) is

pub unsplit-read : (signatures : List Signature) (sources : List SourceFile) (fault : ProjectFault) → too_much 0 0 sources ≡ None → IsFault (sources_split sources) fault →
    IsFault (reading_of signatures sources) fault
unfolding reading_of
unsplit-read signatures sources fault none is =
    fault-past TooMuch (too_much 0 0 sources) _ fault none
    (split-off (first_line bad_in 0 sources) (first_line long_in 0 sources) (splits_from 0 sources) (splits_read signatures (splits_from 0 sources)) fault is)

pub big-told : (source : SourceFile) (place : Place) (fault : ProjectFault) → big_alone source ≡ Some place → IsTold TooMuch (Some place) fault →
    IsFault (file_reading_of source) fault
unfolding file_reading_of
big-told source place fault is told =
    told-here TooMuch (big_alone source) _ fault (subst (λ (o : Option Place). IsTold TooMuch o fault) (sym is) told)

pub alone-read : (source : SourceFile) (split : SplitFile) → big_alone source ≡ None → source_split source ≡ Reads split →
    file_reading_of source ≡ split_read split
unfolding file_reading_of
alone-read source split none is =
    ap (λ (o : Option Place). unless TooMuch o (unless BadUtf8 (at_file 0 (bad_in source)) (unless LineTooLong (at_file 0 (long_in source)) (split_read (split_of 0 source))))) none
    ∙ split-on (at_file 0 (bad_in source)) (at_file 0 (long_in source)) (split_of 0 source) split split_read is

pub unalone-read : (source : SourceFile) (fault : ProjectFault) → big_alone source ≡ None → IsFault (source_split source) fault →
    IsFault (file_reading_of source) fault
unfolding file_reading_of
unalone-read source fault none is =
    fault-past TooMuch (big_alone source) _ fault none
    (split-off (at_file 0 (bad_in source)) (at_file 0 (long_in source)) (split_of 0 source) (split_read (split_of 0 source)) fault is)
