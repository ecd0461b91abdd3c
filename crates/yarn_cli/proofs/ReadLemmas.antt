-- What reads tell of the sources under names.
use Rattle.std.proofs.Common.{◌≡◌, ℕ, suc, ◌+◌, ◌≤◌, ◌<◌, List, [], ◌∷◌, ◌++◌, length, map, take, drop, get_or, Option, Some, None, IfSome, option_map, refl, sym, ap, subst, ◌∙◌, arith, take-append-drop, drop-cons}
use Rattle.std.proofs.Math.Seq.{take-suc}
use Rattle.yarn_base.specs.declared.SourceFile.{SourceFile}
use Rattle.yarn_base.specs.Causes.{Rose}
use Rattle.yarn_base.specs.Outside.{Named, GivesFile}
use Rattle.yarn_cli.specs.Read.{cut, IsSource, IsAdded, AreCut, AreSources}
use Rattle.yarn_cli.specs.Sources.{Sources, Found, Missing, source_of, with_source, sources_of, IsFound, IsUnread}

of_bytes : (name bytes : List ℕ) (o : Option (List ℕ)) → option_map (take (4194304 + 1)) o ≡ Some bytes →
    option_map (λ all. cut (source_of name all)) o ≡ Some (record { name = name; bytes = bytes })
of_bytes name bytes None e = absurd cc
of_bytes name bytes (Some all) e =
    let is : take (4194304 + 1) all ≡ bytes = cc in ap (λ (b : List ℕ). Some (record { name = name; bytes = b })) is

source-of_bytes : (told : Option Named) (name bytes : List ℕ) → GivesFile told name 4194304 bytes →
    IsSource told name (record { name = name; bytes = bytes })
source-of_bytes None name bytes gives = tt
source-of_bytes (Some named) name bytes gives = of_bytes name bytes (named name) gives

-- the bytes that were read, under a copy of the name
pub source-is : (told : Option Named) (name bytes copy kept : List ℕ) → GivesFile told name 4194304 bytes → copy ≡ name → kept ≡ bytes →
    IsSource told name (record { name = copy; bytes = kept })
source-is told name bytes copy kept gives copy_is kept_is =
    subst (λ (n : List ℕ). IsSource told name (record { name = n; bytes = kept })) (sym copy_is)
    (subst (λ (b : List ℕ). IsSource told name (record { name = name; bytes = b })) (sym kept_is) (source-of_bytes told name bytes gives))

-- one more file behind those that are found

one-found : (name : List ℕ) (o : Option (List ℕ)) (file : SourceFile) → option_map (λ all. cut (source_of name all)) o ≡ Some file →
    AreCut (with_source name o (Found [])) (file ∷ [])
one-found name None file e = absurd cc
one-found name (Some bytes) file e =
    let is : file ≡ cut (source_of name bytes) = cc in
    record { whole = source_of name bytes ∷ []; found = refl; are = ap (λ (f : SourceFile). f ∷ []) is }

more-found : (name : List ℕ) (o : Option (List ℕ)) (rest longer : Sources) (files : List SourceFile) (file : SourceFile) →
    ((others : List SourceFile) → AreCut rest others → AreCut longer (others ++ file ∷ [])) → AreCut (with_source name o rest) files →
    AreCut (with_source name o longer) (files ++ file ∷ [])
more-found name None rest longer files file later are = let h = are.found in absurd cc
more-found name (Some bytes) (Missing other) longer files file later are = let h = are.found in absurd cc
more-found name (Some bytes) (Found others) longer files file later are =
    let e = are.found in
    let is : are.whole ≡ source_of name bytes ∷ others = cc in
    let more = later (map cut others) (record { whole = others; found = refl; are = refl }) in
    record {
      whole = source_of name bytes ∷ more.whole;
      found = ap (with_source name (Some bytes)) more.found;
      are = ap (λ (l : List SourceFile). l ++ file ∷ []) (are.are ∙ ap (map cut) is)
          ∙ ap (λ (l : List SourceFile). cut (source_of name bytes) ∷ l) more.are;
    }

sources_of-push : (named : Named) (names : List (List ℕ)) (name : List ℕ) (files : List SourceFile) (file : SourceFile) →
    AreCut (sources_of named names) files → option_map (λ all. cut (source_of name all)) (named name) ≡ Some file →
    AreCut (sources_of named (names ++ name ∷ [])) (files ++ file ∷ [])
sources_of-push named [] name files file are is =
    let e = are.found in
    let none : are.whole ≡ [] = cc in
    let empty : files ≡ [] = are.are ∙ ap (map cut) none in
    subst (λ (l : List SourceFile). AreCut (with_source name (named name) (Found [])) (l ++ file ∷ [])) (sym empty) (one-found name (named name) file is)
sources_of-push named (first ∷ names) name files file are is =
    more-found first (named first) (sources_of named names) (sources_of named (names ++ name ∷ [])) files file
    (λ others found. sources_of-push named names name others file found is) are

added-is : (told : Option Named) (names : List (List ℕ)) (name : List ℕ) (old new : List SourceFile) → AreSources told names old →
    IsAdded told name old new → AreSources told (names ++ name ∷ []) new
added-is None names name old new are added = tt
added-is (Some named) names name old new are added =
    subst (λ (l : List SourceFile). AreCut (sources_of named (names ++ name ∷ [])) l) (sym added.is)
    (sources_of-push named names name old added.file are added.source)

pub sources-step : (told : Option Named) (names : List (List ℕ)) (i : ℕ) (name : List ℕ) (old new : List SourceFile) → i < length names →
    name ≡ get_or names i name → AreSources told (take i names) old → IsAdded told name old new →
    AreSources told (take (i + 1) names) new
sources-step told names i name old new lt is are added =
    let one : i + 1 ≡ suc i = omega arith in
    let split : take (i + 1) names ≡ take i names ++ name ∷ []
    = ap (λ n. take n names) one ∙ take-suc names i name lt ∙ ap (λ (n : List ℕ). take i names ++ n ∷ []) (sym is) in
    subst (λ (l : List (List ℕ)). AreSources told l new) (sym split) (added-is told (take i names) name old new are added)

-- the name whose read failed

are-found : (told : Option Named) (names : List (List ℕ)) (files : List SourceFile) → AreSources told names files →
    IfSome told (λ named. IsFound (sources_of named names))
are-found None names files are = tt
are-found (Some named) names files are = subst IsFound (sym are.found) tt

pub unread-is : (told : Option Named) (names : List (List ℕ)) (i : ℕ) (name : List ℕ) (files : List SourceFile) (latest : Option (List ℕ)) →
    i < length names → name ≡ get_or names i name → AreSources told (take i names) files → latest ≡ Some name →
    IsUnread names told latest name
unread-is told names i name files latest lt is are last = record {
  before = take i names;
  after = drop (suc i) names;
  split = sym (take-append-drop i names) ∙ ap (λ (l : List (List ℕ)). take i names ++ l)
      (drop-cons names i name lt ∙ ap (λ (n : List ℕ). n ∷ drop (suc i) names) (sym is));
  found = are-found told (take i names) files are;
  is_latest = last;
}

pub unread-first : (told : Option Named) (names : List (List ℕ)) (name : List ℕ) (latest : Option (List ℕ)) →
    names ≡ name ∷ drop 1 names → latest ≡ Some name → IsUnread names told latest name
unread-first told names name latest is last = record {
  before = [];
  after = drop 1 names;
  split = is;
  found = by_told told;
  is_latest = last;
}
  where
    by_told : (o : Option Named) → IfSome o (λ named. IsFound (sources_of named []))
    by_told None = tt
    by_told (Some named) = tt

pub Rose-later : (before mid now : ℕ) → before ≤ mid → Rose mid now → Rose before now
Rose-later before mid now le rose = omega (arith, le, rose)
