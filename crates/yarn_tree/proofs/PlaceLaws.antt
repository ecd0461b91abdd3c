-- The laws of the places of refusals.
use Rattle.std.proofs.Common.{◌≡◌, ◌↔◌, List, [], ◌∷◌, ◌++◌, true, false, Bool, Option, Some, All, IsUtf8, refl, sym, ap, ◌∙◌, subst}
use Rattle.std.proofs.lemmas.List.Elements.{All-nil, All-cons, All-head, All-tail}
use Rattle.yarn_base.specs.declared.Place.{Place}
use Rattle.yarn_base.specs.declared.SourceFile.{SourceFile}
use Rattle.yarn_value.specs.declared.signature.Signature.{Signature}
use Rattle.yarn_blocks.specs.Tree.{deep_in}
use Rattle.yarn_nodes.specs.declared.node.FileLines.{FileLines}
use Rattle.yarn_nodes.specs.declared.node.Note.TheVariants as note
use Rattle.yarn_nodes.specs.Laws.{lines_read, IsNothing, IsMisplacedIn, HasFraction, HasLarge}
use Rattle.yarn_tree.specs.declared.refusal.RefusalKind.{RefusalKind}
use Rattle.yarn_tree.specs.declared.refusal.RefusalKind.TheVariants as kind
use Rattle.yarn_tree.specs.Checks.{first_excess, titles_seen, first_use, is_reserved, declarations_in, declarations_seen, is_unknown_title, is_unknown_function, has_wrong_count, ids_of, ids_seen}
use Rattle.yarn_tree.specs.Laws.{AreNotTooMuch, IsFirstOther, AreUtf8, IsShort, AreLined, AreReadable, AreItems, IsStanding, IsFirstOf, IsFirstLine, IsTooMuchAt, IsShownAt, IsTooManyAt, IsEarliest, IsAgainAt, IsFirstAgainst, IsKnown, AreShallow, AreFewEnough, AreWhole, AreTitledApart, AreUnreserved, AreDeclaredOnce, HaveNodes, HaveFunctions, HaveArguments, nodes_of, titles, uses_from, ids_from}
use Rattle.yarn_tree.specs.Names.{NameAt, no_sight, sees_all}
use Rattle.yarn_tree.specs.Reading.{Refuses, reading_of}
use Rattle.yarn_tree.specs.Places.{first_line}
use Rattle.yarn_tree.specs.Size.{too_much}
use Rattle.yarn_tree.specs.Splits.{bad_in, long_in}
use Rattle.yarn_tree.specs.Uses.{Use, uses_in}
use Rattle.yarn_tree.proofs.FirstLemmas.{pairs-same, Decides}
use Rattle.yarn_tree.proofs.LawLemmas.{the-reading}
use Rattle.yarn_tree.proofs.LimitLemmas.{Tells, utf8-tells, short-tells, noted_of, noted-tells, deep-tells, excess-tells, fractions-tell, large-tell}
use Rattle.yarn_tree.proofs.MuchLemmas.{much-at, at-much}
use Rattle.yarn_tree.proofs.NodeLaws.{NodeLaws}
use Rattle.yarn_tree.proofs.ReadableLemmas.{CanBeRead}
use Rattle.yarn_tree.proofs.RefusalLemmas.{Chain, chained, lacks, NonePlaced, stands-at}
use Rattle.yarn_tree.proofs.SightLemmas.{no_sight-again, again-no_sight}
use Rattle.yarn_tree.proofs.SizeLemmas.{not_too_much, none_too_much}
use Rattle.yarn_tree.proofs.SourceLemmas.{reads_from, noted_line, NothingBad, source-stands, stands-source}
use Rattle.yarn_tree.proofs.StageLemmas as StageLemmas
use Rattle.yarn_tree.proofs.StageLemmas.{lines_of_files, titles_known, titles-known, used, noted-none}
use Rattle.yarn_tree.proofs.FirstUseLemmas.{uses-reads, ids-reads, told-against, against-told, known-decides}

-- places of names and uses

again-some : (a b : List NameAt) → a ≡ b → (place : Place) → ((sees_all no_sight a).again ≡ Some place) ↔ IsAgainAt b place
again-some a b same place = (
  λ told. subst (λ (l : List NameAt). IsAgainAt l place) same (no_sight-again a place told),
  λ at. again-no_sight a place (subst (λ (l : List NameAt). IsAgainAt l place) (sym same) at),
)

used-some : (is : Use → Bool) (Rule : Use → Type 0) (sources : List SourceFile) → ((u : Use) → (is u ≡ false) ↔ Rule u) → (place : Place) →
    (used is sources ≡ Some place) ↔ IsFirstAgainst Rule (uses_from 0 (lines_of_files sources)) place
used-some is Rule sources decides place =
    let same = ap (first_use is) (uses-reads true 0 sources) in
    let uses = uses_from 0 (lines_of_files sources) in
    (λ told. told-against is Rule decides uses place (sym same ∙ told), λ at. same ∙ against-told is Rule decides uses place at)

-- what a refusal of a kind says

module _ (signatures : List Signature) (s : List SourceFile) where
  abbrev after_arguments : Chain
  after_arguments = (kind.DuplicateLineId, (ids_seen (reads_from true 0 s)).again) ∷ []

  abbrev after_function : Chain
  after_function = (kind.WrongArguments, used (has_wrong_count signatures) s) ∷ after_arguments

  abbrev after_node : Chain
  after_node = (kind.UnknownFunction, used (is_unknown_function signatures) s) ∷ after_function

  abbrev after_declared : Chain
  after_declared = (kind.UnknownNode, used (is_unknown_title (titles_known s)) s) ∷ after_node

  abbrev after_reserved : Chain
  after_reserved = (kind.DuplicateDeclare, (declarations_seen (reads_from true 0 s)).again) ∷ after_declared

  abbrev pub after_again : Chain
  after_again = (kind.ReservedName, used is_reserved s) ∷ after_reserved

  abbrev pub after_title : Chain
  after_title = (kind.DuplicateTitle, (titles_seen (reads_from true 0 s)).again) ∷ after_again

  abbrev after_large : Chain
  after_large = (kind.BadTitle, noted_of note.Mistitled true s) ∷ after_title

  abbrev after_fraction : Chain
  after_fraction = (kind.NumberTooLarge, noted_of note.TooLarge true s) ∷ after_large

  abbrev after_many : Chain
  after_many = (kind.Fraction, noted_of note.Fraction true s) ∷ after_fraction

  abbrev after_deep : Chain
  after_deep = (kind.TooMany, first_excess (reads_from true 0 s)) ∷ after_many

  abbrev after_structure : Chain
  after_structure = (kind.TooDeep, noted_of note.TooDeep true s) ∷ after_deep

  abbrev after_lines : Chain
  after_lines = (kind.BadStructure, noted_of note.Misplaced true s) ∷ after_structure

  abbrev after_long : Chain
  after_long = (kind.BadLine, noted_of note.Bad true s) ∷ after_lines

  abbrev after_bad : Chain
  after_bad = (kind.LineTooLong, first_line long_in 0 s) ∷ after_long

  abbrev after_much : Chain
  after_much = (kind.BadUtf8, first_line bad_in 0 s) ∷ after_bad

  -- the kind stands where its place is, after kinds that have none
  pub law : (Rec : Type 0) (At : Place → Type 0) (before : Chain) (kind : RefusalKind) (o : Option Place) (behind : Chain) → lacks kind before ≡ true →
      lacks kind behind ≡ true → reading_of signatures s ≡ chained (before ++ (kind, o) ∷ behind) (lines_of_files s) → (NonePlaced before → Rec) → (Rec → NonePlaced before) →
      (Rec → (place : Place) → (o ≡ Some place) ↔ At place) → (place : Place) → (reading_of signatures s ≡ Refuses kind place) ↔ (Rec × At place)
  law = stands-at (reading_of signatures s) (lines_of_files s)

  -- the same where files have lines
  pub law-of : (laws : NodeLaws) (Rec : List FileLines → Type 0) (At : List FileLines → Place → Type 0) → ((files : List FileLines) → Rec files → AreLined s files) →
      (P : Type 0) (place : Place) → P ↔ (Rec (lines_of_files s) × At (lines_of_files s) place) → P ↔ ((files : List FileLines) × Rec files × At files place)
  law-of laws Rec At lined P place same = (
    λ p. let is = same.0 p in (lines_of_files s, is.0, is.1),
    λ is.
        let files : is.0 ≡ lines_of_files s = sym (StageLemmas.lined-same laws s is.0 (lined is.0 is.1)) in
        same.1 (subst Rec files is.1, subst (λ (l : List FileLines). At l place) files is.2),
  )

  pub too_much-law : (place : Place) → (reading_of signatures s ≡ Refuses kind.TooMuch place) ↔ IsTooMuchAt s place
  too_much-law place =
      let is = law (Unit {0}) (IsTooMuchAt s) [] kind.TooMuch (too_much 0 0 s) after_much refl refl (the-reading signatures s) (λ none. tt) (λ rec. tt)
      (λ rec at. (much-at s at, at-much s at)) place in
      (λ told. (is.0 told).1, λ at. is.1 (tt, at))

  pub bad_utf8 : (place : Place) → (reading_of signatures s ≡ Refuses kind.BadUtf8 place) ↔ (AreNotTooMuch s × IsFirstOther IsUtf8 s place)
  bad_utf8 =
      law (AreNotTooMuch s) (IsFirstOther IsUtf8 s) ((kind.TooMuch, too_much 0 0 s) ∷ []) kind.BadUtf8 (first_line bad_in 0 s) after_bad refl refl
      (the-reading signatures s) (λ none. not_too_much s none.0) (λ light. (none_too_much s light, tt)) (λ light. (utf8-tells s).some)

  pub line_too_long : (place : Place) → (reading_of signatures s ≡ Refuses kind.LineTooLong place) ↔ (AreUtf8 s × IsFirstOther IsShort s place)
  line_too_long =
      law (AreUtf8 s) (IsFirstOther IsShort s) ((kind.TooMuch, too_much 0 0 s) ∷ (kind.BadUtf8, first_line bad_in 0 s) ∷ []) kind.LineTooLong
      (first_line long_in 0 s) after_long refl refl (the-reading signatures s)
      (λ none. record { light = not_too_much s none.0; utf8 = (utf8-tells s).none.0 none.1.0 })
      (λ are. (none_too_much s are.light, ((utf8-tells s).none.1 are.utf8, tt))) (λ are. (short-tells s).some)

module _ (laws : NodeLaws) where
  abbrev Sound : SourceFile → Type 0
  Sound source = CanBeRead source × NothingBad source

  all-sound : (sources : List SourceFile) → All CanBeRead sources → All NothingBad sources → All Sound sources
  all-sound [] readable good = All-nil Sound
  all-sound (source ∷ sources) readable good =
      All-cons Sound source sources (All-head CanBeRead source sources readable, All-head NothingBad source sources good)
      (all-sound sources (All-tail CanBeRead source sources readable) (All-tail NothingBad source sources good))

  misplaced-source : (source : SourceFile) → Sound source → Decides (noted_line note.Misplaced) IsStanding IsMisplacedIn source source
  misplaced-source source sound = record {
    none = (
      λ none. let stands = source-stands laws true 0 source sound.0 sound.1 none in ((lines_read true 0 source).file, stands.0, stands.1),
      λ stands. (stands-source laws true 0 source stands.0 (stands.1, stands.2)).placed,
    );
    some = λ number. laws.placed source number sound.1;
  }

  -- with ids or without, since no note of a place in a body looks at them
  pub misplaced-from : (ids : Bool) (s : List SourceFile) → All CanBeRead s → All NothingBad s →
      Tells (noted_of note.Misplaced ids s) (All IsStanding s) (IsFirstOf IsStanding IsMisplacedIn s)
  misplaced-from ids s readable good =
      noted-tells note.Misplaced ids s s IsStanding IsMisplacedIn
      (pairs-same (Decides (noted_line note.Misplaced) IsStanding IsMisplacedIn) Sound misplaced-source s (all-sound s readable good))

  misplaced-tells : (s : List SourceFile) → AreItems s → Tells (noted_of note.Misplaced true s) (All IsStanding s) (IsFirstOf IsStanding IsMisplacedIn s)
  misplaced-tells s items =
      misplaced-from true s items.read.readable ((noted-none note.Bad true s).0 ((StageLemmas.nothing-tells laws s).none.1 items.items))

  module _ (signatures : List Signature) (s : List SourceFile) where
    abbrev files : List FileLines
    files = lines_of_files s

    pub bad_line : (place : Place) → (reading_of signatures s ≡ Refuses kind.BadLine place) ↔ (AreReadable s × IsFirstLine IsNothing s place)
    bad_line =
        law signatures s (AreReadable s) (IsFirstLine IsNothing s) (StageLemmas.to_lines s) kind.BadLine (noted_of note.Bad true s) (after_lines signatures s) refl refl
        (the-reading signatures s) (StageLemmas.readable-none s) (StageLemmas.none-readable s) (λ rec. (StageLemmas.nothing-tells laws s).some)

    pub bad_structure : (place : Place) → (reading_of signatures s ≡ Refuses kind.BadStructure place) ↔ (AreItems s × IsFirstOf IsStanding IsMisplacedIn s place)
    bad_structure =
        law signatures s (AreItems s) (IsFirstOf IsStanding IsMisplacedIn s) (StageLemmas.to_structure s) kind.BadStructure (noted_of note.Misplaced true s)
        (after_structure signatures s) refl refl (the-reading signatures s) (StageLemmas.items-none laws s) (StageLemmas.none-items laws s)
        (λ items. (misplaced-tells s items).some)

    pub too_deep : (place : Place) →
        (reading_of signatures s ≡ Refuses kind.TooDeep place) ↔ ((files : List FileLines) × AreLined s files × IsShownAt (deep_in 0) files place)
    too_deep place =
        law-of signatures s laws (AreLined s) (IsShownAt (deep_in 0)) (λ l is. is) _ place
        (law signatures s (AreLined s files) (IsShownAt (deep_in 0) files) (StageLemmas.to_deep s) kind.TooDeep (noted_of note.TooDeep true s) (after_deep signatures s)
        refl refl (the-reading signatures s) (StageLemmas.lined-none laws s) (StageLemmas.none-lined laws s)
        (λ lined. (deep-tells laws true s (StageLemmas.lined-stand laws s files lined)).some) place)

    pub too_many : (place : Place) →
        (reading_of signatures s ≡ Refuses kind.TooMany place) ↔ ((files : List FileLines) × AreShallow s files × IsEarliest (IsTooManyAt s files) place)
    too_many place =
        law-of signatures s laws (AreShallow s) (λ l. IsEarliest (IsTooManyAt s l)) (λ l is. is.lined) _ place
        (law signatures s (AreShallow s files) (IsEarliest (IsTooManyAt s files)) (StageLemmas.to_many s) kind.TooMany (first_excess (reads_from true 0 s))
        (after_many signatures s) refl refl (the-reading signatures s) (StageLemmas.shallow-none laws s) (StageLemmas.none-shallow laws s)
        (λ shallow. (excess-tells laws true s (StageLemmas.lined-stand laws s files shallow.lined)).some) place)

    pub fraction : (place : Place) →
        (reading_of signatures s ≡ Refuses kind.Fraction place) ↔ ((files : List FileLines) × AreFewEnough s files × IsFirstLine HasFraction s place)
    fraction place =
        law-of signatures s laws (AreFewEnough s) (λ l. IsFirstLine HasFraction s) (λ l is. is.shallow.lined) _ place
        (law signatures s (AreFewEnough s files) (IsFirstLine HasFraction s) (StageLemmas.to_fraction s) kind.Fraction (noted_of note.Fraction true s)
        (after_fraction signatures s) refl refl (the-reading signatures s) (StageLemmas.few-none laws s) (StageLemmas.none-few laws s)
        (λ few. (fractions-tell laws true s).some) place)

    pub number_too_large : (place : Place) →
        (reading_of signatures s ≡ Refuses kind.NumberTooLarge place) ↔ ((files : List FileLines) × AreWhole s files × IsFirstLine HasLarge s place)
    number_too_large place =
        law-of signatures s laws (AreWhole s) (λ l. IsFirstLine HasLarge s) (λ l is. is.few.shallow.lined) _ place
        (law signatures s (AreWhole s files) (IsFirstLine HasLarge s) (StageLemmas.to_large s) kind.NumberTooLarge (noted_of note.TooLarge true s)
        (after_large signatures s) refl refl (the-reading signatures s) (StageLemmas.whole-none laws s) (StageLemmas.none-whole laws s)
        (λ whole. (large-tell laws true s).some) place)

    pub reserved_name : (place : Place) →
        (reading_of signatures s ≡ Refuses kind.ReservedName place)
        ↔ ((files : List FileLines) × AreTitledApart s files × IsFirstAgainst (λ u. is_reserved u ≡ false) (uses_from 0 files) place)
    reserved_name place =
        law-of signatures s laws (AreTitledApart s) (λ l. IsFirstAgainst (λ u. is_reserved u ≡ false) (uses_from 0 l)) (λ l is. is.are.kept.whole.few.shallow.lined) _ place
        (law signatures s (AreTitledApart s files) (IsFirstAgainst (λ u. is_reserved u ≡ false) (uses_from 0 files)) (StageLemmas.to_reserved s) kind.ReservedName
        (used is_reserved s) (after_reserved signatures s) refl refl (the-reading signatures s) (StageLemmas.apart-none laws s) (StageLemmas.none-apart laws s)
        (λ apart. used-some is_reserved (λ u. is_reserved u ≡ false) s (λ u. (λ is. is, λ is. is))) place)

    pub duplicate_declare : (place : Place) →
        (reading_of signatures s ≡ Refuses kind.DuplicateDeclare place)
        ↔ ((files : List FileLines) × AreUnreserved s files × IsAgainAt (declarations_in (uses_from 0 files)) place)
    duplicate_declare place =
        law-of signatures s laws (AreUnreserved s) (λ l. IsAgainAt (declarations_in (uses_from 0 l))) (λ l is. is.titled.are.kept.whole.few.shallow.lined) _ place
        (law signatures s (AreUnreserved s files) (IsAgainAt (declarations_in (uses_from 0 files))) (StageLemmas.to_declared s) kind.DuplicateDeclare
        (declarations_seen (reads_from true 0 s)).again (after_declared signatures s) refl refl (the-reading signatures s) (StageLemmas.unreserved-none laws s)
        (StageLemmas.none-unreserved laws s)
        (λ are. again-some (declarations_in (uses_in (reads_from true 0 s))) (declarations_in (uses_from 0 files)) (ap declarations_in (uses-reads true 0 s))) place)

    pub unknown_node : (place : Place) →
        (reading_of signatures s ≡ Refuses kind.UnknownNode place)
        ↔ ((files : List FileLines) × AreDeclaredOnce s files × IsFirstAgainst (IsKnown (titles (nodes_of files))) (uses_from 0 files) place)
    unknown_node place =
        law-of signatures s laws (AreDeclaredOnce s) (λ l. IsFirstAgainst (IsKnown (titles (nodes_of l))) (uses_from 0 l))
        (λ l is. is.unreserved.titled.are.kept.whole.few.shallow.lined) _ place
        (law signatures s (AreDeclaredOnce s files) (IsFirstAgainst (IsKnown (titles (nodes_of files))) (uses_from 0 files)) (StageLemmas.to_node s) kind.UnknownNode
        (used (is_unknown_title (titles_known s)) s) (after_node signatures s) refl refl (the-reading signatures s) (StageLemmas.declared-none laws s)
        (StageLemmas.none-declared laws s)
        (λ are. used-some (is_unknown_title (titles_known s)) (IsKnown (titles (nodes_of files))) s
        (known-decides (titles_known s) (titles (nodes_of files)) (titles-known s))) place)

    pub unknown_function : (place : Place) →
        (reading_of signatures s ≡ Refuses kind.UnknownFunction place)
        ↔ ((files : List FileLines) × HaveNodes s files × IsFirstAgainst (λ u. is_unknown_function signatures u ≡ false) (uses_from 0 files) place)
    unknown_function place =
        law-of signatures s laws (HaveNodes s) (λ l. IsFirstAgainst (λ u. is_unknown_function signatures u ≡ false) (uses_from 0 l))
        (λ l is. is.declared.unreserved.titled.are.kept.whole.few.shallow.lined) _ place
        (law signatures s (HaveNodes s files) (IsFirstAgainst (λ u. is_unknown_function signatures u ≡ false) (uses_from 0 files)) (StageLemmas.to_function s)
        kind.UnknownFunction (used (is_unknown_function signatures) s) (after_function signatures s) refl refl (the-reading signatures s)
        (StageLemmas.nodes-none laws s) (StageLemmas.none-nodes laws s)
        (λ have. used-some (is_unknown_function signatures) (λ u. is_unknown_function signatures u ≡ false) s (λ u. (λ is. is, λ is. is))) place)

    pub wrong_arguments : (place : Place) →
        (reading_of signatures s ≡ Refuses kind.WrongArguments place)
        ↔ ((files : List FileLines) × HaveFunctions signatures s files × IsFirstAgainst (λ u. has_wrong_count signatures u ≡ false) (uses_from 0 files) place)
    wrong_arguments place =
        law-of signatures s laws (HaveFunctions signatures s) (λ l. IsFirstAgainst (λ u. has_wrong_count signatures u ≡ false) (uses_from 0 l))
        (λ l is. is.have.declared.unreserved.titled.are.kept.whole.few.shallow.lined) _ place
        (law signatures s (HaveFunctions signatures s files) (IsFirstAgainst (λ u. has_wrong_count signatures u ≡ false) (uses_from 0 files))
        (StageLemmas.to_arguments s signatures) kind.WrongArguments (used (has_wrong_count signatures) s) (after_arguments signatures s) refl refl
        (the-reading signatures s) (StageLemmas.functions-none laws s signatures) (StageLemmas.none-functions laws s signatures)
        (λ have. used-some (has_wrong_count signatures) (λ u. has_wrong_count signatures u ≡ false) s (λ u. (λ is. is, λ is. is))) place)

    pub duplicate_line_id : (place : Place) →
        (reading_of signatures s ≡ Refuses kind.DuplicateLineId place)
        ↔ ((files : List FileLines) × HaveArguments signatures s files × IsAgainAt (ids_from 0 files) place)
    duplicate_line_id place =
        law-of signatures s laws (HaveArguments signatures s) (λ l. IsAgainAt (ids_from 0 l))
        (λ l is. is.have.have.declared.unreserved.titled.are.kept.whole.few.shallow.lined) _ place
        (law signatures s (HaveArguments signatures s files) (IsAgainAt (ids_from 0 files)) (StageLemmas.to_id s signatures) kind.DuplicateLineId
        (ids_seen (reads_from true 0 s)).again [] refl refl (the-reading signatures s) (StageLemmas.arguments-none laws s signatures)
        (StageLemmas.none-arguments laws s signatures) (λ have. again-some (ids_of (reads_from true 0 s)) (ids_from 0 files) (ids-reads true 0 s)) place)
