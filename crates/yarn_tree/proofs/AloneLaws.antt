-- The law of the places of refusals of a file that is read alone.
use Rattle.std.proofs.Common.{◌≡◌, ◌↔◌, ◌≤◌, ℕ, List, [], ◌∷◌, ◌++◌, length, true, false, cond, Bool, Option, Some, None, All, IsUtf8, refl, sym, ap, ◌∙◌, subst}
use Rattle.std.proofs.lemmas.List.Elements.{All-nil, All-cons, All-head}
use Rattle.yarn_base.specs.declared.Place.{Place}
use Rattle.yarn_base.specs.declared.SourceFile.{SourceFile}
use Rattle.yarn_blocks.specs.Tree.{deep_in}
use Rattle.yarn_nodes.specs.declared.node.FileLines.{FileLines}
use Rattle.yarn_nodes.specs.declared.node.Note.TheVariants as note
use Rattle.yarn_nodes.specs.Places.{or_later}
use Rattle.yarn_nodes.specs.Laws.{HasNoLine, IsNothing, IsMisplacedIn, HasManyHoles, HasFraction, HasLarge}
use Rattle.yarn_tree.specs.declared.refusal.RefusalKind.{RefusalKind}
use Rattle.yarn_tree.specs.declared.refusal.RefusalKind.TheVariants as kind
use Rattle.yarn_tree.specs.Checks.{first_excess}
use Rattle.yarn_tree.specs.Laws.{HasGoodLines, IsFirstOf, IsFirstOther, IsShort, IsFirstLine, IsStanding, IsShownAt, IsTooManyAt, IsEarliest, IsUtf8Alone, IsReadableAlone, IsOfItemsAlone, IsLinedAlone, IsShallowAlone, IsFewEnoughAlone, IsWholeAlone, IsRefusedAlone}
use Rattle.yarn_tree.specs.Places.{at_file, first_line}
use Rattle.yarn_tree.specs.Reading.{Refuses, file_reading_of}
use Rattle.yarn_tree.specs.Size.{is_big, big_alone}
use Rattle.yarn_tree.specs.Splits.{bad_in, long_in}
use Rattle.yarn_tree.proofs.FirstLemmas.{Pairs}
use Rattle.yarn_tree.proofs.LawLemmas.{to_limits, file_alone, the-file_reading}
use Rattle.yarn_tree.proofs.LimitLemmas.{Tells, tells-same, utf8-tells, short-tells, noted_of, line-tells, deep-tells, excess-tells, fractions-tell, large-tell}
use Rattle.yarn_tree.proofs.NodeLaws.{NodeLaws}
use Rattle.yarn_tree.proofs.PlaceLaws.{misplaced-from}
use Rattle.yarn_tree.proofs.ReadableLemmas.{CanBeRead}
use Rattle.yarn_tree.proofs.RefusalLemmas.{Chain, chained, lacks, avoids, NonePlaced, none-more, more-none, stands-at}
use Rattle.yarn_tree.proofs.SizeLemmas.{alone_small, small-alone}
use Rattle.yarn_tree.proofs.SourceLemmas.{reads_from, NothingBad, NothingMisplaced, Stands, sources-stand, stands-source}
use Rattle.yarn_tree.proofs.StageLemmas.{noted-none}

-- the first line of one file
one-line : (line_in : SourceFile → Option ℕ) (source : SourceFile) → at_file 0 (line_in source) ≡ first_line line_in 0 (source ∷ [])
one-line line_in source = by_line (line_in source)
  where
    by_line : (o : Option ℕ) → at_file 0 o ≡ or_later (at_file 0 o) None
    by_line None = refl
    by_line (Some number) = refl

module _ (source : SourceFile) where
  abbrev alone : List SourceFile
  alone = source ∷ []

  one : (P : SourceFile → Type 0) → P source → All P alone
  one P is = All-cons P source [] is (All-nil P)

  the : (P : SourceFile → Type 0) → All P alone → P source
  the P all = All-head P source [] all

  -- kinds with their places, one more each time, and those behind

  abbrev to_utf8 : Chain
  to_utf8 = (kind.TooMuch, big_alone source) ∷ []

  abbrev to_long : Chain
  to_long = to_utf8 ++ (kind.BadUtf8, at_file 0 (bad_in source)) ∷ []

  abbrev to_lines : Chain
  to_lines = to_long ++ (kind.LineTooLong, at_file 0 (long_in source)) ∷ []

  abbrev to_structure : Chain
  to_structure = to_lines ++ (kind.BadLine, noted_of note.Bad false alone) ∷ []

  abbrev to_deep : Chain
  to_deep = to_structure ++ (kind.BadStructure, noted_of note.Misplaced false alone) ∷ []

  abbrev to_many : Chain
  to_many = to_deep ++ (kind.TooDeep, noted_of note.TooDeep false alone) ∷ []

  abbrev to_fraction : Chain
  to_fraction = to_many ++ (kind.TooMany, first_excess (reads_from false 0 alone)) ∷ []

  abbrev to_large : Chain
  to_large = to_fraction ++ (kind.Fraction, noted_of note.Fraction false alone) ∷ []

  abbrev after_fraction : Chain
  after_fraction = (kind.NumberTooLarge, noted_of note.TooLarge false alone) ∷ []

  abbrev after_many : Chain
  after_many = (kind.Fraction, noted_of note.Fraction false alone) ∷ after_fraction

  abbrev after_deep : Chain
  after_deep = (kind.TooMany, first_excess (reads_from false 0 alone)) ∷ after_many

  abbrev after_structure : Chain
  after_structure = (kind.TooDeep, noted_of note.TooDeep false alone) ∷ after_deep

  abbrev after_lines : Chain
  after_lines = (kind.BadStructure, noted_of note.Misplaced false alone) ∷ after_structure

  abbrev after_long : Chain
  after_long = (kind.BadLine, noted_of note.Bad false alone) ∷ after_lines

  abbrev after_utf8 : Chain
  after_utf8 = (kind.LineTooLong, at_file 0 (long_in source)) ∷ after_long

  abbrev after_much : Chain
  after_much = (kind.BadUtf8, at_file 0 (bad_in source)) ∷ after_utf8

  -- what it means that no kind so far has a place

  utf8-alone : Tells (at_file 0 (bad_in source)) (All (HasGoodLines IsUtf8) alone) (IsFirstOther IsUtf8 alone)
  utf8-alone = tells-same (at_file 0 (bad_in source)) (first_line bad_in 0 alone) _ _ (one-line bad_in source) (utf8-tells alone)

  short-alone : Tells (at_file 0 (long_in source)) (All (HasGoodLines IsShort) alone) (IsFirstOther IsShort alone)
  short-alone = tells-same (at_file 0 (long_in source)) (first_line long_in 0 alone) _ _ (one-line long_in source) (short-tells alone)

  utf8-none : NonePlaced to_long → IsUtf8Alone source
  utf8-none none = record { light = alone_small source none.0; utf8 = the (HasGoodLines IsUtf8) (utf8-alone.none.0 none.1.0) }

  none-utf8 : IsUtf8Alone source → NonePlaced to_long
  none-utf8 is = (small-alone source is.light, (utf8-alone.none.1 (one (HasGoodLines IsUtf8) is.utf8), tt))

  readable-none : NonePlaced to_lines → IsReadableAlone source
  readable-none none = record {
    light = alone_small source none.0;
    readable = (the (HasGoodLines IsUtf8) (utf8-alone.none.0 none.1.0), the (HasGoodLines IsShort) (short-alone.none.0 none.1.1.0));
  }

  none-readable : IsReadableAlone source → NonePlaced to_lines
  none-readable is = (
    small-alone source is.light,
    (utf8-alone.none.1 (one (HasGoodLines IsUtf8) is.readable.0), (short-alone.none.1 (one (HasGoodLines IsShort) is.readable.1), tt)),
  )

  module _ (laws : NodeLaws) where
    nothing-tells : Tells (noted_of note.Bad false alone) (All (HasNoLine IsNothing) alone) (IsFirstLine IsNothing alone)
    nothing-tells = line-tells note.Bad false alone IsNothing (λ source. (laws.noted source).0)

    items-none : NonePlaced to_structure → IsOfItemsAlone source
    items-none none =
        let both = more-none to_lines kind.BadLine (noted_of note.Bad false alone) none in
        record { read = readable-none both.0; items = the (HasNoLine IsNothing) (nothing-tells.none.0 both.1) }

    none-items : IsOfItemsAlone source → NonePlaced to_structure
    none-items is =
        none-more to_lines kind.BadLine (noted_of note.Bad false alone) (none-readable is.read) (nothing-tells.none.1 (one (HasNoLine IsNothing) is.items))

    misplaced-tells : IsOfItemsAlone source → Tells (noted_of note.Misplaced false alone) (All IsStanding alone) (IsFirstOf IsStanding IsMisplacedIn alone)
    misplaced-tells is =
        misplaced-from laws false alone (one CanBeRead is.read.readable)
        ((noted-none note.Bad false alone).0 (nothing-tells.none.1 (one (HasNoLine IsNothing) is.items)))

    abbrev file : FileLines
    file = file_alone source

    stand-of : IsLinedAlone source file → Pairs (Stands false) alone (file ∷ [])
    stand-of is = ((is.has, is.blocks), tt)

    lined-none : NonePlaced to_deep → IsLinedAlone source file
    lined-none none =
        let both = more-none to_structure kind.BadStructure (noted_of note.Misplaced false alone) none in
        let items = items-none both.0 in
        let bad = more-none to_lines kind.BadLine (noted_of note.Bad false alone) both.0 in
        let stand = sources-stand laws false 0 alone (one CanBeRead items.read.readable) ((noted-none note.Bad false alone).0 bad.1)
        ((noted-none note.Misplaced false alone).0 both.1) in
        record { light = items.read.light; has = stand.0.0; blocks = stand.0.1 }

    none-lined : IsLinedAlone source file → NonePlaced to_deep
    none-lined is =
        let read = stands-source laws false 0 source file (is.has, is.blocks) in
        none-more to_structure kind.BadStructure (noted_of note.Misplaced false alone)
        (none-more to_lines kind.BadLine (noted_of note.Bad false alone) (none-readable (record { light = is.light; readable = read.readable }))
        ((noted-none note.Bad false alone).1 (one NothingBad read.good)))
        ((noted-none note.Misplaced false alone).1 (one NothingMisplaced read.placed))

    lined-same : (other : FileLines) → IsLinedAlone source other → file ≡ other
    lined-same other is = (stands-source laws false 0 source other (is.has, is.blocks)).same

    shallow-none : NonePlaced to_many → IsShallowAlone source file
    shallow-none none =
        let both = more-none to_deep kind.TooDeep (noted_of note.TooDeep false alone) none in
        let lined = lined-none both.0 in
        record { lined = lined; shallow = (deep-tells laws false alone (stand-of lined)).none.0 both.1 }

    none-shallow : IsShallowAlone source file → NonePlaced to_many
    none-shallow is =
        none-more to_deep kind.TooDeep (noted_of note.TooDeep false alone) (none-lined is.lined)
        ((deep-tells laws false alone (stand-of is.lined)).none.1 is.shallow)

    few-none : NonePlaced to_fraction → IsFewEnoughAlone source file
    few-none none =
        let both = more-none to_many kind.TooMany (first_excess (reads_from false 0 alone)) none in
        let shallow = shallow-none both.0 in
        let few = (excess-tells laws false alone (stand-of shallow.lined)).none.0 both.1 in
        record {
          shallow = shallow;
          holes = the (HasNoLine HasManyHoles) few.holes;
          small = few.small;
          few_nodes = few.few_nodes;
          few_variables = few.few_variables;
        }

    none-few : IsFewEnoughAlone source file → NonePlaced to_fraction
    none-few is =
        none-more to_many kind.TooMany (first_excess (reads_from false 0 alone)) (none-shallow is.shallow)
        ((excess-tells laws false alone (stand-of is.shallow.lined)).none.1
        (record { holes = one (HasNoLine HasManyHoles) is.holes; small = is.small; few_nodes = is.few_nodes; few_variables = is.few_variables }))

    whole-none : NonePlaced to_large → IsWholeAlone source file
    whole-none none =
        let both = more-none to_fraction kind.Fraction (noted_of note.Fraction false alone) none in
        record { few = few-none both.0; fractions = the (HasNoLine HasFraction) ((fractions-tell laws false alone).none.0 both.1) }

    none-whole : IsWholeAlone source file → NonePlaced to_large
    none-whole is =
        none-more to_fraction kind.Fraction (noted_of note.Fraction false alone) (none-few is.few)
        ((fractions-tell laws false alone).none.1 (one (HasNoLine HasFraction) is.fractions))

    -- where a kind stands

    law : (Rec : Type 0) (At : Place → Type 0) (before : Chain) (kind : RefusalKind) (o : Option Place) (behind : Chain) → lacks kind before ≡ true →
        lacks kind behind ≡ true → file_reading_of source ≡ chained (before ++ (kind, o) ∷ behind) file → (NonePlaced before → Rec) →
        (Rec → NonePlaced before) → (Rec → (place : Place) → (o ≡ Some place) ↔ At place) → (place : Place) →
        (file_reading_of source ≡ Refuses kind place) ↔ (Rec × At place)
    law = stands-at (file_reading_of source) file

    -- the same where the file has lines
    law-of : (Rec : FileLines → Type 0) (At : FileLines → Place → Type 0) → ((other : FileLines) → Rec other → IsLinedAlone source other) →
        (P : Type 0) (place : Place) → P ↔ (Rec file × At file place) → P ↔ ((other : FileLines) × Rec other × At other place)
    law-of Rec At lined P place same = (
      λ p. let is = same.0 p in (file, is.0, is.1),
      λ is.
          let files : is.0 ≡ file = sym (lined-same is.0 (lined is.0 is.1)) in
          same.1 (subst Rec files is.1, subst (λ (l : FileLines). At l place) files is.2),
    )

    big-told : (place : Place) → (big_alone source ≡ Some place) ↔ ((length source.bytes ≤ 4194304 → ⊥) × (place ≡ record { file = 0; line = 0 }))
    big-told place = by_test (is_big source) refl
      where
        by_test : (t : Bool) → is_big source ≡ t → (big_alone source ≡ Some place) ↔ ((length source.bytes ≤ 4194304 → ⊥) × (place ≡ record { file = 0; line = 0 }))
        by_test true is = (
          λ told. (
            λ small. let h : Some (record { file = 0; line = 0 }) ≡ None = sym (rw is refl) ∙ small-alone source small in absurd cc,
            let h : Some (record { file = 0; line = 0 }) ≡ Some place = sym (ap (λ (t : Bool). cond t (Some (record { file = 0; line = 0 })) None) is) ∙ told in cc,
          ),
          λ at. ap (λ (t : Bool). cond t (Some (record { file = 0; line = 0 })) None) is ∙ ap (λ (p : Place). Some p) (sym at.1),
        )
        by_test false is =
            let none : big_alone source ≡ None = ap (λ (t : Bool). cond t (Some (record { file = 0; line = 0 })) None) is in (
              λ told. let h : None ≡ Some place = sym none ∙ told in absurd cc,
              λ at. absurd (at.0 (alone_small source none)),
            )

    too_much : (place : Place) → (file_reading_of source ≡ Refuses kind.TooMuch place) ↔ IsRefusedAlone kind.TooMuch source place
    too_much place =
        let is = law (Unit {0}) (IsRefusedAlone kind.TooMuch source) [] kind.TooMuch (big_alone source) after_much refl refl (the-file_reading source)
        (λ none. tt) (λ rec. tt) (λ rec. big-told) place in
        (λ told. (is.0 told).1, λ at. is.1 (tt, at))

    bad_utf8 : (place : Place) → (file_reading_of source ≡ Refuses kind.BadUtf8 place) ↔ IsRefusedAlone kind.BadUtf8 source place
    bad_utf8 =
        law (length source.bytes ≤ 4194304) (IsFirstOther IsUtf8 alone) to_utf8 kind.BadUtf8 (at_file 0 (bad_in source)) after_utf8 refl refl
        (the-file_reading source) (λ none. alone_small source none.0) (λ small. (small-alone source small, tt)) (λ small. utf8-alone.some)

    line_too_long : (place : Place) → (file_reading_of source ≡ Refuses kind.LineTooLong place) ↔ IsRefusedAlone kind.LineTooLong source place
    line_too_long =
        law (IsUtf8Alone source) (IsFirstOther IsShort alone) to_long kind.LineTooLong (at_file 0 (long_in source)) after_long refl refl
        (the-file_reading source) utf8-none none-utf8 (λ is. short-alone.some)

    bad_line : (place : Place) → (file_reading_of source ≡ Refuses kind.BadLine place) ↔ IsRefusedAlone kind.BadLine source place
    bad_line =
        law (IsReadableAlone source) (IsFirstLine IsNothing alone) to_lines kind.BadLine (noted_of note.Bad false alone) after_lines refl refl
        (the-file_reading source) readable-none none-readable (λ is. nothing-tells.some)

    bad_structure : (place : Place) → (file_reading_of source ≡ Refuses kind.BadStructure place) ↔ IsRefusedAlone kind.BadStructure source place
    bad_structure =
        law (IsOfItemsAlone source) (IsFirstOf IsStanding IsMisplacedIn alone) to_structure kind.BadStructure (noted_of note.Misplaced false alone)
        after_structure refl refl (the-file_reading source) items-none none-items (λ is. (misplaced-tells is).some)

    too_deep : (place : Place) → (file_reading_of source ≡ Refuses kind.TooDeep place) ↔ IsRefusedAlone kind.TooDeep source place
    too_deep place =
        law-of (IsLinedAlone source) (λ l. IsShownAt (deep_in 0) (l ∷ [])) (λ l is. is) _ place
        (law (IsLinedAlone source file) (IsShownAt (deep_in 0) (file ∷ [])) to_deep kind.TooDeep (noted_of note.TooDeep false alone) after_deep
        refl refl (the-file_reading source) lined-none none-lined (λ is. (deep-tells laws false alone (stand-of is)).some) place)

    too_many : (place : Place) → (file_reading_of source ≡ Refuses kind.TooMany place) ↔ IsRefusedAlone kind.TooMany source place
    too_many place =
        law-of (IsShallowAlone source) (λ l. IsEarliest (IsTooManyAt alone (l ∷ []))) (λ l is. is.lined) _ place
        (law (IsShallowAlone source file) (IsEarliest (IsTooManyAt alone (file ∷ []))) to_many kind.TooMany (first_excess (reads_from false 0 alone))
        after_many refl refl (the-file_reading source) shallow-none none-shallow
        (λ is. (excess-tells laws false alone (stand-of is.lined)).some) place)

    fraction : (place : Place) → (file_reading_of source ≡ Refuses kind.Fraction place) ↔ IsRefusedAlone kind.Fraction source place
    fraction place =
        law-of (IsFewEnoughAlone source) (λ l. IsFirstLine HasFraction alone) (λ l is. is.shallow.lined) _ place
        (law (IsFewEnoughAlone source file) (IsFirstLine HasFraction alone) to_fraction kind.Fraction (noted_of note.Fraction false alone)
        after_fraction refl refl (the-file_reading source) few-none none-few (λ is. (fractions-tell laws false alone).some) place)

    number_too_large : (place : Place) → (file_reading_of source ≡ Refuses kind.NumberTooLarge place) ↔ IsRefusedAlone kind.NumberTooLarge source place
    number_too_large place =
        law-of (IsWholeAlone source) (λ l. IsFirstLine HasLarge alone) (λ l is. is.few.shallow.lined) _ place
        (law (IsWholeAlone source file) (IsFirstLine HasLarge alone) to_large kind.NumberTooLarge (noted_of note.TooLarge false alone) []
        refl refl (the-file_reading source) whole-none none-whole (λ is. (large-tell laws false alone).some) place)

    -- a kind that is never told of a file alone
    never : (k : RefusalKind) (place : Place) → lacks k (to_limits source) ≡ true → (file_reading_of source ≡ Refuses k place) ↔ ⊥
    never k place lack = (λ told. avoids k (to_limits source) file place lack (sym (the-file_reading source) ∙ told), λ no. absurd no)

    pub file_refused : (k : RefusalKind) (place : Place) → (file_reading_of source ≡ Refuses k place) ↔ IsRefusedAlone k source place
    file_refused kind.TooMuch place = too_much place
    file_refused kind.BadUtf8 place = bad_utf8 place
    file_refused kind.LineTooLong place = line_too_long place
    file_refused kind.BadLine place = bad_line place
    file_refused kind.BadStructure place = bad_structure place
    file_refused kind.TooDeep place = too_deep place
    file_refused kind.TooMany place = too_many place
    file_refused kind.Fraction place = fraction place
    file_refused kind.NumberTooLarge place = number_too_large place
    file_refused kind.BadTitle place = never kind.BadTitle place refl
    file_refused kind.DuplicateTitle place = never kind.DuplicateTitle place refl
    file_refused kind.ReservedName place = never kind.ReservedName place refl
    file_refused kind.DuplicateDeclare place = never kind.DuplicateDeclare place refl
    file_refused kind.UnknownNode place = never kind.UnknownNode place refl
    file_refused kind.UnknownFunction place = never kind.UnknownFunction place refl
    file_refused kind.WrongArguments place = never kind.WrongArguments place refl
    file_refused kind.DuplicateLineId place = never kind.DuplicateLineId place refl
