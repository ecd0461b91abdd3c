-- The places of titles.
use Rattle.std.proofs.Common.{◌≡◌, ◌↔◌, ℕ, ◌+◌, List, [], ◌∷◌, ◌++◌, true, Some, None, All, refl, sym, ap, ◌∙◌, subst}
use Rattle.std.proofs.lemmas.List.Elements.{All-head, All-tail}
use Rattle.yarn_base.specs.declared.Place.{Place}
use Rattle.yarn_base.specs.declared.SourceFile.{SourceFile}
use Rattle.yarn_value.specs.declared.signature.Signature.{Signature}
use Rattle.yarn_nodes.specs.declared.node.FileLines.{FileLines}
use Rattle.yarn_nodes.specs.declared.node.Note.TheVariants as note
use Rattle.yarn_nodes.specs.declared.node.Titled.{Titled}
use Rattle.yarn_nodes.specs.Laws.{lines_read, HasFineTitles, IsBadTitleIn, titles_in as header_titles}
use Rattle.yarn_tree.specs.declared.refusal.RefusalKind.TheVariants as kind
use Rattle.yarn_tree.specs.Checks.{titles_in, titles_of, titles_seen}
use Rattle.yarn_tree.specs.Laws.{IsAgainAt, IsFirstOf, AreKept, AreTitled, AreTitlePlaces}
use Rattle.yarn_tree.specs.Names.{NameAt}
use Rattle.yarn_tree.specs.Reading.{Refuses, reading_of}
use Rattle.yarn_tree.proofs.FirstLemmas.{Pairs, Decides}
use Rattle.yarn_tree.proofs.LawLemmas.{the-reading}
use Rattle.yarn_tree.proofs.LimitLemmas.{Tells, noted_of, noted-tells, titles-clear}
use Rattle.yarn_tree.proofs.NodeLaws.{NodeLaws}
use Rattle.yarn_tree.proofs.PlaceLaws.{law, law-of, after_title, after_again}
use Rattle.yarn_tree.proofs.SightLemmas.{no_sight-again, again-no_sight}
use Rattle.yarn_tree.proofs.SourceLemmas.{reads_from, noted_line, number-read, Stands}
use Rattle.yarn_tree.proofs.StageLemmas as StageLemmas
use Rattle.yarn_tree.proofs.StageLemmas.{lines_of_files, noted-none}

abbrev NothingMistitled : SourceFile → Type 0
NothingMistitled source = noted_line note.Mistitled source ≡ None

module _ (laws : NodeLaws) where
  -- each source beside itself, where it stands for a file
  mistitled-sources : (sources : List SourceFile) (files : List FileLines) → Pairs (Stands true) sources files →
      Pairs (Decides (noted_line note.Mistitled) HasFineTitles IsBadTitleIn) sources sources
  mistitled-sources [] [] stand = tt
  mistitled-sources [] (file ∷ files) stand = absurd stand
  mistitled-sources (source ∷ sources) [] stand = absurd stand
  mistitled-sources (source ∷ sources) (file ∷ files) stand =
      let titled = laws.titled true 0 source file stand.0.0 stand.0.1 in
      (record { none = titled.none; some = titled.some }, mistitled-sources sources files stand.1)

  mistitled-tells : (s : List SourceFile) → AreKept s (lines_of_files s) →
      Tells (noted_of note.Mistitled true s) (All HasFineTitles s) (IsFirstOf HasFineTitles IsBadTitleIn s)
  mistitled-tells s kept =
      noted-tells note.Mistitled true s s HasFineTitles IsBadTitleIn
      (mistitled-sources s (lines_of_files s) (StageLemmas.lined-stand laws s (lines_of_files s) kept.whole.few.shallow.lined))

  titles-placed : (n : ℕ) (sources : List SourceFile) (files : List FileLines) → Pairs (Stands true) sources files → All NothingMistitled sources →
      AreTitlePlaces n sources (titles_of (reads_from true n sources))
  titles-placed n [] files stand none = refl
  titles-placed n (source ∷ sources) [] stand none = absurd stand
  titles-placed n (source ∷ sources) (file ∷ files) stand none =
      let has = stand.0.0 in
      let rest = titles_of (reads_from true (n + 1) sources) in
      let same = (laws.titled true n source file has stand.0.1).titles (All-head NothingMistitled source sources none) has.items has.has_items in (
        has.items,
        rest,
        has.has_items,
        titles-placed (n + 1) sources files stand.1 (All-tail NothingMistitled source sources none),
        ap (λ (k : ℕ). titles_in k (lines_read true n source).titles ++ rest) (number-read true n source)
            ∙ ap (λ (l : List Titled). titles_in n l ++ rest) same,
      )

  placed-titles : (n : ℕ) (sources : List SourceFile) (files : List FileLines) (places : List NameAt) → Pairs (Stands true) sources files →
      All NothingMistitled sources → AreTitlePlaces n sources places → places ≡ titles_of (reads_from true n sources)
  placed-titles n [] files places stand none are = are
  placed-titles n (source ∷ sources) [] places stand none are = absurd stand
  placed-titles n (source ∷ sources) (file ∷ files) places stand none are =
      let rest = titles_of (reads_from true (n + 1) sources) in
      let same = (laws.titled true n source file stand.0.0 stand.0.1).titles (All-head NothingMistitled source sources none) are.0 are.2 in
      are.4
      ∙ ap (λ (l : List NameAt). titles_in n (header_titles are.0) ++ l)
      (placed-titles (n + 1) sources files are.1 stand.1 (All-tail NothingMistitled source sources none) are.3)
      ∙ ap (λ (l : List Titled). titles_in n l ++ rest) (sym same)
      ∙ sym (ap (λ (k : ℕ). titles_in k (lines_read true n source).titles ++ rest) (number-read true n source))

  module _ (signatures : List Signature) (s : List SourceFile) where
    abbrev files : List FileLines
    files = lines_of_files s

    pub bad_title : (place : Place) →
        (reading_of signatures s ≡ Refuses kind.BadTitle place)
        ↔ ((files : List FileLines) × AreKept s files × IsFirstOf HasFineTitles IsBadTitleIn s place)
    bad_title place =
        law-of signatures s laws (AreKept s) (λ l. IsFirstOf HasFineTitles IsBadTitleIn s) (λ l is. is.whole.few.shallow.lined) _ place
        (law signatures s (AreKept s files) (IsFirstOf HasFineTitles IsBadTitleIn s) (StageLemmas.to_title s) kind.BadTitle (noted_of note.Mistitled true s)
        (after_title signatures s) refl refl (the-reading signatures s) (StageLemmas.numbers-none laws s) (StageLemmas.none-numbers laws s)
        (λ kept. (mistitled-tells s kept).some) place)

    -- a title comes again
    abbrev IsTwice : Place → Type 0
    IsTwice place = (places : List NameAt) × AreTitlePlaces 0 s places × IsAgainAt places place

    again-place : AreTitled s (lines_of_files s) → (place : Place) → ((titles_seen (reads_from true 0 s)).again ≡ Some place) ↔ IsTwice place
    again-place titled place =
        let stand = StageLemmas.lined-stand laws s files titled.kept.whole.few.shallow.lined in
        let none = (noted-none note.Mistitled true s).0 ((titles-clear laws true s stand).1 titled.titled) in
        let names = titles_of (reads_from true 0 s) in (
          λ told. (names, titles-placed 0 s files stand none, no_sight-again names place told),
          λ is. again-no_sight names place (subst (λ (l : List NameAt). IsAgainAt l place) (placed-titles 0 s files is.0 stand none is.1) is.2),
        )

    pub duplicate_title : (place : Place) →
        (reading_of signatures s ≡ Refuses kind.DuplicateTitle place)
        ↔ ((files : List FileLines) × AreTitled s files × ((places : List NameAt) × AreTitlePlaces 0 s places × IsAgainAt places place))
    duplicate_title place =
        law-of signatures s laws (AreTitled s) (λ l. IsTwice) (λ l is. is.kept.whole.few.shallow.lined) _ place
        (law signatures s (AreTitled s files) IsTwice (StageLemmas.to_again s) kind.DuplicateTitle (titles_seen (reads_from true 0 s)).again
        (after_again signatures s) refl refl (the-reading signatures s) (StageLemmas.titled-none laws s) (StageLemmas.none-titled laws s) again-place place)
