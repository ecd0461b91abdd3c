-- What is read of files, one after the other, and what they stand for.
use Rattle.std.proofs.Common.{◌≡◌, ℕ, ◌+◌, List, [], ◌∷◌, map, Bool, true, Option, None, All, refl, sym, ap, ◌∙◌}
use Rattle.std.proofs.lemmas.List.Elements.{All-nil, All-cons, All-head, All-tail}
use Rattle.yarn_base.specs.declared.Place.{Place}
use Rattle.yarn_base.specs.declared.SourceFile.{SourceFile}
use Rattle.yarn_lines.specs.Lines.{lines_of}
use Rattle.yarn_nodes.specs.declared.node.FileLines.{FileLines}
use Rattle.yarn_nodes.specs.declared.node.FileRead.{FileRead}
use Rattle.yarn_nodes.specs.declared.node.Note.{Note}
use Rattle.yarn_nodes.specs.declared.node.Note.TheVariants as note
use Rattle.yarn_nodes.specs.Laws.{naming, lines_read, AreBlocks}
use Rattle.yarn_nodes.specs.Lines.{HasLines}
use Rattle.yarn_nodes.specs.Noted.{noted_as}
use Rattle.yarn_nodes.specs.Places.{or_later}
use Rattle.yarn_nodes.specs.Reader.{file_of, notes_of}
use Rattle.yarn_tree.specs.Checks.{noted_in}
use Rattle.yarn_tree.specs.Places.{at_file, first_place, first_line}
use Rattle.yarn_tree.specs.Project.{AllHaveLines}
use Rattle.yarn_tree.specs.Reading.{read_of, lines_in}
use Rattle.yarn_tree.specs.Splits.{splits_from}
use Rattle.yarn_tree.proofs.FirstLemmas.{Pairs}
use Rattle.yarn_tree.proofs.NodeLaws.{NodeLaws}
use Rattle.yarn_tree.proofs.ReadableLemmas.{CanBeRead}

-- what is read of these files, the first of them having that number, where ids are wanted or not
abbrev pub reads_from : Bool → ℕ → List SourceFile → List FileRead
reads_from ids n sources = map (read_of ids) (splits_from n sources)

-- their lines
abbrev pub files_from : Bool → ℕ → List SourceFile → List FileLines
files_from ids n sources = map lines_in (reads_from ids n sources)

-- what is noted of a file
abbrev pub noted_line : Note → SourceFile → Option ℕ
noted_line note source = noted_as note (notes_of (lines_of source.bytes))

pub notes-read : (ids : Bool) (n : ℕ) (source : SourceFile) → (lines_read ids n source).notes ≡ notes_of (lines_of source.bytes)
unfolding file_of
notes-read ids n source = refl

pub number-read : (ids : Bool) (n : ℕ) (source : SourceFile) → (lines_read ids n source).number ≡ n
unfolding file_of
number-read ids n source = refl

pub noted-read : (note : Note) (ids : Bool) (n : ℕ) (source : SourceFile) → noted_in note (lines_read ids n source) ≡ at_file n (noted_line note source)
unfolding file_of
noted-read note ids n source = refl

pub noted-lines : (note : Note) (ids : Bool) (n : ℕ) (sources : List SourceFile) → first_place (noted_in note) (reads_from ids n sources) ≡ first_line (noted_line note) n sources
noted-lines note ids n [] = refl
noted-lines note ids n (source ∷ sources) =
    ap (λ (o : Option Place). or_later o (first_place (noted_in note) (reads_from ids (n + 1) sources))) (noted-read note ids n source)
    ∙ ap (or_later (at_file n (noted_line note source))) (noted-lines note ids (n + 1) sources)

-- no line is bad, and none is misplaced
abbrev pub NothingBad : SourceFile → Type 0
NothingBad source = noted_line note.Bad source ≡ None

abbrev pub NothingMisplaced : SourceFile → Type 0
NothingMisplaced source = noted_line note.Misplaced source ≡ None

-- a file and its lines
abbrev pub Stands : Bool → SourceFile → FileLines → Type 0
Stands ids source file = HasLines (naming ids) source file × AreBlocks file

module _ (laws : NodeLaws) where
  pub source-stands : (ids : Bool) (n : ℕ) (source : SourceFile) → CanBeRead source → NothingBad source → NothingMisplaced source →
      Stands ids source (lines_read ids n source).file
  source-stands ids n source readable good placed =
      laws.stand ids n source readable (ap (noted_as note.Bad) (notes-read ids n source) ∙ good) (ap (noted_as note.Misplaced) (notes-read ids n source) ∙ placed)

  pub record IsRead (ids : Bool) (n : ℕ) (source : SourceFile) (file : FileLines) : Type 0 where
    pub readable : CanBeRead source
    pub good : NothingBad source
    pub placed : NothingMisplaced source
    pub same : (lines_read ids n source).file ≡ file

  pub stands-source : (ids : Bool) (n : ℕ) (source : SourceFile) (file : FileLines) → Stands ids source file → IsRead ids n source file
  stands-source ids n source file stands =
      let read = laws.read ids n source file stands.0 stands.1 in
      record {
        readable = stands.0.readable;
        good = sym (ap (noted_as note.Bad) (notes-read ids n source)) ∙ read.0;
        placed = sym (ap (noted_as note.Misplaced) (notes-read ids n source)) ∙ read.1;
        same = read.2;
      }

  pub sources-stand : (ids : Bool) (n : ℕ) (sources : List SourceFile) → All CanBeRead sources → All NothingBad sources → All NothingMisplaced sources →
      Pairs (Stands ids) sources (files_from ids n sources)
  sources-stand ids n [] readable good placed = tt
  sources-stand ids n (source ∷ sources) readable good placed = (
    source-stands ids n source (All-head CanBeRead source sources readable) (All-head NothingBad source sources good) (All-head NothingMisplaced source sources placed),
    sources-stand ids (n + 1) sources (All-tail CanBeRead source sources readable) (All-tail NothingBad source sources good) (All-tail NothingMisplaced source sources placed),
  )

  pub record AreRead (ids : Bool) (n : ℕ) (sources : List SourceFile) (files : List FileLines) : Type 0 where
    pub readable : All CanBeRead sources
    pub good : All NothingBad sources
    pub placed : All NothingMisplaced sources
    pub same : files_from ids n sources ≡ files

  pub stand-sources : (ids : Bool) (n : ℕ) (sources : List SourceFile) (files : List FileLines) → Pairs (Stands ids) sources files → AreRead ids n sources files
  stand-sources ids n [] [] stand = record { readable = All-nil CanBeRead; good = All-nil NothingBad; placed = All-nil NothingMisplaced; same = refl }
  stand-sources ids n [] (file ∷ files) stand = absurd stand
  stand-sources ids n (source ∷ sources) [] stand = absurd stand
  stand-sources ids n (source ∷ sources) (file ∷ files) stand =
      let here = stands-source ids n source file stand.0 in
      let rest = stand-sources ids (n + 1) sources files stand.1 in
      record {
        readable = All-cons CanBeRead source sources here.readable rest.readable;
        good = All-cons NothingBad source sources here.good rest.good;
        placed = All-cons NothingMisplaced source sources here.placed rest.placed;
        same = ap (λ (f : FileLines). f ∷ files_from ids (n + 1) sources) here.same ∙ ap (λ (l : List FileLines). file ∷ l) rest.same;
      }

-- files that have lines, and whose bodies are blocks

pub have-stand : (sources : List SourceFile) (files : List FileLines) → AllHaveLines sources files → All AreBlocks files → Pairs (Stands true) sources files
have-stand [] [] have blocks = tt
have-stand [] (file ∷ files) have blocks = absurd have
have-stand (source ∷ sources) [] have blocks = absurd have
have-stand (source ∷ sources) (file ∷ files) have blocks =
    ((have.0, All-head AreBlocks file files blocks), have-stand sources files have.1 (All-tail AreBlocks file files blocks))

pub stand-have : (sources : List SourceFile) (files : List FileLines) → Pairs (Stands true) sources files → AllHaveLines sources files × All AreBlocks files
stand-have [] [] stand = (tt, All-nil AreBlocks)
stand-have [] (file ∷ files) stand = absurd stand
stand-have (source ∷ sources) [] stand = absurd stand
stand-have (source ∷ sources) (file ∷ files) stand =
    let rest = stand-have sources files stand.1 in
    ((stand.0.0, rest.0), All-cons AreBlocks file files stand.0.1 rest.1)
