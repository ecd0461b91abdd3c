-- What is read of files: their lines, of which the trees are built, or the first fault: the first of the kinds that has a
-- place, at its first place (docs/language.md, Refusals of a project).
use Rattle.std.specs.Prelude.{◌≡◌, List, [], ◌∷◌, map, true, false, Bool, Option, Some, None, Result, Ok, Err, ⊤}
use Rattle.yarn_base.specs.declared.Place.{Place}
use Rattle.yarn_base.specs.declared.SourceFile.{SourceFile}
use Rattle.yarn_value.specs.declared.signature.Signature.{Signature}
use Rattle.yarn_nodes.specs.declared.node.FileRead.{FileRead}
use Rattle.yarn_nodes.specs.declared.node.FileLines.{FileLines}
use Rattle.yarn_nodes.specs.declared.node.Note.TheVariants as note
use Rattle.yarn_nodes.specs.Reader.{file_of}
use Rattle.yarn_tree.specs.declared.refusal.ProjectFault.{ProjectFault}
use Rattle.yarn_tree.specs.declared.refusal.ProjectFault.TheVariants.{Refused, Memory}
use Rattle.yarn_tree.specs.declared.refusal.RefusalKind.{RefusalKind}
use Rattle.yarn_tree.specs.declared.refusal.RefusalKind.TheVariants as kind
use Rattle.yarn_tree.specs.declared.stages.SplitFile.{SplitFile}
use Rattle.yarn_tree.specs.declared.tree.File.{File}
use Rattle.yarn_tree.specs.declared.tree.Project.{Project}
use Rattle.yarn_tree.specs.Places.{at_file, first_place, first_line}
use Rattle.yarn_tree.specs.Size.{too_much, big_alone}
use Rattle.yarn_tree.specs.Splits.{bad_in, long_in, split_of, splits_from}
use Rattle.yarn_tree.specs.Uses.{uses_in}
use Rattle.yarn_tree.specs.Checks.{noted_in, first_excess, titles_seen, first_use, is_reserved, declarations_seen, is_unknown_title, is_unknown_function, has_wrong_count, ids_seen}
use Rattle.yarn_tree.specs.Project.{IsFileOf, AreFilesOf}

pub data Reading (A : Type 0) : Type 0 where
  Reads : A → Reading A
  -- a kind and its place
  Refuses : RefusalKind → Place → Reading A

-- nothing is refused
abbrev pub no_fault : Reading ⊤
no_fault = Reads tt

-- refused where the kind has a place, and else read on
abbrev pub unless : {A : Type 0} → RefusalKind → Option Place → Reading A → Reading A
unless kind None next = next
unless kind (Some place) next = Refuses kind place

-- lines and their structure
abbrev pub structure_checked : {A : Type 0} → List FileRead → Reading A → Reading A
structure_checked reads next =
    unless kind.BadLine (first_place (noted_in note.Bad) reads)
    (unless kind.BadStructure (first_place (noted_in note.Misplaced) reads)
    (unless kind.TooDeep (first_place (noted_in note.TooDeep) reads)
    next))

-- counts and numbers
abbrev pub counts_checked : {A : Type 0} → List FileRead → Reading A → Reading A
counts_checked reads next =
    unless kind.TooMany (first_excess reads)
    (unless kind.Fraction (first_place (noted_in note.Fraction) reads)
    (unless kind.NumberTooLarge (first_place (noted_in note.TooLarge) reads)
    next))

abbrev pub titles_checked : {A : Type 0} → List FileRead → Reading A → Reading A
titles_checked reads next =
    unless kind.BadTitle (first_place (noted_in note.Mistitled) reads)
    (unless kind.DuplicateTitle (titles_seen reads).again
    next)

-- variables, jumps and functions
abbrev pub names_checked : {A : Type 0} → List Signature → List FileRead → Reading A → Reading A
names_checked signatures reads next =
    unless kind.ReservedName (first_use is_reserved (uses_in reads))
    (unless kind.DuplicateDeclare (declarations_seen reads).again
    (unless kind.UnknownNode (first_use (is_unknown_title (titles_seen reads).names) (uses_in reads))
    (unless kind.UnknownFunction (first_use (is_unknown_function signatures) (uses_in reads))
    (unless kind.WrongArguments (first_use (has_wrong_count signatures) (uses_in reads))
    next))))

abbrev pub ids_checked : {A : Type 0} → List FileRead → Reading A → Reading A
ids_checked reads next = unless kind.DuplicateLineId (ids_seen reads).again next

abbrev pub lines_in : FileRead → FileLines
lines_in read = read.file

-- what is read of a file that is cut into lines, where ids are wanted or not
abbrev pub read_of : Bool → SplitFile → FileRead
read_of ids split = file_of ids split.number split.name split.lines

abbrev pub reads_read : List Signature → List FileRead → Reading (List FileLines)
reads_read signatures reads =
    structure_checked reads (counts_checked reads (titles_checked reads (names_checked signatures reads (ids_checked reads
    (Reads (map lines_in reads))))))

abbrev pub splits_read : List Signature → List SplitFile → Reading (List FileLines)
splits_read signatures splits = reads_read signatures (map (read_of true) splits)

unfoldable pub reading_of : List Signature → List SourceFile → Reading (List FileLines)
reading_of signatures files =
    unless kind.TooMuch (too_much 0 0 files)
    (unless kind.BadUtf8 (first_line bad_in 0 files)
    (unless kind.LineTooLong (first_line long_in 0 files)
    (splits_read signatures (splits_from 0 files))))

abbrev pub read_alone : FileRead → Reading FileLines
read_alone read = structure_checked (read ∷ []) (counts_checked (read ∷ []) (Reads read.file))

abbrev pub split_read : SplitFile → Reading FileLines
split_read split = read_alone (read_of false split)

unfoldable pub file_reading_of : SourceFile → Reading FileLines
file_reading_of file =
    unless kind.TooMuch (big_alone file)
    (unless kind.BadUtf8 (at_file 0 (bad_in file))
    (unless kind.LineTooLong (at_file 0 (long_in file))
    (split_read (split_of 0 file))))

-- what is read of files, where no line is bad, misplaced or too deep
pub record AreShallow (ids : Bool) (reads : List FileRead) : Type 0 where
  pub splits : List SplitFile
  pub is : reads ≡ map (read_of ids) splits
  pub placed : first_place (noted_in note.Misplaced) reads ≡ None
  pub shallow : first_place (noted_in note.TooDeep) reads ≡ None

-- the same, where each title is fine and titles differ
pub record AreNamed (reads : List FileRead) : Type 0 where
  pub splits : List SplitFile
  pub is : reads ≡ map (read_of true) splits
  pub placed : first_place (noted_in note.Misplaced) reads ≡ None
  pub titled : first_place (noted_in note.Mistitled) reads ≡ None
  pub differ : (titles_seen reads).again ≡ None

-- the fault of a reading; want of memory may be answered for any
abbrev pub IsFault : {A : Type 0} → Reading A → ProjectFault → Type 0
IsFault reading (Refused refusal) = reading ≡ Refuses refusal.kind refusal.place
IsFault reading Memory = ⊤

-- the files cut into lines, or the first fault among these
abbrev pub sources_split : List SourceFile → Reading (List SplitFile)
sources_split files =
    unless kind.BadUtf8 (first_line bad_in 0 files)
    (unless kind.LineTooLong (first_line long_in 0 files)
    (Reads (splits_from 0 files)))

abbrev pub source_split : SourceFile → Reading SplitFile
source_split file =
    unless kind.BadUtf8 (at_file 0 (bad_in file))
    (unless kind.LineTooLong (at_file 0 (long_in file))
    (Reads (split_of 0 file)))

-- an answer is the reading
abbrev pub Answers : {A : Type 0} → Reading A → Result A ProjectFault → Type 0
Answers reading (Ok read) = reading ≡ Reads read
Answers reading (Err fault) = IsFault reading fault

-- the trees are those of the lines that are read
abbrev pub IsProjectRead : Reading (List FileLines) → Result Project ProjectFault → Type 0
IsProjectRead reading (Ok project) = (lines : List FileLines) × ((reading ≡ Reads lines) × AreFilesOf lines project.files)
IsProjectRead reading (Err fault) = IsFault reading fault

abbrev pub IsFileRead : Reading FileLines → Result File ProjectFault → Type 0
IsFileRead reading (Ok file) = (lines : FileLines) × ((reading ≡ Reads lines) × IsFileOf lines file)
IsFileRead reading (Err fault) = IsFault reading fault

-- a kind is told at its place
abbrev pub IsTold : RefusalKind → Option Place → ProjectFault → Type 0
IsTold kind place (Refused refusal) = (kind ≡ refusal.kind) × (place ≡ Some refusal.place)
IsTold kind place Memory = ⊤
