-- What a command comes to, and what its call tells of it (docs/commands.md, Order of work and Statuses).
use Rattle.std.specs.Io.KnownBytes.{append_known}
use Rattle.std.specs.Prelude.{◌≡◌, ℕ, List, [], map, ⊤, Option, Some, None, IfSome}
use Rattle.yarn_base.specs.declared.Place.{Place}
use Rattle.yarn_base.specs.declared.SourceFile.{SourceFile}
use Rattle.yarn_base.specs.Outside.{Named, ChangesOnly}
use Rattle.yarn_nodes.specs.declared.node.FileLines.{FileLines}
use Rattle.yarn_infer.specs.Units.{units_of}
use Rattle.yarn_infer.specs.Typings.{Kinding, Typed, Untyped, Open, kinding_of}
use Rattle.yarn_types.specs.declared.typed.TypedName.{TypedName}
use Rattle.yarn_tree.specs.Trees.{FileTree, grown}
use Rattle.yarn_tree.specs.Reading.{Reading, Reads, Refuses}
use Rattle.yarn_cli.specs.declared.status.Status.{Status}
use Rattle.yarn_cli.specs.declared.status.Status.TheVariants.{Done, RefusedProject, ReadFault, WriteFault, OutOfMemory}
use Rattle.yarn_cli.specs.Messages.{name_at, no_typing, many_typings, refused, cannot_read, cannot_write}
use Rattle.yarn_cli.specs.Sources.{Sources, Found, Missing, source_of, IsUnread}

-- the status, what is written, and the line on the error sink
pub record Outcome : Type 0 where
  pub status : Status
  pub out : List ℕ
  pub err : List ℕ

-- what a command does, the bytes of the input that are left then, and the named files
pub record Whole : Type 0 where
  pub outcome : Outcome
  pub left : List ℕ
  pub named : Named

-- the files and the input stay as they are
abbrev pub untouched : Named → List ℕ → Outcome → Whole
untouched named input outcome = record { outcome = outcome; left = input; named = named }

-- ---- ends that commands share

-- all went well, and this is written
abbrev pub of_done : List ℕ → Outcome
of_done text = record { status = Done; out = text; err = [] }

-- a file to be read isn't there
abbrev pub of_missing : List ℕ → Outcome
of_missing name = record { status = ReadFault; out = []; err = cannot_read name }

-- a refusal names the file of its place
abbrev pub of_refusal : List (List ℕ) → List ℕ → Place → Outcome
of_refusal names name place = record { status = RefusedProject; out = []; err = refused (name_at names place.file) name place.line }

-- all files are read before any is judged
abbrev pub of_all : (List SourceFile → Outcome) → Sources → Outcome
of_all judged (Missing name) = of_missing name
of_all judged (Found files) = judged files

-- a file that isn't there, or that holds these bytes
abbrev pub of_one : (SourceFile → Outcome) → List ℕ → Option (List ℕ) → Outcome
of_one judged name None = of_missing name
of_one judged name (Some bytes) = judged (source_of name bytes)

-- what follows where the variables have one kind each
abbrev pub of_kinding : List (List ℕ) → Kinding → (List TypedName → Outcome) → Outcome
of_kinding names (Typed entries) next = next entries
of_kinding names (Untyped place) next = of_refusal names no_typing place
of_kinding names (Open name place) next = of_refusal names (many_typings name) place

-- the kinds of the variables, where the game has no functions
abbrev pub kinds_of : List FileTree → Kinding
kinds_of files = kinding_of [] (units_of files)

-- the trees of what is read
abbrev pub trees_of : Reading (List FileLines) → Reading (List FileTree)
trees_of (Refuses kind place) = Refuses kind place
trees_of (Reads files) = Reads (map grown files)

-- ---- what a call tells of it

-- a status that neither a count of faults nor want of memory explains
abbrev pub IsPlain : Status → Type 0
IsPlain ReadFault = ⊥
IsPlain WriteFault = ⊥
IsPlain OutOfMemory = ⊥
IsPlain _ = ⊤

-- the status and what was written are the outcome's
pub record Gives (outcome : Outcome) (status : Status) (out_old out_new err_old err_new : Option (List ℕ)) : Type 0 where
  pub status_is : status ≡ outcome.status
  pub out_is : out_new ≡ append_known out_old outcome.out
  pub err_is : err_new ≡ append_known err_old outcome.err

-- the line on the error sink names the file that can't be read
pub record NamesRead (names : List (List ℕ)) (told : Option Named) (latest err_old err_new : Option (List ℕ)) : Type 0 where
  pub name : List ℕ
  pub unread : IsUnread names told latest name
  pub said : err_new ≡ append_known err_old (cannot_read name)

-- all is the outcome's, with the input that is left and the named files
pub record GivesWhole (whole : Whole) (status : Status) (out_old out_new err_old err_new left : Option (List ℕ)) (contents : Option Named) : Type 0 where
  pub gives : Gives whole.outcome status out_old out_new err_old err_new
  pub left_is : left ≡ Some whole.left
  pub contents_are : contents ≡ Some whole.named

-- where the files and the input are told
abbrev pub Told : Option Named → Option (List ℕ) → (Named → List ℕ → Type 0) → Type 0
Told contents left P = IfSome contents (λ named. IfSome left (λ input. P named input))

-- no file is changed but the one that is named for the variables
abbrev pub ChangesSaved : Option (List ℕ) → Option Named → Option Named → Type 0
ChangesSaved None old new = new ≡ old
ChangesSaved (Some name) old new = ChangesOnly old new name

-- the line on the error sink names the file that can't be written
pub record NamesWritten (name : Option (List ℕ)) (err_old err_new : Option (List ℕ)) : Type 0 where
  pub file : List ℕ
  pub is : name ≡ Some file
  pub said : err_new ≡ append_known err_old (cannot_write file)
