-- How far `play` has come, in words of its parts.
use Rattle.std.specs.Prelude.{◌≡◌, ℕ, List, [], Result, Ok, Err, Option, Some, None, IfSome, string_bytes, ⊤}
use Rattle.yarn_base.specs.Causes.{Rose}
use Rattle.yarn_base.specs.Outside.{Named, GivesFile, WritesPart}
use Rattle.yarn_value.specs.Pairs.{Pairs}
use Rattle.yarn_meaning.specs.Texts.{TellsAll, base_of, said_in_files}
use Rattle.yarn_player.specs.Played.{first_from}
use Rattle.yarn_tree.specs.Trees.{FileTree}
use Rattle.yarn_walker.specs.Walk.{IsSound, files_of}
use Rattle.yarn_walker.specs.declared.walk.Walk.{Walk}
use Rattle.yarn_cli.specs.declared.message.Ended.{Ended}
use Rattle.yarn_cli.specs.declared.status.Status.TheVariants.{ReadFault, WriteFault}
use Rattle.yarn_cli.specs.declared.vars.Inputs.{Inputs}
use Rattle.yarn_cli.specs.declared.vars.VarsFile.{VarsFile}
use Rattle.yarn_cli.specs.Command.{Command, limit_of, vars_name_of}
use Rattle.yarn_cli.specs.Ended.{Says, SaysUnread, GivesSoFar}
use Rattle.yarn_cli.specs.Messages.{cannot_write}
use Rattle.yarn_cli.specs.Outcome.{Outcome, Whole, IsPlain, Told, untouched}
use Rattle.yarn_cli.specs.Play.{of_played, saved}
use Rattle.yarn_cli.specs.Commands.{read_names}
use Rattle.yarn_cli.specs.Read.{AreSources}

-- ---- what is read

abbrev pub vars_seen : Option VarsFile → Option (List ℕ × List ℕ)
vars_seen None = None
vars_seen (Some file) = Some (file.name.now, file.bytes)

-- the file that stands under the name, as it is read; or none, where none is named
abbrev pub IsVarsFile : Option Named → Option (List ℕ) → Option VarsFile → Type 0
IsVarsFile told None None = ⊤
IsVarsFile told None (Some file) = ⊥
IsVarsFile told (Some name) None = ⊥
IsVarsFile told (Some name) (Some file) = (file.name.now ≡ name) × GivesFile told name 33554432 file.bytes

-- all files of the command are read
pub record AreInputs (told : Option Named) (command : Command) (inputs : Inputs) : Type 0 where
  pub sources : AreSources told command.names inputs.sources
  pub vars : IsVarsFile told (vars_name_of command) inputs.vars

-- one of them isn't, or there was no memory
pub record FailsToRead (told : Option Named) (command : Command) (latest : Option (List ℕ)) (before now : ℕ) (ended : Ended) : Type 0 where
  pub not_plain : IsPlain ended.status → ⊥
  pub no_write : ended.status ≡ WriteFault → ⊥
  pub unread : ended.status ≡ ReadFault → Rose before now × SaysUnread (read_names command) told latest ended

-- ---- before the run

-- a command that ends so, with nothing written and all left as it is
pub record IsUntouched (whole : Named → List ℕ → Whole) (ended : Ended) : Type 0 where
  pub outcome : Outcome
  pub silent : outcome.out ≡ []
  pub says : Says outcome ended
  pub is : (named : Named) (input : List ℕ) → whole named input ≡ untouched named input outcome

pub record EndsBefore (whole : Named → List ℕ → Whole) (ended : Ended) : Type 0 where
  pub no_read : ended.status ≡ ReadFault → ⊥
  pub no_write : ended.status ≡ WriteFault → ⊥
  pub exact : IsPlain ended.status → IsUntouched whole ended

-- the command goes on so from what was found, or ends before its run
abbrev pub GoesOn : {A : Type 0} → (Named → List ℕ → Whole) → (A → Named → List ℕ → Whole) → Result A Ended → Type 0
GoesOn whole next (Ok a) = (named : Named) (input : List ℕ) → whole named input ≡ next a named input
GoesOn whole next (Err ended) = EndsBefore whole ended

-- from the walk that begins
abbrev pub of_walk : Command → Walk → Named → List ℕ → Whole
of_walk command walk named input = of_played command (files_of walk) (first_from walk input (limit_of command)) named

-- ---- the run

-- the base table has the texts of all lines and options
abbrev pub TellsItsTexts : List FileTree → Type 0
TellsItsTexts files = TellsAll (base_of files) (said_in_files files)

-- a walk through these files
pub record WalksIn (files : List FileTree) (walk : Walk) : Type 0 where
  pub sound : IsSound walk
  pub files_are : files_of walk ≡ files

-- all but the line is the whole's
pub record GivesPlayed (whole : Whole) (ended : Ended) (out_old out_new left : Option (List ℕ)) (contents : Option Named) : Type 0 where
  pub so_far : GivesSoFar whole.outcome ended out_old out_new
  pub left_is : left ≡ Some whole.left
  pub contents_are : contents ≡ Some whole.named

-- where the status is plain all is as the whole says, and what was written is always a part of it
pub record PlaysAs (whole : Named → List ℕ → Whole) (ended : Ended) (contents contents_new : Option Named) (left left_new out out_new : Option (List ℕ)) : Type 0 where
  pub exact : IsPlain ended.status → Told contents left (λ named input. GivesPlayed (whole named input) ended out out_new left_new contents_new)
  pub part : Told contents left (λ named input. WritesPart out out_new (whole named input).outcome.out)

-- the variables are written where a file is named for them
abbrev pub IsSaved : Option (List ℕ) → Pairs → Option Named → Option Named → Type 0
IsSaved name pairs old new = IfSome old (λ named. new ≡ Some (saved name pairs named))

-- the line names the file that can't be written
pub record SaysUnwritten (name : Option (List ℕ)) (ended : Ended) : Type 0 where
  pub file : List ℕ
  pub is : name ≡ Some file
  pub line_is : string_bytes ended.line ≡ cannot_write file
