-- What the call of a command tells, at every status (docs/commands.md, Order of work and Statuses). A further command that
-- prints states its call by `Prints`.
use Rattle.std.specs.Prelude.{◌≡◌, ◌≤◌, ◌⊎◌, ℕ, List, Option, IfSome, string_bytes}
use Rattle.std.specs.Io.KnownBytes.{append_known}
use Rattle.yarn_base.specs.Causes.{Rose}
use Rattle.yarn_base.specs.Outside.{Named, WritesPart}
use Rattle.yarn_player.specs.Played.{TakesFront}
use Rattle.yarn_cli.specs.declared.message.Ended.{Ended}
use Rattle.yarn_cli.specs.declared.status.Status.{Status}
use Rattle.yarn_cli.specs.declared.status.Status.TheVariants.{ReadFault, WriteFault}
use Rattle.yarn_cli.specs.Command.{Command, save_vars_of}
use Rattle.yarn_cli.specs.Ended.{GivesSoFar, SaysUnread}
use Rattle.yarn_cli.specs.Messages.{cannot_read, cannot_write, input, output}
use Rattle.yarn_cli.specs.Outcome.{Outcome, Whole, IsPlain, Gives, GivesWhole, NamesRead, NamesWritten, Told, ChangesSaved}
use Rattle.yarn_cli.specs.Commands.{read_names}
use Rattle.yarn_cli.specs.Playing.{PlaysAs, SaysUnwritten}

-- ---- the outside, as a call finds it and leaves it

-- named files: what stands in them where it is told, the name of the latest read fault, and the counts of faults
pub record FilesSeen : Type 0 where
  pub contents : Option Named
  pub latest_fault : Option (List ℕ)
  pub read_faults : ℕ
  pub write_faults : ℕ

-- the input: the bytes left where they are told, and the count of faults
pub record InputSeen : Type 0 where
  pub left : Option (List ℕ)
  pub faults : ℕ

-- a sink: the bytes written where they are told, and the count of faults
pub record SinkSeen : Type 0 where
  pub written : Option (List ℕ)
  pub faults : ℕ

abbrev pub files_seen : {A : Type 0} → (A → Option Named) → (A → Option (List ℕ)) → (A → ℕ) → (A → ℕ) → A → FilesSeen
files_seen contents latest_fault read_faults write_faults files = record {
  contents = contents files;
  latest_fault = latest_fault files;
  read_faults = read_faults files;
  write_faults = write_faults files;
}

abbrev pub input_seen : {A : Type 0} → (A → Option (List ℕ)) → (A → ℕ) → A → InputSeen
input_seen left faults source = record { left = left source; faults = faults source }

abbrev pub sink_seen : {A : Type 0} → (A → Option (List ℕ)) → (A → ℕ) → A → SinkSeen
sink_seen written faults sink = record { written = written sink; faults = faults sink }

-- ---- a command that reads files and prints: it takes no input and writes no file

pub record Prints (names : List (List ℕ)) (outcome : Named → Outcome) (status : Status)
    (files files_new : FilesSeen) (out out_new err err_new : SinkSeen) : Type 0 where
  -- where neither a fault nor want of memory is answered, all is as the outcome says
  pub exact : IsPlain status →
      IfSome files.contents (λ named. Gives (outcome named) status out.written out_new.written err.written err_new.written)
  -- whatever is answered, what was written is a part of the outcome's
  pub part : IfSome files.contents (λ named. WritesPart out.written out_new.written (outcome named).out)
  -- a fault has its cause, and the line names what failed
  pub read : status ≡ ReadFault →
      Rose files.read_faults files_new.read_faults × NamesRead names files.contents files_new.latest_fault err.written err_new.written
  pub write : status ≡ WriteFault → Rose err.faults err_new.faults
      ⊎ (Rose out.faults out_new.faults × (err_new.written ≡ append_known err.written (cannot_write output)))
  pub files_stay : files_new.contents ≡ files.contents
  pub writes_stay : files_new.write_faults ≡ files.write_faults
  -- no count falls
  pub read_count : files.read_faults ≤ files_new.read_faults
  pub out_count : out.faults ≤ out_new.faults
  pub err_count : err.faults ≤ err_new.faults

-- the same before its line is said
pub record PrintsUnsaid (names : List (List ℕ)) (outcome : Named → Outcome) (ended : Ended) (files files_new : FilesSeen) (out out_new : SinkSeen) : Type 0 where
  pub exact : IsPlain ended.status → IfSome files.contents (λ named. GivesSoFar (outcome named) ended out.written out_new.written)
  pub part : IfSome files.contents (λ named. WritesPart out.written out_new.written (outcome named).out)
  pub read : ended.status ≡ ReadFault → Rose files.read_faults files_new.read_faults × SaysUnread names files.contents files_new.latest_fault ended
  pub write : ended.status ≡ WriteFault → Rose out.faults out_new.faults × (string_bytes ended.line ≡ cannot_write output)
  pub files_stay : files_new.contents ≡ files.contents
  pub writes_stay : files_new.write_faults ≡ files.write_faults
  pub read_count : files.read_faults ≤ files_new.read_faults
  pub out_count : out.faults ≤ out_new.faults

-- the same of what is printed once all files are read
pub record PrintsRead (outcome : Outcome) (ended : Ended) (out out_new : SinkSeen) : Type 0 where
  pub exact : IsPlain ended.status → GivesSoFar outcome ended out.written out_new.written
  pub part : WritesPart out.written out_new.written outcome.out
  pub no_read : ended.status ≡ ReadFault → ⊥
  pub write : ended.status ≡ WriteFault → Rose out.faults out_new.faults × (string_bytes ended.line ≡ cannot_write output)
  pub out_count : out.faults ≤ out_new.faults

-- ---- any command: it may take input, and write the file that is named for the variables

pub record Runs (names : List (List ℕ)) (saves : Option (List ℕ)) (whole : Named → List ℕ → Whole) (status : Status)
    (files files_new : FilesSeen) (source source_new : InputSeen) (out out_new err err_new : SinkSeen) : Type 0 where
  -- where neither a fault nor want of memory is answered, all is as the outcome says
  pub exact : IsPlain status → Told files.contents source.left (λ named bytes.
      GivesWhole (whole named bytes) status out.written out_new.written err.written err_new.written source_new.left files_new.contents)
  -- whatever is answered, what was written is a part of the outcome's, and a front of the input was taken
  pub part : Told files.contents source.left (λ named bytes. WritesPart out.written out_new.written (whole named bytes).outcome.out)
  pub taken : TakesFront source.left source_new.left
  pub files_stay : ChangesSaved saves files.contents files_new.contents
  -- a fault has its cause, and the line names what failed
  pub read : status ≡ ReadFault →
      (Rose files.read_faults files_new.read_faults × NamesRead names files.contents files_new.latest_fault err.written err_new.written)
      ⊎ (Rose source.faults source_new.faults × (err_new.written ≡ append_known err.written (cannot_read input)))
  pub write : status ≡ WriteFault → Rose err.faults err_new.faults
      ⊎ (Rose out.faults out_new.faults × (err_new.written ≡ append_known err.written (cannot_write output)))
      ⊎ (Rose files.write_faults files_new.write_faults × NamesWritten saves err.written err_new.written)
  -- no count falls
  pub read_count : files.read_faults ≤ files_new.read_faults
  pub write_count : files.write_faults ≤ files_new.write_faults
  pub input_count : source.faults ≤ source_new.faults
  pub out_count : out.faults ≤ out_new.faults
  pub err_count : err.faults ≤ err_new.faults

-- the same before its line is said
pub record RunsUnsaid (command : Command) (whole : Named → List ℕ → Whole) (ended : Ended)
    (files files_new : FilesSeen) (source source_new : InputSeen) (out out_new : SinkSeen) : Type 0 where
  pub played : PlaysAs whole ended files.contents files_new.contents source.left source_new.left out.written out_new.written
  pub taken : TakesFront source.left source_new.left
  pub files_stay : ChangesSaved (save_vars_of command) files.contents files_new.contents
  pub read : ended.status ≡ ReadFault →
      (Rose files.read_faults files_new.read_faults × SaysUnread (read_names command) files.contents files_new.latest_fault ended)
      ⊎ (Rose source.faults source_new.faults × (string_bytes ended.line ≡ cannot_read input))
  pub write : ended.status ≡ WriteFault → (Rose out.faults out_new.faults × (string_bytes ended.line ≡ cannot_write output))
      ⊎ (Rose files.write_faults files_new.write_faults × SaysUnwritten (save_vars_of command) ended)
  pub read_count : files.read_faults ≤ files_new.read_faults
  pub write_count : files.write_faults ≤ files_new.write_faults
  pub input_count : source.faults ≤ source_new.faults
  pub out_count : out.faults ≤ out_new.faults

-- the same once all files are read: no file is read any more
pub record RunsRead (command : Command) (whole : Named → List ℕ → Whole) (ended : Ended)
    (files files_new : FilesSeen) (source source_new : InputSeen) (out out_new : SinkSeen) : Type 0 where
  pub played : PlaysAs whole ended files.contents files_new.contents source.left source_new.left out.written out_new.written
  pub taken : TakesFront source.left source_new.left
  pub files_stay : ChangesSaved (save_vars_of command) files.contents files_new.contents
  pub read : ended.status ≡ ReadFault → Rose source.faults source_new.faults × (string_bytes ended.line ≡ cannot_read input)
  pub write : ended.status ≡ WriteFault → (Rose out.faults out_new.faults × (string_bytes ended.line ≡ cannot_write output))
      ⊎ (Rose files.write_faults files_new.write_faults × SaysUnwritten (save_vars_of command) ended)
  pub reads_stay : files_new.read_faults ≡ files.read_faults
  pub write_count : files.write_faults ≤ files_new.write_faults
  pub input_count : source.faults ≤ source_new.faults
  pub out_count : out.faults ≤ out_new.faults
