-- What `play` has to do, in seven steps (docs/commands.md, play and Order of work): read last to first.
use Rattle.std.specs.Prelude.{ℕ, List, [], length, nat_le, if◌then◌else◌, Option, Some, None}
use Rattle.yarn_base.specs.declared.SourceFile.{SourceFile}
use Rattle.yarn_base.specs.Outside.{Named, put}
use Rattle.yarn_code.specs.Moments as moments
use Rattle.yarn_code.specs.Moments.{State, Stand, Ended, Limit, Waits, Asks, BadReply}
use Rattle.yarn_value.specs.Pairs.{Pairs}
use Rattle.yarn_infer.specs.Typings.{Kinding, Typed, Untyped, Open}
use Rattle.yarn_meaning.specs.First.{first_of, find}
use Rattle.yarn_meaning.specs.Texts.{base_of}
use Rattle.yarn_meaning.specs.Variables.{variables_of, first_store, first_other}
use Rattle.yarn_store.specs.Reading.{VarsReading, Holds, BadAt, vars_of}
use Rattle.yarn_store.specs.Variables.{vars_text}
use Rattle.yarn_player.specs.Transcript.{transcript}
use Rattle.yarn_types.specs.declared.typed.TypedName.{TypedName}
use Rattle.yarn_tree.specs.Trees.{FileTree}
use Rattle.yarn_tree.specs.Reading.{Reading, Reads, Refuses, reading_of}
use Rattle.yarn_cli.specs.declared.status.Status.TheVariants.{Done, RunFault, WaitsChoice, EventLimit, RefusedVars, UnknownStart}
use Rattle.yarn_cli.specs.Command.{Command, start_of, limit_of, vars_name_of, save_vars_of}
use Rattle.yarn_cli.specs.Messages.{name_at, kind_text, no_typing, many_typings, file_refused, bad_vars, bad_variable, too_much, faulted, waiting, event_limit, no_node}
use Rattle.yarn_cli.specs.Outcome.{Outcome, Whole, untouched, of_missing, of_refusal, kinds_of, trees_of}
use Rattle.yarn_cli.specs.Sources.{Sources, Found, Missing, sources_of}

-- a run that stands there
abbrev pub of_stand : List (List ℕ) → Stand → List ℕ → Outcome
of_stand names Ended out = record { status = Done; out = out; err = [] }
of_stand names Limit out = record { status = EventLimit; out = out; err = event_limit }
of_stand names (moments.Faults fault) out = record { status = RunFault; out = out; err = faulted (name_at names fault.file) fault }
of_stand names Waits out = record { status = WaitsChoice; out = out; err = waiting }
-- no project of this version asks a host function
of_stand names (Asks name args) out = record { status = RunFault; out = out; err = [] }
of_stand names (BadReply name value) out = record { status = RunFault; out = out; err = [] }

-- the file of a variables file's fault, with the fault
abbrev pub of_vars_refused : List ℕ → List ℕ → Outcome
of_vars_refused name fault = record { status = RefusedVars; out = []; err = file_refused name fault }

-- the variables are written where a file is named for them
abbrev pub saved : Option (List ℕ) → Pairs → Named → Named
saved None pairs named = named
saved (Some name) pairs named = put named name (vars_text pairs)

-- what stands behind a run that comes to that
abbrev pub of_played : Command → List FileTree → moments.Outcome → Named → Whole
of_played command files played named = record {
  outcome = of_stand command.names played.stand (transcript (base_of files) played.moments);
  left = played.state.answers;
  named = saved (save_vars_of command) played.state.store named;
}

-- 7. the first events from the start node with that store, up to the limit
abbrev pub of_store : Command → List FileTree → Pairs → Named → List ℕ → Whole
of_store command files store named input =
    of_played command files (first_of [] files (start_of command) (record { store = store; answers = input; tape = [] }) (limit_of command)) named

-- 6. the store is these pairs and what they lack
abbrev pub of_run : Command → List FileTree → List TypedName → Pairs → Named → List ℕ → Whole
of_run command files entries pairs = of_store command files (first_store pairs entries files)

-- each variable of the project has a value of its kind among the pairs, or none
abbrev pub of_kept : Command → List FileTree → List TypedName → Pairs → List ℕ → Option (List ℕ) → Named → List ℕ → Whole
of_kept command files entries pairs file None named input = of_run command files entries pairs named input
of_kept command files entries pairs file (Some name) named input = untouched named input (of_vars_refused file (bad_variable name))

-- the pairs that a variables file holds
abbrev pub of_pairs : Command → List FileTree → List TypedName → List ℕ → Pairs → Named → List ℕ → Whole
of_pairs command files entries file pairs = of_kept command files entries pairs file (first_other pairs (variables_of entries files))

abbrev pub of_held : Command → List FileTree → List TypedName → List ℕ → VarsReading → Named → List ℕ → Whole
of_held command files entries file (Holds pairs) named input = of_pairs command files entries file pairs named input
of_held command files entries file (BadAt line) named input = untouched named input (of_vars_refused file (bad_vars line))

-- a variables file of at most 33,554,432 bytes
abbrev pub of_vars_file : Command → List FileTree → List TypedName → List ℕ → List ℕ → Named → List ℕ → Whole
of_vars_file command files entries file bytes named input =
    if nat_le (length bytes) 33554432 then of_held command files entries file (vars_of bytes) named input
    else untouched named input (of_vars_refused file too_much)

-- 5. the variables file, where one is named
abbrev pub of_vars : Command → List FileTree → List TypedName → Option (List ℕ × List ℕ) → Named → List ℕ → Whole
of_vars command files entries None named input = of_run command files entries [] named input
of_vars command files entries (Some file) named input = of_vars_file command files entries file.0 file.1 named input

-- 4. one of the nodes has the title to start from
abbrev pub of_start : {A : Type 0} → Command → List FileTree → List TypedName → Option A → Option (List ℕ × List ℕ) → Named → List ℕ → Whole
of_start command files entries None vars named input =
    untouched named input (record { status = UnknownStart; out = []; err = no_node (start_of command) })
of_start command files entries (Some entered) vars named input = of_vars command files entries vars named input

-- 3. the variables have one kind each
abbrev pub of_kinds : Command → List FileTree → Kinding → Option (List ℕ × List ℕ) → Named → List ℕ → Whole
of_kinds command files (Typed entries) vars named input = of_start command files entries (find (start_of command) files) vars named input
of_kinds command files (Untyped place) vars named input = untouched named input (of_refusal command.names no_typing place)
of_kinds command files (Open name place) vars named input = untouched named input (of_refusal command.names (many_typings name) place)

-- 2. the project is read
abbrev pub of_project : Command → Reading (List FileTree) → Option (List ℕ × List ℕ) → Named → List ℕ → Whole
of_project command (Refuses kind place) vars named input = untouched named input (of_refusal command.names (kind_text kind) place)
of_project command (Reads files) vars named input = of_kinds command files (kinds_of files) vars named input

-- the variables file is read behind the sources
abbrev pub of_vars_read : Command → List SourceFile → List ℕ → Option (List ℕ) → Named → List ℕ → Whole
of_vars_read command files name None named input = untouched named input (of_missing name)
of_vars_read command files name (Some bytes) named input =
    of_project command (trees_of (reading_of [] files)) (Some (name, bytes)) named input

abbrev pub of_all_read : Command → List SourceFile → Option (List ℕ) → Named → List ℕ → Whole
of_all_read command files None named input = of_project command (trees_of (reading_of [] files)) None named input
of_all_read command files (Some name) named input = of_vars_read command files name (named name) named input

-- 1. all files are read before any is judged
abbrev pub of_sources : Command → Sources → Named → List ℕ → Whole
of_sources command (Missing name) named input = untouched named input (of_missing name)
of_sources command (Found files) named input = of_all_read command files (vars_name_of command) named input

-- `play`: steps 1 to 7; the game has no functions of its own
abbrev pub of_play : Command → Named → List ℕ → Whole
of_play command named input = of_sources command (sources_of named command.names) named input
