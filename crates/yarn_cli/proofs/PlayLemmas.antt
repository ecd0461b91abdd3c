-- What `play` tells of its parts, from what it reads to how it ends.
use Rattle.std.proofs.Common.{◌≡◌, ℕ, zero, suc, ◌+◌, ◌<◌, ◌≤◌, ◌⊎◌, List, [], ◌∷◌, ◌++◌, length, map, take, nat_eq, nat_le, Bool, true, false, Option, Some, None, IfSome, IfOk, option_map, string_bytes, Result, Ok, Err, inl, inr, refl, sym, ap, subst, ◌∙◌, arith, append_assoc, length-take, take_all}
use Rattle.std.proofs.lemmas.Bool.{le-leb, lt-leb, leb-true, leb-false}
use Rattle.std.specs.Result.{IsErrAnd}
use Rattle.std.specs.declared.alloc.AllocError.{AllocError}
use Rattle.std.specs.declared.alloc.Global.{Global}
use Rattle.std.specs.declared.string.String.{String}
use Rattle.std.specs.Io.KnownBytes.{append_known}
use Rattle.std.specs.Cmp.Lexicographic.{pointwise}
use Rattle.yarn_base.specs.declared.Place.{Place}
use Rattle.yarn_base.specs.declared.SourceFile.{SourceFile}
use Rattle.yarn_base.specs.Causes.{Rose}
use Rattle.yarn_base.specs.Outside.{Named, HoldsAfter, ChangesOnly, WritesPart, put}
use Rattle.yarn_base.proofs.Written.{WritesPart-none, append_known-nil}
use Rattle.yarn_code.specs.Moments.{Stand, Ended as IsEnded, Limit, Faults, Waits, Asks, BadReply}
use Rattle.yarn_value.specs.Pairs.{Pairs}
use Rattle.yarn_infer.specs.Typings.{Kinding, Typed, Untyped, Open, IsKinding}
use Rattle.yarn_meaning.specs.First.{Placed, find, first_of}
use Rattle.yarn_meaning.specs.Texts.{base_of}
use Rattle.yarn_meaning.specs.Variables.{variables_of, first_other}
use Rattle.yarn_meaning.proofs.BaseLemmas.{base_tells}
use Rattle.yarn_nodes.specs.declared.node.FileLines.{FileLines}
use Rattle.yarn_player.specs.Played.{first_from, IsPlayed, Writes, WritesSome}
use Rattle.yarn_player.specs.Stands.{stand_of}
use Rattle.yarn_player.specs.Transcript.{transcript}
use Rattle.yarn_player.specs.declared.ends.Played.{Played}
use Rattle.yarn_store.specs.Reading.{BadAt, vars_of}
use Rattle.yarn_store.specs.Variables.{vars_text}
use Rattle.yarn_tree.specs.Reading.{Reading, Reads, Refuses, reading_of}
use Rattle.yarn_tree.specs.Trees.{FileTree, grown}
use Rattle.yarn_tree.specs.declared.refusal.RefusalKind.{RefusalKind}
use Rattle.yarn_types.specs.declared.fault.TypeFault.{TypeFault}
use Rattle.yarn_types.specs.declared.fault.TypeFault.TheVariants as fault
use Rattle.yarn_types.specs.declared.typed.TypedName.{TypedName}
use Rattle.yarn_walker.specs.States.{at}
use Rattle.yarn_walker.specs.Titles.{placed}
use Rattle.yarn_walker.specs.Walk.{files_of}
use Rattle.yarn_walker.specs.declared.titles.NodeAt.{NodeAt}
use Rattle.yarn_walker.specs.declared.walk.Seat.TheVariants.{Enters}
use Rattle.yarn_walker.specs.declared.walk.Walk.{Walk}
use Rattle.yarn_cli.specs.declared.message.Ended.{Ended}
use Rattle.yarn_cli.specs.declared.status.Status.TheVariants.{RefusedProject, ReadFault, WriteFault, OutOfMemory, RefusedVars, UnknownStart}
use Rattle.yarn_cli.specs.declared.vars.Inputs.{Inputs}
use Rattle.yarn_cli.specs.declared.vars.VarsFile.{VarsFile}
use Rattle.yarn_cli.specs.Command.{Command, start_of, limit_of, vars_name_of, save_vars_of}
use Rattle.yarn_cli.specs.Ended.{Says}
use Rattle.yarn_cli.specs.Kinds.{SaysFault}
use Rattle.yarn_cli.specs.Messages.{cannot_read, name_at, kind_text, refused, file_refused, no_node, bad_variable, bad_vars, no_typing, many_typings, too_much}
use Rattle.yarn_cli.specs.Outcome.{Outcome, Whole, IsPlain, Told, of_refusal, kinds_of, trees_of, untouched, ChangesSaved}
use Rattle.yarn_cli.specs.Play.{of_stand, of_vars_refused, of_run, of_kept, of_vars_file, of_vars, of_start, of_kinds, of_project, of_vars_read, of_all_read, of_sources, of_play, saved}
use Rattle.yarn_cli.specs.Commands.{with_vars_name}
use Rattle.yarn_cli.specs.Play.{of_pairs, of_played, of_store}
use Rattle.yarn_cli.specs.Playing.{vars_seen, of_walk, AreInputs, IsVarsFile, IsUntouched, EndsBefore, GoesOn, FailsToRead, GivesPlayed, PlaysAs, TellsItsTexts, IsSaved}
use Rattle.yarn_cli.specs.Read.{AreCut, AreSources}
use Rattle.yarn_cli.specs.Sources.{sources_of, IsUnread}
use Rattle.yarn_cli.proofs.CutLemmas.{reading-cut}

-- ---- an end before the run

pub memory-ends : (whole : Named → List ℕ → Whole) (ended : Ended) → ended.status ≡ OutOfMemory → EndsBefore whole ended
memory-ends whole ended is = record {
  no_read = λ e. absurd cc;
  no_write = λ e. absurd cc;
  exact = λ plain. absurd (subst IsPlain is plain);
}

pub ends-with : (whole : Named → List ℕ → Whole) (ended : Ended) (outcome : Outcome) → outcome.out ≡ [] → IsPlain outcome.status →
    (ended.status ≡ outcome.status) ⊎ (ended.status ≡ OutOfMemory) → (ended.status ≡ outcome.status → string_bytes ended.line ≡ outcome.err) →
    ((named : Named) (input : List ℕ) → whole named input ≡ untouched named input outcome) → EndsBefore whole ended
ends-with whole ended outcome silent plain (inl e) line is = record {
  no_read = λ r. absurd (subst IsPlain (sym e ∙ r) plain);
  no_write = λ w. absurd (subst IsPlain (sym e ∙ w) plain);
  exact = λ p. record { outcome = outcome; silent = silent; says = record { status_is = e; err_is = line e }; is = is };
}
ends-with whole ended outcome silent plain (inr e) line is = memory-ends whole ended e

-- the kinds of the variables
pub kinds-end : (command : Command) (files : List FileTree) (kinding : Kinding) (vars : Option (List ℕ × List ℕ)) (fault : TypeFault) (ended : Ended) →
    IsKinding kinding (Err fault) → (ended.status ≡ RefusedProject) ⊎ (ended.status ≡ OutOfMemory) →
    (ended.status ≡ RefusedProject → SaysFault command.names fault (string_bytes ended.line)) →
    EndsBefore (of_kinds command files kinding vars) ended
kinds-end command files kinding vars (fault.NoTyping place) ended is cases line =
    ends-with (of_kinds command files kinding vars) ended (of_refusal command.names no_typing place) refl tt cases line
    (λ named input. ap (λ (k : Kinding). of_kinds command files k vars named input) is)
kinds-end command files kinding vars (fault.ManyTypings name place) ended is cases line =
    ends-with (of_kinds command files kinding vars) ended (of_refusal command.names (many_typings name) place) refl tt cases line
    (λ named input. ap (λ (k : Kinding). of_kinds command files k vars named input) is)
kinds-end command files kinding vars fault.Memory ended is (inl e) line = absurd (line e)
kinds-end command files kinding vars fault.Memory ended is (inr e) line = memory-ends (of_kinds command files kinding vars) ended e

pub project-ends : (command : Command) (reading : Reading (List FileTree)) (vars : Option (List ℕ × List ℕ)) (kind : RefusalKind) (place : Place) (ended : Ended) →
    reading ≡ Refuses kind place → (ended.status ≡ RefusedProject) ⊎ (ended.status ≡ OutOfMemory) →
    (ended.status ≡ RefusedProject → string_bytes ended.line ≡ refused (name_at command.names place.file) (kind_text kind) place.line) →
    EndsBefore (of_project command reading vars) ended
project-ends command reading vars kind place ended is cases line =
    ends-with (of_project command reading vars) ended (of_refusal command.names (kind_text kind) place) refl tt cases line
    (λ named input. ap (λ (r : Reading (List FileTree)). of_project command r vars named input) is)

pub start-ends : (command : Command) (files : List FileTree) (entries : List TypedName) (found : Option Placed) (vars : Option (List ℕ × List ℕ)) (ended : Ended) →
    found ≡ None → (ended.status ≡ UnknownStart) ⊎ (ended.status ≡ OutOfMemory) →
    (ended.status ≡ UnknownStart → string_bytes ended.line ≡ no_node (start_of command)) →
    EndsBefore (of_start command files entries found vars) ended
start-ends command files entries found vars ended is cases line =
    ends-with (of_start command files entries found vars) ended (record { status = UnknownStart; out = []; err = no_node (start_of command) }) refl tt cases line
    (λ named input. ap (λ (o : Option Placed). of_start command files entries o vars named input) is)

-- an end is handed on
pub goes-err : {A : Type 0} (whole : Named → List ℕ → Whole) (next : A → Named → List ℕ → Whole) (result : Result A Ended) (ended : Ended) →
    EndsBefore whole ended → IsErrAnd result (λ e. e ≡ ended) → GoesOn whole next result
goes-err whole next (Ok a) ended ends is = absurd is
goes-err whole next (Err e) ended ends is = subst (EndsBefore whole) (sym is) ends

-- a line is as it was formatted
pub line-said : (result : Result (String Global) AllocError) (bytes other : List ℕ) → IfOk result (λ line. string_bytes line ≡ bytes) → bytes ≡ other →
    IfOk result (λ line. string_bytes line ≡ other)
line-said (Ok line) bytes other is e = is ∙ e
line-said (Err error) bytes other is e = tt

-- ---- the variables file

module _ (command : Command) (files : List FileTree) (entries : List TypedName) (file bytes : List ℕ) where
  pub long-ends : (ended : Ended) → 33554432 < length bytes → (ended.status ≡ RefusedVars) ⊎ (ended.status ≡ OutOfMemory) →
      (ended.status ≡ RefusedVars → string_bytes ended.line ≡ file_refused file too_much) → EndsBefore (of_vars_file command files entries file bytes) ended
  long-ends ended lt cases line =
      ends-with (of_vars_file command files entries file bytes) ended (of_vars_refused file too_much) refl tt cases line
      (λ named input. rw (lt-leb (length bytes) 33554432 lt) refl)

  pub line-ends : (ended : Ended) (number : ℕ) → length bytes ≤ 33554432 → vars_of bytes ≡ BadAt number →
      (ended.status ≡ RefusedVars) ⊎ (ended.status ≡ OutOfMemory) →
      (ended.status ≡ RefusedVars → string_bytes ended.line ≡ file_refused file (bad_vars number)) → EndsBefore (of_vars_file command files entries file bytes) ended
  line-ends ended number le is cases line =
      ends-with (of_vars_file command files entries file bytes) ended (of_vars_refused file (bad_vars number)) refl tt cases line
      (λ named input. rw (le-leb (length bytes) 33554432 le, is) refl)

  pub variable-ends : (ended : Ended) (pairs : Pairs) (name : List ℕ) →
      ((named : Named) (input : List ℕ) → of_vars_file command files entries file bytes named input ≡ of_pairs command files entries file pairs named input) →
      first_other pairs (variables_of entries files) ≡ Some name → (ended.status ≡ RefusedVars) ⊎ (ended.status ≡ OutOfMemory) →
      (ended.status ≡ RefusedVars → string_bytes ended.line ≡ file_refused file (bad_variable name)) → EndsBefore (of_vars_file command files entries file bytes) ended
  variable-ends ended pairs name held other cases line =
      ends-with (of_vars_file command files entries file bytes) ended (of_vars_refused file (bad_variable name)) refl tt cases line
      (λ named input. held named input ∙ ap (λ (o : Option (List ℕ)). of_kept command files entries pairs file o named input) other)

  pub pairs-kept : (pairs : Pairs) →
      ((named : Named) (input : List ℕ) → of_vars_file command files entries file bytes named input ≡ of_pairs command files entries file pairs named input) →
      first_other pairs (variables_of entries files) ≡ None →
      (named : Named) (input : List ℕ) → of_vars_file command files entries file bytes named input ≡ of_run command files entries pairs named input
  pairs-kept pairs held none named input =
      held named input ∙ ap (λ (o : Option (List ℕ)). of_kept command files entries pairs file o named input) none

-- the file that is named
pub goes-named : {A : Type 0} (command : Command) (files : List FileTree) (entries : List TypedName) (vars : Option VarsFile) (file : VarsFile)
    (next : A → Named → List ℕ → Whole) (result : Result A Ended) → vars ≡ Some file →
    GoesOn (of_vars_file command files entries file.name.now file.bytes) next result → GoesOn (of_vars command files entries (vars_seen vars)) next result
goes-named command files entries vars file next result is goes =
    subst (λ (v : Option VarsFile). GoesOn (of_vars command files entries (vars_seen v)) next result) (sym is) goes

-- ---- the walk

-- a found start node is entered by the new walk
pub first-walked : (files : List FileTree) (start : List ℕ) (walk : Walk) (node : NodeAt) (store : Pairs) (input : List ℕ) (k : ℕ) →
    files_of walk ≡ files → walk.seat ≡ Enters node → walk.store ≡ store → find start files ≡ Some (placed node) →
    first_of [] files start (at store input) k ≡ first_from walk input k
first-walked files start walk node store input zero files_are seat store_is found = rw store_is refl
first-walked files start walk node store input (suc k) files_are seat store_is found = rw (found, seat, store_is, files_are) refl

pub walk-begins : (command : Command) (files : List FileTree) (entries : List TypedName) (vars : Option (List ℕ × List ℕ)) (walk : Walk) (node : NodeAt) (store : Pairs) →
    files_of walk ≡ files → walk.seat ≡ Enters node → walk.store ≡ store → find (start_of command) files ≡ Some (placed node) →
    ((named : Named) (input : List ℕ) → of_vars command files entries vars named input ≡ of_store command files store named input) →
    (named : Named) (input : List ℕ) → of_start command files entries (find (start_of command) files) vars named input ≡ of_walk command walk named input
walk-begins command files entries vars walk node store files_are seat store_is found stored named input =
    ap (λ (o : Option Placed). of_start command files entries o vars named input) found ∙ stored named input
    ∙ ap (λ first. of_played command files first named) (first-walked files (start_of command) walk node store input (limit_of command) files_are seat store_is found)
    ∙ ap (λ (fs : List FileTree). of_played command fs (first_from walk input (limit_of command)) named) (sym files_are)

pub goes-typed : {A : Type 0} (command : Command) (files : List FileTree) (kinding : Kinding) (entries : List TypedName) (vars : Option (List ℕ × List ℕ))
    (next : A → Named → List ℕ → Whole) (result : Result A Ended) → kinding ≡ Typed entries →
    GoesOn (of_start command files entries (find (start_of command) files) vars) next result → GoesOn (of_kinds command files kinding vars) next result
goes-typed command files kinding entries vars next result is goes =
    subst (λ (k : Kinding). GoesOn (of_kinds command files k vars) next result) (sym is) goes

-- behind a start node that is found
pub found-ends : (command : Command) (files : List FileTree) (entries : List TypedName) (found : Option Placed) (node : Placed) (vars : Option (List ℕ × List ℕ)) (ended : Ended) →
    found ≡ Some node → EndsBefore (of_vars command files entries vars) ended → EndsBefore (of_start command files entries found vars) ended
found-ends command files entries found node vars ended is ends = subst (λ (o : Option Placed). EndsBefore (of_start command files entries o vars) ended) (sym is) ends

-- ---- the texts

pub reads-tell : (sources : List SourceFile) (files : List FileTree) → trees_of (reading_of [] sources) ≡ Reads files → TellsItsTexts files
reads-tell sources files reads = by_reading (reading_of [] sources) refl reads
  where
    by_reading : (r : Reading (List FileLines)) → reading_of [] sources ≡ r → trees_of r ≡ Reads files → TellsItsTexts files
    by_reading (Refuses kind place) is e = absurd cc
    by_reading (Reads lines) is e = let same : map grown lines ≡ files = cc in subst TellsItsTexts same (base_tells [] sources lines is)

-- ---- what was played

pub told-by : (contents : Option Named) (left : Option (List ℕ)) (P Q : Named → List ℕ → Type 0) →
    IfSome contents (λ named. (input : List ℕ) → P named input → Q named input) → Told contents left P → Told contents left Q
told-by None left P Q each told = tt
told-by (Some named) None P Q each told = tt
told-by (Some named) (Some input) P Q each told = each input told

pub told-always : (contents : Option Named) (left : Option (List ℕ)) (P : Named → List ℕ → Type 0) → ((named : Named) (input : List ℕ) → P named input) → Told contents left P
told-always None left P each = tt
told-always (Some named) None P each = tt
told-always (Some named) (Some input) P each = each named input

-- the same whole
pub plays-same : (whole other : Named → List ℕ → Whole) (ended : Ended) (contents contents_new : Option Named) (left left_new out out_new : Option (List ℕ)) →
    IfSome contents (λ named. (input : List ℕ) → whole named input ≡ other named input) →
    PlaysAs other ended contents contents_new left left_new out out_new → PlaysAs whole ended contents contents_new left left_new out out_new
plays-same whole other ended contents contents_new left left_new out out_new same plays = record {
  exact = λ plain. told-by contents left (λ named input. GivesPlayed (other named input) ended out out_new left_new contents_new)
      (λ named input. GivesPlayed (whole named input) ended out out_new left_new contents_new)
      (moved contents (λ (w : Whole). GivesPlayed w ended out out_new left_new contents_new) same) (plays.exact plain);
  part = told-by contents left (λ named input. WritesPart out out_new (other named input).outcome.out)
      (λ named input. WritesPart out out_new (whole named input).outcome.out)
      (moved contents (λ (w : Whole). WritesPart out out_new w.outcome.out) same) plays.part;
}
  where
    moved : (o : Option Named) (P : Whole → Type 0) → IfSome o (λ named. (input : List ℕ) → whole named input ≡ other named input) →
        IfSome o (λ named. (input : List ℕ) → P (other named input) → P (whole named input))
    moved None P same = tt
    moved (Some named) P same = λ input. subst P (sym (same input))

-- an end before the run, where all stays
pub ends-play : (whole : Named → List ℕ → Whole) (ended : Ended) (contents : Option Named) (left out : Option (List ℕ)) →
    EndsBefore whole ended → PlaysAs whole ended contents contents left left out out
ends-play whole ended contents left out ends = record {
  exact = λ plain. untouched-plays contents left (ends.exact plain);
  part = told-always contents left (λ named input. WritesPart out out (whole named input).outcome.out) (λ named input. WritesPart-none out (whole named input).outcome.out);
}
  where
    untouched-plays : (c : Option Named) (l : Option (List ℕ)) → IsUntouched whole ended → Told c l (λ named input. GivesPlayed (whole named input) ended out out l c)
    untouched-plays None l u = tt
    untouched-plays (Some named) None u = tt
    untouched-plays (Some named) (Some input) u =
        subst (λ (w : Whole). GivesPlayed w ended out out (Some input) (Some named)) (sym (u.is named input)) (record {
          so_far = record { says = u.says; out_is = sym (ap (append_known out) u.silent ∙ append_known-nil out) };
          left_is = refl;
          contents_are = refl;
        })

-- a fault or want of memory
pub breaks-off : (whole : Named → List ℕ → Whole) (ended : Ended) (contents contents_new : Option Named) (left left_new out out_new : Option (List ℕ)) →
    (IsPlain ended.status → ⊥) → Told contents left (λ named input. WritesPart out out_new (whole named input).outcome.out) →
    PlaysAs whole ended contents contents_new left left_new out out_new
breaks-off whole ended contents contents_new left left_new out out_new not_plain part = record { exact = λ plain. absurd (not_plain plain); part = part }

-- what is written is the same wherever a run stands
stand-out : (names : List (List ℕ)) (stand : Stand) (text : List ℕ) → (of_stand names stand text).out ≡ text
stand-out names IsEnded text = refl
stand-out names Limit text = refl
stand-out names (Faults fault) text = refl
stand-out names Waits text = refl
stand-out names (Asks name args) text = refl
stand-out names (BadReply name value) text = refl

module _ (command : Command) (walk : Walk) (tells : TellsItsTexts (files_of walk)) where
  pub walk-part : (contents : Option Named) (left out out_new : Option (List ℕ)) →
      IfSome left (λ bytes. WritesSome walk (first_from walk bytes (limit_of command)) out out_new) →
      Told contents left (λ named input. WritesPart out out_new (of_walk command walk named input).outcome.out)
  walk-part None left out out_new part = tt
  walk-part (Some named) None out out_new part = tt
  walk-part (Some named) (Some input) out out_new part =
      let first = first_from walk input (limit_of command) in
      subst (WritesPart out out_new) (sym (stand-out command.names first.stand (transcript (base_of (files_of walk)) first.moments))) (part (base_of (files_of walk)) tells)

  walk-exact : (played : Played) (ended : Ended) (contents contents_new : Option Named) (left left_new out out_new : Option (List ℕ)) →
      IfSome left (λ bytes. IsPlayed (first_from walk bytes (limit_of command)) played left_new) →
      IfSome left (λ bytes. Writes walk (first_from walk bytes (limit_of command)) out out_new) →
      ((text : List ℕ) → Says (of_stand command.names (stand_of played.end) text) ended) →
      IsSaved (save_vars_of command) played.store contents contents_new →
      Told contents left (λ named input. GivesPlayed (of_walk command walk named input) ended out out_new left_new contents_new)
  walk-exact played ended None contents_new left left_new out out_new is writes says is_saved = tt
  walk-exact played ended (Some named) contents_new None left_new out out_new is writes says is_saved = tt
  walk-exact played ended (Some named) contents_new (Some input) left_new out out_new is writes says is_saved =
      let first = first_from walk input (limit_of command) in
      let text = transcript (base_of (files_of walk)) first.moments in
      record {
        so_far = record {
          says = subst (λ (s : Stand). Says (of_stand command.names s text) ended) is.stand (says text);
          out_is = writes (base_of (files_of walk)) tells ∙ ap (append_known out) (sym (stand-out command.names first.stand text));
        };
        left_is = is.left_is;
        contents_are = is_saved ∙ ap (λ (pairs : Pairs). Some (saved (save_vars_of command) pairs named)) is.store;
      }

  pub walk-plays : (played : Played) (ended : Ended) (contents contents_new : Option Named) (left left_new out out_new : Option (List ℕ)) →
      IfSome left (λ bytes. IsPlayed (first_from walk bytes (limit_of command)) played left_new) →
      IfSome left (λ bytes. Writes walk (first_from walk bytes (limit_of command)) out out_new) →
      IfSome left (λ bytes. WritesSome walk (first_from walk bytes (limit_of command)) out out_new) →
      (IsPlain ended.status → (text : List ℕ) → Says (of_stand command.names (stand_of played.end) text) ended) →
      (IsPlain ended.status → IsSaved (save_vars_of command) played.store contents contents_new) →
      PlaysAs (of_walk command walk) ended contents contents_new left left_new out out_new
  walk-plays played ended contents contents_new left left_new out out_new is writes part says is_saved = record {
    exact = λ plain. walk-exact played ended contents contents_new left left_new out out_new is writes (says plain) (is_saved plain);
    part = walk-part contents left out out_new part;
  }

-- ---- the variables that are written

pub saves-none : (name : Option (List ℕ)) (pairs : Pairs) (contents : Option Named) → name ≡ None → IsSaved name pairs contents contents
saves-none name pairs None is = tt
saves-none name pairs (Some named) is = ap (λ (n : Option (List ℕ)). Some (saved n pairs named)) (sym is)

pub saves-some : (name : Option (List ℕ)) (pairs : Pairs) (contents contents_new : Option Named) (file bytes : List ℕ) → name ≡ Some file →
    bytes ≡ vars_text pairs → HoldsAfter contents contents_new file bytes → IsSaved name pairs contents contents_new
saves-some name pairs None contents_new file bytes is text holds = tt
saves-some name pairs (Some named) contents_new file bytes is text holds =
    holds ∙ ap (λ (b : List ℕ). Some (put named file b)) text ∙ ap (λ (n : Option (List ℕ)). Some (saved n pairs named)) (sym is)

same-changes : (contents : Option Named) (file : List ℕ) → ChangesOnly contents contents file
same-changes None file = tt
same-changes (Some named) file = λ other e. refl

-- nothing has changed
pub changes-none : (name : Option (List ℕ)) (contents : Option Named) → ChangesSaved name contents contents
changes-none None contents = refl
changes-none (Some file) contents = same-changes contents file

put-stays : (named : Named) (file bytes other : List ℕ) → pointwise nat_eq other file ≡ false → put named file bytes other ≡ named other
put-stays named file bytes other e = rw e refl

holds-changes : (contents contents_new : Option Named) (file bytes : List ℕ) → HoldsAfter contents contents_new file bytes → ChangesOnly contents contents_new file
holds-changes None contents_new file bytes holds = subst (λ (c : Option Named). ChangesOnly None c file) (sym holds) tt
holds-changes (Some named) contents_new file bytes holds =
    subst (λ (c : Option Named). ChangesOnly (Some named) c file) (sym holds) (λ other e. put-stays named file bytes other e)

pub changes-some : (name : Option (List ℕ)) (contents contents_new : Option Named) (file : List ℕ) → name ≡ Some file →
    ChangesOnly contents contents_new file → ChangesSaved name contents contents_new
changes-some name contents contents_new file is changes = rw is changes

pub changes-written : (name : Option (List ℕ)) (contents contents_new : Option Named) (file bytes : List ℕ) → name ≡ Some file →
    HoldsAfter contents contents_new file bytes → ChangesSaved name contents contents_new
changes-written name contents contents_new file bytes is holds =
    changes-some name contents contents_new file is (holds-changes contents contents_new file bytes holds)

-- ---- what was read

-- a source that can't be read is one of the files that are read
pub unread-more : (told : Option Named) (names : List (List ℕ)) (more : Option (List ℕ)) (latest : Option (List ℕ)) (name : List ℕ) →
    IsUnread names told latest name → IsUnread (with_vars_name names more) told latest name
unread-more told names None latest name unread = unread
unread-more told names (Some more) latest name unread = record {
  before = unread.before;
  after = unread.after ++ more ∷ [];
  split = ap (λ (l : List (List ℕ)). l ++ more ∷ []) unread.split ∙ append_assoc unread.before (name ∷ unread.after) (more ∷ []);
  found = unread.found;
  is_latest = unread.is_latest;
}

pub source-fails : (told : Option Named) (command : Command) (latest : Option (List ℕ)) (before now : ℕ) (ended : Ended) (name file : List ℕ) →
    IsUnread command.names told latest name → Rose before now → file ≡ name → (ended.status ≡ ReadFault) ⊎ (ended.status ≡ OutOfMemory) →
    (ended.status ≡ ReadFault → string_bytes ended.line ≡ cannot_read file) → FailsToRead told command latest before now ended
source-fails told command latest before now ended name file unread rose same cases line = record {
  not_plain = not_plain cases;
  no_write = no_write cases;
  unread = λ is. (rose, record { name = name; unread = unread-more told command.names (vars_name_of command) latest name unread; line_is = line is ∙ ap cannot_read same });
}
  where
    not_plain : (ended.status ≡ ReadFault) ⊎ (ended.status ≡ OutOfMemory) → IsPlain ended.status → ⊥
    not_plain (inl e) plain = subst IsPlain e plain
    not_plain (inr e) plain = subst IsPlain e plain

    no_write : (ended.status ≡ ReadFault) ⊎ (ended.status ≡ OutOfMemory) → ended.status ≡ WriteFault → ⊥
    no_write (inl e) w = cc
    no_write (inr e) w = cc

-- the first bytes tell how the whole file is taken
vars_file-cut : (command : Command) (files : List FileTree) (entries : List TypedName) (file bytes : List ℕ) (named : Named) (input : List ℕ) →
    of_vars_file command files entries file (take (33554432 + 1) bytes) named input ≡ of_vars_file command files entries file bytes named input
vars_file-cut command files entries file bytes named input = by_test (nat_le (length bytes) 33554432) refl
  where
    by_test : (t : Bool) → nat_le (length bytes) 33554432 ≡ t →
        of_vars_file command files entries file (take (33554432 + 1) bytes) named input ≡ of_vars_file command files entries file bytes named input
    by_test true e =
        let le : length bytes ≤ 33554432 + 1 = omega (arith, leb-true (length bytes) 33554432 e) in
        ap (λ (b : List ℕ). of_vars_file command files entries file b named input) (take_all (33554432 + 1) bytes le)
    by_test false e =
        let longer : 33554432 < length bytes = leb-false (length bytes) 33554432 e in
        let lt : 33554432 < length (take (33554432 + 1) bytes) = omega (arith, longer, length-take (33554432 + 1) bytes) in
        rw (lt-leb (length (take (33554432 + 1) bytes)) 33554432 lt, e) refl

module _ (command : Command) (file bytes : List ℕ) (named : Named) (input : List ℕ) where
  start-cut : (files : List FileTree) (entries : List TypedName) (found : Option Placed) →
      of_start command files entries found (Some (file, take (33554432 + 1) bytes)) named input ≡ of_start command files entries found (Some (file, bytes)) named input
  start-cut files entries None = refl
  start-cut files entries (Some node) = vars_file-cut command files entries file bytes named input

  kinds-cut : (files : List FileTree) (kinding : Kinding) →
      of_kinds command files kinding (Some (file, take (33554432 + 1) bytes)) named input ≡ of_kinds command files kinding (Some (file, bytes)) named input
  kinds-cut files (Typed entries) = start-cut files entries (find (start_of command) files)
  kinds-cut files (Untyped place) = refl
  kinds-cut files (Open name place) = refl

  project-cut : (reading : Reading (List FileTree)) →
      of_project command reading (Some (file, take (33554432 + 1) bytes)) named input ≡ of_project command reading (Some (file, bytes)) named input
  project-cut (Refuses kind place) = refl
  project-cut (Reads files) = kinds-cut files (kinds_of files)

vars_read-at : (command : Command) (sources : List SourceFile) (named : Named) (input name bytes : List ℕ) (there : Option (List ℕ)) →
    option_map (take (33554432 + 1)) there ≡ Some bytes →
    of_vars_read command sources name there named input ≡ of_project command (trees_of (reading_of [] sources)) (Some (name, bytes)) named input
vars_read-at command sources named input name bytes None e = absurd cc
vars_read-at command sources named input name bytes (Some all) e =
    let is : take (33554432 + 1) all ≡ bytes = cc in
    sym (project-cut command name all named input (trees_of (reading_of [] sources)))
    ∙ ap (λ (b : List ℕ). of_project command (trees_of (reading_of [] sources)) (Some (name, b)) named input) is

all_read-at : (command : Command) (sources : List SourceFile) (named : Named) (input : List ℕ) (name : Option (List ℕ)) (vars : Option VarsFile) →
    IsVarsFile (Some named) name vars →
    of_all_read command sources name named input ≡ of_project command (trees_of (reading_of [] sources)) (vars_seen vars) named input
all_read-at command sources named input None None is = refl
all_read-at command sources named input None (Some file) is = absurd is
all_read-at command sources named input (Some name) None is = absurd is
all_read-at command sources named input (Some name) (Some file) is =
    vars_read-at command sources named input name file.bytes (named name) is.1
    ∙ ap (λ (n : List ℕ). of_project command (trees_of (reading_of [] sources)) (Some (n, file.bytes)) named input) (sym is.0)

play-at : (command : Command) (named : Named) (sources : List SourceFile) (vars : Option VarsFile) → AreCut (sources_of named command.names) sources →
    IsVarsFile (Some named) (vars_name_of command) vars → (input : List ℕ) →
    of_play command named input ≡ of_project command (trees_of (reading_of [] sources)) (vars_seen vars) named input
play-at command named sources vars are is input =
    ap (λ s. of_sources command s named input) are.found ∙ all_read-at command are.whole named input (vars_name_of command) vars is
    ∙ ap (λ r. of_project command (trees_of r) (vars_seen vars) named input) (sym (reading-cut are.whole))
    ∙ ap (λ (l : List SourceFile). of_project command (trees_of (reading_of [] l)) (vars_seen vars) named input) (sym are.are)

pub inputs-play : (command : Command) (inputs : Inputs) (ended : Ended) (contents contents_new : Option Named) (left left_new out out_new : Option (List ℕ)) →
    AreInputs contents command inputs →
    PlaysAs (of_project command (trees_of (reading_of [] inputs.sources)) (vars_seen inputs.vars)) ended contents contents_new left left_new out out_new →
    PlaysAs (of_play command) ended contents contents_new left left_new out out_new
inputs-play command inputs ended contents contents_new left left_new out out_new are plays =
    plays-same (of_play command) (of_project command (trees_of (reading_of [] inputs.sources)) (vars_seen inputs.vars)) ended contents contents_new left left_new out out_new
    (by_told contents are.sources are.vars) plays
  where
    by_told : (c : Option Named) → AreSources c command.names inputs.sources → IsVarsFile c (vars_name_of command) inputs.vars →
        IfSome c (λ named. (input : List ℕ) → of_play command named input ≡ of_project command (trees_of (reading_of [] inputs.sources)) (vars_seen inputs.vars) named input)
    by_told None sources vars = tt
    by_told (Some named) sources vars = play-at command named inputs.sources inputs.vars sources vars
