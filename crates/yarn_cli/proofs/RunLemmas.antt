-- What the call of a command tells, from what its parts tell.
use Rattle.std.proofs.Common.{◌≡◌, ℕ, ◌≤◌, ◌⊎◌, List, [], map, option_map, Option, Some, None, IfSome, string_bytes, inl, inr, refl, sym, ap, subst, ◌∙◌, arith}
use Rattle.std.specs.Io.KnownBytes.{append_known}
use Rattle.yarn_base.specs.declared.SourceFile.{SourceFile}
use Rattle.yarn_base.specs.Causes.{Rose}
use Rattle.yarn_base.specs.Outside.{Named, WritesPart}
use Rattle.yarn_base.proofs.Written.{WritesPart-none, append_known-nil, IfSome-always}
use Rattle.yarn_player.specs.Played.{TakesFront}
use Rattle.yarn_cli.specs.declared.message.Ended.{Ended}
use Rattle.yarn_cli.specs.declared.status.Status.{Status}
use Rattle.yarn_cli.specs.declared.status.Status.TheVariants.{ReadFault, WriteFault, OutOfMemory}
use Rattle.yarn_cli.specs.Command.{Command, vars_name_of, save_vars_of}
use Rattle.yarn_cli.specs.Commands.{of_command, of_words, read_names, reads_of, saved_by}
use Rattle.yarn_cli.specs.Ended.{GivesSoFar, SaysUnread}
use Rattle.yarn_cli.specs.Messages.{cannot_read, cannot_write, input, output}
use Rattle.yarn_cli.specs.Outcome.{Outcome, Whole, untouched, of_all, of_one, IsPlain, Gives, GivesWhole, NamesRead, NamesWritten, Told, ChangesSaved}
use Rattle.yarn_cli.specs.Playing.{FailsToRead, EndsBefore, GivesPlayed, PlaysAs, SaysUnwritten}
use Rattle.yarn_cli.specs.Read.{cut, IsSource, AreCut, AreSources}
use Rattle.yarn_cli.specs.Runs.{FilesSeen, InputSeen, SinkSeen, Prints, PrintsUnsaid, PrintsRead, Runs, RunsUnsaid, RunsRead}
use Rattle.yarn_cli.specs.Sources.{source_of, sources_of, IsUnread}
use Rattle.yarn_cli.proofs.PlayLemmas.{told-by, told-always, ends-play, breaks-off, changes-none, unread-more}

if-some : {A : Type 0} (o : Option A) (P Q : A → Type 0) → ((x : A) → P x → Q x) → IfSome o P → IfSome o Q
if-some None P Q each is = tt
if-some (Some x) P Q each is = each x is

-- ---- what is printed once all files are read

pub memory-prints : (outcome : Outcome) (ended : Ended) (out : SinkSeen) → ended.status ≡ OutOfMemory → PrintsRead outcome ended out out
memory-prints outcome ended out is = record {
  exact = λ plain. absurd (subst IsPlain is plain);
  part = WritesPart-none out.written outcome.out;
  no_read = λ r. let h : OutOfMemory ≡ ReadFault = sym is ∙ r in cc;
  write = λ w. let h : OutOfMemory ≡ WriteFault = sym is ∙ w in absurd cc;
  out_count = refl-le out.faults;
}
  where
    refl-le : (n : ℕ) → n ≤ n
    refl-le n = omega arith

-- an outcome with which nothing is written
pub silent-prints : (outcome : Outcome) (ended : Ended) (out : SinkSeen) → outcome.out ≡ [] → IsPlain outcome.status →
    (ended.status ≡ outcome.status) ⊎ (ended.status ≡ OutOfMemory) → (ended.status ≡ outcome.status → string_bytes ended.line ≡ outcome.err) →
    PrintsRead outcome ended out out
silent-prints outcome ended out silent plain (inl e) line = record {
  exact = λ p. record {
    says = record { status_is = e; err_is = line e };
    out_is = sym (ap (append_known out.written) silent ∙ append_known-nil out.written);
  };
  part = WritesPart-none out.written outcome.out;
  no_read = λ r. subst IsPlain (sym e ∙ r) plain;
  write = λ w. absurd (subst IsPlain (sym e ∙ w) plain);
  out_count = omega arith;
}
silent-prints outcome ended out silent plain (inr e) line = memory-prints outcome ended out e

pub prints-same : (outcome other : Outcome) (ended : Ended) (out out_new : SinkSeen) → outcome ≡ other → PrintsRead other ended out out_new →
    PrintsRead outcome ended out out_new
prints-same outcome other ended out out_new same prints = subst (λ (o : Outcome). PrintsRead o ended out out_new) (sym same) prints

-- ---- with the reading of the files

module _ (names : List (List ℕ)) (outcome : Named → Outcome) (ended : Ended) (files files_new : FilesSeen) (out : SinkSeen)
    (files_stay : files_new.contents ≡ files.contents) (writes_stay : files_new.write_faults ≡ files.write_faults) where
  pub memory-unsaid : files.read_faults ≤ files_new.read_faults → ended.status ≡ OutOfMemory → PrintsUnsaid names outcome ended files files_new out out
  memory-unsaid count is = record {
    exact = λ plain. absurd (subst IsPlain is plain);
    part = IfSome-always files.contents _ (λ named. WritesPart-none out.written (outcome named).out);
    read = λ r. let h : OutOfMemory ≡ ReadFault = sym is ∙ r in absurd cc;
    write = λ w. let h : OutOfMemory ≡ WriteFault = sym is ∙ w in absurd cc;
    files_stay = files_stay;
    writes_stay = writes_stay;
    read_count = count;
    out_count = omega arith;
  }

  -- a file that can't be read
  pub unread-unsaid : (name file : List ℕ) → files.read_faults ≤ files_new.read_faults → IsUnread names files.contents files_new.latest_fault name →
      Rose files.read_faults files_new.read_faults → file ≡ name → (ended.status ≡ ReadFault) ⊎ (ended.status ≡ OutOfMemory) →
      (ended.status ≡ ReadFault → string_bytes ended.line ≡ cannot_read file) → PrintsUnsaid names outcome ended files files_new out out
  unread-unsaid name file count unread rose same (inl e) line = record {
    exact = λ plain. absurd (subst IsPlain e plain);
    part = IfSome-always files.contents _ (λ named. WritesPart-none out.written (outcome named).out);
    read = λ r. (rose, record { name = name; unread = unread; line_is = line r ∙ ap cannot_read same });
    write = λ w. let h : ReadFault ≡ WriteFault = sym e ∙ w in absurd cc;
    files_stay = files_stay;
    writes_stay = writes_stay;
    read_count = count;
    out_count = omega arith;
  }
  unread-unsaid name file count unread rose same (inr e) line = memory-unsaid count e

module _ (outcome : Named → Outcome) (made : Outcome) (names : List (List ℕ)) (ended : Ended) (files files_new : FilesSeen) (out out_new : SinkSeen) where
  -- what is made of the files that were read is the outcome
  pub made-unsaid : IfSome files.contents (λ named. outcome named ≡ made) → PrintsRead made ended out out_new → files_new.contents ≡ files.contents →
      files_new.write_faults ≡ files.write_faults → files.read_faults ≤ files_new.read_faults → PrintsUnsaid names outcome ended files files_new out out_new
  made-unsaid is prints files_stay writes_stay count = record {
    exact = λ plain. if-some files.contents (λ named. outcome named ≡ made) (λ named. GivesSoFar (outcome named) ended out.written out_new.written)
        (λ named e. subst (λ (o : Outcome). GivesSoFar o ended out.written out_new.written) (sym e) (prints.exact plain)) is;
    part = if-some files.contents (λ named. outcome named ≡ made) (λ named. WritesPart out.written out_new.written (outcome named).out)
        (λ named e. subst (λ (o : Outcome). WritesPart out.written out_new.written o.out) (sym e) prints.part) is;
    read = λ r. absurd (prints.no_read r);
    write = prints.write;
    files_stay = files_stay;
    writes_stay = writes_stay;
    read_count = count;
    out_count = prints.out_count;
  }

module _ (judged : List SourceFile → Outcome) (same : (l : List SourceFile) → judged (map cut l) ≡ judged l) (names : List (List ℕ)) where
  of_all-cut : (named : Named) (sources : List SourceFile) → AreCut (sources_of named names) sources → of_all judged (sources_of named names) ≡ judged sources
  of_all-cut named sources are = ap (of_all judged) are.found ∙ sym (same are.whole) ∙ ap judged (sym are.are)

  told-all : (told : Option Named) (sources : List SourceFile) → AreSources told names sources →
      IfSome told (λ named. of_all judged (sources_of named names) ≡ judged sources)
  told-all None sources are = tt
  told-all (Some named) sources are = of_all-cut named sources are

  pub all-unsaid : (ended : Ended) (files files_new : FilesSeen) (out out_new : SinkSeen) (sources : List SourceFile) →
      AreSources files.contents names sources → PrintsRead (judged sources) ended out out_new → files_new.contents ≡ files.contents →
      files_new.write_faults ≡ files.write_faults → files.read_faults ≤ files_new.read_faults →
      PrintsUnsaid names (λ named. of_all judged (sources_of named names)) ended files files_new out out_new
  all-unsaid ended files files_new out out_new sources are =
      made-unsaid (λ named. of_all judged (sources_of named names)) (judged sources) names ended files files_new out out_new (told-all files.contents sources are)

module _ (judged : SourceFile → Outcome) (same : (file : SourceFile) → judged (cut file) ≡ judged file) (name : List ℕ) where
  of_one-cut : (o : Option (List ℕ)) (file : SourceFile) → option_map (λ all. cut (source_of name all)) o ≡ Some file → of_one judged name o ≡ judged file
  of_one-cut None file e = absurd cc
  of_one-cut (Some bytes) file e =
      let is : cut (source_of name bytes) ≡ file = cc in
      sym (same (source_of name bytes)) ∙ ap judged is

  told-one : (told : Option Named) (file : SourceFile) → IsSource told name file → IfSome told (λ named. of_one judged name (named name) ≡ judged file)
  told-one None file is = tt
  told-one (Some named) file is = of_one-cut (named name) file is

  pub one-unsaid : (names : List (List ℕ)) (ended : Ended) (files files_new : FilesSeen) (out out_new : SinkSeen) (file : SourceFile) →
      IsSource files.contents name file → PrintsRead (judged file) ended out out_new → files_new.contents ≡ files.contents →
      files_new.write_faults ≡ files.write_faults → files.read_faults ≤ files_new.read_faults →
      PrintsUnsaid names (λ named. of_one judged name (named name)) ended files files_new out out_new
  one-unsaid names ended files files_new out out_new file is =
      made-unsaid (λ named. of_one judged name (named name)) (judged file) names ended files files_new out out_new (told-one files.contents file is)

-- ---- the line that is said

-- the status with its line; or the line couldn't be written, or there was no memory
abbrev pub IsSaid : Ended → Status → SinkSeen → SinkSeen → Type 0
IsSaid ended status err err_new =
    ((status ≡ ended.status) × (err_new.written ≡ append_known err.written (string_bytes ended.line)))
    ⊎ ((status ≡ WriteFault) × Rose err.faults err_new.faults)
    ⊎ (status ≡ OutOfMemory)

module _ (names : List (List ℕ)) (outcome : Named → Outcome) (ended : Ended) (status : Status) (files files_new : FilesSeen) (out out_new err err_new : SinkSeen) where
  pub said-prints : PrintsUnsaid names outcome ended files files_new out out_new → IsSaid ended status err err_new → err.faults ≤ err_new.faults →
      Prints names outcome status files files_new out out_new err err_new
  said-prints un said count = record {
    exact = exact said;
    part = un.part;
    read = read said;
    write = write said;
    files_stay = un.files_stay;
    writes_stay = un.writes_stay;
    read_count = un.read_count;
    out_count = un.out_count;
    err_count = count;
  }
    where
      exact : IsSaid ended status err err_new → IsPlain status →
          IfSome files.contents (λ named. Gives (outcome named) status out.written out_new.written err.written err_new.written)
      exact (inl s) plain =
          if-some files.contents (λ named. GivesSoFar (outcome named) ended out.written out_new.written)
          (λ named. Gives (outcome named) status out.written out_new.written err.written err_new.written)
          (λ named so_far. record {
            status_is = s.0 ∙ so_far.says.status_is;
            out_is = so_far.out_is;
            err_is = s.1 ∙ ap (append_known err.written) so_far.says.err_is;
          }) (un.exact (subst IsPlain s.0 plain))
      exact (inr (inl s)) plain = absurd (subst IsPlain s.0 plain)
      exact (inr (inr s)) plain = absurd (subst IsPlain s plain)

      read : IsSaid ended status err err_new → status ≡ ReadFault →
          Rose files.read_faults files_new.read_faults × NamesRead names files.contents files_new.latest_fault err.written err_new.written
      read (inl s) r =
          let u = un.read (sym s.0 ∙ r) in
          (u.0, record { name = u.1.name; unread = u.1.unread; said = s.1 ∙ ap (append_known err.written) u.1.line_is })
      read (inr (inl s)) r = let h : WriteFault ≡ ReadFault = sym s.0 ∙ r in absurd cc
      read (inr (inr s)) r = let h : OutOfMemory ≡ ReadFault = sym s ∙ r in absurd cc

      write : IsSaid ended status err err_new → status ≡ WriteFault → Rose err.faults err_new.faults
          ⊎ (Rose out.faults out_new.faults × (err_new.written ≡ append_known err.written (cannot_write output)))
      write (inl s) w = let u = un.write (sym s.0 ∙ w) in inr (u.0, s.1 ∙ ap (append_known err.written) u.1)
      write (inr (inl s)) w = inl s.1
      write (inr (inr s)) w = let h : OutOfMemory ≡ WriteFault = sym s ∙ w in absurd cc

-- ---- a run

-- an end before the run, where all stays
pub ends-run : (command : Command) (whole : Named → List ℕ → Whole) (ended : Ended) (files : FilesSeen) (source : InputSeen) (out : SinkSeen) →
    EndsBefore whole ended → TakesFront source.left source.left → RunsRead command whole ended files files source source out out
ends-run command whole ended files source out ends taken = record {
  played = ends-play whole ended files.contents source.left out.written ends;
  taken = taken;
  files_stay = changes-none (save_vars_of command) files.contents;
  read = λ r. absurd (ends.no_read r);
  write = λ w. absurd (ends.no_write w);
  reads_stay = refl;
  write_count = omega arith;
  input_count = omega arith;
  out_count = omega arith;
}

module _ (command : Command) (ended : Ended) (status : Status) (files files_new : FilesSeen) (source source_new : InputSeen) (out out_new err err_new : SinkSeen) where
  pub said-runs : (whole : Named → List ℕ → Whole) → RunsUnsaid command whole ended files files_new source source_new out out_new →
      IsSaid ended status err err_new → err.faults ≤ err_new.faults →
      Runs (read_names command) (save_vars_of command) whole status files files_new source source_new out out_new err err_new
  said-runs whole un said count = record {
    exact = exact said;
    part = un.played.part;
    taken = un.taken;
    files_stay = un.files_stay;
    read = read said;
    write = write said;
    read_count = un.read_count;
    write_count = un.write_count;
    input_count = un.input_count;
    out_count = un.out_count;
    err_count = count;
  }
    where
      exact : IsSaid ended status err err_new → IsPlain status → Told files.contents source.left (λ named bytes.
          GivesWhole (whole named bytes) status out.written out_new.written err.written err_new.written source_new.left files_new.contents)
      exact (inl s) plain =
          told-by files.contents source.left (λ named bytes. GivesPlayed (whole named bytes) ended out.written out_new.written source_new.left files_new.contents)
          (λ named bytes. GivesWhole (whole named bytes) status out.written out_new.written err.written err_new.written source_new.left files_new.contents)
          (IfSome-always files.contents _ (λ named bytes played. record {
            gives = record {
              status_is = s.0 ∙ played.so_far.says.status_is;
              out_is = played.so_far.out_is;
              err_is = s.1 ∙ ap (append_known err.written) played.so_far.says.err_is;
            };
            left_is = played.left_is;
            contents_are = played.contents_are;
          })) (un.played.exact (subst IsPlain s.0 plain))
      exact (inr (inl s)) plain = absurd (subst IsPlain s.0 plain)
      exact (inr (inr s)) plain = absurd (subst IsPlain s plain)

      read : IsSaid ended status err err_new → status ≡ ReadFault →
          (Rose files.read_faults files_new.read_faults × NamesRead (read_names command) files.contents files_new.latest_fault err.written err_new.written)
          ⊎ (Rose source.faults source_new.faults × (err_new.written ≡ append_known err.written (cannot_read input)))
      read (inl s) r = of_unsaid (un.read (sym s.0 ∙ r))
        where
          of_unsaid : (Rose files.read_faults files_new.read_faults × SaysUnread (read_names command) files.contents files_new.latest_fault ended)
              ⊎ (Rose source.faults source_new.faults × (string_bytes ended.line ≡ cannot_read input)) →
              (Rose files.read_faults files_new.read_faults × NamesRead (read_names command) files.contents files_new.latest_fault err.written err_new.written)
              ⊎ (Rose source.faults source_new.faults × (err_new.written ≡ append_known err.written (cannot_read input)))
          of_unsaid (inl u) = inl (u.0, record { name = u.1.name; unread = u.1.unread; said = s.1 ∙ ap (append_known err.written) u.1.line_is })
          of_unsaid (inr u) = inr (u.0, s.1 ∙ ap (append_known err.written) u.1)
      read (inr (inl s)) r = let h : WriteFault ≡ ReadFault = sym s.0 ∙ r in absurd cc
      read (inr (inr s)) r = let h : OutOfMemory ≡ ReadFault = sym s ∙ r in absurd cc

      write : IsSaid ended status err err_new → status ≡ WriteFault → Rose err.faults err_new.faults
          ⊎ (Rose out.faults out_new.faults × (err_new.written ≡ append_known err.written (cannot_write output)))
          ⊎ (Rose files.write_faults files_new.write_faults × NamesWritten (save_vars_of command) err.written err_new.written)
      write (inl s) w = of_unsaid (un.write (sym s.0 ∙ w))
        where
          of_unsaid : (Rose out.faults out_new.faults × (string_bytes ended.line ≡ cannot_write output))
              ⊎ (Rose files.write_faults files_new.write_faults × SaysUnwritten (save_vars_of command) ended) →
              Rose err.faults err_new.faults
              ⊎ (Rose out.faults out_new.faults × (err_new.written ≡ append_known err.written (cannot_write output)))
              ⊎ (Rose files.write_faults files_new.write_faults × NamesWritten (save_vars_of command) err.written err_new.written)
          of_unsaid (inl u) = inr (inl (u.0, s.1 ∙ ap (append_known err.written) u.1))
          of_unsaid (inr u) = inr (inr (u.0, record { file = u.1.file; is = u.1.is; said = s.1 ∙ ap (append_known err.written) u.1.line_is }))
      write (inr (inl s)) w = inl s.1
      write (inr (inr s)) w = let h : OutOfMemory ≡ WriteFault = sym s ∙ w in absurd cc

-- the files are read, and the run goes on from there
pub read-runs : (command : Command) (whole other : Named → List ℕ → Whole) (ended : Ended) (files mid files_new : FilesSeen) (source source_new : InputSeen) (out out_new : SinkSeen) →
    PlaysAs whole ended files.contents files_new.contents source.left source_new.left out.written out_new.written →
    mid.contents ≡ files.contents → files.read_faults ≤ mid.read_faults → mid.write_faults ≡ files.write_faults →
    RunsRead command other ended mid files_new source source_new out out_new → RunsUnsaid command whole ended files files_new source source_new out out_new
read-runs command whole other ended files mid files_new source source_new out out_new played same count writes runs = record {
  played = played;
  taken = runs.taken;
  files_stay = subst (λ (c : Option Named). ChangesSaved (save_vars_of command) c files_new.contents) same runs.files_stay;
  read = λ r. inr (runs.read r);
  write = λ w. of_read (runs.write w);
  read_count = let e = runs.reads_stay in omega (arith, count, e);
  write_count = let e = runs.write_count in omega (arith, writes, e);
  input_count = runs.input_count;
  out_count = runs.out_count;
}
  where
    of_read : (Rose out.faults out_new.faults × (string_bytes ended.line ≡ cannot_write output))
        ⊎ (Rose mid.write_faults files_new.write_faults × SaysUnwritten (save_vars_of command) ended) →
        (Rose out.faults out_new.faults × (string_bytes ended.line ≡ cannot_write output))
        ⊎ (Rose files.write_faults files_new.write_faults × SaysUnwritten (save_vars_of command) ended)
    of_read (inl u) = inl u
    of_read (inr u) = inr (subst (λ (n : ℕ). Rose n files_new.write_faults) writes u.0, u.1)

-- a file can't be read
pub fails-run : (command : Command) (whole : Named → List ℕ → Whole) (ended : Ended) (files files_new : FilesSeen) (source : InputSeen) (out : SinkSeen) →
    FailsToRead files.contents command files_new.latest_fault files.read_faults files_new.read_faults ended → files_new.contents ≡ files.contents →
    files.read_faults ≤ files_new.read_faults → files_new.write_faults ≡ files.write_faults → TakesFront source.left source.left →
    RunsUnsaid command whole ended files files_new source source out out
fails-run command whole ended files files_new source out fails same count writes taken = record {
  played = breaks-off whole ended files.contents files_new.contents source.left source.left out.written out.written fails.not_plain
      (told-always files.contents source.left _ (λ named bytes. WritesPart-none out.written (whole named bytes).outcome.out));
  taken = taken;
  files_stay = subst (λ (c : Option Named). ChangesSaved (save_vars_of command) files.contents c) (sym same) (changes-none (save_vars_of command) files.contents);
  read = λ r. inl (fails.unread r);
  write = λ w. absurd (fails.no_write w);
  read_count = count;
  write_count = omega (arith, writes);
  input_count = omega arith;
  out_count = omega arith;
}

-- a command that prints runs so, and leaves the input and the files
pub prints-run : (command : Command) (outcome : Named → Outcome) (status : Status) (files files_new : FilesSeen) (source : InputSeen) (out out_new err err_new : SinkSeen) →
    Prints command.names outcome status files files_new out out_new err err_new → TakesFront source.left source.left →
    Runs (read_names command) (save_vars_of command) (λ named bytes. untouched named bytes (outcome named)) status files files_new source source out out_new err err_new
prints-run command outcome status files files_new source out out_new err err_new prints taken = record {
  exact = λ plain. exact files.contents source.left prints.files_stay (prints.exact plain);
  part = part files.contents source.left prints.part;
  taken = taken;
  files_stay = subst (λ (c : Option Named). ChangesSaved (save_vars_of command) files.contents c) (sym prints.files_stay)
      (changes-none (save_vars_of command) files.contents);
  read = λ r.
      let u = prints.read r in
      inl (u.0, record { name = u.1.name; unread = unread-more files.contents command.names (vars_name_of command) files_new.latest_fault u.1.name u.1.unread; said = u.1.said });
  write = λ w. more (prints.write w);
  read_count = prints.read_count;
  write_count = let e = prints.writes_stay in omega (arith, e);
  input_count = omega arith;
  out_count = prints.out_count;
  err_count = prints.err_count;
}
  where
    exact : (c : Option Named) (left : Option (List ℕ)) → files_new.contents ≡ c →
        IfSome c (λ named. Gives (outcome named) status out.written out_new.written err.written err_new.written) →
        Told c left (λ named bytes. GivesWhole (untouched named bytes (outcome named)) status out.written out_new.written err.written err_new.written left files_new.contents)
    exact None left same gives = tt
    exact (Some named) None same gives = tt
    exact (Some named) (Some bytes) same gives = record { gives = gives; left_is = refl; contents_are = same }

    part : (c : Option Named) (left : Option (List ℕ)) → IfSome c (λ named. WritesPart out.written out_new.written (outcome named).out) →
        Told c left (λ named bytes. WritesPart out.written out_new.written (untouched named bytes (outcome named)).outcome.out)
    part None left is = tt
    part (Some named) None is = tt
    part (Some named) (Some bytes) is = is

    more : Rose err.faults err_new.faults ⊎ (Rose out.faults out_new.faults × (err_new.written ≡ append_known err.written (cannot_write output))) →
        Rose err.faults err_new.faults
        ⊎ (Rose out.faults out_new.faults × (err_new.written ≡ append_known err.written (cannot_write output)))
        ⊎ (Rose files.write_faults files_new.write_faults × NamesWritten (save_vars_of command) err.written err_new.written)
    more (inl u) = inl u
    more (inr u) = inr (inl u)

-- the command that the words are
pub found-runs : (found : Option Command) (command : Command) (status : Status) (files files_new : FilesSeen) (source source_new : InputSeen) (out out_new err err_new : SinkSeen) →
    found ≡ Some command →
    Runs (read_names command) (save_vars_of command) (of_command command) status files files_new source source_new out out_new err err_new →
    Runs (reads_of found) (saved_by found) (of_words found) status files files_new source source_new out out_new err err_new
found-runs found command status files files_new source source_new out out_new err err_new is runs =
    subst (λ (o : Option Command). Runs (reads_of o) (saved_by o) (of_words o) status files files_new source source_new out out_new err err_new) (sym is) runs

-- ---- words that are no command, and want of memory

-- nothing was read or written but the line on the error sink
pub usage-runs : (whole : Named → List ℕ → Whole) (usage : Outcome) (status : Status) (files : FilesSeen) (source : InputSeen) (out err err_new : SinkSeen) →
    ((named : Named) (bytes : List ℕ) → whole named bytes ≡ untouched named bytes usage) → usage.out ≡ [] →
    ((status ≡ usage.status) × (err_new.written ≡ append_known err.written usage.err)) ⊎ ((status ≡ WriteFault) × Rose err.faults err_new.faults)
    ⊎ (status ≡ OutOfMemory) → IsPlain usage.status → err.faults ≤ err_new.faults → TakesFront source.left source.left →
    Runs [] None whole status files files source source out out err err_new
usage-runs whole usage status files source out err err_new is silent said plain count taken = record {
  exact = λ p. exact files.contents source.left said p;
  part = told-always files.contents source.left _ (λ named bytes. WritesPart-none out.written (whole named bytes).outcome.out);
  taken = taken;
  files_stay = refl;
  read = λ r. absurd (no_read said r);
  write = λ w. inl (rose said w);
  read_count = omega arith;
  write_count = omega arith;
  input_count = omega arith;
  out_count = omega arith;
  err_count = count;
}
  where
    Said : Type 0
    Said = ((status ≡ usage.status) × (err_new.written ≡ append_known err.written usage.err)) ⊎ ((status ≡ WriteFault) × Rose err.faults err_new.faults) ⊎ (status ≡ OutOfMemory)

    no_read : Said → status ≡ ReadFault → ⊥
    no_read (inl s) r = subst IsPlain (sym s.0 ∙ r) plain
    no_read (inr (inl s)) r = let h : WriteFault ≡ ReadFault = sym s.0 ∙ r in cc
    no_read (inr (inr s)) r = let h : OutOfMemory ≡ ReadFault = sym s ∙ r in cc

    rose : Said → status ≡ WriteFault → Rose err.faults err_new.faults
    rose (inl s) w = absurd (subst IsPlain (sym s.0 ∙ w) plain)
    rose (inr (inl s)) w = s.1
    rose (inr (inr s)) w = let h : OutOfMemory ≡ WriteFault = sym s ∙ w in absurd cc

    exact : (c : Option Named) (left : Option (List ℕ)) → Said → IsPlain status →
        Told c left (λ named bytes. GivesWhole (whole named bytes) status out.written out.written err.written err_new.written left c)
    exact None left s p = tt
    exact (Some named) None s p = tt
    exact (Some named) (Some bytes) (inl s) p =
        subst (λ (w : Whole). GivesWhole w status out.written out.written err.written err_new.written (Some bytes) (Some named)) (sym (is named bytes)) (record {
          gives = record { status_is = s.0; out_is = sym (ap (append_known out.written) silent ∙ append_known-nil out.written); err_is = s.1 };
          left_is = refl;
          contents_are = refl;
        })
    exact (Some named) (Some bytes) (inr (inl s)) p = absurd (subst IsPlain s.0 p)
    exact (Some named) (Some bytes) (inr (inr s)) p = absurd (subst IsPlain s p)
