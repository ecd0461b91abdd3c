-- What the files that are left make of those that were cut into lines.
use Rattle.std.specs.Prelude.{ℕ, ◌+◌, List, [], ◌∷◌, ◌++◌, Some, None}
use Rattle.yarn_base.specs.declared.SourceFile.{SourceFile}
use Rattle.yarn_lines.specs.Lines.{Lines}
use Rattle.yarn_tree.specs.declared.refusal.RefusalKind.TheVariants.{BadUtf8, LineTooLong}
use Rattle.yarn_tree.specs.declared.split.Splitter.{Splitter}
use Rattle.yarn_tree.specs.declared.stages.SplitFile.{SplitFile}
use Rattle.yarn_nodes.specs.Places.{or_later}
use Rattle.yarn_tree.specs.Places.{first_line}
use Rattle.yarn_tree.specs.Reading.{Reading, Reads, unless}
use Rattle.yarn_tree.specs.Splits.{bad_in, long_in, splits_from}

abbrev pub no_files : Splitter
no_files = record { number = 0; splits = []; long = None }

abbrev pub splits_on : Splitter → List SourceFile → Reading (List SplitFile)
splits_on splitter sources =
    unless BadUtf8 (first_line bad_in splitter.number sources)
    (unless LineTooLong (or_later splitter.long (first_line long_in splitter.number sources))
    (Reads (splitter.splits ++ splits_from splitter.number sources)))

abbrev pub split_put : Splitter → List ℕ → Lines → Splitter
split_put splitter name lines = record {
  number = splitter.number + 1;
  splits = splitter.splits ++ record { number = splitter.number; name = name; lines = lines } ∷ [];
  long = splitter.long;
}

abbrev pub long_noted : Splitter → ℕ → Splitter
long_noted splitter line = record {
  number = splitter.number + 1;
  splits = splitter.splits;
  long = or_later splitter.long (Some (record { file = splitter.number; line = line }));
}
