-- The files of the names so far are read, and nothing else has changed.
use Rattle.std.proofs.Common.{◌≡◌, ◌≤◌, take}
use Rattle.yarn_cli.specs.Read.{AreSources}
use Rattle.yarn_cli.proofs.read.read_all.Given as goal

abbrev pub invariant-loop-name : goal.invariant-loop-name
invariant-loop-name g l =
    AreSources (g.F.Files.contents l.initial.files) (take l.name-index l.names) l.sources
    × (g.F.Files.contents l.files ≡ g.F.Files.contents l.initial.files)
    × (g.F.Files.read_faults l.initial.files ≤ g.F.Files.read_faults l.files)
    × (g.F.Files.write_faults l.files ≡ g.F.Files.write_faults l.initial.files)
