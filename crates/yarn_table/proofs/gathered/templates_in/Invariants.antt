use Rattle.std.proofs.Common.{◌≡◌}
use Rattle.yarn_table.specs.Gathering.{read_among}
use Rattle.yarn_table.proofs.gathered.templates_in.Given as goal

abbrev pub invariant-loop-one : goal.invariant-loop-one
invariant-loop-one l = l.templates.items ≡ read_among l.yielded
