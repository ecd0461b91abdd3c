use Rattle.std.proofs.Common.{◌≡◌, drop}
use Rattle.yarn_types.specs.Typed.{kind_named}
use Rattle.yarn_types.proofs.typed.Typing.kind.Given as goal

abbrev pub invariant-loop-entry : goal.invariant-loop-entry
invariant-loop-entry l = kind_named (drop l.entry-index l.self.entries) l.name ≡ kind_named l.self.entries l.name
