use Rattle.std.proofs.Common.{◌≡◌, drop}
use Rattle.yarn_check.specs.Pass.{first_of, look, look_node}
use Rattle.yarn_code.specs.declared.program.Coded.{Coded}
use Rattle.yarn_check.proofs.first_look.look_node.Given as goal

abbrev pub invariant-loop-place : goal.invariant-loop-place
invariant-loop-place l = first_of (λ place (c : Coded). look l.names l.fn.node l.at place c.instr) l.place (drop l.place l.code) ≡ look_node l.names l.at l.fn.node
