use Rattle.std.proofs.Common.{◌≡◌, map, take}
use Rattle.yarn_table.specs.Tables.{form_of}
use Rattle.yarn_table.proofs.table.templates_of.Given as goal

abbrev pub invariant-loop-line : goal.invariant-loop-line
invariant-loop-line l = l.templates.items ≡ map (λ line. form_of line.text line.holes) (take l.line-index l.base)
