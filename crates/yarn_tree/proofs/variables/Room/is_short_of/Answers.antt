use Rattle.std.proofs.Common.{◌∙◌, sym}
use Rattle.yarn_tree.specs.Names.{has}
use Rattle.yarn_tree.proofs.VariableLemmas.{known-on}
use Rattle.yarn_tree.proofs.variables.Room.is_short_of.Goals as goal

pub returns-then-branch : goal.returns-then-branch
returns-then-branch c =
    known-on c.args.self.now.left c.args.name.now (has c.args.self.now.names) (has c.insert.new.self)
    (rw c.as_str.ensures.value at (sym c.in_ok-insert.ensures.known ∙ c.if-branch.true)) (rw c.as_str.ensures.value at c.in_ok-insert.ensures.more)
