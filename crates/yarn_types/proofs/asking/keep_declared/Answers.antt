use Rattle.std.proofs.Common.{◌∙◌, sym}
use Rattle.yarn_types.specs.KindSets.{only}
use Rattle.yarn_types.specs.Units.{agrees}
use Rattle.yarn_types.specs.Founds.{variable_under}
use Rattle.yarn_types.proofs.AskingLemmas.{behind_ok, behind_err}
use Rattle.yarn_types.proofs.asking.keep_declared.Goals as goal

pub returns-clause-ok : goal.returns-clause-ok
returns-clause-ok c =
    behind_ok (agrees c.args.kind c.args.word) (sym c.agrees.ensures ∙ c.if-not-agrees.false) c.args.classes.now c.find_variable.new.classes c.keep.new.self (variable_under c.args.scope.now c.args.name.now) c.in_ok-found.found (only c.args.kind) c.in_ok-found.ensures.ok c.keep.result (rw c.only.ensures at c.keep.ensures.ok)

pub returns-clause-err : goal.returns-clause-err
returns-clause-err c =
    behind_err (agrees c.args.kind c.args.word) (sym c.agrees.ensures ∙ c.if-not-agrees.false) c.args.classes.now c.find_variable.new.classes c.keep.new.self (variable_under c.args.scope.now c.args.name.now) c.in_ok-found.found (only c.args.kind) c.in_ok-found.ensures.ok c.keep.result (rw c.only.ensures at c.keep.ensures.err)
