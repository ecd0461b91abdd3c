use Rattle.yarn_types.proofs.class.Classes.join.Goals as goal
use Rattle.yarn_types.proofs.Narrowing.{on_ok, on_err}
use Rattle.yarn_types.proofs.ClassesLemmas.{join_same, labels_ok, labels_err, turned_ok, turned_err}

pub returns-then-label-gone-clause-ok : goal.returns-then-label-gone-clause-ok
returns-then-label-gone-clause-ok g c =
    join_same c.args.self.now c.args.one c.args.other c.label-label.result c.label-gone.result c.requires.stands c.requires.one c.requires.other c.label-label.ensures c.label-gone.ensures c.if-label-gone.true

pub returns-then-is_smaller-clause-ok : goal.returns-then-is_smaller-clause-ok
returns-then-is_smaller-clause-ok g c =
    on_ok c.unite.result (turned_ok c.args.self.now c.args.one c.args.other c.label-label.result c.label-gone.result c.requires.one c.requires.other c.label-label.ensures c.label-gone.ensures c.unite.new.self) c.unite.ensures.ok

pub returns-then-is_smaller-clause-err : goal.returns-then-is_smaller-clause-err
returns-then-is_smaller-clause-err g c =
    on_err c.unite.result (turned_err c.args.self.now c.args.one c.args.other c.label-label.result c.label-gone.result c.requires.one c.requires.other c.label-label.ensures c.label-gone.ensures) c.unite.ensures.err

pub returns-else-is_smaller-clause-ok : goal.returns-else-is_smaller-clause-ok
returns-else-is_smaller-clause-ok g c =
    on_ok c.unite-else-is_smaller.result (labels_ok c.args.self.now c.args.one c.args.other c.label-label.result c.label-gone.result c.requires.one c.requires.other c.label-label.ensures c.label-gone.ensures c.unite-else-is_smaller.new.self) c.unite-else-is_smaller.ensures.ok

pub returns-else-is_smaller-clause-err : goal.returns-else-is_smaller-clause-err
returns-else-is_smaller-clause-err g c =
    on_err c.unite-else-is_smaller.result (labels_err c.args.self.now c.args.one c.args.other c.label-label.result c.label-gone.result c.requires.one c.requires.other c.label-label.ensures c.label-gone.ensures) c.unite-else-is_smaller.ensures.err
