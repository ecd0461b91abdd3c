use Rattle.std.proofs.Common.{arith}
use Rattle.yarn_types.proofs.AskingLemmas.{units_on, units_stop, units_end, size_next}
use Rattle.yarn_types.proofs.asking.keep_units.Goals as goal

pub loop-unit-preserved : goal.loop-unit-preserved
loop-unit-preserved g c = record {
  so_far = units_on c.args.scope.now c.args.units.now c.args.classes.now c.loop-unit.classes c.keep_asked.new.classes c.loop-unit.unit-index c.unit-item.result c.loop-unit-test.true c.unit-item.is c.loop-unit.invariant.so_far c.in-Ok.ensures.ok;
  steps = omega (arith, c.in-Ok.ensures.steps, c.loop-unit.invariant.steps, size_next c.args.scope.now c.args.units.now c.args.classes.now c.args.classes.now c.args.classes.now c.loop-unit.unit-index c.unit-item.result c.loop-unit-test.true c.unit-item.is);
}

pub returns-in-Err-clause-err : goal.returns-in-Err-clause-err
returns-in-Err-clause-err g c = units_stop c.args.scope.now c.args.units.now c.args.classes.now c.loop-unit.classes c.loop-unit.classes c.loop-unit.unit-index c.unit-item.result c.loop-unit-test.true c.unit-item.is c.loop-unit.invariant.so_far c.in-Err.ensures.err

pub returns-in-Err-clause-steps : goal.returns-in-Err-clause-steps
returns-in-Err-clause-steps g c = omega (arith, c.in-Err.ensures.steps, c.loop-unit.invariant.steps, size_next c.args.scope.now c.args.units.now c.args.classes.now c.args.classes.now c.args.classes.now c.loop-unit.unit-index c.unit-item.result c.loop-unit-test.true c.unit-item.is)

pub returns-clause-ok : goal.returns-clause-ok
returns-clause-ok g c = units_end c.args.scope.now c.args.units.now c.args.classes.now c.loop-unit.classes c.loop-unit.unit-index c.loop-unit-test.false c.loop-unit.invariant.so_far
