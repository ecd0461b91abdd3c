use Rattle.std.proofs.Common.{◌≡◌, ◌++◌, map, drop}
use Rattle.yarn_blocks.specs.View.{stmts_of, options_of, clauses_of}
use Rattle.yarn_types.specs.Units.{unit_of}
use Rattle.yarn_infer.specs.Units.{stmts_units, options_units, clauses_units}
use Rattle.yarn_infer.proofs.units.+walk.Given as goal

abbrev pub invariant-push_body-loop-statement : goal.invariant-push_body-loop-statement
invariant-push_body-loop-statement l =
    map unit_of l.units.items ++ stmts_units l.file (stmts_of (drop l.statement-index l.body)) ≡ map unit_of l.fn.units.items ++ stmts_units l.file (stmts_of l.body)

abbrev pub invariant-push_clauses-loop-clause : goal.invariant-push_clauses-loop-clause
invariant-push_clauses-loop-clause l =
    map unit_of l.units.items ++ clauses_units l.file (clauses_of (drop l.clause-index l.clauses)) ≡ map unit_of l.fn.units.items ++ clauses_units l.file (clauses_of l.clauses)

abbrev pub invariant-push_options-loop-option : goal.invariant-push_options-loop-option
invariant-push_options-loop-option l =
    map unit_of l.units.items ++ options_units l.file (options_of (drop l.option-index l.options)) ≡ map unit_of l.fn.units.items ++ options_units l.file (options_of l.options)
