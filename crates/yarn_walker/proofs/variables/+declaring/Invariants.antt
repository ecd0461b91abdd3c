use Rattle.std.proofs.Common.{◌≡◌, drop}
use Rattle.yarn_blocks.specs.View.{stmts_of, options_of, clauses_of}
use Rattle.yarn_meaning.specs.Variables.{declared_in, declared_in_options, declared_in_clauses}
use Rattle.yarn_value.specs.Pairs.{with_missing}
use Rattle.yarn_walker.proofs.variables.+declaring.Given as goal

abbrev pub invariant-declare_body-loop-statement : goal.invariant-declare_body-loop-statement
invariant-declare_body-loop-statement l =
    with_missing l.store (declared_in (stmts_of (drop l.statement-index l.body))) ≡ with_missing l.fn.store (declared_in (stmts_of l.body))

abbrev pub invariant-declare_options-loop-option : goal.invariant-declare_options-loop-option
invariant-declare_options-loop-option l =
    with_missing l.store (declared_in_options (options_of (drop l.option-index l.options))) ≡ with_missing l.fn.store (declared_in_options (options_of l.options))

abbrev pub invariant-declare_clauses-loop-clause : goal.invariant-declare_clauses-loop-clause
invariant-declare_clauses-loop-clause l =
    with_missing l.store (declared_in_clauses (clauses_of (drop l.clause-index l.clauses))) ≡ with_missing l.fn.store (declared_in_clauses (clauses_of l.clauses))
