use Rattle.std.proofs.Common.{◌≡◌, ◌++◌, drop}
use Rattle.yarn_blocks.specs.Layout.{laid, laid_options, laid_clauses}
use Rattle.yarn_blocks.specs.View.{stmts_of, options_of, clauses_of}
use Rattle.yarn_print.specs.Print.{entries_text}
use Rattle.yarn_print.proofs.Laying.{laid_from}
use Rattle.yarn_print.proofs.statements.+statements.Given as goal

abbrev pub invariant-write_options-loop-option : goal.invariant-write_options-loop-option
invariant-write_options-loop-option l =
    l.out ++ entries_text (laid_options l.depth (options_of (drop l.option-index l.options))) ≡ l.initial.out ++ entries_text (laid_options l.depth (options_of l.options))

abbrev pub invariant-write_clauses-loop-clause : goal.invariant-write_clauses-loop-clause
invariant-write_clauses-loop-clause l =
    l.out ++ entries_text (laid_from l.is_first l.depth (clauses_of (drop l.clause-index l.clauses))) ≡ l.initial.out ++ entries_text (laid_clauses l.depth (clauses_of l.clauses))

abbrev pub invariant-write_statements-loop-statement : goal.invariant-write_statements-loop-statement
invariant-write_statements-loop-statement l =
    l.out ++ entries_text (laid l.depth (stmts_of (drop l.statement-index l.statements))) ≡ l.initial.out ++ entries_text (laid l.depth (stmts_of l.statements))
