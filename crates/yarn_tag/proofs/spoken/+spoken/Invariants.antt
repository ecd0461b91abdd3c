use Rattle.std.proofs.Common.{◌≡◌, ◌++◌, map, drop}
use Rattle.yarn_blocks.specs.View.{stmts_of, options_of, clauses_of}
use Rattle.yarn_meaning.specs.Texts.{said_in, said_in_options, said_in_clauses}
use Rattle.yarn_tag.specs.Tagged.{spoken_of}
use Rattle.yarn_tag.proofs.spoken.+spoken.Given as goal

abbrev pub invariant-push_body-loop-statement : goal.invariant-push_body-loop-statement
invariant-push_body-loop-statement l =
    l.said.items ++ map spoken_of (said_in (stmts_of (drop l.statement-index l.body)))
    ≡ l.fn.said.items ++ map spoken_of (said_in (stmts_of l.body))

abbrev pub invariant-push_clauses-loop-clause : goal.invariant-push_clauses-loop-clause
invariant-push_clauses-loop-clause l =
    l.said.items ++ map spoken_of (said_in_clauses (clauses_of (drop l.clause-index l.clauses)))
    ≡ l.fn.said.items ++ map spoken_of (said_in_clauses (clauses_of l.clauses))

abbrev pub invariant-push_options-loop-option : goal.invariant-push_options-loop-option
invariant-push_options-loop-option l =
    l.said.items ++ map spoken_of (said_in_options (options_of (drop l.option-index l.options)))
    ≡ l.fn.said.items ++ map spoken_of (said_in_options (options_of l.options))
