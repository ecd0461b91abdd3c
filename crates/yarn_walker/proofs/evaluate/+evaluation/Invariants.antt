use Rattle.std.proofs.Common.{◌≡◌, [], drop}
use Rattle.yarn_meaning.specs.Eval.{eval_all}
use Rattle.yarn_walker.specs.States.{no_hosts}
use Rattle.yarn_walker.proofs.EvaluateLemmas.{behind}
use Rattle.yarn_walker.proofs.evaluate.+evaluation.Given as goal

abbrev pub invariant-evaluate_all-loop-expr : goal.invariant-evaluate_all-loop-expr
invariant-evaluate_all-loop-expr l = eval_all no_hosts l.store l.exprs [] ≡ behind l.values (eval_all no_hosts l.store (drop l.expr-index l.exprs) [])
