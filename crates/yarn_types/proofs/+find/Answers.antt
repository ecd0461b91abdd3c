use Rattle.std.proofs.Common.{◌∙◌, sym, ap, length, arith}
use Rattle.std.specs.Option.{option_map}
use Rattle.yarn_types.proofs.Narrowing.{at_error}
use Rattle.yarn_types.proofs.ExprLemmas.{binary_right, binary_ok, binary_err, args_apart, args_on, args_stop, count_next, one_is, two_is, one_ok, one_err, two_right_none, two_ok, two_err, not_none, not_one, not_two, call_ok, call_err, row_ok}
use Rattle.yarn_types.proofs.LabelLemmas.{unlike}
use Rattle.yarn_value.specs.Builtins.{row_of}
use Rattle.yarn_types.proofs.+find.Goals as goal

pub argument::find_one_arg-returns-in_ok-found-in-len1-clause-ok :
    goal.argument::find_one_arg-returns-in_ok-found-in-len1-clause-ok
argument::find_one_arg-returns-in_ok-found-in-len1-clause-ok g t c =
    one_ok c.args.scope.now c.args.classes.now c.find.new.classes c.accept_first.new.classes c.args.param c.arg-item.result c.args.args.now
    (one_is c.args.args.now c.arg-item.result c.in-len1.len_at_least c.in-len1.len_below c.arg-item.is)
    c.in_ok-found-in-len1.found c.in_ok-found-in-len1.ensures.ok c.accept_first.result c.accept_first.ensures.ok

pub argument::find_one_arg-returns-in_ok-found-in-len1-clause-err :
    goal.argument::find_one_arg-returns-in_ok-found-in-len1-clause-err
argument::find_one_arg-returns-in_ok-found-in-len1-clause-err g t c =
    one_err c.args.scope.now c.args.classes.now c.find.new.classes c.accept_first.new.classes c.args.param c.arg-item.result c.args.args.now
    (one_is c.args.args.now c.arg-item.result c.in-len1.len_at_least c.in-len1.len_below c.arg-item.is)
    c.in_ok-found-in-len1.found c.in_ok-found-in-len1.ensures.ok c.accept_first.result c.accept_first.ensures.err

pub argument::find_one_arg-returns-in_default-2-clause-err :
    goal.argument::find_one_arg-returns-in_default-2-clause-err
argument::find_one_arg-returns-in_default-2-clause-err g t c typing a =
    not_one c.args.scope.now c.args.args.now c.args.param (λ e. omega (arith, e, c.in_default.len_at_least)) typing

pub argument::find_row_args-returns-else-is_empty-clause-err :
    goal.argument::find_row_args-returns-else-is_empty-clause-err
argument::find_row_args-returns-else-is_empty-clause-err g t c typing a =
    rw (c.in-None-None.is-0, c.in-None-None.is-1) (not_none c.args.scope.now c.args.args.now (unlike (length c.args.args.now) 0 (sym c.if-is_empty.ensures)) typing)

pub argument::find_two_args-returns-in_err-found-in-len2-clause-err :
    goal.argument::find_two_args-returns-in_err-found-in-len2-clause-err
argument::find_two_args-returns-in_err-found-in-len2-clause-err g t c =
    two_right_none c.args.scope.now c.args.classes.now c.find.new.classes c.find.new.classes c.find.new.classes c.args.param c.args.next c.arg-item.result c.other-item.result c.args.args.now
    (two_is c.args.args.now c.arg-item.result c.other-item.result c.in-len2.len_at_least c.in-len2.len_below c.arg-item.is c.other-item.is)
    c.in_ok-one-in-len2.one c.in_ok-one-in-len2.ensures.ok c.from_residual-in_err-found-in-len2.result c.in_err-found-in-len2.ensures.err

pub argument::find_two_args-returns-in_ok-found-in-len2-clause-ok :
    goal.argument::find_two_args-returns-in_ok-found-in-len2-clause-ok
argument::find_two_args-returns-in_ok-found-in-len2-clause-ok g t c =
    two_ok c.args.scope.now c.args.classes.now c.find.new.classes c.find-in-len2.new.classes c.accept_both.new.classes c.args.param c.args.next c.arg-item.result c.other-item.result c.args.args.now
    (two_is c.args.args.now c.arg-item.result c.other-item.result c.in-len2.len_at_least c.in-len2.len_below c.arg-item.is c.other-item.is)
    c.in_ok-one-in-len2.one c.in_ok-one-in-len2.ensures.ok c.in_ok-found-in-len2.found c.in_ok-found-in-len2.ensures.ok c.accept_both.result c.accept_both.ensures.ok

pub argument::find_two_args-returns-in_ok-found-in-len2-clause-err :
    goal.argument::find_two_args-returns-in_ok-found-in-len2-clause-err
argument::find_two_args-returns-in_ok-found-in-len2-clause-err g t c =
    two_err c.args.scope.now c.args.classes.now c.find.new.classes c.find-in-len2.new.classes c.find-in-len2.new.classes c.args.param c.args.next c.arg-item.result c.other-item.result c.args.args.now
    (two_is c.args.args.now c.arg-item.result c.other-item.result c.in-len2.len_at_least c.in-len2.len_below c.arg-item.is c.other-item.is)
    c.in_ok-one-in-len2.one c.in_ok-one-in-len2.ensures.ok c.in_ok-found-in-len2.found c.in_ok-found-in-len2.ensures.ok c.accept_both.result c.accept_both.ensures.err

pub argument::find_two_args-returns-in_default-clause-err :
    goal.argument::find_two_args-returns-in_default-clause-err
argument::find_two_args-returns-in_default-clause-err g t c typing a =
    not_two c.args.scope.now c.args.args.now c.args.param c.args.next (λ e. omega (arith, e, c.in_default.len_below)) typing

pub argument::find_two_args-returns-in_default-2-clause-err :
    goal.argument::find_two_args-returns-in_default-2-clause-err
argument::find_two_args-returns-in_default-2-clause-err g t c typing a =
    not_two c.args.scope.now c.args.args.now c.args.param c.args.next (λ e. omega (arith, e, c.in_default.len_at_least)) typing

pub expression::find-returns-in_err-other-in-Binary-clause-err : goal.expression::find-returns-in_err-other-in-Binary-clause-err
expression::find-returns-in_err-other-in-Binary-clause-err g t c =
    binary_right c.args.scope.now c.args.classes.now c.find-in-Binary.new.classes c.find-in-Binary.new.classes c.find-in-Binary.new.classes c.in-Binary.op c.args.expr.now c.in-Binary.left c.in-Binary.right c.in-Binary.is c.in_ok-one-in-Binary.one c.in_ok-one-in-Binary.one
    (rw c.get-in-Binary.ensures at c.in_ok-one-in-Binary.ensures.ok) c.from_residual-in_err-other-in-Binary.result (rw c.get-in-Binary-2.ensures at c.in_err-other-in-Binary.ensures.err)

pub expression::find-returns-in_ok-other-in-Binary-clause-ok : goal.expression::find-returns-in_ok-other-in-Binary-clause-ok
expression::find-returns-in_ok-other-in-Binary-clause-ok g t c =
    binary_ok c.args.scope.now c.args.classes.now c.find-in-Binary.new.classes c.find-in-Binary-2.new.classes c.join_operands.new.classes c.in-Binary.op c.args.expr.now c.in-Binary.left c.in-Binary.right c.in-Binary.is c.in_ok-one-in-Binary.one c.in_ok-other-in-Binary.other
    (rw c.get-in-Binary.ensures at c.in_ok-one-in-Binary.ensures.ok) c.join_operands.result (rw c.get-in-Binary-2.ensures at c.in_ok-other-in-Binary.ensures.ok) c.join_operands.ensures.ok

pub expression::find-returns-in_ok-other-in-Binary-clause-err : goal.expression::find-returns-in_ok-other-in-Binary-clause-err
expression::find-returns-in_ok-other-in-Binary-clause-err g t c =
    binary_err c.args.scope.now c.args.classes.now c.find-in-Binary.new.classes c.find-in-Binary-2.new.classes c.join_operands.new.classes c.in-Binary.op c.args.expr.now c.in-Binary.left c.in-Binary.right c.in-Binary.is c.in_ok-one-in-Binary.one c.in_ok-other-in-Binary.other
    (rw c.get-in-Binary.ensures at c.in_ok-one-in-Binary.ensures.ok) c.join_operands.result (rw c.get-in-Binary-2.ensures at c.in_ok-other-in-Binary.ensures.ok) c.join_operands.ensures.err

pub expression::find-returns-in-Call-clause-ok : goal.expression::find-returns-in-Call-clause-ok
expression::find-returns-in-Call-clause-ok g t c =
    call_ok c.args.scope.now c.args.expr.now c.in-Call.name c.in-Call.args c.in-Call.is c.args.classes.now c.find_call.new.classes c.find_call.result (rw c.as_slice.ensures at c.find_call.ensures.ok)

pub expression::find-returns-in-Call-clause-err : goal.expression::find-returns-in-Call-clause-err
expression::find-returns-in-Call-clause-err g t c =
    call_err c.args.scope.now c.args.expr.now c.in-Call.name c.in-Call.args c.in-Call.is c.args.classes.now c.find_call.result (rw c.as_slice.ensures at c.find_call.ensures.err)

pub expression::find_args-returns-then-args-len-clause-err : goal.expression::find_args-returns-then-args-len-clause-err
expression::find_args-returns-then-args-len-clause-err g t c = λ typing a. args_apart c.args.scope.now c.args.params.now c.args.args.now c.len.result c.len.ensures c.if-args-len.true typing

pub expression::find_args-returns-in_err-find_in-clause-err : goal.expression::find_args-returns-in_err-find_in-clause-err
expression::find_args-returns-in_err-find_in-clause-err g t c =
    at_error c.from_residual.result
    (args_stop c.args.scope.now c.args.params.now c.args.args.now c.args.classes.now c.loop-at.classes c.loop-at.classes c.loop-at.at c.index-args-at.result c.loop-at-test.true (c.if-args-len.false ∙ c.len.ensures) c.index-args-at.is c.loop-at.invariant.half (rw (c.only.ensures, c.kind_at.ensures) at c.in_err-find_in.ensures.err))

pub expression::find_args-loop-at-preserved : goal.expression::find_args-loop-at-preserved
expression::find_args-loop-at-preserved g t c = record {
  half = args_on c.args.scope.now c.args.params.now c.args.args.now c.args.classes.now c.loop-at.classes c.find_in.new.classes c.loop-at.at c.index-args-at.result c.loop-at-test.true (c.if-args-len.false ∙ c.len.ensures) c.index-args-at.is c.loop-at.invariant.half (rw (c.only.ensures, c.kind_at.ensures) at c.in_ok-find_in.ensures.ok);
  steps = omega (arith, c.in_ok-find_in.ensures.steps, c.loop-at.invariant.steps, count_next c.args.args.now c.loop-at.at c.index-args-at.result c.loop-at-test.true c.index-args-at.is);
}

pub expression::find_call-returns-in_ok-find_row_args-in-Some-clause-ok : goal.expression::find_call-returns-in_ok-find_row_args-in-Some-clause-ok
expression::find_call-returns-in_ok-find_row_args-in-Some-clause-ok g t c =
    row_ok c.args.scope.now c.args.classes.now c.find_row_args.new.classes c.args.name.now c.args.args.now (row_of c.in-Some.row) (sym c.builtin.ensures ∙ ap (option_map row_of) c.in-Some.is) c.in_ok-find_row_args-in-Some.ensures.ok
