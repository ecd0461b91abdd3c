use Rattle.std.proofs.Common.{◌≡◌, List, Option, ap, sym, ◌∙◌}
use Rattle.std.proofs.lemmas.Result.{err_from_is_err_and}
use Rattle.yarn_blocks.specs.declared.tree.Head.{Head}
use Rattle.yarn_blocks.specs.declared.tree.OptionItem.{OptionItem}
use Rattle.yarn_blocks.specs.declared.tree.Clause.{Clause}
use Rattle.yarn_blocks.specs.declared.tree.ElseClause.{ElseClause}
use Rattle.yarn_blocks.specs.declared.tree.Stmt.{Stmt, Options, If}
use Rattle.yarn_blocks.specs.Tree.{Group, Choice}
use Rattle.yarn_blocks.specs.View.{stmt_of, stmts_of, options_of, clauses_of, last_of}
use Rattle.yarn_blocks.proofs.Views.{options_view, if_view}
use Rattle.yarn_walker.specs.Frames.{rest_of}
use Rattle.yarn_walker.proofs.OfferLemmas.{means_at}
use Rattle.yarn_walker.proofs.DeedLemmas.{line_told, group_does, group_halts, group_told, if_does, if_halts, if_less, if_told, jump_does, jump_halts}
use Rattle.yarn_walker.proofs.deed.deed_of.Goals as goal

group_seen : (s : Stmt) (slice os : List OptionItem) → s ≡ Options os → slice ≡ os → stmt_of s ≡ Group (options_of slice)
group_seen s slice os is same = ap stmt_of is ∙ options_view os ∙ ap (λ l. Group (options_of l)) (sym same)

choice_seen : (s : Stmt) (slice cs : List Clause) (last : Option ElseClause) (end : Head) → s ≡ If cs last end → slice ≡ cs →
    stmt_of s ≡ Choice (clauses_of slice) (last_of last) end
choice_seen s slice cs last end is same = ap stmt_of is ∙ if_view cs last end ∙ ap (λ l. Choice (clauses_of l) (last_of last) end) (sym same)

pub returns-in_err-offers_of-in-Options-clause-meaning : goal.returns-in_err-offers_of-in-Options-clause-meaning
returns-in_err-offers_of-in-Options-clause-meaning c =
    let p = err_from_is_err_and c.from_residual-in_err-offers_of-in-Options.result c.from_residual-in_err-offers_of-in-Options.ensures.1 in
    let rest = rest_of c.args.rest.now in
    let store = c.args.store.now in
    let os = options_of c.as_slice-options.result.now in
    let view = group_seen c.args.statement.now c.as_slice-options.result.now c.in-Options.options c.in-Options.is c.as_slice-options.ensures in
    rw (view, p.1, p.2) (group_halts os rest store c.in_err-offers_of-in-Options.field-0.0 c.in_err-offers_of-in-Options.ensures.meaning)

pub returns-in_err-chosen_body-in-If-clause-meaning : goal.returns-in_err-chosen_body-in-If-clause-meaning
returns-in_err-chosen_body-in-If-clause-meaning c =
    let p = err_from_is_err_and c.from_residual-in_err-chosen_body-in-If.result c.from_residual-in_err-chosen_body-in-If.ensures.1 in
    let rest = rest_of c.args.rest.now in
    let store = c.args.store.now in
    let cs = clauses_of c.as_slice.result.now in
    let last = last_of c.in-If.last in
    let view = choice_seen c.args.statement.now c.as_slice.result.now c.in-If.clauses c.in-If.last c.in-If.field-2 c.in-If.is c.as_slice.ensures in
    rw (view, p.1, p.2) (if_halts cs last c.in-If.field-2 rest store c.in_err-chosen_body-in-If.field-0.0 c.in_err-chosen_body-in-If.ensures.meaning)

pub returns-in_err-title-in-JumpTo-clause-meaning : goal.returns-in_err-title-in-JumpTo-clause-meaning
returns-in_err-title-in-JumpTo-clause-meaning c =
    let p = err_from_is_err_and c.from_residual-in_err-title-in-JumpTo.result c.from_residual-in_err-title-in-JumpTo.ensures.1 in
    let rest = rest_of c.args.rest.now in
    let store = c.args.store.now in
    rw (ap stmt_of c.in-JumpTo.is, p.1, p.2)
    (jump_halts c.in-JumpTo.head c.in-JumpTo.expr rest store c.in_err-title-in-JumpTo.field-0.0
    (means_at _ _ _ _ c.title_value.ensures c.in_err-title-in-JumpTo.ensures))

pub returns-in_ok-values_in-in-Line-clause-texts : goal.returns-in_ok-values_in-in-Line-clause-texts
returns-in_ok-values_in-in-Line-clause-texts c =
    rw (ap stmt_of c.in-Line.is) (λ table told. line_told table c.in-Line.text (rest_of c.args.rest.now) told)

pub returns-in_ok-offers_of-in-Options-clause-meaning : goal.returns-in_ok-offers_of-in-Options-clause-meaning
returns-in_ok-offers_of-in-Options-clause-meaning c =
    let os = options_of c.as_slice-options.result.now in
    let view = group_seen c.args.statement.now c.as_slice-options.result.now c.in-Options.options c.in-Options.is c.as_slice-options.ensures in
    rw view
    (group_does os (rest_of c.args.rest.now) c.args.store.now c.in_ok-offers_of-in-Options.field-0 c.in_ok-offers_of-in-Options.ensures.meaning)

pub returns-in_ok-offers_of-in-Options-clause-texts : goal.returns-in_ok-offers_of-in-Options-clause-texts
returns-in_ok-offers_of-in-Options-clause-texts c =
    let os = options_of c.as_slice-options.result.now in
    let view = group_seen c.args.statement.now c.as_slice-options.result.now c.in-Options.options c.in-Options.is c.as_slice-options.ensures in
    rw view
    (λ table told.
    group_told table os (rest_of c.args.rest.now) c.in_ok-offers_of-in-Options.field-0.items c.in_ok-offers_of-in-Options.ensures.texts told)

pub returns-in_ok-push-in-If-clause-meaning : goal.returns-in_ok-push-in-If-clause-meaning
returns-in_ok-push-in-If-clause-meaning c =
    let cs = clauses_of c.as_slice.result.now in
    let last = last_of c.in-If.last in
    let view = choice_seen c.args.statement.now c.as_slice.result.now c.in-If.clauses c.in-If.last c.in-If.field-2 c.in-If.is c.as_slice.ensures in
    let body = stmts_of c.in_ok-chosen_body-in-If.field-0.now in
    rw (view, c.in_ok-push-in-If.ensures)
    (if_does cs last c.in-If.field-2 body (rest_of c.args.rest.now) c.args.store.now c.in_ok-chosen_body-in-If.ensures.meaning)

pub returns-in_ok-push-in-If-clause-texts : goal.returns-in_ok-push-in-If-clause-texts
returns-in_ok-push-in-If-clause-texts c =
    let cs = clauses_of c.as_slice.result.now in
    let last = last_of c.in-If.last in
    let view = choice_seen c.args.statement.now c.as_slice.result.now c.in-If.clauses c.in-If.last c.in-If.field-2 c.in-If.is c.as_slice.ensures in
    let body = stmts_of c.in_ok-chosen_body-in-If.field-0.now in
    rw (view, c.in_ok-push-in-If.ensures)
    (λ table told. if_told table cs last c.in-If.field-2 body (rest_of c.args.rest.now) c.in_ok-chosen_body-in-If.ensures.part told)

pub returns-in_ok-push-in-If-clause-less : goal.returns-in_ok-push-in-If-clause-less
returns-in_ok-push-in-If-clause-less c =
    let cs = clauses_of c.as_slice.result.now in
    let last = last_of c.in-If.last in
    let view = choice_seen c.args.statement.now c.as_slice.result.now c.in-If.clauses c.in-If.last c.in-If.field-2 c.in-If.is c.as_slice.ensures in
    let body = stmts_of c.in_ok-chosen_body-in-If.field-0.now in
    rw (view, c.in_ok-push-in-If.ensures)
    (λ none. if_less cs last c.in-If.field-2 body (rest_of c.args.rest.now) c.in_ok-chosen_body-in-If.ensures.part)

pub returns-in_ok-title-in-JumpTo-clause-meaning : goal.returns-in_ok-title-in-JumpTo-clause-meaning
returns-in_ok-title-in-JumpTo-clause-meaning c =
    rw (ap stmt_of c.in-JumpTo.is)
    (jump_does c.in-JumpTo.head c.in-JumpTo.expr (rest_of c.args.rest.now) c.args.store.now c.in_ok-title-in-JumpTo.title
    (means_at _ _ _ _ c.title_value.ensures c.in_ok-title-in-JumpTo.ensures))
