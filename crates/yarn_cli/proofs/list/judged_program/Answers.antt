use Rattle.std.proofs.Common.{ℕ, List, ap, sym, subst, ◌∙◌}
use Rattle.yarn_code.specs.ListingText.{listing_of}
use Rattle.yarn_check.specs.Told.{whole_fault}
use Rattle.yarn_cli.specs.Ended.{IsRefusal}
use Rattle.yarn_cli.specs.List.{of_judged}
use Rattle.yarn_cli.specs.Outcome.{of_done}
use Rattle.yarn_cli.proofs.list.judged_program.Goals as goal

pub returns-in-Ok-clause-ok : goal.returns-in-Ok-clause-ok
returns-in-Ok-clause-ok c =
    ap (of_judged c.args.name.now c.args.program) c.in-Ok.ensures.none ∙ ap (λ p. of_done (listing_of p)) (sym c.in-Ok.ensures.ok)

pub returns-clause-err : goal.returns-clause-err
returns-clause-err c =
    let program = c.args.program in
    subst (λ (name : List ℕ). IsRefusal (of_judged name program (whole_fault program)) c.check_refused.result) c.as_str.ensures.value
    (c.check_refused.ensures program (whole_fault program) c.in-Err.ensures.told)
