use Rattle.std.proofs.Common.{◌++◌, ◌*◌, codes, sym, ap, ◌∙◌, append_assoc}
use Rattle.yarn_print.specs.Print.{blanks}
use Rattle.yarn_print.proofs.Pieces.{blanks_deeper}
use Rattle.yarn_print.proofs.lines.write_blanks.Goals as goal

pub loop-preserved : goal.loop-preserved
loop-preserved c =
    c.in_ok-push_str.ensures.ok ∙ ap (λ l. l ++ codes "    ") c.loop.invariant ∙ append_assoc c.args.out.now (blanks (4 * c.loop.counter)) (codes "    ")
    ∙ ap (λ l. c.args.out.now ++ l) (sym (blanks_deeper c.loop.counter))
