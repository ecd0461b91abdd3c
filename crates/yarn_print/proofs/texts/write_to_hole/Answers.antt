use Rattle.yarn_print.proofs.Pieces.{put-hole}
use Rattle.yarn_print.proofs.texts.write_to_hole.Goals as goal

pub returns-clause-written : goal.returns-clause-written
returns-clause-written c holes =
    put-hole c.args.spelling c.args.text.now c.args.hole.now holes c.args.out.now c.write_run.new.out c.write_hole.new.out
    c.cut_at_hole.result.0.now c.cut_at_hole.result.1.now c.past_hole.result.now c.cut_at_hole.ensures.before c.cut_at_hole.ensures.behind
    c.in_ok-write_run.ensures c.in_ok-write_hole.ensures c.past_hole.ensures.rest
