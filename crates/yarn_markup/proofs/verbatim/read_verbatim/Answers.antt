use Rattle.yarn_markup.proofs.ReadingLemmas.{verbatim_goes}
use Rattle.yarn_markup.proofs.verbatim.read_verbatim.Goals as goal

pub loop-c-preserved : goal.loop-c-preserved
loop-c-preserved c =
    verbatim_goes c.args.text.now c.loop-c.value c.loop-c.rest.now c.in-Some.behind.now _ c.in-Some.c c.loop-c.invariant c.in-Some.ensures
    c.in_default-past_end.ensures c.in_ok-push_char.ensures.ok
