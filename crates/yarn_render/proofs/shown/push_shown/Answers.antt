use Rattle.std.proofs.Common.{◌++◌, codes}
use Rattle.yarn_markup.specs.declared.fault.MarkupFault.TheVariants.{BadMarkup, NoChoice}
use Rattle.yarn_render.specs.Marks.{ended}
use Rattle.yarn_render.specs.Renders.{Shows, marked, refused, marks_text}
use Rattle.yarn_render.proofs.RenderLemmas.{puts_ok}
use Rattle.yarn_render.proofs.shown.push_shown.Goals as goal

pub returns-in-Ok : goal.returns-in-Ok
returns-in-Ok c =
    let own = c.in-Ok.marked in
    puts_ok c.push_marked.result (Shows c.args.plural.now c.args.marks c.args.text.now) c.args.out.now c.push_marked.new.out
    (ended own.plain ++ marks_text c.args.marks own.attributes) (marked own c.in-Ok.ensures) c.push_marked.ensures

pub returns-in-Err-BadMarkup : goal.returns-in-Err-BadMarkup
returns-in-Err-BadMarkup c =
    puts_ok c.push_refused.result (Shows c.args.plural.now c.args.marks c.args.text.now) c.args.out.now c.push_refused.new.out
    (ended (codes "[?] " ++ c.args.text.now)) (refused (BadMarkup c.in-Err-BadMarkup.field-0-0) (rw c.in-Err-BadMarkup.field-0-is at c.in-Err-BadMarkup.ensures)) c.push_refused.ensures

pub returns-in-Err-NoChoice : goal.returns-in-Err-NoChoice
returns-in-Err-NoChoice c =
    let pushed = c.push_refused-in-Err-NoChoice in
    puts_ok pushed.result (Shows c.args.plural.now c.args.marks c.args.text.now) c.args.out.now pushed.new.out
    (ended (codes "[?] " ++ c.args.text.now)) (refused (NoChoice c.in-Err-NoChoice.field-0-0) (rw c.in-Err-NoChoice.field-0-is at c.in-Err-NoChoice.ensures)) pushed.ensures
