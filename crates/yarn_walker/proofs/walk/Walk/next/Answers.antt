use Rattle.std.proofs.Common.{◌≡◌, [], sym, ap, ◌∙◌}
use Rattle.yarn_blocks.specs.Tree.{Stmts}
use Rattle.yarn_blocks.specs.View.{stmts_of}
use Rattle.yarn_code.specs.declared.event.Event.TheVariants as event
use Rattle.yarn_code.specs.Moments.{Moment, moment, emit}
use Rattle.yarn_walker.specs.Frames.{rest_of}
use Rattle.yarn_walker.specs.Offers.{all_shown}
use Rattle.yarn_walker.specs.States.{at}
use Rattle.yarn_walker.specs.Titles.{placed}
use Rattle.yarn_walker.specs.Walk.{files_of, in_body, from_seat, coming, within_node}
use Rattle.yarn_walker.specs.declared.walk.Seat.{Seat}
use Rattle.yarn_walker.proofs.FuelLemmas.{node_starts}
use Rattle.yarn_walker.proofs.TurnLemmas.{ok_turned_same}
use Rattle.yarn_walker.proofs.walk.Walk.next.Goals as goal

pub returns-in-Enters-clause-meaning : goal.returns-in-Enters-clause-meaning
returns-in-Enters-clause-meaning c = λ answers k.
    let w = c.args.self.now in
    let n = placed c.in-Enters.node in
    let st = at w.store answers in
    let start : Moment = moment (event.NodeStart n.node.title) st in
    let body : rest_of c.new.result ≡ n.node.body = c.new.ensures ∙ ap stmts_of c.as_slice-body.ensures in
    ap (λ (s : Seat). from_seat (files_of w) k (all_shown w.offers.items) s st k) (sym c.in-Enters.ensures.value)
    ∙ node_starts (files_of w) n st k
    ∙ ap (λ (b : Stmts). emit start (λ j. in_body (files_of w) j n b st j) k) (sym body)

pub returns-in-Within-clause-meaning : goal.returns-in-Within-clause-meaning
returns-in-Within-clause-meaning c =
    let w = c.args.self.now in
    ok_turned_same (coming w) (within_node (files_of w) c.in-Within.node (rest_of c.in-Within.rest) w.store) c.statements.result _
    (λ answers k. ap (λ (s : Seat). from_seat (files_of w) k (all_shown w.offers.items) s (at w.store answers) k) (sym c.in-Within.ensures.value))
    c.statements.ensures.meaning
