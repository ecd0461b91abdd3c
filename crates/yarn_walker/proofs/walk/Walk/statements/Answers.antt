use Rattle.std.proofs.Common.{List, refl, sym, ap, subst, ◌∙◌}
use Rattle.std.specs.List.{All}
use Rattle.yarn_code.specs.declared.event.Event.TheVariants as event
use Rattle.yarn_meaning.specs.Filled.{filled}
use Rattle.yarn_meaning.specs.Texts.{Tells}
use Rattle.yarn_walker.specs.Deeds.{done_of, TellsDeed}
use Rattle.yarn_walker.specs.Frames.{rest_of}
use Rattle.yarn_walker.specs.States.{at}
use Rattle.yarn_walker.specs.Walk.{files_of, within_node, with_group, jumping, leaving, ToldTurn}
use Rattle.yarn_walker.specs.declared.deed.Deed.{Deed}
use Rattle.yarn_walker.specs.declared.offer.Offer.{Offer}
use Rattle.yarn_walker.specs.declared.walk.Seat.TheVariants.{Finishes}
use Rattle.yarn_walker.specs.declared.walk.Turn.{Turn}
use Rattle.yarn_walker.proofs.TurnLemmas.{turned_same, ok_turned_same, event_comes, group_comes, jump_comes, stop_comes, through_comes}
use Rattle.yarn_walker.proofs.walk.Walk.statements.Goals as goal

-- ---- a line

pub returns-in-Ok-Line-clause-meaning : goal.returns-in-Ok-Line-clause-meaning
returns-in-Ok-Line-clause-meaning c =
    let w = c.args.self.now in
    let store = c.next_deed.new.store in
    let rest = rest_of c.next_deed.new.rest in
    event_comes (files_of w) c.args.node (rest_of c.args.rest) w.store store (event.Line c.in-Ok-Line.text.now.id c.in-Ok-Line.values) rest
    (λ answers. c.in-Ok-Line.ensures.meaning answers ∙ ap (λ (d : Deed). done_of d rest (at store answers)) c.in-Ok-Line.field-0-is)

pub returns-in-Ok-Line-clause-texts : goal.returns-in-Ok-Line-clause-texts
returns-in-Ok-Line-clause-texts c = λ table all.
    subst (TellsDeed table) c.in-Ok-Line.field-0-is (c.in-Ok-Line.ensures.texts table (c.requires.told table all)).0

pub returns-in-Ok-Line-clause-sound : goal.returns-in-Ok-Line-clause-sound
returns-in-Ok-Line-clause-sound c = record {
  sound = record {
    titles = c.requires.sound.titles;
    told = λ table all. (c.in-Ok-Line.ensures.texts table (c.requires.told table all)).1;
    group = tt;
  };
  titles = refl;
}

-- ---- a command

pub returns-in-Ok-Command-clause-meaning : goal.returns-in-Ok-Command-clause-meaning
returns-in-Ok-Command-clause-meaning c =
    let w = c.args.self.now in
    let store = c.next_deed.new.store in
    let rest = rest_of c.next_deed.new.rest in
    event_comes (files_of w) c.args.node (rest_of c.args.rest) w.store store (event.Command (filled c.in-Ok-Command.text.now.text c.in-Ok-Command.values)) rest
    (λ answers. c.in-Ok-Command.ensures.meaning answers ∙ ap (λ (d : Deed). done_of d rest (at store answers)) c.in-Ok-Command.field-0-is)

pub returns-in-Ok-Command-clause-sound : goal.returns-in-Ok-Command-clause-sound
returns-in-Ok-Command-clause-sound c = record {
  sound = record {
    titles = c.requires.sound.titles;
    told = λ table all. (c.in-Ok-Command.ensures.texts table (c.requires.told table all)).1;
    group = tt;
  };
  titles = refl;
}

-- ---- a group

pub show-requires-clause-options_told : goal.show-requires-clause-options_told
show-requires-clause-options_told c = λ table all.
    (subst (TellsDeed table) c.in-Ok-Options.field-0-is (c.in-Ok-Options.ensures.texts table (c.requires.told table all)).0).1

pub show-requires-clause-rest_told : goal.show-requires-clause-rest_told
show-requires-clause-rest_told c = λ table all. (c.in-Ok-Options.ensures.texts table (c.requires.told table all)).1

pub returns-in-Ok-Options-clause-meaning : goal.returns-in-Ok-Options-clause-meaning
returns-in-Ok-Options-clause-meaning c =
    let w = c.args.self.now in
    let store = c.next_deed.new.store in
    let rest = rest_of c.next_deed.new.rest in
    let os = c.in-Ok-Options.options.now in
    let offers = c.in-Ok-Options.offers.items in
    turned_same (within_node (files_of w) c.args.node (rest_of c.args.rest) w.store) (with_group (files_of w) c.args.node os offers rest store) c.show.result _
    (group_comes (files_of w) c.args.node (rest_of c.args.rest) w.store store os offers rest
    (λ answers. c.in-Ok-Options.ensures.meaning answers ∙ ap (λ (d : Deed). done_of d rest (at store answers)) c.in-Ok-Options.field-0-is))
    c.show.ensures.meaning

pub returns-in-Ok-Options-clause-texts : goal.returns-in-Ok-Options-clause-texts
returns-in-Ok-Options-clause-texts c = λ table all.
    let told = (subst (TellsDeed table) c.in-Ok-Options.field-0-is (c.in-Ok-Options.ensures.texts table (c.requires.told table all)).0).0 in
    let shown : All (λ (offer : Offer). Tells table offer.text.now) c.show.new.self.offers.items =
    subst (λ (offers : List Offer). All (λ (offer : Offer). Tells table offer.text.now) offers) (ap (λ v. v.items) (sym c.show.ensures.offers)) told in
    subst (λ (t : Turn). ToldTurn table t c.show.new.self) (sym c.show.ensures.options) shown

-- ---- the ways out of a node

pub returns-in-Ok-Through-clause-meaning : goal.returns-in-Ok-Through-clause-meaning
returns-in-Ok-Through-clause-meaning c =
    let w = c.args.self.now in
    let store = c.next_deed.new.store in
    let rest = rest_of c.next_deed.new.rest in
    ok_turned_same (within_node (files_of w) c.args.node (rest_of c.args.rest) w.store)
    (leaving (files_of w) c.args.node c.args.node.node.now.end_line Finishes store) c.leave.result _
    (through_comes (files_of w) c.args.node (rest_of c.args.rest) w.store store
    (λ answers. c.in-Ok-Through.ensures.meaning answers ∙ ap (λ (d : Deed). done_of d rest (at store answers)) c.in-Ok-Through.field-0-is))
    c.leave.ensures.meaning

pub returns-in-Ok-Stop-clause-meaning : goal.returns-in-Ok-Stop-clause-meaning
returns-in-Ok-Stop-clause-meaning c =
    let w = c.args.self.now in
    let store = c.next_deed.new.store in
    let rest = rest_of c.next_deed.new.rest in
    ok_turned_same (within_node (files_of w) c.args.node (rest_of c.args.rest) w.store)
    (leaving (files_of w) c.args.node c.in-Ok-Stop.line Finishes store) c.leave-in-Ok-Stop.result _
    (stop_comes (files_of w) c.args.node (rest_of c.args.rest) w.store store c.in-Ok-Stop.line
    (λ answers. c.in-Ok-Stop.ensures.meaning answers ∙ ap (λ (d : Deed). done_of d rest (at store answers)) c.in-Ok-Stop.field-0-is))
    c.leave-in-Ok-Stop.ensures.meaning

pub returns-in-Ok-Jump-clause-meaning : goal.returns-in-Ok-Jump-clause-meaning
returns-in-Ok-Jump-clause-meaning c =
    let w = c.args.self.now in
    let store = c.next_deed.new.store in
    let rest = rest_of c.next_deed.new.rest in
    let title = c.in-Ok-Jump.title.now in
    ok_turned_same (within_node (files_of w) c.args.node (rest_of c.args.rest) w.store)
    (jumping (files_of w) c.args.node c.in-Ok-Jump.line title store) c.leave_to.result _
    (jump_comes (files_of w) c.args.node (rest_of c.args.rest) w.store store c.in-Ok-Jump.line title
    (λ answers. c.in-Ok-Jump.ensures.meaning answers ∙ ap (λ (d : Deed). done_of d rest (at store answers)) c.in-Ok-Jump.field-0-is))
    c.leave_to.ensures.meaning

pub returns-in-Ok-JumpTo-clause-meaning : goal.returns-in-Ok-JumpTo-clause-meaning
returns-in-Ok-JumpTo-clause-meaning c =
    let w = c.args.self.now in
    let store = c.next_deed.new.store in
    let rest = rest_of c.next_deed.new.rest in
    let title = c.in-Ok-JumpTo.title in
    ok_turned_same (within_node (files_of w) c.args.node (rest_of c.args.rest) w.store)
    (jumping (files_of w) c.args.node c.in-Ok-JumpTo.line title store) c.leave_to-in-Ok-JumpTo.result _
    (jump_comes (files_of w) c.args.node (rest_of c.args.rest) w.store store c.in-Ok-JumpTo.line title
    (λ answers. c.in-Ok-JumpTo.ensures.meaning answers ∙ ap (λ (d : Deed). done_of d rest (at store answers)) c.in-Ok-JumpTo.field-0-is))
    c.leave_to-in-Ok-JumpTo.ensures.meaning
