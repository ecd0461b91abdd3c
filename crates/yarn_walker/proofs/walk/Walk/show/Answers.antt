use Rattle.std.proofs.Common.{◌≡◌, refl, sym, ap, subst, ◌∙◌}
use Rattle.yarn_blocks.specs.View.{options_of}
use Rattle.yarn_value.specs.declared.fault.RunFault.TheVariants.{NoOpenOption}
use Rattle.yarn_code.specs.declared.event.Event.TheVariants as event
use Rattle.yarn_code.specs.Moments.{Faults, moment, emit}
use Rattle.yarn_meaning.specs.Does.{group_line}
use Rattle.yarn_code.specs.Answers.{any_open}
use Rattle.yarn_meaning.specs.First.{faults_at}
use Rattle.yarn_walker.specs.Faults.{fault_of}
use Rattle.yarn_walker.specs.Frames.{rest_of}
use Rattle.yarn_walker.specs.Offers.{all_shown}
use Rattle.yarn_walker.specs.States.{at}
use Rattle.yarn_walker.specs.Titles.{placed}
use Rattle.yarn_walker.specs.Walk.{files_of, from_seat, with_group, IsGroup, ToldSeat, WithTexts}
use Rattle.yarn_walker.specs.declared.walk.Seat.{Seat}
use Rattle.yarn_walker.proofs.TurnLemmas.{group_fails, group_asks}
use Rattle.yarn_walker.proofs.walk.Walk.show.Goals as goal
use Rattle.yarn_walker.proofs.walk.Walk.show.Goals.{then-any_open, else-any_open}

pub returns-clause-meaning : goal.returns-clause-meaning
returns-clause-meaning c = λ answers k.
    let w = c.args.self.now in
    let node = c.args.node in
    let os = c.args.options.now in
    let offers = c.args.offers.items in
    let rest = rest_of c.args.rest in
    let st = at w.store answers in
    let open_is : any_open (all_shown offers) ≡ c.any_open.result =
    ap (λ l. any_open (all_shown l)) (sym c.as_slice.ensures.value) ∙ sym c.any_open.ensures in
    let Shows : Seat → Type 0 = λ s.
    with_group (files_of w) node os offers rest w.store k answers k ≡
    emit (moment (event.Options (all_shown offers)) st) (λ j. from_seat (files_of w) j (all_shown offers) s st j) k in
    elim c.if-any_open.branch [
      | then-any_open b ↦ subst Shows (sym b.seat-is) (group_asks (files_of w) node os offers rest w.store answers k)
      | else-any_open b ↦
          let fault : Faults (fault_of b.fault.result) ≡ faults_at (placed node) (group_line (options_of os)) NoOpenOption =
          b.fault.ensures ∙ ap (λ line. faults_at (placed node) line NoOpenOption) b.first_line.ensures in
          subst Shows (sym b.seat-is) (group_fails (files_of w) node os offers rest w.store b.fault.result (open_is ∙ b.if-any_open.false) fault answers k)
    ]

pub returns-clause-sound : goal.returns-clause-sound
returns-clause-sound c =
    let w = c.args.self.now in
    let offers = c.args.offers.items in
    let open_is : any_open (all_shown offers) ≡ c.any_open.result =
    ap (λ l. any_open (all_shown l)) (sym c.as_slice.ensures.value) ∙ sym c.any_open.ensures in
    let told : WithTexts (files_of w) (λ table. ToldSeat table c.if-any_open.seat) = λ table all. elim c.if-any_open.branch [
      | then-any_open b ↦ subst (ToldSeat table) (sym b.seat-is) (c.requires.options_told table all, c.requires.rest_told table all)
      | else-any_open b ↦ subst (ToldSeat table) (sym b.seat-is) tt
    ] in
    let group : IsGroup c.if-any_open.seat offers = elim c.if-any_open.branch [
      | then-any_open b ↦ subst (λ s. IsGroup s offers) (sym b.seat-is) (open_is ∙ b.if-any_open.true, c.requires.group)
      | else-any_open b ↦ subst (λ s. IsGroup s offers) (sym b.seat-is) tt
    ] in
    record { sound = record { titles = c.requires.sound.titles; told = told; group = group }; titles = refl }
