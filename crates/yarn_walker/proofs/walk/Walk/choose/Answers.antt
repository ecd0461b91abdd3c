use Rattle.std.proofs.Common.{◌≡◌, true, false, Some, [], refl, sym, ap, subst, ◌∙◌}
use Rattle.yarn_blocks.specs.Tree.{stmts_then}
use Rattle.yarn_blocks.specs.View.{stmts_of, options_of}
use Rattle.yarn_code.specs.Answers.{any_open, chooses}
use Rattle.yarn_meaning.specs.Texts.{TellsAll, said_in}
use Rattle.yarn_walker.specs.States.{at}
use Rattle.yarn_walker.specs.Frames.{rest_of}
use Rattle.yarn_walker.specs.Titles.{placed}
use Rattle.yarn_walker.specs.Offers.{all_shown}
use Rattle.yarn_walker.specs.Walk.{files_of, in_body, from_seat, IsGroup, ToldSeat, WithTexts, Opens}
use Rattle.yarn_walker.specs.declared.walk.Seat.{Seat}
use Rattle.yarn_walker.specs.declared.walk.Seat.TheVariants.{Chooses}
use Rattle.yarn_walker.proofs.AnswerLemmas.{chosen_comes, rejected_comes}
use Rattle.yarn_walker.proofs.TurnLemmas.{tells_then}
use Rattle.yarn_walker.proofs.walk.Walk.choose.Goals as goal

-- The option that is chosen has the body that is pushed.
pub returns-in_ok-push-in-Some-clause-meaning : goal.returns-in_ok-push-in-Some-clause-meaning
returns-in_ok-push-in-Some-clause-meaning c =
    let w = c.args.self.now in
    let node = c.in-Chooses.node in
    let os = options_of c.in-Chooses.options.now in
    let behind = rest_of c.in-Chooses.rest in
    let body = stmts_of c.in-Some.body.now in
    let seat : w.seat ≡ Chooses node c.in-Chooses.options c.in-Chooses.rest = cc in
    let asks : any_open (all_shown w.offers.items) ≡ true = (subst (λ (s : Seat). IsGroup s w.offers.items) seat c.requires.sound.group).0 in
    let joins : rest_of c.push.new.self ≡ stmts_then body behind = c.in_ok-push-in-Some.ensures in
    let opens = subst (λ offers. Opens (all_shown offers) os c.args.number (Some c.in-Some.body)) c.as_slice.ensures.value c.in-Some.ensures in
    λ bytes left k is.
    ap (λ (s : Seat). from_seat (files_of w) k (all_shown w.offers.items) s (at w.store bytes) k) seat
    ∙ chosen_comes (files_of w) (placed node) os (all_shown w.offers.items) behind w.store c.args.number bytes left body asks opens.0 opens.1 is k
    ∙ ap (λ b. in_body (files_of w) k (placed node) b (at w.store left) k) (sym joins)

-- The texts of that body are among those of the options.
pub returns-in_ok-push-in-Some-clause-sound : goal.returns-in_ok-push-in-Some-clause-sound
returns-in_ok-push-in-Some-clause-sound c =
    let w = c.args.self.now in
    let os = options_of c.in-Chooses.options.now in
    let behind = rest_of c.in-Chooses.rest in
    let body = stmts_of c.in-Some.body.now in
    let seat : w.seat ≡ Chooses c.in-Chooses.node c.in-Chooses.options c.in-Chooses.rest = cc in
    let joins : rest_of c.push.new.self ≡ stmts_then body behind = c.in_ok-push-in-Some.ensures in
    let told = subst (λ (s : Seat). WithTexts (files_of w) (λ table. ToldSeat table s)) seat c.requires.sound.told in
    record {
      sound = record {
        titles = c.requires.sound.titles;
        told = λ table all. subst (λ b. TellsAll table (said_in b)) (sym joins)
            (tells_then table body behind (c.in-Some.ensures.2 table (told table all).0) (told table all).1);
        group = tt;
      };
      titles = refl;
    }

pub returns-in-None-clause-meaning : goal.returns-in-None-clause-meaning
returns-in-None-clause-meaning c =
    let w = c.args.self.now in
    let node = c.in-Chooses.node in
    let os = options_of c.in-Chooses.options.now in
    let behind = rest_of c.in-Chooses.rest in
    let seat : w.seat ≡ Chooses node c.in-Chooses.options c.in-Chooses.rest = cc in
    let asks : any_open (all_shown w.offers.items) ≡ true = (subst (λ (s : Seat). IsGroup s w.offers.items) seat c.requires.sound.group).0 in
    let rejected : chooses c.args.number (all_shown w.offers.items) ≡ false =
    ap (λ offers. chooses c.args.number (all_shown offers)) (sym c.as_slice.ensures.value) ∙ c.in-None.ensures in
    λ bytes left k is.
    ap (λ (s : Seat). from_seat (files_of w) k (all_shown w.offers.items) s (at w.store bytes) k) seat
    ∙ rejected_comes (files_of w) (placed node) os (all_shown w.offers.items) behind w.store c.args.number bytes left asks rejected is k
