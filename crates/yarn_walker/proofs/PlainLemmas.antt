-- A line without substitutions: the walk moves behind it.
use Rattle.std.proofs.Common.{◌≡◌, [], Option, Some, None, IfSome, refl, sym, ap, subst, ◌∙◌}
use Rattle.std.specs.Borrow.{Bor}
use Rattle.yarn_blocks.specs.declared.tree.LineText.{LineText}
use Rattle.yarn_blocks.specs.declared.entry.Simple.TheVariants as simple
use Rattle.yarn_blocks.specs.Tree.{Stmts, Cons, Leaf}
use Rattle.yarn_code.specs.declared.event.Event.TheVariants as event
use Rattle.yarn_meaning.specs.Does.{does_all}
use Rattle.yarn_meaning.specs.Texts.{TellsAll, said_in}
use Rattle.yarn_walker.specs.Frames.{rest_of}
use Rattle.yarn_walker.specs.Offers.{all_shown}
use Rattle.yarn_walker.specs.States.{at, no_hosts}
use Rattle.yarn_walker.specs.Walk.{files_of, from_seat, ToldSeat, IsSound, StaysSound, TellsTurn, Turns}
use Rattle.yarn_walker.specs.declared.frames.Frames.{Frames}
use Rattle.yarn_walker.specs.declared.titles.NodeAt.{NodeAt}
use Rattle.yarn_walker.specs.declared.walk.Seat.{Seat}
use Rattle.yarn_walker.specs.declared.walk.Seat.TheVariants.{Within}
use Rattle.yarn_walker.specs.declared.walk.Turn.TheVariants as turn
use Rattle.yarn_walker.specs.declared.walk.Walk.{Walk}
use Rattle.yarn_walker.proofs.DeedLemmas.{plain_does, line_told}
use Rattle.yarn_walker.proofs.TurnLemmas.{event_comes}

-- the walk in that node, before these statements
abbrev pub moved : Walk → NodeAt → Frames → Walk
moved w n rest = record { titles = w.titles; store = w.store; seat = Within n rest; offers = w.offers }

module _ (w : Walk) (n : NodeAt) (old new : Frames) (seat : w.seat ≡ Within n old) where
  -- the line is the next event
  pub plain_comes : (o : Option (Bor LineText)) → IfSome o (λ text. rest_of old ≡ Cons (Leaf (simple.Line text.now)) (rest_of new)) →
      IfSome o (λ text. text.now.holes ≡ []) → IfSome o (λ text. Turns w (turn.Line text []) (moved w n new))
  plain_comes None first plain = tt
  plain_comes (Some text) first plain = λ answers k.
      ap (λ (s : Seat). from_seat (files_of w) k (all_shown w.offers.items) s (at w.store answers) k) seat
      ∙ event_comes (files_of w) n (rest_of old) w.store w.store (event.Line text.now.id []) (rest_of new)
      (λ answers1. ap (λ (b : Stmts). does_all no_hosts b (at w.store answers1)) first ∙ plain_does text.now (rest_of new) w.store plain answers1) answers k

  -- the texts behind it are told as before
  pub plain_sound : (o : Option (Bor LineText)) → IfSome o (λ text. rest_of old ≡ Cons (Leaf (simple.Line text.now)) (rest_of new)) →
      (o ≡ None → new ≡ old) → IsSound w → StaysSound w (moved w n new)
  plain_sound None first none sound = record {
    sound = record {
      titles = sound.titles;
      told = λ table all. subst (λ (b : Frames). TellsAll table (said_in (rest_of b))) (sym (none refl)) (subst (ToldSeat table) seat (sound.told table all));
      group = tt;
    };
    titles = refl;
  }
  plain_sound (Some text) first none sound = record {
    sound = record {
      titles = sound.titles;
      told = λ table all. (line_told table text.now (rest_of new) (subst (λ (b : Stmts). TellsAll table (said_in b)) first (subst (ToldSeat table) seat (sound.told table all)))).1;
      group = tt;
    };
    titles = refl;
  }

  -- a table with the texts of all files has the line's
  pub plain_told : (o : Option (Bor LineText)) → IfSome o (λ text. rest_of old ≡ Cons (Leaf (simple.Line text.now)) (rest_of new)) → IsSound w →
      IfSome o (λ text. TellsTurn w (turn.Line text []) (moved w n new))
  plain_told None first sound = tt
  plain_told (Some text) first sound = λ table all.
      (line_told table text.now (rest_of new) (subst (λ (b : Stmts). TellsAll table (said_in b)) first (subst (ToldSeat table) seat (sound.told table all)))).0
