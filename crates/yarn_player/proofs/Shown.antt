-- How the steps of a play add up.
use Rattle.std.proofs.Common.{◌≡◌, ℕ, zero, suc, ◌+◌, ◌-◌, ◌<◌, List, [], ◌∷◌, ◌++◌, Option, Some, None, IfSome, refl, sym, ap, ◌∙◌, subst, arith, append_assoc, append-nil}
use Rattle.std.specs.Io.KnownBytes.{append_known}
use Rattle.yarn_base.specs.Outside.{WritesPart}
use Rattle.yarn_base.proofs.Written.{IsWritten, IsWritten-stops, append_known-append, append_known-nil}
use Rattle.yarn_code.specs.Moments.{Moment, Outcome, State, Limit, moment, emit, with_moment}
use Rattle.yarn_meaning.specs.Texts.{Table}
use Rattle.yarn_tree.specs.Trees.{FileTree}
use Rattle.yarn_walker.specs.States.{at}
use Rattle.yarn_walker.specs.Walk.{files_of, run_of, WithTexts, IsSound, StaysSound}
use Rattle.yarn_walker.specs.declared.walk.Walk.{Walk}
use Rattle.yarn_player.specs.Played.{first_from, IsPlayed, Writes, WritesSome, TakesFront}
use Rattle.yarn_player.specs.Stands.{stand_of}
use Rattle.yarn_player.specs.Steps.{Spot, Steps, Hands}
use Rattle.yarn_player.specs.Transcript.{shown, transcript}
use Rattle.yarn_player.specs.declared.ends.PlayEnd.{PlayEnd}
use Rattle.yarn_player.specs.declared.ends.PlayEnd.TheVariants as named
use Rattle.yarn_player.specs.declared.ends.Played.{Played}
use Rattle.yarn_player.proofs.StepLemmas.{files_same, TakesFront-none, TakesFront-more}

-- where these bytes are left at first: what is written, what is kept and what is to come is the transcript of all
pub record IsTold (first : Spot) (bytes : List ℕ) (limit : ℕ) (now : Spot) (more : ℕ) : Type 0 where
  pub rest : List ℕ
  pub left_is : now.left ≡ Some rest
  pub written : WithTexts (files_of first.walk) (λ table.
      IsWritten first.written now.written first.faults now.faults (transcript table (first_from first.walk bytes limit).moments)
      (now.kept ++ transcript table (first_from now.walk rest more).moments))
  pub stand : (first_from first.walk bytes limit).stand ≡ (first_from now.walk rest more).stand
  pub state : (first_from first.walk bytes limit).state ≡ (first_from now.walk rest more).state

-- so many of the first events are still to come
pub record IsShown (first : Spot) (limit : ℕ) (now : Spot) (more : ℕ) : Type 0 where
  pub sound : IsSound now.walk
  pub titles : now.walk.titles ≡ first.walk.titles
  pub taken : TakesFront first.left now.left
  pub told : (bytes : List ℕ) → first.left ≡ Some bytes → IsTold first bytes limit now more

-- where these bytes are left at first: the run stands there, and what is written and what is kept is the transcript of all
pub record IsEnded (first : Spot) (bytes : List ℕ) (limit : ℕ) (now : Spot) (end : PlayEnd) : Type 0 where
  pub stand : stand_of end ≡ (first_from first.walk bytes limit).stand
  pub store : now.walk.store ≡ (first_from first.walk bytes limit).state.store
  pub left_is : now.left ≡ Some (first_from first.walk bytes limit).state.answers
  pub written : WithTexts (files_of first.walk) (λ table.
      IsWritten first.written now.written first.faults now.faults (transcript table (first_from first.walk bytes limit).moments) now.kept)

pub one_left : (limit count : ℕ) → count < limit → limit - count ≡ suc (limit - (count + 1))
one_left limit count lt = omega arith

pub IfSome-of : {X : Type 0} (o : Option X) (P : X → Type 0) → ((x : X) → o ≡ Some x → P x) → IfSome o P
IfSome-of None P h = tt
IfSome-of (Some x) P h = h x refl

-- some more bytes are taken, and some are written
pub IsWritten-more : (old new newer : Option (List ℕ)) (before now later : ℕ) (all bytes text rest more : List ℕ) →
    IsWritten old new before now all (bytes ++ (text ++ rest)) → IsWritten new newer now later (bytes ++ text) more →
    IsWritten old newer before later all (more ++ rest)
IsWritten-more old new newer before now later all bytes text rest more so_far next = record {
  taken = so_far.taken ++ next.taken;
  split =
      append_assoc so_far.taken next.taken (more ++ rest)
      ∙ ap (λ l. so_far.taken ++ l) (sym (append_assoc next.taken more rest) ∙ ap (λ l. l ++ rest) next.split ∙ append_assoc bytes text rest)
      ∙ so_far.split;
  after = next.after ∙ ap (λ known. append_known known next.taken) so_far.after ∙ append_known-append old so_far.taken next.taken;
  later = omega (arith, so_far.later, next.later);
}

-- some of what is kept is handed over
IsWritten-turned : (old new newer : Option (List ℕ)) (before now later : ℕ) (all bytes rest more : List ℕ) →
    IsWritten old new before now all (bytes ++ rest) → IsWritten new newer now later bytes more → IsWritten old newer before later all (more ++ rest)
IsWritten-turned old new newer before now later all bytes rest more so_far next =
    IsWritten-more old new newer before now later all bytes [] rest more so_far (rw (append-nil bytes) next)

-- the first of the events, and those behind it
emit_first : (w : Walk) (rest : List ℕ) (m : Moment) (k : ℕ) → m.state ≡ at w.store rest → emit m (run_of w rest) k ≡ with_moment m (first_from w rest k)
emit_first w rest m zero e = ap (λ (s : State). record { moments = m ∷ []; stand = Limit; state = s }) e
emit_first w rest m (suc k) e = refl

-- the play begins
pub IsShown-start : (first : Spot) (kept : List ℕ) (limit : ℕ) → IsSound first.walk → kept ≡ [] →
    IsShown first limit (record { walk = first.walk; left = first.left; written = first.written; faults = first.faults; kept = kept }) limit
IsShown-start first kept limit sound none = record {
  sound = sound;
  titles = refl;
  taken = TakesFront-none first.left;
  told = (λ bytes told. record {
    rest = bytes;
    left_is = told;
    written = (λ table has. record { taken = []; split = rw none refl; after = sym (append_known-nil first.written); later = omega arith });
    stand = refl;
    state = refl;
  });
}

module _ (first now : Spot) (limit more : ℕ) (so_far : IsShown first limit now more) where
  -- the writing stops within what is kept
  pub shown_stops : (newer : Option (List ℕ)) → WritesPart now.written newer now.kept → (bytes : List ℕ) → first.left ≡ Some bytes →
      WritesSome first.walk (first_from first.walk bytes limit) first.written newer
  shown_stops newer part bytes told table has =
      let so_told = so_far.told bytes told in
      IsWritten-stops first.written now.written newer first.faults now.faults _ _ now.kept (transcript table (first_from now.walk so_told.rest more).moments)
      (so_told.written table has) refl part

  -- some of what is kept is handed over
  pub shown_turned : (written : Option (List ℕ)) (faults : ℕ) (kept : List ℕ) → IsWritten now.written written now.faults faults now.kept kept →
      IsShown first limit (record { walk = now.walk; left = now.left; written = written; faults = faults; kept = kept }) more
  shown_turned written faults kept hands = record {
    sound = so_far.sound;
    titles = so_far.titles;
    taken = so_far.taken;
    told = (λ bytes told.
        let so_told = so_far.told bytes told in
        record {
          rest = so_told.rest;
          left_is = so_told.left_is;
          written = (λ table has.
              IsWritten-turned first.written now.written written first.faults now.faults faults _ now.kept (transcript table (first_from now.walk so_told.rest more).moments) kept
              (so_told.written table has) hands);
          stand = so_told.stand;
          state = so_told.state;
        });
  }

  same_files : files_of now.walk ≡ files_of first.walk
  same_files = files_same first.walk now.walk so_far.titles

  -- an event is given
  pub shown_event : (new : Spot) (k : ℕ) → more ≡ suc k → Steps now new None → StaysSound now.walk new.walk → TakesFront now.left new.left → IsShown first limit new k
  shown_event new k one steps stays takes = record {
    sound = stays.sound;
    titles = stays.titles ∙ so_far.titles;
    taken = TakesFront-more first.left now.left new.left so_far.taken takes;
    told = (λ bytes told.
        let so_told = so_far.told bytes told in
        let step = steps so_told.rest so_told.left_is in
        let m = moment step.event (at new.walk.store step.rest) in
        let gives : first_from now.walk so_told.rest more ≡ with_moment m (first_from new.walk step.rest k) =
        ap (first_from now.walk so_told.rest) one ∙ step.next k ∙ emit_first new.walk step.rest m k refl in
        record {
          rest = step.rest;
          left_is = step.left_is;
          written = (λ table has.
              IsWritten-more first.written now.written new.written first.faults now.faults new.faults _ now.kept (shown table step.event)
              (transcript table (first_from new.walk step.rest k).moments) new.kept
              (subst (λ (o : Outcome).
              IsWritten first.written now.written first.faults now.faults (transcript table (first_from first.walk bytes limit).moments) (now.kept ++ transcript table o.moments))
              gives (so_told.written table has))
              (subst (λ (files : List FileTree). WithTexts files (λ (t : Table). Hands now new (now.kept ++ shown t step.event))) same_files step.hands table has));
          stand = so_told.stand ∙ ap (λ (o : Outcome). o.stand) gives;
          state = so_told.state ∙ ap (λ (o : Outcome). o.state) gives;
        });
  }

  -- the run stands
  pub shown_end : (new : Spot) (end : PlayEnd) (k : ℕ) → more ≡ suc k → Steps now new (Some end) → (bytes : List ℕ) → first.left ≡ Some bytes → IsEnded first bytes limit new end
  shown_end new end k one steps bytes told =
      let so_told = so_far.told bytes told in
      let step = steps so_told.rest so_told.left_is in
      let gives : first_from now.walk so_told.rest more ≡ record { moments = step.stops.moments; stand = stand_of end; state = at new.walk.store step.rest } =
      ap (first_from now.walk so_told.rest) one ∙ step.stops.run k in
      let state : (first_from first.walk bytes limit).state ≡ at new.walk.store step.rest = so_told.state ∙ ap (λ (o : Outcome). o.state) gives in
      record {
        stand = sym (so_told.stand ∙ ap (λ (o : Outcome). o.stand) gives);
        store = sym (ap (λ (s : State). s.store) state);
        left_is = step.left_is ∙ ap Some (sym (ap (λ (s : State). s.answers) state));
        written = (λ table has.
            let none : transcript table (first_from now.walk so_told.rest more).moments ≡ [] = ap (λ (o : Outcome). transcript table o.moments) gives ∙ step.stops.nothing table in
            let all = IsWritten-turned first.written now.written new.written first.faults now.faults new.faults _ now.kept (transcript table (first_from now.walk so_told.rest more).moments)
            new.kept (so_told.written table has) step.hands in
            subst (λ (l : List ℕ). IsWritten first.written new.written first.faults new.faults (transcript table (first_from first.walk bytes limit).moments) l)
            (ap (λ l. new.kept ++ l) none ∙ append-nil new.kept) all);
      }

  -- the limit is reached
  pub shown_limit : more ≡ 0 → (bytes : List ℕ) → first.left ≡ Some bytes → IsEnded first bytes limit now named.Limit
  shown_limit over bytes told =
      let so_told = so_far.told bytes told in
      let gives = ap (first_from now.walk so_told.rest) over in
      let state : (first_from first.walk bytes limit).state ≡ at now.walk.store so_told.rest = so_told.state ∙ ap (λ (o : Outcome). o.state) gives in
      record {
        stand = sym (so_told.stand ∙ ap (λ (o : Outcome). o.stand) gives);
        store = sym (ap (λ (s : State). s.store) state);
        left_is = so_told.left_is ∙ ap Some (sym (ap (λ (s : State). s.answers) state));
        written = (λ table has.
            subst (λ (l : List ℕ). IsWritten first.written now.written first.faults now.faults (transcript table (first_from first.walk bytes limit).moments) l)
            (ap (λ (o : Outcome). now.kept ++ transcript table o.moments) gives ∙ append-nil now.kept) (so_told.written table has));
      }

module _ (first : Spot) (bytes : List ℕ) (limit : ℕ) (now : Spot) (end : PlayEnd) (ended : IsEnded first bytes limit now end) where
  -- what is kept is handed over
  pub ended_played : (played : Played) → played.end ≡ end → played.store ≡ now.walk.store → IsPlayed (first_from first.walk bytes limit) played now.left
  ended_played played same store = record { stand = ap stand_of same ∙ ended.stand; store = store ∙ ended.store; left_is = ended.left_is }

  pub ended_writes : (newer : Option (List ℕ)) → newer ≡ append_known now.written now.kept → Writes first.walk (first_from first.walk bytes limit) first.written newer
  ended_writes newer e table has =
      let so_written = ended.written table has in
      e ∙ ap (λ known. append_known known now.kept) so_written.after ∙ append_known-append first.written so_written.taken now.kept ∙ ap (append_known first.written) so_written.split

  -- the writing stops within what is kept
  pub ended_stops : (newer : Option (List ℕ)) → WritesPart now.written newer now.kept → WritesSome first.walk (first_from first.walk bytes limit) first.written newer
  ended_stops newer part table has =
      IsWritten-stops first.written now.written newer first.faults now.faults _ _ now.kept [] (ended.written table has) (sym (append-nil now.kept)) part
