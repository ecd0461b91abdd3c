-- What one turn and one answer of a walk come to.
use Rattle.std.proofs.Common.{◌≡◌, ℕ, suc, List, [], ◌∷◌, ◌++◌, codes, append-nil, length, take, map, All, false, true, ◌⊎◌, inl, inr, Option, Some, None, Result, Ok, Err, IfOk, ◌≤◌, refl, sym, ap, ◌∙◌, subst, arith, append_assoc, take-append-drop}
use Rattle.std.specs.Io.KnownBytes.{prepend_known, append_known}
use Rattle.yarn_tree.specs.Trees.{file_tree}
use Rattle.yarn_walker.specs.declared.titles.Titles.{Titles}
use Rattle.yarn_base.proofs.Written.{IsWritten, append_known-nil}
use Rattle.yarn_code.specs.Answer.{Answered, answered, answer_of, taken}
use Rattle.yarn_code.specs.Taking.{TakesAnswer, TakesAs}
use Rattle.yarn_code.specs.declared.event.Event.{Event}
use Rattle.yarn_code.specs.declared.event.Event.TheVariants as event
use Rattle.std.specs.Borrow.{Bor}
use Rattle.yarn_value.specs.declared.value.Value.{Value}
use Rattle.yarn_blocks.specs.declared.tree.LineText.{LineText}
use Rattle.yarn_code.specs.Moments.{moment}
use Rattle.yarn_meaning.specs.Texts.{Table, Tells}
use Rattle.yarn_meaning.specs.Filled.{filled}
use Rattle.yarn_walker.specs.States.{at}
use Rattle.yarn_walker.specs.Offers.{all_shown}
use Rattle.yarn_walker.specs.Walk.{coming, files_of, Gives, Turns, TellsTurn, WithTexts, IsChosen, Waits}
use Rattle.yarn_walker.specs.declared.offer.Offer.{Offer}
use Rattle.yarn_walker.specs.declared.walk.Turn.{Turn}
use Rattle.yarn_walker.specs.declared.walk.Turn.TheVariants as turn
use Rattle.yarn_walker.specs.declared.walk.Walk.{Walk}
use Rattle.yarn_player.specs.Played.{TakesFront}
use Rattle.yarn_player.specs.Shown.{offers_text}
use Rattle.yarn_player.specs.Steps.{Takes, NoAnswer, Answer, Shows, ShowsEvent, ShowsEnd, Spot, Steps, GivesEnd, Hands}
use Rattle.yarn_player.specs.Transcript.{ended, options_text, shown}
use Rattle.yarn_player.specs.declared.ends.PlayEnd.{PlayEnd}
use Rattle.yarn_player.specs.declared.ends.PlayEnd.TheVariants as named

-- ---- known bytes

prepend_known-append : (known : Option (List ℕ)) (xs ys : List ℕ) →
    prepend_known xs (prepend_known ys known) ≡ prepend_known (xs ++ ys) known
prepend_known-append None xs ys = refl
prepend_known-append (Some zs) xs ys = ap Some (sym (append_assoc xs ys zs))

prepend_known-nil : (known : Option (List ℕ)) → prepend_known [] known ≡ known
prepend_known-nil None = refl
prepend_known-nil (Some zs) = refl

-- ---- turns

-- the options' texts are those of the table
pub offers_text-told : (table : Table) (n : ℕ) (offers : List Offer) → All (λ (offer : Offer). Tells table offer.text.now) offers →
    offers_text n offers ≡ options_text table n (all_shown offers)
offers_text-told table n [] told = refl
offers_text-told table n (o ∷ os) told =
    let text : table o.text.now.id ≡ o.text.now.text = told 0 o (omega arith) in
    let rest = offers_text-told table (suc n) os (λ k d lt. told (suc k) d (omega (arith, lt))) in
    rw (text, rest) refl

module _ (old : Walk) (kept : List ℕ) (new : Walk) (now : List ℕ) where
  pub ShowsEvent-given : (e : Event) → Gives (coming old) e new → WithTexts (files_of old) (λ table. now ≡ kept ++ shown table e) →
      ShowsEvent NoAnswer old kept new now
  ShowsEvent-given e gives shows = record { event = e; next = (λ bytes rest same k. rw same (gives bytes k)); shows = shows }

  -- the same by the turn that the walk gave
  pub line_shown : (t : Turn) (text : Bor LineText) (values : List Value) → t ≡ turn.Line text values → Turns old t new → TellsTurn old t new →
      now ≡ kept ++ ended (filled text.now.text values) → ShowsEvent NoAnswer old kept new now
  line_shown t text values is turns tells grows =
      ShowsEvent-given (event.Line text.now.id values) (subst (λ (t1 : Turn). Turns old t1 new) is turns)
      (λ table told. let own : table text.now.id ≡ text.now.text = subst (λ (t1 : Turn). TellsTurn old t1 new) is tells table told in rw own grows)

  pub command_shown : (t : Turn) (text : Bor LineText) (values : List Value) → t ≡ turn.Command text values → Turns old t new →
      now ≡ kept ++ ended (codes "<<" ++ (filled text.now.text values ++ codes ">>")) → ShowsEvent NoAnswer old kept new now
  command_shown t text values is turns grows =
      ShowsEvent-given (event.Command (filled text.now.text values)) (subst (λ (t1 : Turn). Turns old t1 new) is turns) (λ table told. grows)

  pub options_shown : (t : Turn) → t ≡ turn.Options → Turns old t new → TellsTurn old t new → now ≡ kept ++ offers_text 1 new.offers.items →
      ShowsEvent NoAnswer old kept new now
  options_shown t is turns tells grows =
      ShowsEvent-given (event.Options (all_shown new.offers.items)) (subst (λ (t1 : Turn). Turns old t1 new) is turns)
      (λ table told. grows ∙ ap (λ l. kept ++ l) (offers_text-told table 1 new.offers.items (subst (λ (t1 : Turn). TellsTurn old t1 new) is tells table told)))

  pub quiet_shown : (t : Turn) → ((title : Bor (List ℕ)) × (t ≡ turn.NodeStart title)) ⊎ ((title : Bor (List ℕ)) × (t ≡ turn.NodeEnd title)) → Turns old t new →
      now ≡ kept → ShowsEvent NoAnswer old kept new now
  quiet_shown t (inl (title, is)) turns same =
      ShowsEvent-given (event.NodeStart title.now) (subst (λ (t1 : Turn). Turns old t1 new) is turns) (λ table told. same ∙ sym (append-nil kept))
  quiet_shown t (inr (title, is)) turns same =
      ShowsEvent-given (event.NodeEnd title.now) (subst (λ (t1 : Turn). Turns old t1 new) is turns) (λ table told. same ∙ sym (append-nil kept))

  -- the end of the conversation
  pub end_shown : (t : Turn) → t ≡ turn.End → Turns old t new → now ≡ kept → ShowsEnd NoAnswer old kept named.Ended new now
  end_shown t is turns same = record {
    stops = (λ bytes rest taken. record {
      moments = moment event.End (at new.store rest) ∷ [];
      nothing = (λ table. refl);
      run = (λ k. rw taken (subst (λ (t1 : Turn). Turns old t1 new) is turns bytes k));
    });
    stays = same;
  }

  -- a rejected answer
  pub ShowsEvent-rejected : (number : ℕ) → IsChosen false number old new → ((table : Table) → now ≡ kept ++ shown table event.Rejected) →
      ShowsEvent (Answer number) old kept new now
  ShowsEvent-rejected number rejects shows = record { event = event.Rejected; next = (λ bytes rest answers k. rejects bytes rest k answers); shows = (λ table told. shows table) }

-- ---- answers

-- a walk keeps its files
pub files_same : (old mid : Walk) → mid.titles ≡ old.titles → files_of mid ≡ files_of old
files_same old mid e = ap (λ (t : Titles). map file_tree t.files.now) e

module _ (number : ℕ) (old mid : Walk) (kept : List ℕ) (new : Walk) (now : List ℕ) (chosen : IsChosen true number old mid) (same : mid.titles ≡ old.titles) where
  -- what is shown behind a chosen answer
  pub Shows-chosen : (end : Option PlayEnd) → Shows NoAnswer mid kept end new now → Shows (Answer number) old kept end new now
  Shows-chosen None shows = record {
    event = shows.event;
    next = (λ bytes rest answers k. chosen bytes rest k answers ∙ shows.next rest rest refl k);
    shows = subst (λ files. WithTexts files (λ table. now ≡ kept ++ shown table shows.event)) (files_same old mid same) shows.shows;
  }
  Shows-chosen (Some end) shows = record {
    stops = (λ bytes rest answers.
        let stops = shows.stops rest rest refl in
        record { moments = stops.moments; nothing = stops.nothing; run = (λ k. chosen bytes rest k answers ∙ stops.run k) });
    stays = shows.stays;
  }

-- what follows of each value
pub IfOk-then : {T E : Type 0} (result : Result T E) (P Q : T → Type 0) → ((x : T) → P x → Q x) → IfOk result P → IfOk result Q
IfOk-then (Ok x) P Q f h = f x h
IfOk-then (Err e) P Q f h = tt

-- ---- what is taken

-- nothing was taken
pub TakesFront-none : (left : Option (List ℕ)) → TakesFront left left
TakesFront-none left = record { front = []; split = sym (prepend_known-nil left) }

-- a front was taken, and then another
pub TakesFront-more : (old mid new : Option (List ℕ)) → TakesFront old mid → TakesFront mid new → TakesFront old new
TakesFront-more old mid new first second = record {
  front = first.front ++ second.front;
  split = first.split ∙ ap (prepend_known first.front) second.split ∙ prepend_known-append new first.front second.front;
}

-- the bytes that the answer takes, and those that are left
answer_split : (bytes : List ℕ) (a : Answered) → answer_of bytes ≡ Some a → (front : List ℕ) × (bytes ≡ front ++ a.rest)
unfolding answer_of
answer_split [] a is = cc
answer_split (b ∷ bytes) a is =
    let same : answered (b ∷ bytes) ≡ a = cc in
    let n = length (taken (b ∷ bytes)) in
    (take n (b ∷ bytes), sym (take-append-drop n (b ∷ bytes)) ∙ ap (λ (x : Answered). take n (b ∷ bytes) ++ x.rest) same)

takes_as : (bytes : List ℕ) (o : Option Answered) (new : Option (List ℕ)) (result : Option ℕ) → answer_of bytes ≡ o → TakesAs o bytes new result → TakesFront (Some bytes) new
takes_as bytes None new result is takes = subst (λ (n : Option (List ℕ)). TakesFront (Some bytes) n) (sym takes.1) (TakesFront-none (Some bytes))
takes_as bytes (Some a) new result is takes =
    let split = answer_split bytes a is in
    record { front = split.0; split = rw takes.1 (ap Some split.1) }

-- an answer takes a front of the bytes that are told
pub TakesFront-answer : (bytes : List ℕ) (new : Option (List ℕ)) (result : Option ℕ) → TakesAnswer (Some bytes) new result → TakesFront (Some bytes) new
TakesFront-answer bytes new result takes = takes_as bytes (answer_of bytes) new result refl takes

-- ---- steps

-- what is shown of the walk is a step, where what was kept is handed over or stays
module _ (takes : Takes) (old new : Spot) (kept : List ℕ) where
  Hands-more : (text : List ℕ) → IsWritten old.written new.written old.faults new.faults old.kept kept → new.kept ≡ kept ++ text → Hands old new (old.kept ++ text)
  Hands-more text so_far grows = record {
    taken = so_far.taken;
    split = ap (λ l. so_far.taken ++ l) grows ∙ sym (append_assoc so_far.taken kept text) ∙ ap (λ l. l ++ text) so_far.split;
    after = so_far.after;
    later = so_far.later;
  }

  pub Steps-shown : (end : Option PlayEnd) → Shows takes old.walk kept end new.walk new.kept → IsWritten old.written new.written old.faults new.faults old.kept kept →
      ((bytes : List ℕ) → old.left ≡ Some bytes → (rest : List ℕ) × (new.left ≡ Some rest) × takes bytes rest) → Steps old new end
  Steps-shown None shows so_far left = λ bytes told.
      let rest = left bytes told in
      record {
        event = shows.event;
        rest = rest.0;
        left_is = rest.1;
        next = shows.next bytes rest.0 rest.2;
        hands = (λ table has. Hands-more (shown table shows.event) so_far (shows.shows table has));
      }
  Steps-shown (Some end) shows so_far left = λ bytes told.
      let rest = left bytes told in
      record {
        rest = rest.0;
        left_is = rest.1;
        stops = shows.stops bytes rest.0 rest.2;
        hands = subst (λ (l : List ℕ). IsWritten old.written new.written old.faults new.faults old.kept l) (sym shows.stays) so_far;
      }

-- nothing is handed over, or all
pub IsWritten-same : (known : Option (List ℕ)) (count : ℕ) (kept : List ℕ) → IsWritten known known count count kept kept
IsWritten-same known count kept = record { taken = []; split = refl; after = sym (append_known-nil known); later = omega arith }

pub IsWritten-all : (old new : Option (List ℕ)) (before now : ℕ) (kept : List ℕ) → new ≡ append_known old kept → before ≤ now → IsWritten old new before now kept []
IsWritten-all old new before now kept e later = record { taken = kept; split = append-nil kept; after = e; later = later }

-- the number that was answered is that of the next answer
pub left_behind : (old new : Option (List ℕ)) (number : ℕ) → TakesAnswer old new (Some number) → (bytes : List ℕ) → old ≡ Some bytes →
    (rest : List ℕ) × (new ≡ Some rest) × Answer number bytes rest
left_behind old new number takes bytes told = behind bytes (answer_of bytes) refl (subst (λ (o : Option (List ℕ)). TakesAnswer o new (Some number)) told takes)
  where
    behind : (bytes : List ℕ) (o : Option Answered) → answer_of bytes ≡ o → TakesAs o bytes new (Some number) → (rest : List ℕ) × (new ≡ Some rest) × Answer number bytes rest
    behind bytes None is takes = cc (takes.0)
    behind bytes (Some a) is takes =
        let given = takes.0 in
        let n : number ≡ a.number = cc in
        (a.rest, takes.1, rw n is)

-- an answer is only missing where no bytes are left
none_left : (bytes : List ℕ) → answer_of bytes ≡ None → bytes ≡ []
unfolding answer_of
none_left [] is = refl
none_left (b ∷ bytes) is = cc

waits_as : (old new : Spot) (bytes : List ℕ) (o : Option Answered) → answer_of bytes ≡ o → TakesAs o bytes new.left None → new.walk ≡ old.walk → Waits old.walk →
    Hands old new old.kept → GivesEnd old new named.Waits bytes
waits_as old new bytes None is takes same waits hands =
    let e = none_left bytes is in
    record {
      rest = bytes;
      left_is = takes.1;
      stops = record { moments = []; nothing = (λ table. refl); run = (λ k. rw (same, e) (waits k)) };
      hands = hands;
    }
waits_as old new bytes (Some a) is takes same waits hands = cc (takes.0)

-- a group waits where no bytes are left
pub Steps-waits : (old new : Spot) → TakesAnswer old.left new.left None → new.walk ≡ old.walk → Waits old.walk → Hands old new old.kept → Steps old new (Some named.Waits)
Steps-waits old new takes same waits hands bytes told =
    waits_as old new bytes (answer_of bytes) refl (subst (λ (o : Option (List ℕ)). TakesAnswer o new.left None) told takes) same waits hands
