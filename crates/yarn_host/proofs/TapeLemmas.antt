-- What a tape tells of one ask, and of one course after another.
use Rattle.std.proofs.Common.{◌≡◌, ℕ, zero, suc, ◌+◌, List, [], ◌∷◌, ◌++◌, length, map, Bool, true, false, nat_eq, Option, Some, None, Result, Ok, Err, ◌⊎◌, inl, inr, refl, sym, ap, subst, ◌∙◌, arith, append_assoc, append-nil, length-append, add-zero, add-suc}
use Rattle.std.specs.Cmp.Lexicographic.{pointwise, same_text, other_text}
use Rattle.std.proofs.lemmas.List.{map-append}
use Rattle.std.proofs.lemmas.List.Elements.{filter-append}
use Rattle.yarn_base.specs.Calls.{one_more}
use Rattle.yarn_value.specs.declared.value.Value.{Value}
use Rattle.yarn_value.specs.declared.reply.Reply.{Reply}
use Rattle.yarn_value.specs.Tape.{Tape}
use Rattle.yarn_host.specs.declared.table.AskFault.{AskFault}
use Rattle.yarn_host.specs.declared.table.AskFault.TheVariants as fault
use Rattle.yarn_host.specs.Known.{counted, append_known, prepend_known}
use Rattle.yarn_host.specs.Meaning.{Meaning}
use Rattle.yarn_host.specs.Names.{meaning_of}
use Rattle.yarn_host.specs.Hosts.{Hosts}
use Rattle.yarn_host.specs.Calls.{Gives, Fails, Loses}
use Rattle.yarn_host.specs.Asks.{entry, Between, Asks, Replies, FailsAt, LosesAt, Asked}
use Rattle.yarn_host.specs.Tape.{Course, Replied, Failed, Lost, Last, Nothing, last_of, entries_of, Answered, Follows, TapeTells, added_by, course_by}
use Rattle.yarn_host.specs.Laws.{CoursesCompose}

prepend_known-nil : {A : Type 0} (known : Option (List A)) → known ≡ prepend_known [] known
prepend_known-nil None = refl
prepend_known-nil (Some xs) = refl

append_known-nil : {A : Type 0} (known : Option (List A)) → known ≡ append_known known []
append_known-nil None = refl
append_known-nil (Some xs) = ap Some (sym (append-nil xs))

prepend_known-append : {A : Type 0} (xs ys : List A) (known : Option (List A)) → prepend_known xs (prepend_known ys known) ≡ prepend_known (xs ++ ys) known
prepend_known-append xs ys None = refl
prepend_known-append xs ys (Some zs) = ap Some (sym (append_assoc xs ys zs))

append_known-append : {A : Type 0} (known : Option (List A)) (xs ys : List A) → append_known (append_known known xs) ys ≡ append_known known (xs ++ ys)
append_known-append None xs ys = refl
append_known-append (Some zs) xs ys = ap Some (append_assoc zs xs ys)

counted-append : (xs ys : Tape) (count : ℕ) → counted (length ys) (counted (length xs) count) ≡ counted (length (xs ++ ys)) count
counted-append xs ys count = rw (length-append xs ys) (counted-sum (length xs) (length ys) count)
  where
    counted-sum : (m n count : ℕ) → counted n (counted m count) ≡ counted (m + n) count
    counted-sum m zero count = rw (add-zero m) refl
    counted-sum m (suc n) count = rw (add-suc m n) (ap one_more (counted-sum m n count))

nothing_before : (xs ys : Tape) → xs ++ ys ≡ [] → xs ≡ []
nothing_before [] ys e = refl
nothing_before (x ∷ xs) ys e = absurd cc

nothing_behind : (xs ys : Tape) → xs ++ ys ≡ [] → ys ≡ []
nothing_behind [] ys e = e
nothing_behind (x ∷ xs) ys e = absurd cc

-- ---- one function

pub answered_nothing : (m : Meaning) → Answered [] m m
answered_nothing m = record {
  left = prepend_known-nil m.left;
  came = append_known-nil m.came;
  asked = refl;
  later = omega arith;
  test = refl;
  idle = λ e. refl;
}

answered_one : (e : Reply) (old new : Meaning) → Gives old new e.args e.value → Answered (e ∷ []) old new
answered_one e old new gives = record {
  left = gives.left;
  came = gives.came;
  asked = gives.asked;
  later = gives.later;
  test = gives.test;
  idle = λ none. absurd cc;
}

answered_append : (xs ys : Tape) (old mid new : Meaning) → Answered xs old mid → Answered ys mid new → Answered (xs ++ ys) old new
answered_append xs ys old mid new first second = record {
  left = first.left ∙ ap (prepend_known (map (λ r. r.value) xs)) second.left
      ∙ prepend_known-append (map (λ r. r.value) xs) (map (λ r. r.value) ys) new.left
      ∙ ap (λ l. prepend_known l new.left) (sym (map-append (λ r. r.value) xs ys));
  came = second.came ∙ ap (λ known. append_known known (map (λ r. r.args) ys)) first.came
      ∙ append_known-append old.came (map (λ r. r.args) xs) (map (λ r. r.args) ys)
      ∙ ap (append_known old.came) (sym (map-append (λ r. r.args) xs ys));
  asked = second.asked ∙ ap (counted (length ys)) first.asked ∙ counted-append xs ys old.asked;
  later = omega (arith, first.later, second.later);
  test = second.test ∙ first.test;
  idle = λ none. second.idle (nothing_behind xs ys none) ∙ first.idle (nothing_before xs ys none);
}

-- ---- one name

follows_nothing : (m : Option Meaning) → Follows [] Nothing m m
follows_nothing None = (refl, refl)
follows_nothing (Some m) = record { between = m; answered = answered_nothing m; ends = refl }

follows_append : (xs ys : Tape) (last : Last) (old mid new : Option Meaning) → Follows xs Nothing old mid → Follows ys last mid new →
    Follows (xs ++ ys) last old new
follows_append xs ys last None None None first second = rw first.0 second
follows_append xs ys last None None (Some n) first second = absurd second
follows_append xs ys last None (Some m) new first second = absurd first
follows_append xs ys last (Some o) None new first second = absurd first
follows_append xs ys last (Some o) (Some m) None first second = absurd second
follows_append xs ys last (Some o) (Some m) (Some n) first second = record {
  between = second.between;
  answered = answered_append xs ys o m second.between (subst (Answered xs o) (sym first.ends) first.answered) second.answered;
  ends = second.ends;
}

-- ---- one course after another

pub tells_nothing : (hosts : Hosts) → TapeTells hosts hosts [] Replied
tells_nothing hosts = record {
  signatures = refl;
  tape = sym (append-nil hosts.tape);
  each = λ name. follows_nothing (meaning_of hosts.signatures hosts.meanings name);
}

pub tells_append : CoursesCompose
tells_append old mid new added more course first second = record {
  signatures = second.signatures ∙ first.signatures;
  tape = second.tape ∙ ap (λ tape. tape ++ more) first.tape ∙ append_assoc old.tape added more;
  each = λ name. rw (filter-append (λ e. pointwise nat_eq e.name name) added more)
      (follows_append (entries_of name added) (entries_of name more) (last_of course name)
      (meaning_of old.signatures old.meanings name) (meaning_of mid.signatures mid.meanings name)
      (meaning_of new.signatures new.meanings name) (first.each name) (second.each name));
}

-- ---- one ask

module _ (old new : Hosts) (name : List ℕ) (args : List Value) where
  -- what follows for each name, by whether it is the one that was asked
  each_name : (added : Tape) (course : Course) (Goes : Meaning → Meaning → Type 0) → Asks old new name Goes →
      ((other : List ℕ) → pointwise nat_eq name other ≡ false → (entries_of other added ≡ []) × (last_of course other ≡ Nothing)) →
      ((other : List ℕ) → pointwise nat_eq name other ≡ true → (before after : Meaning) → Goes before after → Follows (entries_of other added) (last_of course other) (Some before) (Some after)) →
      (other : List ℕ) → Follows (entries_of other added) (last_of course other)
      (meaning_of old.signatures old.meanings other) (meaning_of new.signatures new.meanings other)
  each_name added course Goes asks apart there other = by_test (pointwise nat_eq name other) refl
    where
      alike : (before after : Option Meaning) → pointwise nat_eq name other ≡ true → Between Goes before after → Follows (entries_of other added) (last_of course other) before after
      alike None after is b = absurd b
      alike (Some before) None is b = absurd b
      alike (Some before) (Some after) is b = there other is before after b

      by_test : (b : Bool) → pointwise nat_eq name other ≡ b → Follows (entries_of other added) (last_of course other)
          (meaning_of old.signatures old.meanings other) (meaning_of new.signatures new.meanings other)
      by_test true is = alike _ _ is
          (subst (λ n. Between Goes (meaning_of old.signatures old.meanings n) (meaning_of new.signatures new.meanings n)) (same_text name other (sym is)) asks.this)
      by_test false is =
          let none = apart other is in
          rw (none.0, none.1, asks.others other (λ e. other_text name other (sym is) (sym e))) (follows_nothing (meaning_of old.signatures old.meanings other))

  replies_tell : (value : Value) → Replies old new name args value → TapeTells old new (entry name args value ∷ []) Replied
  replies_tell value r = record {
    signatures = r.asks.signatures;
    tape = r.tape;
    each = each_name (entry name args value ∷ []) Replied (λ before after. Gives before after args value) r.asks
        (λ other is. (rw is refl, refl))
        (λ other is before after gives. rw is (record { between = after; answered = answered_one (entry name args value) before after gives; ends = refl }));
  }

  fails_tells : FailsAt old new name args → TapeTells old new [] (Failed name args)
  fails_tells f = record {
    signatures = f.asks.signatures;
    tape = f.tape ∙ sym (append-nil old.tape);
    each = each_name [] (Failed name args) (λ before after. Fails before after args) f.asks
        (λ other is. (refl, rw is refl))
        (λ other is before after fails. rw is (record { between = before; answered = answered_nothing before; ends = fails }));
  }

  -- nothing happened, but the function is there
  stays_tells : (m : Meaning) → meaning_of old.signatures old.meanings name ≡ Some m → new ≡ old → TapeTells old new [] (Lost name args)
  stays_tells m there same = rw same (record {
    signatures = refl;
    tape = sym (append-nil old.tape);
    each = λ other. by_test other (pointwise nat_eq name other) refl;
  })
    where
      by_test : (other : List ℕ) (b : Bool) → pointwise nat_eq name other ≡ b →
          Follows [] (last_of (Lost name args) other) (meaning_of old.signatures old.meanings other) (meaning_of old.signatures old.meanings other)
      by_test other true is =
          let here : meaning_of old.signatures old.meanings other ≡ Some m = subst (λ n. meaning_of old.signatures old.meanings n ≡ Some m) (same_text name other (sym is)) there in
          rw (is, here) (record { between = m; answered = answered_nothing m; ends = inl refl })
      by_test other false is = rw is (follows_nothing (meaning_of old.signatures old.meanings other))

  loses_tells : (m : Meaning) → meaning_of old.signatures old.meanings name ≡ Some m → LosesAt old new name args → TapeTells old new [] (Lost name args)
  loses_tells m there l = by_cases l.asks
    where
      by_cases : (new ≡ old) ⊎ Asks old new name (λ before after. Loses before after args) → TapeTells old new [] (Lost name args)
      by_cases (inl same) = stays_tells m there same
      by_cases (inr asks) = record {
        signatures = asks.signatures;
        tape = l.tape ∙ sym (append-nil old.tape);
        each = each_name [] (Lost name args) (λ before after. Loses before after args) asks
            (λ other is. (refl, rw is refl))
            (λ other is before after loses. rw is (record { between = before; answered = answered_nothing before; ends = inr loses }));
      }

  -- what the tape tells of an ask, by its answer
  pub ask_tells : (m : Meaning) → meaning_of old.signatures old.meanings name ≡ Some m → (result : Result Value AskFault) →
      Asked old new name args result → TapeTells old new (added_by name args result) (course_by name args result)
  ask_tells m there (Ok value) asked = replies_tell value asked.0
  ask_tells m there (Err fault.Failed) asked = fails_tells asked
  ask_tells m there (Err (fault.WrongType value)) asked = replies_tell value asked.0
  ask_tells m there (Err fault.Memory) asked = loses_tells m there asked
