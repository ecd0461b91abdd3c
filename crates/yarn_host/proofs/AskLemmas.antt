-- What an `ask` does to a table, from what the call of one function did.
use Rattle.std.proofs.Common.{◌≡◌, ℕ, List, [], ◌∷◌, ◌++◌, length, map, Bool, true, false, Option, Some, None, slice_get, slice_set as set, Result, Ok, Err, IfOk, IfErr, refl, sym, inl, inr, ◌∙◌}
use Rattle.std.proofs.lemmas.List.{length-map}
use Rattle.yarn_value.specs.declared.value.Value.{Value}
use Rattle.yarn_value.specs.declared.signature.Signature.{Signature}
use Rattle.yarn_value.specs.declared.reply.Reply.{Reply}
use Rattle.yarn_host.specs.declared.function.HostFault.TheVariants as fault
use Rattle.yarn_host.specs.declared.table.AskFault.{AskFault}
use Rattle.yarn_host.specs.declared.table.AskFault.TheVariants.{WrongType}
use Rattle.yarn_host.specs.Meaning.{Meaning}
use Rattle.yarn_value.specs.Signatures.{signature_named}
use Rattle.yarn_value.specs.Replies.{is_reply_of}
use Rattle.yarn_host.specs.Names.{place_of}
use Rattle.yarn_host.specs.Hosts.{Hosts}
use Rattle.yarn_host.specs.Calls.{Gives, Fails, Loses, CalledAt}
use Rattle.yarn_host.specs.Asks.{entry, Between, Asks, Replies, FailsAt, LosesAt, Asked}
use Rattle.yarn_host.proofs.NameLemmas.{meaning_of-at, meaning_of-set_this, meaning_of-set_other}

abbrev pub hosts : List Signature → List Meaning → List Reply → Hosts
hosts signatures meanings tape = record { signatures = signatures; meanings = meanings; tape = tape }

between : (Goes : Meaning → Meaning → Type 0) (old new : Option Meaning) (before after : Meaning) →
    old ≡ Some before → new ≡ Some after → Goes before after → Between Goes old new
between Goes old new before after was now goes = rw (was, now) goes

-- a reply that is lost
lost : (before after : Meaning) (args : List Value) (value : Value) → Gives before after args value → Loses before after args
lost before after args value gives = record {
  left = inr (value, gives.left);
  came = inr gives.came;
  asked = gives.asked;
  later = gives.later;
  test = gives.test;
}

module _ {B : Type 0} (m : B → Meaning) (signatures : List Signature) (old_ones new_ones : List B) (tape later : List Reply)
    (name : List ℕ) (args : List Value) (at : ℕ) (paired : length signatures ≡ length old_ones) (found : place_of signatures name ≡ Some at) where
  abbrev old : List Meaning
  old = map m old_ones

  abbrev new : List Meaning
  new = map m new_ones

  asks_at : (Goes : Meaning → Meaning → Type 0) (before after : Meaning) →
      slice_get old at ≡ Some before → new ≡ set old at after → Goes before after →
      Asks (hosts signatures old tape) (hosts signatures new later) name Goes
  asks_at Goes before after was now goes = record {
    signatures = refl;
    this = between Goes _ _ before after (meaning_of-at signatures old name at found ∙ was)
        (rw now (meaning_of-set_this signatures old name at after (paired ∙ sym (length-map old_ones m)) found)) goes;
    others = λ other apart. rw now (meaning_of-set_other signatures old name other at after found apart);
  }

  pub replies_at : (value noted : Value) (kept_name : List ℕ) (kept_args : List Value) → CalledAt old new at args (Ok value) →
      noted ≡ value → kept_name ≡ name → kept_args ≡ args → later ≡ tape ++ entry kept_name kept_args value ∷ [] →
      Replies (hosts signatures old tape) (hosts signatures new later) name args noted
  replies_at value noted kept_name kept_args c same same_name same_args e = rw same (record {
    asks = asks_at (λ before after. Gives before after args value) c.before c.after c.was c.now c.called;
    tape = e ∙ (λ i. tape ++ entry (same_name i) (same_args i) value ∷ []);
  })

  pub fails_at : CalledAt old new at args (Err fault.Failed) → later ≡ tape →
      FailsAt (hosts signatures old tape) (hosts signatures new later) name args
  fails_at c e = record {
    asks = asks_at (λ before after. Fails before after args) c.before c.after c.was c.now c.called;
    tape = e;
  }

  pub loses_at : CalledAt old new at args (Err fault.Memory) → later ≡ tape →
      LosesAt (hosts signatures old tape) (hosts signatures new later) name args
  loses_at c e = record {
    asks = inr (asks_at (λ before after. Loses before after args) c.before c.after c.was c.now c.called);
    tape = e;
  }

  pub loses_reply_at : (value : Value) → CalledAt old new at args (Ok value) → later ≡ tape →
      LosesAt (hosts signatures old tape) (hosts signatures new later) name args
  loses_reply_at value c e = record {
    asks = inr (asks_at (λ before after. Loses before after args) c.before c.after c.was c.now (lost c.before c.after args value c.called));
    tape = e;
  }

pub loses_nothing : (same : Hosts) (name : List ℕ) (args : List Value) → LosesAt same same name args
loses_nothing same name args = record { asks = inl refl; tape = refl }

-- a reply that was judged
pub judged_reply : (result : Result Value AskFault) (value : Value) (test : Bool) (old new : Hosts) (name : List ℕ) (args : List Value) →
    is_reply_of (signature_named old.signatures name) value ≡ test →
    IfOk result (λ same. (same ≡ value) × (test ≡ true)) → IfErr result (λ f. (f ≡ WrongType value) × (test ≡ false)) →
    Replies old new name args value → Asked old new name args result
judged_reply (Ok same) value test old new name args is ok err r = rw ok.0 (r, is ∙ ok.1)
judged_reply (Err f) value test old new name args is ok err r = rw err.0 (r, is ∙ err.1)
