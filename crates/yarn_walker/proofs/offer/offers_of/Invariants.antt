use Rattle.std.proofs.Common.{◌≡◌, ℕ, List, [], ◌++◌, map, drop}
use Rattle.yarn_blocks.specs.View.{options_of}
use Rattle.yarn_code.specs.declared.event.Choice.{Choice}
use Rattle.yarn_code.specs.Moments.{State}
use Rattle.yarn_meaning.specs.Does.{Done, with_choices}
use Rattle.yarn_walker.specs.States.{at, no_hosts}
use Rattle.yarn_walker.specs.Offers.{all_shown, texts_of}
use Rattle.yarn_walker.proofs.offer.offers_of.Given as goal

-- behind the offers so far, the options that are left do what all do, and have the texts that are left
abbrev pub invariant-loop-option : goal.invariant-loop-option
invariant-loop-option l =
    record {
      meaning : (answers : List ℕ) (next : List Choice → State → Done) →
          with_choices no_hosts (options_of l.options) [] (at l.store answers) next
          ≡ with_choices no_hosts (options_of (drop l.option-index l.options)) (all_shown l.offers.items) (at l.store answers) next;
      texts : map (λ offer. offer.text.now) l.offers.items ++ texts_of (options_of (drop l.option-index l.options)) ≡ texts_of (options_of l.options);
    }
