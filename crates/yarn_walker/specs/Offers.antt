-- The options of a group as they are shown.
use Rattle.std.specs.Prelude.{◌≡◌, ℕ, List, [], ◌∷◌, map, Result, Ok, Err, ⊤, Vec}
use Rattle.std.specs.declared.alloc.Global.{Global}
use Rattle.yarn_value.specs.declared.fault.OpFault.{OpFault}
use Rattle.yarn_blocks.specs.declared.tree.LineText.{LineText}
use Rattle.yarn_blocks.specs.declared.tree.OptionItem.{OptionItem}
use Rattle.yarn_blocks.specs.Tree.{Options, NoOptions, AndOption}
use Rattle.yarn_code.specs.declared.event.Choice.{Choice}
use Rattle.yarn_code.specs.Moments.{State}
use Rattle.yarn_value.specs.Pairs.{Pairs}
use Rattle.yarn_value.specs.Evaluation.{Faults}
use Rattle.yarn_meaning.specs.Does.{Done, Halted, done, with_choices, choice_of}
use Rattle.yarn_walker.specs.States.{at, no_hosts}
use Rattle.yarn_walker.specs.Means.{Means}
use Rattle.yarn_walker.specs.declared.offer.Offer.{Offer}
use Rattle.yarn_walker.specs.declared.halt.Halt.{Halt}
use Rattle.yarn_walker.specs.declared.halt.Halt.TheVariants as halt

-- the option that a player sees
abbrev pub shown_as : Offer → Choice
shown_as offer = record { id = offer.text.now.id; values = offer.values; available = offer.available }

abbrev pub all_shown : List Offer → List Choice
all_shown = map shown_as

abbrev pub one_shown : Result Offer OpFault → Result Choice OpFault
one_shown (Ok offer) = Ok (shown_as offer)
one_shown (Err fault) = Err fault

-- an option of the source is shown so, or its evaluation gives no value
abbrev pub OffersOne : OptionItem → Pairs → Result Offer OpFault → Type 0
OffersOne option store result = Means (choice_of no_hosts (record { text = option.text; condition = option.condition }) store []) (one_shown result)

-- a group is shown so, or an evaluation gives no value
abbrev pub Offers : Options → Pairs → Result (Vec Offer Global) Halt → Type 0
Offers os store (Ok offers) = (answers : List ℕ) (next : List Choice → State → Done) →
    with_choices no_hosts os [] (at store answers) next ≡ next (all_shown offers.items) (at store answers)
Offers os store (Err (halt.Fault line fault)) = (answers : List ℕ) (next : List Choice → State → Done) →
    with_choices no_hosts os [] (at store answers) next ≡ done (Halted line (Faults fault)) (at store answers)
Offers os store (Err halt.Memory) = ⊤

-- the texts of the group's options
abbrev pub texts_of : Options → List LineText
texts_of NoOptions = []
texts_of (AndOption n body os) = n.text ∷ texts_of os

-- they have the texts of the group's options
abbrev pub AreOf : Options → List Offer → Type 0
AreOf os offers = map (λ offer. offer.text.now) offers ≡ texts_of os
