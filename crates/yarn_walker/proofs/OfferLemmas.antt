-- What an evaluation gives on its line, and the options of a group that are left.
use Rattle.std.proofs.Common.{◌≡◌, ℕ, ◌+◌, ◌<◌, Bool, true, false, if◌then◌else◌, List, [], ◌∷◌, ◌++◌, length, get_or, drop, Result, Ok, Err, refl, sym, ap, ◌∙◌, subst}
use Rattle.std.specs.Prelude.{⊤, ◌||◌}
use Rattle.std.specs.List.{list_any}
use Rattle.std.proofs.lemmas.List.{at_drop_more}
use Rattle.yarn_value.specs.declared.fault.OpFault.{OpFault}
use Rattle.yarn_value.specs.declared.fault.OpFault.TheVariants as op
use Rattle.yarn_value.specs.declared.fault.RunFault.{RunFault}
use Rattle.yarn_blocks.specs.declared.tree.OptionItem.{OptionItem}
use Rattle.yarn_blocks.specs.Tree.{Offered, Options, AndOption}
use Rattle.yarn_blocks.specs.View.{stmts_of, options_of}
use Rattle.yarn_code.specs.declared.event.Choice.{Choice}
use Rattle.yarn_code.specs.Moments.{State}
use Rattle.yarn_value.specs.Pairs.{Pairs}
use Rattle.yarn_value.specs.Evaluation.{Evaluated, Gives, Halts, Faults}
use Rattle.yarn_meaning.specs.Does.{Done, Halted, done, using, choice_of, with_choices}
use Rattle.yarn_code.specs.Answers.{any_open}
use Rattle.yarn_walker.specs.States.{at, no_hosts}
use Rattle.yarn_walker.specs.Means.{Means, IsAtLine}
use Rattle.yarn_walker.specs.Offers.{all_shown, Offers, OffersOne}
use Rattle.yarn_walker.specs.declared.offer.Offer.{Offer}
use Rattle.yarn_walker.specs.declared.halt.Halt.{Halt}
use Rattle.yarn_walker.specs.declared.halt.Halt.TheVariants as halt

-- the value that is meant, or the fault on that line
abbrev pub MeansAt : {A : Type 0} → Evaluated A → ℕ → Result A Halt → Type 0
MeansAt meant line (Ok value) = meant ≡ Gives value []
MeansAt meant line (Err (halt.Fault at fault)) = (at ≡ line) × (meant ≡ Halts (Faults fault) [])
MeansAt meant line (Err halt.Memory) = ⊤

pub means_at : {A : Type 0} (meant : Evaluated A) (line : ℕ) (r : Result A OpFault) (out : Result A Halt) →
    Means meant r → IsAtLine line r out → MeansAt meant line out
means_at meant line (Ok value) out m is = subst (MeansAt meant line) (sym is) m
means_at meant line (Err (op.Run fault)) out m is = subst (MeansAt meant line) (sym is) (refl, m)
means_at meant line (Err op.Memory) out m is = subst (MeansAt meant line) (sym is) tt

-- what goes on with a value that isn't there
pub using_halts : {A : Type 0} (meant : Evaluated A) (line at_line : ℕ) (fault : RunFault) (store : Pairs) (next : A → State → Done) →
    MeansAt meant line (Err (halt.Fault at_line fault)) → (answers : List ℕ) →
    using line meant (at store answers) next ≡ done (Halted at_line (Faults fault)) (at store answers)
using_halts meant line at_line fault store next m answers =
    ap (λ x. using line x (at store answers) next) m.1 ∙ ap (λ n. done (Halted n (Faults fault)) (at store answers)) (sym m.0)

-- ---- options

abbrev pub offered : OptionItem → Offered
offered option = record { text = option.text; condition = option.condition }

-- the options that are left, and the first of them
pub options_left : (os : List OptionItem) (i : ℕ) (o : OptionItem) → i < length os → o ≡ get_or os i o →
    options_of (drop i os) ≡ AndOption (offered o) (stmts_of o.body) (options_of (drop (i + 1) os))
options_left os i o lt is = at_drop_more options_of os i o lt ∙ ap (λ p. options_of (p ∷ drop (i + 1) os)) (sym is)

one_means : (option : OptionItem) (store : Pairs) (r : Result Offer OpFault) (e : Halt) →
    OffersOne option store r → IsAtLine option.text.line r (Err e) → MeansAt (choice_of no_hosts (offered option) store []) option.text.line (Err e)
one_means option store (Ok offer) e means is = cc
one_means option store (Err (op.Run fault)) e means is =
    let same : e ≡ halt.Fault option.text.line fault = cc in
    subst (λ h. MeansAt (choice_of no_hosts (offered option) store []) option.text.line (Err h)) (sym same) (refl, means)
one_means option store (Err op.Memory) e means is =
    let same : e ≡ halt.Memory = cc in
    subst (λ h. MeansAt (choice_of no_hosts (offered option) store []) option.text.line (Err h)) (sym same) tt

-- the group does what the options that are left do behind those that are shown, and the first that is left has no value
pub offers_halt : (all left : Options) (shown : List Choice) (option : OptionItem) (more : Options) (store : Pairs) (r : Result Offer OpFault)
    (e : Halt) → ((answers : List ℕ) (next : List Choice → State → Done) →
    with_choices no_hosts all [] (at store answers) next ≡ with_choices no_hosts left shown (at store answers) next) →
    left ≡ AndOption (offered option) (stmts_of option.body) more →
    OffersOne option store r → IsAtLine option.text.line r (Err e) → Offers all store (Err e)
offers_halt all left shown option more store r (halt.Fault line fault) same first means is =
    λ answers next. same answers next ∙ ap (λ os. with_choices no_hosts os shown (at store answers) next) first
    ∙ using_halts (choice_of no_hosts (offered option) store []) option.text.line line fault store
    (λ c st1. with_choices no_hosts more (shown ++ c ∷ []) st1 next) (one_means option store r (halt.Fault line fault) means is) answers
offers_halt all left shown option more store r halt.Memory same first means is = tt

-- ---- whether one can be chosen

shown_or : (b : Bool) {c d : Bool} → c ≡ d → (b || c) ≡ (if b then true else d)
shown_or true e = refl
shown_or false e = e

pub any_shown : (offers : List Offer) → list_any (λ (offer : Offer). offer.available) offers ≡ any_open (all_shown offers)
any_shown [] = refl
any_shown (offer ∷ offers) = shown_or offer.available (any_shown offers)
