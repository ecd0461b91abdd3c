-- What an answer does at a group that is shown.
use Rattle.std.proofs.Common.{◌≡◌, ℕ, zero, suc, ◌<◌, ◌≤◌, ◌-◌, Bool, true, false, nat_eq, if◌then◌else◌, List, [], ◌∷◌, ◌++◌, length, take, Option, Some, None, refl, sym, ap, subst, ◌∙◌, arith, append_assoc, get_or, Bor}
use Rattle.std.proofs.Math.ListN.{length-drop, length-map}
use Rattle.std.proofs.lemmas.List.Elements.{All-tail}
use Rattle.yarn_blocks.specs.declared.tree.Stmt.{Stmt}
use Rattle.yarn_blocks.specs.declared.tree.OptionItem.{OptionItem}
use Rattle.yarn_blocks.specs.Tree.{Stmts, Nil, Cons, Options, stmts_then}
use Rattle.yarn_blocks.specs.View.{stmts_of, options_of}
use Rattle.yarn_tree.specs.Trees.{FileTree}
use Rattle.yarn_code.specs.Answer.{Answered, answered, answer_of, taken, to_lf}
use Rattle.yarn_code.specs.declared.event.Event.{Event}
use Rattle.yarn_code.specs.declared.event.Event.TheVariants as event
use Rattle.yarn_code.specs.declared.event.Choice.{Choice}
use Rattle.yarn_code.specs.Moments.{State, Moment, moment, emit, with_answers}
use Rattle.yarn_value.specs.Pairs.{Pairs}
use Rattle.yarn_meaning.specs.Does.{Waiting, Done, done, showing, and_on, picked, waits, group_line, does_all, does_option}
use Rattle.yarn_code.specs.Answers.{is_open, chooses, less_one, at_answer, any_open}
use Rattle.yarn_meaning.specs.First.{Placed, after, exits_of, from}
use Rattle.yarn_meaning.specs.Texts.{Table, Tells, TellsAll, said_in, said_in_options}
use Rattle.yarn_walker.specs.declared.offer.Offer.{Offer}
use Rattle.yarn_walker.specs.Offers.{all_shown, texts_of, AreOf}
use Rattle.yarn_walker.specs.States.{at, no_hosts}
use Rattle.yarn_walker.specs.Walk.{piece_of, in_body, at_group, Opens}
use Rattle.yarn_walker.proofs.DeedLemmas.{prefixed_then, body_then}
use Rattle.yarn_walker.proofs.FuelLemmas.{emit_after}
use Rattle.yarn_walker.proofs.TurnLemmas.{All-front, All-behind}

-- ---- one after the other

pub shown_on : (e : Event) (st : State) (d : Done) (b : Stmts) (next : State → Done) → and_on (showing e st d) b next ≡ showing e st (and_on d b next)
shown_on e st d b next = prefixed_then (moment e st ∷ []) d b next

-- ---- more room than the answers take

length_to_lf : (b : ℕ) (bytes : List ℕ) → 0 < length (to_lf (b ∷ bytes))
unfolding to_lf
length_to_lf b bytes = one (nat_eq b 10)
  where
    one : (t : Bool) → 0 < length (if t then b ∷ [] else b ∷ to_lf bytes)
    one true = omega arith
    one false = omega arith

-- an answer takes a byte at least
pub answer_less : (bytes : List ℕ) (a : Answered) → answer_of bytes ≡ Some a → length a.rest < length bytes
unfolding answer_of taken
answer_less [] a is = absurd (cc)
answer_less (b ∷ bytes) a is =
    let one : 0 < length (taken (b ∷ bytes)) = length_to_lf b (take 4095 bytes) in
    let same : answered (b ∷ bytes) ≡ a = cc in
    let left : length a.rest ≡ length (b ∷ bytes) - length (taken (b ∷ bytes)) =
    ap (λ x. length x.rest) (sym same) ∙ length-drop {A = ℕ} (length (taken (b ∷ bytes))) (b ∷ bytes) in
    omega arith

answer_none : answer_of [] ≡ None
unfolding answer_of
answer_none = refl

at_none : (o : Option Answered) (d : Done) (f : ℕ → List ℕ → Done) → o ≡ None → at_answer o d f ≡ d
at_none None d f is = refl
at_none (Some a) d f is = absurd (cc)

at_same : (o : Option Answered) (d : Done) (f g : ℕ → List ℕ → Done) → ((a : Answered) → o ≡ Some a → f a.number a.rest ≡ g a.number a.rest) →
    at_answer o d f ≡ at_answer o d g
at_same None d f g same = refl
at_same (Some a) d f g same = same a refl

no_bytes : (bytes : List ℕ) → length bytes ≤ 0 → answer_of bytes ≡ None
no_bytes [] l = answer_none
no_bytes (b ∷ bytes) l = absurd (omega arith)

picked_none : (most : ℕ) (cs : List Choice) (st : State) (next : ℕ → State → Done) → length st.answers ≤ 0 →
    picked most cs st next ≡ done Waiting st
picked_none zero cs st next l = refl
picked_none (suc most) cs st next l = at_none (answer_of st.answers) (done Waiting st) _ (no_bytes st.answers l)

pub picked_same : (most more : ℕ) (cs : List Choice) (st : State) (next : ℕ → State → Done) →
    length st.answers ≤ most → length st.answers ≤ more → picked most cs st next ≡ picked more cs st next
picked_same zero more cs st next l m = sym (picked_none more cs st next l)
picked_same (suc most) zero cs st next l m = picked_none (suc most) cs st next m
picked_same (suc most) (suc more) cs st next l m =
    at_same (answer_of st.answers) (done Waiting st) _ _
    (λ a is. let less : length a.rest < length st.answers = answer_less st.answers a is in
    ap (λ d. if chooses a.number cs then next (less_one a.number) (with_answers a.rest st) else showing event.Rejected (with_answers a.rest st) d)
    (picked_same most more cs (with_answers a.rest st) next (omega arith) (omega arith)))

-- ---- an answer

waits_open : (line : ℕ) (cs : List Choice) (st : State) (next : ℕ → State → Done) → any_open cs ≡ true →
    waits line cs st next ≡ picked (length st.answers) cs st next
waits_open line cs st next is = rw is refl

module _ (cs : List Choice) (store : Pairs) (next : ℕ → State → Done) (number : ℕ) (rest : List ℕ) where
  picked_chosen : (bytes : List ℕ) → answer_of bytes ≡ Some (record { number = number; rest = rest }) → chooses number cs ≡ true →
      picked (length bytes) cs (at store bytes) next ≡ next (less_one number) (at store rest)
  picked_chosen [] is chosen = absurd (cc (answer_none))
  picked_chosen (b ∷ bytes) is chosen = rw (is, chosen) refl

  picked_rejected : (bytes : List ℕ) → answer_of bytes ≡ Some (record { number = number; rest = rest }) → chooses number cs ≡ false →
      picked (length bytes) cs (at store bytes) next ≡ showing event.Rejected (at store rest) (picked (length rest) cs (at store rest) next)
  picked_rejected [] is rejected = absurd (cc (answer_none))
  picked_rejected (b ∷ bytes) is rejected =
      let less : length rest < length (b ∷ bytes) = answer_less (b ∷ bytes) (record { number = number; rest = rest }) is in
      rw (is, rejected)
      (ap (showing event.Rejected (at store rest)) (picked_same (length bytes) (length rest) cs (at store rest) next (omega arith) (omega arith)))

module _ (files : List FileTree) (n : Placed) (os : Options) (cs : List Choice) (rest : Stmts) (store : Pairs) (number : ℕ) (bytes left : List ℕ) where
  -- where an option is chosen, its body is done before the statements behind the group
  pub chosen_comes : (body : Stmts) → any_open cs ≡ true → chooses number cs ≡ true →
      ((st : State) → does_option no_hosts os (less_one number) st ≡ does_all no_hosts body st) →
      answer_of bytes ≡ Some (record { number = number; rest = left }) → (k : ℕ) →
      at_group files k n os cs rest (at store bytes) k ≡ in_body files k n (stmts_then body rest) (at store left) k
  chosen_comes body asks chosen is_body is k =
      ap (λ d. after (and_on d rest (λ st1. does_all no_hosts rest st1)) (exits_of files (from [] files k) (piece_of n)) k)
      (waits_open (group_line os) cs (at store bytes) _ asks
      ∙ picked_chosen cs store (λ m st. does_option no_hosts os m st) number left bytes is chosen ∙ is_body (at store left))
      ∙ ap (λ d. after d (exits_of files (from [] files k) (piece_of n)) k) (sym (body_then body rest (at store left)))

  -- where none is chosen, that is an event, and the group is asked again
  pub rejected_comes : any_open cs ≡ true → chooses number cs ≡ false →
      answer_of bytes ≡ Some (record { number = number; rest = left }) → (k : ℕ) →
      at_group files k n os cs rest (at store bytes) k ≡ emit (moment event.Rejected (at store left)) (λ j. at_group files j n os cs rest (at store left) j) k
  rejected_comes asks rejected is k =
      let next : ℕ → State → Done = λ m st. does_option no_hosts os m st in
      let waiting : Done = waits (group_line os) cs (at store left) next in
      ap (λ d. after (and_on d rest (λ st1. does_all no_hosts rest st1)) (exits_of files (from [] files k) (piece_of n)) k)
      (waits_open (group_line os) cs (at store bytes) next asks ∙ picked_rejected cs store next number left bytes is rejected
      ∙ ap (showing event.Rejected (at store left)) (sym (waits_open (group_line os) cs (at store left) next asks)))
      ∙ ap (λ d. after d (exits_of files (from [] files k) (piece_of n)) k) (shown_on event.Rejected (at store left) waiting rest (λ st1. does_all no_hosts rest st1))
      ∙ emit_after files n (moment event.Rejected (at store left)) (and_on waiting rest (λ st1. does_all no_hosts rest st1)) k

-- ---- the option that an answer chooses

all_shown-past : (offers : List Offer) (at : ℕ) → length offers ≤ at → is_open at (all_shown offers) ≡ false
all_shown-past [] at past = refl
all_shown-past (o ∷ offers) zero past = absurd (omega arith)
all_shown-past (o ∷ offers) (suc at) past = all_shown-past offers at (omega arith)

all_shown-at : (offers : List Offer) (at : ℕ) (d : Offer) → at < length offers → is_open at (all_shown offers) ≡ (get_or offers at d).available
all_shown-at [] at d there = absurd (omega arith)
all_shown-at (o ∷ offers) zero d there = refl
all_shown-at (o ∷ offers) (suc at) d there = all_shown-at offers at d (omega arith)

option_at : (options : List OptionItem) (at : ℕ) (d : OptionItem) → at < length options → (st : State) →
    does_option no_hosts (options_of options) at st ≡ does_all no_hosts (stmts_of (get_or options at d).body) st
option_at [] at d there st = absurd (omega arith)
option_at (o ∷ options) zero d there st = refl
option_at (o ∷ options) (suc at) d there st = option_at options at d (omega arith) st

tells_option : (table : Table) (options : List OptionItem) (at : ℕ) (d : OptionItem) → at < length options →
    TellsAll table (said_in_options (options_of options)) → TellsAll table (said_in (stmts_of (get_or options at d).body))
tells_option table [] at d there told = absurd (omega arith)
tells_option table (o ∷ options) zero d there told =
    All-front (Tells table) (said_in (stmts_of o.body)) (said_in_options (options_of options)) (All-tail (Tells table) o.text _ told)
tells_option table (o ∷ options) (suc at) d there told =
    tells_option table options at d (omega arith)
    (All-behind (Tells table) (said_in (stmts_of o.body)) (said_in_options (options_of options)) (All-tail (Tells table) o.text _ told))

length_texts : (options : List OptionItem) → length (texts_of (options_of options)) ≡ length options
length_texts [] = refl
length_texts (o ∷ options) = ap suc (length_texts options)

-- as many are shown as there are
pub length_offers : (options : List OptionItem) (offers : List Offer) → AreOf (options_of options) offers → length offers ≡ length options
length_offers options offers are = sym (length-map offers (λ (offer : Offer). offer.text.now)) ∙ ap length are ∙ length_texts options

pub closed_past : (offers : List Offer) (os : Options) (number at : ℕ) → number ≡ suc at → length offers ≤ at →
    Opens (all_shown offers) os number None
closed_past offers os number at is past = rw is (all_shown-past offers at past)

pub closed_at : (offers : List Offer) (number at : ℕ) (offer : Offer) → number ≡ suc at → at < length offers → offer ≡ get_or offers at offer →
    offer.available ≡ false → chooses number (all_shown offers) ≡ false
closed_at offers number at offer is there one closed = rw is (all_shown-at offers at offer there ∙ ap (λ o. o.available) (sym one) ∙ closed)

pub open_at : (offers : List Offer) (options : List OptionItem) (number at : ℕ) (offer : Offer) (item : OptionItem) (body : Bor (List Stmt)) →
    number ≡ suc at → at < length offers → offer ≡ get_or offers at offer → offer.available ≡ true →
    at < length options → item ≡ get_or options at item → body.now ≡ item.body → Opens (all_shown offers) (options_of options) number (Some body)
open_at offers options number at offer item body is there one asks here other same =
    let whole : body.now ≡ (get_or options at item).body = same ∙ ap (λ o. o.body) other in
    subst (λ m. Opens (all_shown offers) (options_of options) m (Some body)) (sym is) (
      all_shown-at offers at offer there ∙ ap (λ o. o.available) (sym one) ∙ asks,
      λ st. rw whole (option_at options at item here st),
      λ table told. subst (λ b. TellsAll table (said_in (stmts_of b))) (sym whole) (tells_option table options at item here told),
    )
