-- What is put behind a text piece by piece.
use Rattle.std.proofs.Common.{◌≡◌, ℕ, suc, ◌+◌, ◌<◌, List, [], ◌∷◌, ◌++◌, length, drop, get_or, Bool, true, false, IsUtf8, Result, Ok, Err, OnOk, IfOk, refl, sym, ap, ◌∙◌, subst, add-one, drop-cons, append_assoc}
use Rattle.std.proofs.lemmas.List.{append-nil}
use Rattle.std.specs.List.{list_all}
use Rattle.std.specs.Str.{chars}
use Rattle.yarn_value.specs.declared.value.Value.{Value}
use Rattle.yarn_code.specs.declared.event.Choice.{Choice}
use Rattle.yarn_table.specs.Tables.{Table}
use Rattle.yarn_plural.specs.declared.table.PluralTable.{PluralTable}
use Rattle.yarn_markup.specs.Plain.{is_ordinary}
use Rattle.yarn_markup.proofs.PlainLemmas.{plain_markup}
use Rattle.yarn_render.specs.Marks.{ended}
use Rattle.yarn_render.specs.Renders.{marks_text, Shows, marked, ShowsUnder, ShowsOptions, none, more, option_start}
use Rattle.yarn_render.specs.Steps.{IsFilled, Puts}

pub puts_ok : {V E : Type 0} (r : Result V E) (Allows : List ℕ → Type 0) (old new bytes : List ℕ) → Allows bytes → OnOk r (new ≡ old ++ bytes) → OnOk r (Puts Allows old new)
puts_ok (Ok v) Allows old new bytes allowed put = record { bytes = bytes; allowed = allowed; put = put }
puts_ok (Err e) Allows old new bytes allowed put = put

pub if_ok : {E : Type 0} (r : Result (List ℕ) E) (P Q : List ℕ → Type 0) → ((text : List ℕ) → P text → Q text) → IfOk r P → IfOk r Q
if_ok (Ok text) P Q leads is = leads text is
if_ok (Err e) P Q leads is = is

-- a text that can have no markup is shown as it is
pub plain_shows : (plural : PluralTable) (marks : Bool) (text shown : List ℕ) → IsUtf8 text → list_all is_ordinary (chars text) ≡ true → shown ≡ ended text →
    Shows plural marks text shown
plain_shows plural marks text shown utf8 plain e =
    subst (λ (l : List ℕ). Shows plural marks text l) (without_lines marks ∙ sym e)
    (marked (record { plain = text; attributes = [] }) (plain_markup plural text text [] utf8 plain refl refl))
  where
    without_lines : (marks : Bool) → ended text ++ marks_text marks [] ≡ ended text
    without_lines true = append-nil (ended text)
    without_lines false = append-nil (ended text)

-- what a text with its values is shown as is what its id is
pub filled_shows : (table : Table) (plural : PluralTable) (marks : Bool) (id : List ℕ) (values : List Value) (text shown : List ℕ) →
    IsFilled table id values text → Shows plural marks text shown → ShowsUnder table plural marks id values shown
filled_shows table plural marks id values text shown is shows = record {
  form = is.form;
  found = is.found;
  shows = subst (λ (l : List ℕ). Shows plural marks l shown) is.filled shows;
}

pub filled_puts : (table : Table) (plural : PluralTable) (marks : Bool) (id : List ℕ) (values : List Value) (text old new : List ℕ) →
    IsFilled table id values text → Puts (Shows plural marks text) old new → Puts (ShowsUnder table plural marks id values) old new
filled_puts table plural marks id values text old new is puts =
    record { bytes = puts.bytes; allowed = filled_shows table plural marks id values text puts.bytes is puts.allowed; put = puts.put }

-- where these options are left, whatever they are written as, the whole is written behind the first text
abbrev pub Leads : (Table) → PluralTable → Bool → List Choice → List ℕ → ℕ → List Choice → List ℕ → Type 0
Leads table plural marks choices first number left out =
    (rest : List ℕ) → ShowsOptions table plural marks number left rest → Puts (ShowsOptions table plural marks 1 choices) first (out ++ rest)

regrouped : (old start shown rest new : List ℕ) → new ≡ (old ++ start) ++ shown → old ++ (start ++ (shown ++ rest)) ≡ new ++ rest
regrouped old start shown rest new e =
    sym (append_assoc old start (shown ++ rest)) ∙ sym (append_assoc (old ++ start) shown rest) ∙ ap (λ (l : List ℕ). l ++ rest) (sym e)

-- one option more is written
pub leads_on : (table : Table) (plural : PluralTable) (marks : Bool) (choices : List Choice) (first : List ℕ) (number next i : ℕ) (choice : Choice) (old started new : List ℕ) →
    Leads table plural marks choices first number (drop i choices) old → i < length choices → choice ≡ get_or choices i choice → next ≡ number + 1 →
    started ≡ old ++ option_start number choice.available → Puts (ShowsUnder table plural marks choice.id choice.values) started new →
    Leads table plural marks choices first next (drop (i + 1) choices) new
leads_on table plural marks choices first number next i choice old started new so_far within is counted begins puts rest left =
    let cut : drop i choices ≡ choice ∷ drop (i + 1) choices =
    drop-cons choices i choice within ∙ ap (λ (c : Choice). c ∷ drop (suc i) choices) (sym is) ∙ rw add-one refl in
    let behind : ShowsOptions table plural marks (suc number) (drop (i + 1) choices) rest =
    subst (λ (n : ℕ). ShowsOptions table plural marks n (drop (i + 1) choices) rest) (counted ∙ rw add-one refl) left in
    let start = option_start number choice.available in
    let whole = so_far (start ++ (puts.bytes ++ rest))
    (subst (λ (cs : List Choice). ShowsOptions table plural marks number cs (start ++ (puts.bytes ++ rest))) (sym cut) (more puts.bytes rest puts.allowed behind)) in
    subst (λ (l : List ℕ). Puts (ShowsOptions table plural marks 1 choices) first l)
    (regrouped old start puts.bytes rest new (puts.put ∙ ap (λ (l : List ℕ). l ++ puts.bytes) begins)) whole

-- before the first option
pub leads_first : (table : Table) (plural : PluralTable) (marks : Bool) (choices : List Choice) (first : List ℕ) → Leads table plural marks choices first 1 choices first
leads_first table plural marks choices first rest left = record { bytes = rest; allowed = left; put = refl }

-- behind the last option
pub leads_last : (table : Table) (plural : PluralTable) (marks : Bool) (choices : List Choice) (first : List ℕ) (number : ℕ) (left : List Choice) (out : List ℕ) →
    Leads table plural marks choices first number left out → left ≡ [] → Puts (ShowsOptions table plural marks 1 choices) first out
leads_last table plural marks choices first number left out leads e =
    subst (λ (l : List ℕ). Puts (ShowsOptions table plural marks 1 choices) first l) (append-nil out)
    (leads [] (subst (λ (cs : List Choice). ShowsOptions table plural marks number cs []) (sym e) none))
