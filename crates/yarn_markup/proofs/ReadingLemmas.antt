-- Values and properties: what is read so far and what is left, and that each reading goes on.
use Rattle.std.proofs.Common.{◌≡◌, ℕ, suc, ◌+◌, ◌-◌, ◌<◌, ◌≤◌, List, [], ◌∷◌, ◌++◌, length, take, drop, Bool, true, false, cond, Option, Some, None, refl, sym, ap, ◌∙◌, subst, arith, append_assoc, append-nil, length-drop, get_or, nat_eq, encode_utf8, encode_utf8_all}
use Rattle.std.proofs.lemmas.List.{take_more}
use Rattle.std.proofs.lemmas.Str.{encodes-append}
use Rattle.std.proofs.lemmas.Bool.Decides.{nat_tests}
use Rattle.yarn_base.specs.Name.{is_name_of}
use Rattle.yarn_markup.specs.declared.marked.Property.{Property}
use Rattle.yarn_markup.specs.Characters.{is_blank, is_word, run_length, past_blanks, is_property_name}
use Rattle.yarn_markup.specs.Tags.{Cut, before, ends_quoted, skips_next, quoted_char, quoted, unless_empty, word, value_at, Found, with_value, assigned, assigned_name, named_property, property_at, Properties, none, more}
use Rattle.yarn_markup.specs.Pieces.{past_end, ended, verbatim}
use Rattle.yarn_markup.specs.Steps.{AddsProperties}

abbrev cut_of : List ℕ → List ℕ → Cut
cut_of own rest = record { own = own; rest = rest }

pub before_before : (a b : List ℕ) (o : Option Cut) → before a (before b o) ≡ before (a ++ b) o
before_before a b None = refl
before_before a b (Some cut) = rw append_assoc refl

-- the text of `[nomarkup]` goes on where its end isn't at the front
pub verbatim_goes : (text value rest behind grown : List ℕ) (c : ℕ) → verbatim text ≡ before value (verbatim rest) → rest ≡ c ∷ behind → past_end rest ≡ None →
    grown ≡ value ++ encode_utf8 c → verbatim text ≡ before grown (verbatim behind)
verbatim_goes text value rest behind grown c so_far is going push =
    so_far ∙ ap (λ (l : List ℕ). before value (verbatim l)) is
    ∙ ap (λ (o : Option (List ℕ)). before value (ended o (before (encode_utf8 c) (verbatim behind)))) (ap past_end (sym is) ∙ going)
    ∙ before_before value (encode_utf8 c) (verbatim behind)
    ∙ ap (λ (l : List ℕ). before l (verbatim behind)) (sym push)

pub verbatim_ends : (text value rest behind after : List ℕ) (c : ℕ) → verbatim text ≡ before value (verbatim rest) → rest ≡ c ∷ behind → past_end rest ≡ Some after →
    verbatim text ≡ Some (record { own = value; rest = after })
verbatim_ends text value rest behind after c so_far is ending =
    so_far ∙ ap (λ (l : List ℕ). before value (verbatim l)) is
    ∙ ap (λ (o : Option (List ℕ)). before value (ended o (before (encode_utf8 c) (verbatim behind)))) (ap past_end (sym is) ∙ ending)
    ∙ ap (λ (l : List ℕ). Some (cut_of l after)) (append-nil value)

-- ---- what is left is shorter

abbrev pub rest_of : Option Cut → List ℕ
rest_of None = []
rest_of (Some cut) = cut.rest

abbrev pub left_of : Option Found → List ℕ
left_of None = []
left_of (Some found) = found.rest

pub past_blanks-short : (text : List ℕ) → length (past_blanks text) ≤ length text
past_blanks-short [] = omega arith
past_blanks-short (c ∷ cs) = by_blank (is_blank c) (past_blanks-short cs)
  where
    by_blank : (b : Bool) → length (past_blanks cs) ≤ length cs → length (cond b (past_blanks cs) (c ∷ cs)) ≤ length (c ∷ cs)
    by_blank true h = omega arith
    by_blank false h = omega arith

pub rest_of-before : (front : List ℕ) (o : Option Cut) → rest_of (before front o) ≡ rest_of o
rest_of-before front None = refl
rest_of-before front (Some cut) = refl

cut_at-short : (b : Bool) (c : ℕ) (cs : List ℕ) (further : Option Cut) → length (rest_of further) ≤ length cs → length (rest_of (cond b (Some (record { own = []; rest = cs })) further)) ≤ length (c ∷ cs)
cut_at-short true c cs further h = omega arith
cut_at-short false c cs further h = omega arith

quoted-short : (skips : Bool) (text : List ℕ) → length (rest_of (quoted skips text)) ≤ length text
quoted-short skips [] = omega arith
quoted-short skips (c ∷ cs) = cut_at-short (ends_quoted skips c) c cs (before (quoted_char skips c) (quoted (skips_next skips c) cs)) (subst (λ l. length l ≤ length cs) (sym (rest_of-before (quoted_char skips c) (quoted (skips_next skips c) cs))) (quoted-short (skips_next skips c) cs))

unless_empty-short : (own rest : List ℕ) → length (rest_of (unless_empty own rest)) ≤ length rest
unless_empty-short [] rest = omega arith
unless_empty-short (c ∷ cs) rest = omega arith

word-short : (text : List ℕ) → length (rest_of (word text)) ≤ length text
word-short text =
    let n = run_length is_word text in
    omega (arith, unless_empty-short (take n text) (drop n text), length-drop n text)

value_at-short : (text : List ℕ) → length (rest_of (value_at text)) ≤ length text
value_at-short [] = omega arith
value_at-short (c ∷ cs) = by_quote (nat_eq c 34)
  where
    by_quote : (b : Bool) → length (rest_of (cond b (quoted false cs) (word (c ∷ cs)))) ≤ length (c ∷ cs)
    by_quote true = omega (arith, quoted-short false cs)
    by_quote false = word-short (c ∷ cs)

with_value-short : (name : List ℕ) (o : Option Cut) → left_of (with_value name o) ≡ rest_of o
with_value-short name None = refl
with_value-short name (Some cut) = refl

-- ---- properties

pub assigned-short : (name text : List ℕ) → length (left_of (assigned name text)) ≤ length text
assigned-short name [] = omega arith
assigned-short name (c ∷ cs) = by_equals (nat_eq c 61)
  where
    by_equals : (b : Bool) → length (left_of (cond b (with_value name (value_at cs)) None)) ≤ length (c ∷ cs)
    by_equals true = omega (arith, value_at-short cs, ap length (with_value-short name (value_at cs)))
    by_equals false = omega arith

assigned_name-short : (name text : List ℕ) → length (left_of (assigned_name name text)) ≤ length text
assigned_name-short name text = by_name (is_property_name name)
  where
    by_name : (b : Bool) → length (left_of (cond b (assigned name text) None)) ≤ length text
    by_name true = assigned-short name text
    by_name false = omega arith

named_property-short : (text : List ℕ) → length (left_of (named_property text)) ≤ length text
named_property-short text =
    let n = run_length is_word text in
    omega (arith, assigned_name-short (take n text) (drop n text), length-drop n text)

property_at-short : (c : ℕ) (cs : List ℕ) → length (left_of (property_at (c ∷ cs))) ≤ length cs
property_at-short c cs = by_blank (is_blank c)
  where
    by_blank : (b : Bool) → length (left_of (cond b (named_property (past_blanks cs)) None)) ≤ length cs
    by_blank true = omega (arith, named_property-short (past_blanks cs), past_blanks-short cs)
    by_blank false = omega arith

pub property_shorter : (text : List ℕ) (found : Found) → property_at text ≡ Some found → length found.rest < length text
property_shorter [] found e = absurd cc
property_shorter (c ∷ cs) found e = omega (arith, property_at-short c cs, ap (λ o. length (left_of o)) e)

pub encode_more : (cs : List ℕ) (i d : ℕ) (text : List ℕ) → i < length cs → text ≡ encode_utf8_all (take i cs) ++ encode_utf8 (get_or cs i d) → text ≡ encode_utf8_all (take (i + 1) cs)
encode_more cs i d text h e =
    e ∙ sym (ap encode_utf8_all (take_more cs i d h) ∙ encodes-append (take i cs) (get_or cs i d ∷ []) ∙ ap (λ l. encode_utf8_all (take i cs) ++ l) (append-nil (encode_utf8 (get_or cs i d))))

-- what was put so far into the list, where the rest is what is left of the text
pub record GoesOn (text : List ℕ) (old : List Property) (rest : List ℕ) (new : List Property) : Type 0 where
  pub all : (further : List Property) (end : List ℕ) → Properties rest further end → AddsProperties text old (new ++ further) end

pub GoesOn-start : (text : List ℕ) (old : List Property) → GoesOn text old text old
GoesOn-start text old = record { all = λ further end goes. record { further = further; goes = goes; grown = refl } }

pub GoesOn-step : (text rest : List ℕ) (old new after : List Property) (found : Found) → GoesOn text old rest new → property_at rest ≡ Some found →
    after ≡ new ++ found.property ∷ [] → GoesOn text old found.rest after
GoesOn-step text rest old new after found so_far is grown = record {
  all = λ further end goes. subst (λ l. AddsProperties text old l end) (sym (ap (λ l. l ++ further) grown ∙ append_assoc new (found.property ∷ []) further)) (so_far.all (found.property ∷ further) end (more found is goes));
}

pub AddsProperties-end : (text rest : List ℕ) (old new : List Property) → GoesOn text old rest new → property_at rest ≡ None → AddsProperties text old new rest
AddsProperties-end text rest old new so_far is = subst (λ l. AddsProperties text old l rest) (append-nil new) (so_far.all [] rest (none is))
