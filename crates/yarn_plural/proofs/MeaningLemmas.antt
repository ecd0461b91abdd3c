-- What tokens mean, against the function that reads them.
use Rattle.std.proofs.Common.{◌≡◌, ℕ, ◌<◌, List, [], ◌∷◌, ◌++◌, length, map, Bool, true, false, nat_eq, Option, None, Some, if◌then◌else◌, refl, sym, ap, ◌∙◌, arith, subst, inl, inr, ◌⊎◌, All}
use Rattle.std.proofs.lemmas.Bool.{eqb-true}
use Rattle.std.proofs.lemmas.List.Elements.{All-nil, All-cons, All-head, All-tail}
use Rattle.yarn_plural.specs.declared.rule.Category.{Category}
use Rattle.yarn_plural.specs.declared.rule.Category.TheVariants as category
use Rattle.yarn_plural.specs.declared.rule.Operand.{Operand}
use Rattle.yarn_plural.specs.declared.rule.Listed.{Listed}
use Rattle.yarn_plural.specs.declared.rule.Listed.TheVariants as listed
use Rattle.yarn_plural.specs.declared.rule.Relation.{Relation}
use Rattle.yarn_plural.specs.declared.rule.Rule.{Rule}
use Rattle.yarn_plural.specs.declared.line.Line.{Line}
use Rattle.yarn_plural.specs.declared.line.Line.TheVariants as line
use Rattle.yarn_plural.specs.declared.token.Token.{Token}
use Rattle.yarn_plural.specs.declared.token.Token.TheVariants as token
use Rattle.yarn_plural.specs.declared.token.Word.TheVariants as word
use Rattle.yarn_plural.specs.declared.token.Sign.TheVariants as sign
use Rattle.yarn_plural.specs.declared.token.Joint.{Joint}
use Rattle.yarn_plural.specs.declared.token.Joint.TheVariants as joint
use Rattle.std.specs.Prelude.{MatchOption, IsUtf8, IfOk, Result, Ok, Err}
use Rattle.yarn_base.specs.declared.memory.Memory.{Memory}
use Rattle.yarn_plural.specs.Lines.{without_end}
use Rattle.yarn_plural.specs.Tokens.{Spells}
use Rattle.yarn_plural.proofs.TokenLemmas.{spells_one}
use Rattle.yarn_plural.specs.Rules.{IsLine, joined, listed_tokens, modulus_tokens, comparison_token, relation_tokens, and_tokens, condition_tokens, rule_tokens, IsRelation, IsAndCondition, IsCondition, Suits, Means}
use Rattle.yarn_plural.specs.Steps.{separates, onto, pieces, both, each, listed_of, among_of, with_among, compared_of, relation_of, and_condition_of, condition_of, with_condition, rule_of, is_samples, without_samples, line_of_rule, meaning_of, IsReadable}

-- ---- pieces and what is joined

abbrev joint_token : Joint → Token
joint_token joint.Or = token.Word word.Or
joint_token joint.And = token.Word word.And
joint_token joint.Comma = token.Sign sign.Comma

separates-joint : (j : Joint) → separates j (joint_token j) ≡ true
separates-joint joint.Or = refl
separates-joint joint.And = refl
separates-joint joint.Comma = refl

separates-only : (j : Joint) (t : Token) → separates j t ≡ true → t ≡ joint_token j
separates-only joint.Or (token.Word word.Or) e = refl
separates-only joint.And (token.Word word.And) e = refl
separates-only joint.Comma (token.Sign sign.Comma) e = refl
separates-only _ _ e = absurd cc

-- no token of the list passes
abbrev Free : (Token → Bool) → List Token → Type 0
Free p [] = Unit {0}
Free p (t ∷ ts) = (p t ≡ false) × Free p ts

free-append : (p : Token → Bool) (ts us : List Token) → Free p ts → Free p us → Free p (ts ++ us)
free-append p [] us f g = g
free-append p (t ∷ ts) us f g = (f.0, free-append p ts us f.1 g)

abbrev AllFree : (Token → Bool) → List (List Token) → Type 0
AllFree p [] = Unit {0}
AllFree p (ts ∷ lists) = Free p ts × AllFree p lists

free-joined : (p : Token → Bool) (t : Token) (lists : List (List Token)) → p t ≡ false → AllFree p lists → Free p (joined t lists)
free-joined p t [] other f = tt
free-joined p t (ts ∷ []) other f = f.0
free-joined p t (ts ∷ us ∷ lists) other f = free-append p ts (t ∷ joined t (us ∷ lists)) f.0 (other, free-joined p t (us ∷ lists) other f.1)

free-map : {A : Type 0} (p : Token → Bool) (g : A → List Token) → ((y : A) → Free p (g y)) → (ys : List A) → AllFree p (map g ys)
free-map p g f [] = tt
free-map p g f (y ∷ ys) = (f y, free-map p g f ys)

pieces-free : (j : Joint) (ts : List Token) → Free (separates j) ts → pieces j ts ≡ ts ∷ []
pieces-free j [] f = refl
pieces-free j (t ∷ ts) f = rw (f.0, pieces-free j ts f.1) refl

pieces-cut : (j : Joint) (ts us : List Token) → Free (separates j) ts → pieces j (ts ++ joint_token j ∷ us) ≡ ts ∷ pieces j us
pieces-cut j [] us f = rw (separates-joint j) refl
pieces-cut j (t ∷ ts) us f = rw (f.0, pieces-cut j ts us f.1) refl

pieces-joined : (j : Joint) (lists : List (List Token)) → 0 < length lists → AllFree (separates j) lists → pieces j (joined (joint_token j) lists) ≡ lists
pieces-joined j [] some f = absurd (omega arith)
pieces-joined j (ts ∷ []) some f = pieces-free j ts f.0
pieces-joined j (ts ∷ us ∷ lists) some f =
    pieces-cut j ts (joined (joint_token j) (us ∷ lists)) f.0 ∙ ap (λ l. ts ∷ l) (pieces-joined j (us ∷ lists) (omega arith) f.1)

joined-onto : (t u : Token) (lists : List (List Token)) → joined t (onto u lists) ≡ u ∷ joined t lists
joined-onto t u [] = refl
joined-onto t u (ts ∷ []) = refl
joined-onto t u (ts ∷ us ∷ lists) = refl

joined-empty : (t : Token) (lists : List (List Token)) → 0 < length lists → joined t ([] ∷ lists) ≡ t ∷ joined t lists
joined-empty t [] some = absurd (omega arith)
joined-empty t (us ∷ lists) some = refl

pieces-some : (j : Joint) (ts : List Token) → 0 < length (pieces j ts)
pieces-some j [] = omega arith
pieces-some j (t ∷ ts) = by (pieces-some j ts) (separates j t) refl
  where
    longer : (lists : List (List Token)) → 0 < length (onto t lists)
    longer [] = omega arith
    longer (us ∷ lists) = omega arith

    by : 0 < length (pieces j ts) → (s : Bool) → separates j t ≡ s → 0 < length (pieces j (t ∷ ts))
    by later true s = rw s (omega arith)
    by later false s = rw s (longer (pieces j ts))

joined-pieces : (j : Joint) (ts : List Token) → joined (joint_token j) (pieces j ts) ≡ ts
joined-pieces j [] = refl
joined-pieces j (t ∷ ts) = by (joined-pieces j ts) (separates j t) refl
  where
    by : joined (joint_token j) (pieces j ts) ≡ ts → (s : Bool) → separates j t ≡ s → joined (joint_token j) (pieces j (t ∷ ts)) ≡ t ∷ ts
    by later true s = rw s (joined-empty (joint_token j) (pieces j ts) (pieces-some j ts) ∙ (λ i. sym (separates-only j t s) i ∷ later i))
    by later false s = rw s (joined-onto (joint_token j) t (pieces j ts) ∙ ap (λ l. t ∷ l) later)

-- ---- each

each-map : {A B : Type 0} (f : A → Option B) (g : B → A) (P : B → Type 0) → ((y : B) → P y → f (g y) ≡ Some y) → (ys : List B) → All P ys → each f (map g ys) ≡ Some ys
each-map f g P is [] all = refl
each-map f g P is (y ∷ ys) all = rw (is y (All-head P y ys all), each-map f g P is ys (All-tail P y ys all)) refl

record EachIs {A B : Type 0} (g : B → A) (P : B → Type 0) (xs : List A) (ys : List B) : Type 0 where
  mapped : xs ≡ map g ys
  all : All P ys

each-only : {A B : Type 0} (f : A → Option B) (g : B → A) (P : B → Type 0) → ((x : A) (y : B) → f x ≡ Some y → (x ≡ g y) × P y) → (xs : List A) (ys : List B) →
    each f xs ≡ Some ys → EachIs g P xs ys
each-only f g P is [] ys e = let none : [] ≡ ys = cc in subst (EachIs g P []) none (record { mapped = refl; all = All-nil P })
each-only {A} {B} f g P is (x ∷ xs) ys e = by (each-only f g P is xs) (f x) refl (each f xs) refl e
  where
    by : ((zs : List B) → each f xs ≡ Some zs → EachIs g P xs zs) → (o : Option B) → f x ≡ o → (r : Option (List B)) → each f xs ≡ r → both o r ≡ Some ys → EachIs g P (x ∷ xs) ys
    by later None o r l e = absurd cc
    by later (Some y) o None l e = absurd cc
    by later (Some y) o (Some zs) l e =
        let same : y ∷ zs ≡ ys = cc in
        let first = is x y o in
        let rest = later zs l in
        subst (EachIs g P (x ∷ xs)) same (record { mapped = λ i. first.0 i ∷ rest.mapped i; all = All-cons P y zs first.1 rest.all })

map-some : {A B : Type 0} (g : B → A) (ys : List B) → 0 < length ys → 0 < length (map g ys)
map-some g [] some = some
map-some g (y ∷ ys) some = omega arith

some-map : {A B : Type 0} (g : B → A) (ys : List B) → 0 < length (map g ys) → 0 < length ys
some-map g [] some = some
some-map g (y ∷ ys) some = omega arith

-- a list that is joined is what is read between the joints
list-there : {B : Type 0} (j : Joint) (f : List Token → Option B) (g : B → List Token) (P : B → Type 0) → ((y : B) → P y → f (g y) ≡ Some y) → ((y : B) → Free (separates j) (g y)) →
    (ys : List B) → 0 < length ys → All P ys → each f (pieces j (joined (joint_token j) (map g ys))) ≡ Some ys
list-there j f g P is free ys some all =
    ap (each f) (pieces-joined j (map g ys) (map-some g ys some) (free-map (separates j) g free ys)) ∙ each-map f g P is ys all

record ListIs {B : Type 0} (j : Joint) (g : B → List Token) (P : B → Type 0) (ts : List Token) (ys : List B) : Type 0 where
  tokens : ts ≡ joined (joint_token j) (map g ys)
  some : 0 < length ys
  all : All P ys

list-only : {B : Type 0} (j : Joint) (f : List Token → Option B) (g : B → List Token) (P : B → Type 0) → ((x : List Token) (y : B) → f x ≡ Some y → (x ≡ g y) × P y) →
    (ts : List Token) (ys : List B) → each f (pieces j ts) ≡ Some ys → ListIs j g P ts ys
list-only j f g P is ts ys e =
    let each_is = each-only f g P is (pieces j ts) ys e in
    record {
      tokens = sym (joined-pieces j ts) ∙ ap (joined (joint_token j)) each_is.mapped;
      some = some-map g ys (subst (λ l. 0 < length l) each_is.mapped (pieces-some j ts));
      all = each_is.all;
    }

-- ---- what is read of a rule that is written

listed-there : (y : Listed) → listed_of (listed_tokens y) ≡ Some y
listed-there (listed.Value only) = refl
listed-there (listed.Range first last) = refl

listed-only : (ts : List Token) (y : Listed) → listed_of ts ≡ Some y → ts ≡ listed_tokens y
listed-only (token.Value only ∷ []) y e = let same : listed.Value only ≡ y = cc in ap listed_tokens same
listed-only (token.Value first ∷ token.Sign sign.To ∷ token.Value last ∷ []) y e = let same : listed.Range first last ≡ y = cc in ap listed_tokens same
listed-only _ y e = absurd cc

-- ---- tokens that aren't in a relation

-- none of the tokens that a relation has passes
record Spares (p : Token → Bool) : Type 0 where
  operand : (o : Operand) → p (token.Word (word.Operand o)) ≡ false
  value : (n : ℕ) → p (token.Value n) ≡ false
  percent : p (token.Sign sign.Percent) ≡ false
  equal : p (token.Sign sign.Equal) ≡ false
  differ : p (token.Sign sign.Differ) ≡ false
  comma : p (token.Sign sign.Comma) ≡ false
  to : p (token.Sign sign.To) ≡ false

or_spares : Spares (separates joint.Or)
or_spares = record { operand = λ o. refl; value = λ n. refl; percent = refl; equal = refl; differ = refl; comma = refl; to = refl }

and_spares : Spares (separates joint.And)
and_spares = record { operand = λ o. refl; value = λ n. refl; percent = refl; equal = refl; differ = refl; comma = refl; to = refl }

samples_spares : Spares is_samples
samples_spares = record { operand = λ o. refl; value = λ n. refl; percent = refl; equal = refl; differ = refl; comma = refl; to = refl }

listed-free : (p : Token → Bool) → ((n : ℕ) → p (token.Value n) ≡ false) → p (token.Sign sign.To) ≡ false → (y : Listed) → Free p (listed_tokens y)
listed-free p value to (listed.Value only) = (value only, tt)
listed-free p value to (listed.Range first last) = (value first, (to, (value last, tt)))

modulus-free : (p : Token → Bool) → Spares p → (m : Option ℕ) → Free p (modulus_tokens m)
modulus-free p spares None = tt
modulus-free p spares (Some m) = (spares.percent, (spares.value m, tt))

comparison-free : (p : Token → Bool) → Spares p → (equal : Bool) → p (comparison_token equal) ≡ false
comparison-free p spares true = spares.equal
comparison-free p spares false = spares.differ

relation-free : (p : Token → Bool) → Spares p → (r : Relation) → Free p (relation_tokens r)
relation-free p spares r = (
  spares.operand r.operand,
  free-append p (modulus_tokens r.modulus) (comparison_token r.equal ∷ joined (token.Sign sign.Comma) (map listed_tokens r.among)) (modulus-free p spares r.modulus)
      (comparison-free p spares r.equal, free-joined p (token.Sign sign.Comma) (map listed_tokens r.among) spares.comma (free-map p listed_tokens (listed-free p spares.value spares.to) r.among)),
)

and-free : (p : Token → Bool) → Spares p → p (token.Word word.And) ≡ false → (rs : List Relation) → Free p (and_tokens rs)
and-free p spares other rs = free-joined p (token.Word word.And) (map relation_tokens rs) other (free-map p relation_tokens (relation-free p spares) rs)

condition-free : (p : Token → Bool) → Spares p → p (token.Word word.And) ≡ false → p (token.Word word.Or) ≡ false → (c : List (List Relation)) → Free p (condition_tokens c)
condition-free p spares and or c = free-joined p (token.Word word.Or) (map and_tokens c) or (free-map p and_tokens (and-free p spares and) c)

-- ---- relations and conditions

abbrev Any : Listed → Type 0
Any y = Unit {0}

all_any : (ys : List Listed) → All Any ys
all_any [] = All-nil Any
all_any (y ∷ ys) = All-cons Any y ys tt (all_any ys)

among-there : (ys : List Listed) → 0 < length ys → among_of (joined (token.Sign sign.Comma) (map listed_tokens ys)) ≡ Some ys
among-there ys some =
    list-there joint.Comma listed_of listed_tokens Any (λ y any. listed-there y) (listed-free (separates joint.Comma) (λ n. refl) refl) ys some (all_any ys)

relation-parts : (o : Operand) (m : Option ℕ) (equal : Bool) (ys : List Listed) → 0 < length ys → ¬ (m ≡ Some 0) →
    relation_of (token.Word (word.Operand o) ∷ (modulus_tokens m ++ comparison_token equal ∷ joined (token.Sign sign.Comma) (map listed_tokens ys)))
    ≡ Some (record { operand = o; modulus = m; equal = equal; among = ys })
relation-parts o None true ys some other = rw (among-there ys some) refl
relation-parts o None false ys some other = rw (among-there ys some) refl
relation-parts o (Some m) equal ys some other = by equal (nat_eq m 0) refl
  where
    by : (equal t : Bool) → nat_eq m 0 ≡ t →
        relation_of (token.Word (word.Operand o) ∷ (modulus_tokens (Some m) ++ comparison_token equal ∷ joined (token.Sign sign.Comma) (map listed_tokens ys)))
        ≡ Some (record { operand = o; modulus = Some m; equal = equal; among = ys })
    by equal true t = absurd (other (ap Some (eqb-true m 0 t)))
    by true false t = rw (t, among-there ys some) refl
    by false false t = rw (t, among-there ys some) refl

relation-there : (r : Relation) → IsRelation r → relation_of (relation_tokens r) ≡ Some r
relation-there r is = relation-parts r.operand r.modulus r.equal r.among is.among is.modulus

and-there : (rs : List Relation) → IsAndCondition rs → and_condition_of (and_tokens rs) ≡ Some rs
and-there rs is = list-there joint.And relation_of relation_tokens IsRelation relation-there (relation-free (separates joint.And) and_spares) rs is.some is.each

condition-there : (c : List (List Relation)) → IsCondition c → condition_of (condition_tokens c) ≡ Some c
condition-there c is = list-there joint.Or and_condition_of and_tokens IsAndCondition and-there (and-free (separates joint.Or) or_spares refl) c is.some is.each

record ComparedIs (o : Operand) (m : Option ℕ) (ts : List Token) (r : Relation) : Type 0 where
  operand : r.operand ≡ o
  modulus : r.modulus ≡ m
  tokens : ts ≡ comparison_token r.equal ∷ joined (token.Sign sign.Comma) (map listed_tokens r.among)
  some : 0 < length r.among

among-only : (ts : List Token) (ys : List Listed) → among_of ts ≡ Some ys → ListIs joint.Comma listed_tokens Any ts ys
among-only ts ys e = list-only joint.Comma listed_of listed_tokens Any (λ x y h. (listed-only x y h, tt)) ts ys e

with_among-only : (o : Operand) (m : Option ℕ) (equal : Bool) (ts : List Token) (r : Relation) → with_among o m equal (among_of ts) ≡ Some r → ComparedIs o m (comparison_token equal ∷ ts) r
with_among-only o m equal ts r e = by (among_of ts) refl e
  where
    by : (among : Option (List Listed)) → among_of ts ≡ among → with_among o m equal among ≡ Some r → ComparedIs o m (comparison_token equal ∷ ts) r
    by None a e = absurd cc
    by (Some ys) a e =
        let list = among-only ts ys a in
        let same : record { operand = o; modulus = m; equal = equal; among = ys } ≡ r = cc in
        subst (ComparedIs o m (comparison_token equal ∷ ts)) same
        (record { operand = refl; modulus = refl; tokens = ap (λ l. comparison_token equal ∷ l) list.tokens; some = list.some })

compared-only : (o : Operand) (m : Option ℕ) (ts : List Token) (r : Relation) → compared_of o m ts ≡ Some r → ComparedIs o m ts r
compared-only o m (token.Sign sign.Equal ∷ ts) r e = with_among-only o m true ts r e
compared-only o m (token.Sign sign.Differ ∷ ts) r e = with_among-only o m false ts r e
compared-only o m _ r e = absurd cc

no_zero : (m : Option ℕ) → m ≡ None → ¬ (m ≡ Some 0)
no_zero None e z = absurd cc
no_zero (Some m) e z = absurd cc

plain-only : (o : Operand) (ts : List Token) (r : Relation) → ComparedIs o None ts r → (token.Word (word.Operand o) ∷ ts ≡ relation_tokens r) × IsRelation r
plain-only o ts r is = (
  rw (is.operand, is.modulus) (ap (λ l. token.Word (word.Operand o) ∷ l) is.tokens),
  record { among = is.some; modulus = no_zero r.modulus is.modulus },
)

relation-only : (ts : List Token) (r : Relation) → relation_of ts ≡ Some r → (ts ≡ relation_tokens r) × IsRelation r
relation-only (token.Word (word.Operand o) ∷ token.Sign sign.Percent ∷ token.Value m ∷ ts) r e = by (nat_eq m 0) refl e
  where
    by : (t : Bool) → nat_eq m 0 ≡ t → (if t then None else compared_of o (Some m) ts) ≡ Some r →
        (token.Word (word.Operand o) ∷ token.Sign sign.Percent ∷ token.Value m ∷ ts ≡ relation_tokens r) × IsRelation r
    by true t e = absurd cc
    by false t e =
        let is = compared-only o (Some m) ts r e in (
          rw (is.operand, is.modulus) (ap (λ l. token.Word (word.Operand o) ∷ token.Sign sign.Percent ∷ token.Value m ∷ l) is.tokens),
          record { among = is.some; modulus = λ z. not_zero (sym is.modulus ∙ z) },
        )
      where
        not_zero : Some m ≡ Some 0 → ⊥
        not_zero z = let same : m ≡ 0 = cc in let h = rw same at t in absurd cc
relation-only (token.Word (word.Operand o) ∷ ts) r e = plain-only o ts r (compared-only o None ts r e)
relation-only _ r e = absurd cc

and-only : (ts : List Token) (rs : List Relation) → and_condition_of ts ≡ Some rs → (ts ≡ and_tokens rs) × IsAndCondition rs
and-only ts rs e = let list = list-only joint.And relation_of relation_tokens IsRelation relation-only ts rs e in (list.tokens, record { some = list.some; each = list.all })

condition-only : (ts : List Token) (c : List (List Relation)) → condition_of ts ≡ Some c → (ts ≡ condition_tokens c) × IsCondition c
condition-only ts c e = let list = list-only joint.Or and_condition_of and_tokens IsAndCondition and-only ts c e in (list.tokens, record { some = list.some; each = list.all })

-- ---- rules

with_condition-there : (c : Category) (condition : List (List Relation)) → IsCondition condition →
    with_condition c (condition_of (condition_tokens condition)) ≡ Some (record { category = c; condition = condition })
with_condition-there c condition is = ap (with_condition c) (condition-there condition is)

rule-there : (c : Category) (condition : List (List Relation)) → Suits c condition → rule_of c (condition_tokens condition) ≡ Some (record { category = c; condition = condition })
rule-there category.Zero condition is = with_condition-there category.Zero condition is
rule-there category.One condition is = with_condition-there category.One condition is
rule-there category.Two condition is = with_condition-there category.Two condition is
rule-there category.Few condition is = with_condition-there category.Few condition is
rule-there category.Many condition is = with_condition-there category.Many condition is
rule-there category.Other condition is =
    subst (λ c. rule_of category.Other (condition_tokens c) ≡ Some (record { category = category.Other; condition = c })) (sym is) refl

record RuleIs (c : Category) (ts : List Token) (rule : Rule) : Type 0 where
  category_is : rule.category ≡ c
  tokens : ts ≡ condition_tokens rule.condition
  suits : Suits rule.category rule.condition

with_condition-only : (c : Category) → ((condition : List (List Relation)) → IsCondition condition → Suits c condition) → (ts : List Token) (rule : Rule) →
    with_condition c (condition_of ts) ≡ Some rule → RuleIs c ts rule
with_condition-only c suits ts rule e = by (condition_of ts) refl e
  where
    by : (o : Option (List (List Relation))) → condition_of ts ≡ o → with_condition c o ≡ Some rule → RuleIs c ts rule
    by None o e = absurd cc
    by (Some condition) o e =
        let is = condition-only ts condition o in
        let same : record { category = c; condition = condition } ≡ rule = cc in
        subst (RuleIs c ts) same (record { category_is = refl; tokens = is.0; suits = suits condition is.1 })

rule-only : (c : Category) (ts : List Token) (rule : Rule) → rule_of c ts ≡ Some rule → RuleIs c ts rule
rule-only category.Zero ts rule e = with_condition-only category.Zero (λ c is. is) ts rule e
rule-only category.One ts rule e = with_condition-only category.One (λ c is. is) ts rule e
rule-only category.Two ts rule e = with_condition-only category.Two (λ c is. is) ts rule e
rule-only category.Few ts rule e = with_condition-only category.Few (λ c is. is) ts rule e
rule-only category.Many ts rule e = with_condition-only category.Many (λ c is. is) ts rule e
rule-only category.Other [] rule e =
    let same : record { category = category.Other; condition = [] } ≡ rule = cc in
    subst (RuleIs category.Other []) same (record { category_is = refl; tokens = refl; suits = refl })
rule-only category.Other (t ∷ ts) rule e = absurd cc

-- ---- samples

without_samples-free : (ts : List Token) → Free is_samples ts → without_samples ts ≡ ts
without_samples-free [] f = refl
without_samples-free (t ∷ []) f = rw f.0 refl
without_samples-free (t ∷ u ∷ ts) f = ap (λ l. t ∷ l) (without_samples-free (u ∷ ts) f.1)

without_samples-behind : (ts : List Token) → without_samples (ts ++ token.Samples ∷ []) ≡ ts
without_samples-behind [] = refl
without_samples-behind (t ∷ []) = refl
without_samples-behind (t ∷ u ∷ ts) = ap (λ l. t ∷ l) (without_samples-behind (u ∷ ts))

samples-only : (t : Token) → is_samples t ≡ true → t ≡ token.Samples
samples-only token.Samples e = refl
samples-only _ e = absurd cc

samples-split : (ts : List Token) → (ts ≡ without_samples ts) ⊎ (ts ≡ without_samples ts ++ token.Samples ∷ [])
samples-split [] = inl refl
samples-split (t ∷ []) = by (is_samples t) refl
  where
    by : (s : Bool) → is_samples t ≡ s → (t ∷ [] ≡ without_samples (t ∷ [])) ⊎ (t ∷ [] ≡ without_samples (t ∷ []) ++ token.Samples ∷ [])
    by true s = rw s (inr (ap (λ x. x ∷ []) (samples-only t s)))
    by false s = rw s (inl refl)
samples-split (t ∷ u ∷ ts) = by (samples-split (u ∷ ts))
  where
    by : (u ∷ ts ≡ without_samples (u ∷ ts)) ⊎ (u ∷ ts ≡ without_samples (u ∷ ts) ++ token.Samples ∷ []) →
        (t ∷ u ∷ ts ≡ t ∷ without_samples (u ∷ ts)) ⊎ (t ∷ u ∷ ts ≡ t ∷ (without_samples (u ∷ ts) ++ token.Samples ∷ []))
    by (inl e) = inl (ap (λ l. t ∷ l) e)
    by (inr e) = inr (ap (λ l. t ∷ l) e)

-- ---- lines

given-there : (rule : Rule) → Suits rule.category rule.condition → (ts : List Token) → without_samples ts ≡ condition_tokens rule.condition →
    meaning_of (token.Word (word.Category rule.category) ∷ token.Sign sign.Colon ∷ ts) ≡ Some (line.Gives rule)
given-there rule suits ts without = ap (λ l. line_of_rule (rule_of rule.category l)) without ∙ ap line_of_rule (rule-there rule.category rule.condition suits)

pub meaning_of-there : (ts : List Token) (l : Line) → Means ts l → meaning_of ts ≡ Some l
meaning_of-there ts line.Ignored (inl e) = ap meaning_of e
meaning_of-there ts line.Ignored (inr e) = ap meaning_of e
meaning_of-there ts (line.Begins form) e = ap meaning_of e
meaning_of-there ts (line.Gives rule) (suits, inl e) =
    ap meaning_of e ∙ given-there rule suits (condition_tokens rule.condition) (without_samples-free (condition_tokens rule.condition) (condition-free is_samples samples_spares refl refl rule.condition))
meaning_of-there ts (line.Gives rule) (suits, inr e) =
    ap meaning_of e ∙ given-there rule suits (condition_tokens rule.condition ++ token.Samples ∷ []) (without_samples-behind (condition_tokens rule.condition))

given-only : (c : Category) (ts : List Token) (l : Line) → line_of_rule (rule_of c (without_samples ts)) ≡ Some l → Means (token.Word (word.Category c) ∷ token.Sign sign.Colon ∷ ts) l
given-only c ts l e = by (rule_of c (without_samples ts)) refl e
  where
    tokens_are : (rule : Rule) → RuleIs c (without_samples ts) rule → (ts ≡ without_samples ts) ⊎ (ts ≡ without_samples ts ++ token.Samples ∷ []) →
        (token.Word (word.Category c) ∷ token.Sign sign.Colon ∷ ts ≡ rule_tokens rule) ⊎ (token.Word (word.Category c) ∷ token.Sign sign.Colon ∷ ts ≡ rule_tokens rule ++ token.Samples ∷ [])
    tokens_are rule is (inl e) = rw is.category_is (inl (ap (λ us. token.Word (word.Category c) ∷ token.Sign sign.Colon ∷ us) (e ∙ is.tokens)))
    tokens_are rule is (inr e) =
        rw is.category_is (inr (ap (λ us. token.Word (word.Category c) ∷ token.Sign sign.Colon ∷ us) (e ∙ ap (λ us. us ++ token.Samples ∷ []) is.tokens)))

    by : (o : Option Rule) → rule_of c (without_samples ts) ≡ o → line_of_rule o ≡ Some l → Means (token.Word (word.Category c) ∷ token.Sign sign.Colon ∷ ts) l
    by None o e = absurd cc
    by (Some rule) o e =
        let same : line.Gives rule ≡ l = cc in
        let is = rule-only c (without_samples ts) rule o in
        subst (Means (token.Word (word.Category c) ∷ token.Sign sign.Colon ∷ ts)) same (is.suits, tokens_are rule is (samples-split ts))

pub meaning_of-only : (ts : List Token) (l : Line) → meaning_of ts ≡ Some l → Means ts l
meaning_of-only [] l e = let same : line.Ignored ≡ l = cc in subst (Means []) same (inl refl)
meaning_of-only (token.Comment ∷ []) l e = let same : line.Ignored ≡ l = cc in subst (Means (token.Comment ∷ [])) same (inr refl)
meaning_of-only (token.Word (word.Form f) ∷ []) l e = let same : line.Begins f ≡ l = cc in subst (Means (token.Word (word.Form f) ∷ [])) same refl
meaning_of-only (token.Word (word.Category c) ∷ token.Sign sign.Colon ∷ ts) l e = given-only c ts l e
meaning_of-only _ l e = absurd cc

-- ---- a line

abbrev Found : List ℕ → Option Line → Type 0
Found bytes found = MatchOption found (¬ IsReadable bytes) (λ l. IsLine bytes l)

-- what is found of a line whose tokens are read
pub line_found : (bytes text : List ℕ) (ts : List Token) → without_end bytes ≡ Some text → IsUtf8 text → Spells text ts → (found : Option Line) → found ≡ meaning_of ts → Found bytes found
line_found bytes text ts ended utf8 spelled None e = λ readable. none readable.0 readable.1
  where
    none : (l : Line) → IsLine bytes l → ⊥
    none l is =
        let texts : Some is.text ≡ Some text = sym is.ended ∙ ended in
        let same : is.text ≡ text = cc in
        let tokens = spells_one text is.tokens ts (subst (λ x. Spells x is.tokens) same is.spelled) spelled in
        let some : meaning_of ts ≡ Some l = ap meaning_of (sym tokens) ∙ meaning_of-there is.tokens l is.meant in
        let h : None ≡ Some l = e ∙ some in
        absurd cc
line_found bytes text ts ended utf8 spelled (Some l) e =
    record { text = text; ended = ended; utf8 = utf8; tokens = ts; spelled = spelled; meant = meaning_of-only ts l (sym e) }

pub lines_found : (bytes text : List ℕ) (ts : List Token) → without_end bytes ≡ Some text → IsUtf8 text → Spells text ts →
    (result : Result (Option Line) Memory) → IfOk result (λ found. found ≡ meaning_of ts) → IfOk result (Found bytes)
lines_found bytes text ts ended utf8 spelled (Ok found) e = line_found bytes text ts ended utf8 spelled found e
lines_found bytes text ts ended utf8 spelled (Err m) e = e

-- a line is one thing at most
pub line_is_one : (bytes : List ℕ) (l m : Line) → IsLine bytes l → IsLine bytes m → l ≡ m
line_is_one bytes l m is also =
    let texts : Some also.text ≡ Some is.text = sym also.ended ∙ is.ended in
    let same : also.text ≡ is.text = cc in
    let tokens = spells_one is.text also.tokens is.tokens (subst (λ x. Spells x also.tokens) same also.spelled) is.spelled in
    let both_are : Some l ≡ Some m = sym (meaning_of-there is.tokens l is.meant) ∙ ap meaning_of (sym tokens) ∙ meaning_of-there also.tokens m also.meant in
    cc
