-- Lists that the classes allow, read off their sets.
use Rattle.std.proofs.Common.{◌≡◌, ℕ, ◌<◌, List, [], ◌∷◌, Bool, true, false, ◌||◌, Some, None, length, map, refl, sym, ap, ◌∙◌, suc, arith}
use Rattle.std.proofs.lemmas.List.{length-map, get_or-map}
use Rattle.yarn_value.specs.declared.value.Kind.{Kind}
use Rattle.yarn_value.specs.declared.value.Kind.TheVariants.{Number, Str, Truth}
use Rattle.yarn_types.specs.declared.kind_set.KindSet.{KindSet}
use Rattle.yarn_types.specs.declared.class.Classes.{Classes}
use Rattle.yarn_types.specs.KindSets.{holds, has_some, lone, lone_of}
use Rattle.yarn_types.proofs.KindLemmas.{first_of, first_by, last_of, last_by}
use Rattle.yarn_types.specs.Sets.{set_at}
use Rattle.yarn_types.specs.Typings.{kind_at}
use Rattle.yarn_types.specs.Classes.{count_of, label_of, Stands, Allows}
use Rattle.yarn_types.proofs.KindLemmas.{holds_first_of}

module _ (c : Classes) (stands : Stands c) (choose : KindSet → Kind) (right : (s : KindSet) → has_some s ≡ true → holds s (choose s) ≡ true) where
  abbrev pub picked : List Kind
  picked = map (λ l. choose (set_at c.kinds l)) c.labels

  pub picked_at : (v : ℕ) → v < count_of c → kind_at picked v ≡ choose (set_at c.kinds (label_of c v))
  picked_at v l = get_or-map (λ m. choose (set_at c.kinds m)) c.labels v 0 Number l

  pub picked_allowed : Allows c picked
  picked_allowed = record {
    counted = length-map c.labels (λ l. choose (set_at c.kinds l));
    alike = λ v l. picked_at (label_of c v) (stands.inside v l) ∙ ap (λ m. choose (set_at c.kinds m)) (stands.settled v l) ∙ sym (picked_at v l);
    within = λ v l. ap (holds (set_at c.kinds (label_of c v))) (picked_at v l) ∙ right (set_at c.kinds (label_of c v)) (stands.filled (label_of c v) (stands.inside v l));
  }

pub some_allowed : (c : Classes) → Stands c → (t : List Kind) × Allows c t
some_allowed c stands = (picked c stands first_of holds_first_of, picked_allowed c stands first_of holds_first_of)

lone_one : (a b d : Bool) (k m : Kind) → lone_of a b d ≡ Some k → holds (record { number = a; string = b; truth = d }) m ≡ true → m ≡ k
lone_one true true d k m e h = cc
lone_one true false true k m e h = cc
lone_one true false false k Number e h = cc
lone_one true false false k Str e h = cc
lone_one true false false k Truth e h = cc
lone_one false true true k m e h = cc
lone_one false true false k Number e h = cc
lone_one false true false k Str e h = cc
lone_one false true false k Truth e h = cc
lone_one false false true k Number e h = cc
lone_one false false true k Str e h = cc
lone_one false false true k Truth e h = cc
lone_one false false false k m e h = cc

pub lone_is : (s : KindSet) (k m : Kind) → lone s ≡ Some k → holds s m ≡ true → m ≡ k
lone_is s k m e h = lone_one s.number s.string s.truth k m e h

two_kinds : (a b d : Bool) → (a || b || d) ≡ true → lone_of a b d ≡ None → first_by a b ≡ last_by d b → ⊥
two_kinds true true true h e f = cc
two_kinds true true false h e f = cc
two_kinds true false true h e f = cc
two_kinds true false false h e f = cc
two_kinds false true true h e f = cc
two_kinds false true false h e f = cc
two_kinds false false true h e f = cc
two_kinds false false false h e f = cc

pub two_apart : (s : KindSet) → has_some s ≡ true → lone s ≡ None → first_of s ≡ last_of s → ⊥
two_apart s h e f = two_kinds s.number s.string s.truth h e f

lone_some : (a b d : Bool) (k : Kind) → lone_of a b d ≡ Some k → holds (record { number = a; string = b; truth = d }) k ≡ true
lone_some true true d k e = cc
lone_some true false true k e = cc
lone_some true false false Number e = refl
lone_some true false false Str e = cc
lone_some true false false Truth e = cc
lone_some false true true k e = cc
lone_some false true false Number e = cc
lone_some false true false Str e = refl
lone_some false true false Truth e = cc
lone_some false false true Number e = cc
lone_some false false true Str e = cc
lone_some false false true Truth e = refl
lone_some false false false k e = cc

pub holds_lone : (s : KindSet) (k : Kind) → lone s ≡ Some k → holds s k ≡ true
holds_lone s k e = lone_some s.number s.string s.truth k e

-- lists of kinds that agree at each place are one list
pub lists_same : (s t : List Kind) → length s ≡ length t → ((v : ℕ) → v < length s → kind_at s v ≡ kind_at t v) → s ≡ t
lists_same [] [] e same = refl
lists_same [] (k ∷ t) e same = cc
lists_same (k ∷ s) [] e same = cc
lists_same (k ∷ s) (m ∷ t) e same =
    ap (λ x. x ∷ s) (same 0 (omega arith)) ∙ ap (λ u. m ∷ u) (lists_same s t (omega (arith, e)) (λ v l. same (suc v) (omega (arith, l))))
