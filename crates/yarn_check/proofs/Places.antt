-- What stands at a place of a node, and what an instruction comes to.
use Rattle.std.proofs.Common.{◌≡◌, ◌<◌, ℕ, zero, suc, List, [], ◌∷◌, ◌++◌, length, map, nat_eq, Bool, true, false, if◌then◌else◌, All, Some, refl, sym, subst, arith, slice_get}
use Rattle.std.specs.Cmp.Lexicographic.{pointwise}
use Rattle.std.proofs.lemmas.List.Elements.{All-head, All-tail}
use Rattle.std.proofs.lemmas.Option.{slice_get_within, get_or_from_slice_get}
use Rattle.yarn_value.specs.declared.value.Value.{Value}
use Rattle.yarn_value.specs.declared.value.Kind.{Kind}
use Rattle.yarn_value.specs.Values.{kind_of}
use Rattle.yarn_code.specs.declared.program.Coded.{Coded}
use Rattle.yarn_code.specs.declared.program.CodeNode.{CodeNode}
use Rattle.yarn_code.specs.declared.program.Program.{Program}
use Rattle.yarn_code.specs.Parts.{code_titled}
use Rattle.yarn_code.specs.MachineState.{Offer}
use Rattle.yarn_check.specs.Shapes.{Shape, Shapes, Flow, Goal, HasShape, Agrees, if_nothing, if_something}
use Rattle.yarn_check.specs.Shaped.{AreFitting, AreOf, IsOffer, HasOffers}

some_is : {A : Type 0} (a b : A) → Some a ≡ Some b → a ≡ b
some_is a b h = cc

-- ---- nodes and instructions

-- what holds of each node holds of the one of a title
pub of_titled : (P : CodeNode → Type 0) (title : List ℕ) (ns : List CodeNode) (n : CodeNode) → All P ns → code_titled title ns ≡ Some n → P n
of_titled P title [] n all is = absurd cc
of_titled P title (m ∷ ns) n all is = by_test (of_titled P title ns n (All-tail P m ns all)) (pointwise nat_eq m.title title) is
  where
    by_test : (code_titled title ns ≡ Some n → P n) → (b : Bool) → (if b then Some m else code_titled title ns) ≡ Some n → P n
    by_test later true h = subst P (some_is m n h) (All-head P m ns all)
    by_test later false h = later h

-- what holds of each item holds of the one at a place
pub of_got : {A : Type 0} (P : A → Type 0) (xs : List A) (i : ℕ) (x : A) → All P xs → slice_get xs i ≡ Some x → P x
of_got P xs i x all is = subst P (get_or_from_slice_get xs i x x is) (all i x (slice_get_within xs i x is))

got_at : {A : Type 0} (xs : List A) (i : ℕ) → i < length xs → (x : A) × (slice_get xs i ≡ Some x)
got_at [] i lt = absurd (omega arith)
got_at (x ∷ xs) zero lt = (x, refl)
got_at (x ∷ xs) (suc i) lt = got_at xs i (omega arith)

-- an instruction stands where there is a shape
pub coded_at : (p : Program) (n : CodeNode) (place : ℕ) (shapes : Shapes) (s : Shape) → Agrees p n shapes → HasShape shapes place s →
    (c : Coded) × (slice_get n.code place ≡ Some c)
coded_at p n place shapes s agrees has =
    let within = slice_get_within shapes place (Some s) has in
    let counted = agrees.counted in
    got_at n.code place (omega arith)

-- ---- flows

pub one_of : (P : Goal → Type 0) (g : Goal) (gs goals : List Goal) → Some (g ∷ gs) ≡ Some goals → All P goals → P g
one_of P g gs goals is all = All-head P g gs (subst (All P) (sym (some_is (g ∷ gs) goals is)) all)

pub second_of : (P : Goal → Type 0) (g h : Goal) (goals : List Goal) → Some (g ∷ h ∷ []) ≡ Some goals → All P goals → P h
second_of P g h goals is all = All-head P h [] (All-tail P g (h ∷ []) (subst (All P) (sym (some_is (g ∷ h ∷ []) goals is)) all))

pub all_of : (P : Goal → Type 0) (gs goals : List Goal) → Some gs ≡ Some goals → All P goals → All P gs
all_of P gs goals is all = subst (All P) (sym (some_is gs goals is)) all

pub nothing_is : (labels : List ℕ) (flow : Flow) (goals : List Goal) → if_nothing labels flow ≡ Some goals → (labels ≡ []) × (flow ≡ Some goals)
nothing_is [] flow goals is = (refl, is)
nothing_is (l ∷ ls) flow goals is = absurd cc

pub something_is : (labels : List ℕ) (flow : Flow) (goals : List Goal) → if_something labels flow ≡ Some goals → flow ≡ Some goals
something_is [] flow goals is = absurd cc
something_is (l ∷ ls) flow goals is = is

-- ---- values

pub are_fitting : (ks : List Kind) (vs : List Value) → AreOf ks vs → AreFitting vs
are_fitting [] [] are = tt
are_fitting (k ∷ ks) (v ∷ vs) are = (are.0.fits, are_fitting ks vs are.1)
are_fitting [] (v ∷ vs) are = absurd are
are_fitting (k ∷ ks) [] are = absurd are

pub are_kinds : (ks : List Kind) (vs : List Value) → AreOf ks vs → ks ≡ map kind_of vs
are_kinds [] [] are = refl
are_kinds (k ∷ ks) (v ∷ vs) are = let one = are.0.kind in let rest = are_kinds ks vs are.1 in cc
are_kinds [] (v ∷ vs) are = absurd are
are_kinds (k ∷ ks) [] are = absurd are

-- ---- options

pub offers_and : (p : Program) (labels : List ℕ) (offers : List Offer) (label : ℕ) (o : Offer) → HasOffers p labels offers → IsOffer p label o →
    HasOffers p (labels ++ label ∷ []) (offers ++ o ∷ [])
offers_and p [] [] label o has is = (is, tt)
offers_and p (l ∷ ls) (x ∷ xs) label o has is = (has.0, offers_and p ls xs label o has.1 is)
offers_and p [] (x ∷ xs) label o has is = absurd has
offers_and p (l ∷ ls) [] label o has is = absurd has

pub no_offers : (p : Program) (offers : List Offer) → HasOffers p [] offers → offers ≡ []
no_offers p [] has = refl
no_offers p (o ∷ os) has = absurd has
