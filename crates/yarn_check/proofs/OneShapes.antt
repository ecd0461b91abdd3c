-- A node has at most one list of shapes: goals are later, so each shape comes from those before it.
use Rattle.std.proofs.Common.{◌≡◌, ℕ, zero, suc, ◌<◌, List, [], ◌∷◌, ◌++◌, Option, Some, None, refl, sym, ap, ◌∙◌, subst, arith, All}
use Rattle.std.specs.Prelude.{slice_get}
use Rattle.std.proofs.lemmas.Option.{slice_get_within, slice_get-get_or}
use Rattle.yarn_code.specs.declared.program.CodeNode.{CodeNode}
use Rattle.yarn_code.specs.declared.program.Program.{Program}
use Rattle.yarn_check.specs.Shapes.{Shape, shape, Goal, Shapes, HasShape, IsReached, Agrees}
use Rattle.yarn_check.specs.Laws.{OneShapes}
use Rattle.yarn_check.proofs.Each.{Each, each_back}
use Rattle.yarn_check.proofs.Each.{each_from_all}

-- lists with the same items are the same
same_items : {A : Type 0} (a b : List A) → ((i : ℕ) → slice_get a i ≡ slice_get b i) → a ≡ b
same_items [] [] h = refl
same_items [] (y ∷ b) h = let e = h 0 in absurd cc
same_items (x ∷ a) [] h = let e = h 0 in absurd cc
same_items (x ∷ a) (y ∷ b) h =
    let e = h 0 in
    let head : x ≡ y = cc in
    ap (λ z. z ∷ a) head ∙ ap (λ l. y ∷ l) (same_items a b (λ i. h (suc i)))

module _ (p : Program) (n : CodeNode) where
  reached_there : (shapes : Shapes) (place : ℕ) (goals before behind : List Goal) (into : Goal) → goals ≡ before ++ into ∷ behind → All (IsReached n shapes place) goals → IsReached n shapes place into
  reached_there shapes place goals before behind into e h =
      (each_back (IsReached n shapes place) before (into ∷ behind) (subst (Each (IsReached n shapes place)) e (each_from_all (IsReached n shapes place) goals h))).0

  -- a shape of the one list is in the other, where all places before it are the same
  has_there : (a b : Shapes) → Agrees p n a → Agrees p n b → (place : ℕ) → ((q : ℕ) → q < place → slice_get a q ≡ slice_get b q) → (s : Shape) → HasShape a place s → HasShape b place s
  has_there a b x y zero same s has =
      let first : s ≡ shape [] [] = cc (x.begins, has) in
      y.begins ∙ ap (λ t. Some (Some t)) (sym first)
  has_there a b x y (suc place) same s has =
      let e = x.entered place s has in
      let ra = x.runs e.from e.c e.s e.stands e.has in
      let ga : ra.goals ≡ e.before ++ e.into ∷ e.behind = cc (ra.can, e.can) in
      let here = reached_there a e.from ra.goals e.before e.behind e.into ga ra.reached in
      let earlier : e.from < suc place = omega (arith, here.later.later, e.there) in
      let hb : HasShape b e.from e.s = sym (same e.from earlier) ∙ e.has in
      let rb = y.runs e.from e.c e.s e.stands hb in
      let gb : rb.goals ≡ e.before ++ e.into ∷ e.behind = cc (rb.can, e.can) in
      let there = reached_there b e.from rb.goals e.before e.behind e.into gb rb.reached in
      let ha : HasShape a (suc place) e.into.shape = subst (λ m. HasShape a m e.into.shape) e.there here.has in
      let is : e.into.shape ≡ s = cc (ha, has) in
      subst (λ m. HasShape b m s) e.there (subst (λ t. HasShape b e.into.place t) is there.has)

  module _ (a b : Shapes) (x : Agrees p n a) (y : Agrees p n b) where
    same_at : (place : ℕ) → ((q : ℕ) → q < place → slice_get a q ≡ slice_get b q) → (o r : Option (Option Shape)) → slice_get a place ≡ o → slice_get b place ≡ r → o ≡ r
    same_at place same None None e f = refl
    same_at place same None (Some t) e f =
        let within = slice_get_within b place t f in
        absurd (cc (e, slice_get-get_or a place t (omega (arith, within, x.counted, y.counted))))
    same_at place same (Some t) None e f =
        let within = slice_get_within a place t e in
        absurd (cc (f, slice_get-get_or b place t (omega (arith, within, x.counted, y.counted))))
    same_at place same (Some None) (Some None) e f = refl
    same_at place same (Some (Some s)) (Some r) e f = sym (has_there a b x y place same s e) ∙ f
    same_at place same (Some None) (Some (Some s)) e f = sym e ∙ has_there b a y x place (λ q lt. sym (same q lt)) s f

    same_below : (most place : ℕ) → place < most → slice_get a place ≡ slice_get b place
    same_below zero place lt = absurd (omega (arith, lt))
    same_below (suc most) place lt = same_at place (λ q le. same_below most q (omega (arith, le, lt))) (slice_get a place) (slice_get b place) refl refl

    pub one_list : a ≡ b
    one_list = same_items a b (λ i. same_below (suc i) i (omega arith))

pub one_shapes : OneShapes
one_shapes p n a b x y = one_list p n a b x y
