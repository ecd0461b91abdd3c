-- The check of a program is exact.
use Rattle.std.proofs.Common.{◌≡◌, ℕ, zero, suc, ◌+◌, ◌<◌, List, [], ◌∷◌, length, Option, Some, None, Result, Ok, Err, refl, sym, ap, ◌∙◌, subst, arith, All, ◌⊎◌, inl, inr}
use Rattle.std.specs.Prelude.{slice_get}
use Rattle.std.proofs.lemmas.List.Elements.{All-nil, All-cons, All-head, All-tail}
use Rattle.yarn_code.specs.declared.program.Coded.{Coded}
use Rattle.yarn_code.specs.declared.program.CodeNode.{CodeNode}
use Rattle.yarn_code.specs.declared.program.Program.{Program}
use Rattle.yarn_check.specs.Shapes.{Shapes, Agrees, IsValidNode, IsValid}
use Rattle.yarn_check.specs.Faults.{CheckFault, NodeFault, IsFaultAt, IsFirstAt, IsLookAt, IsFirstLook, told, IsFirstShape, IsFirstFault}
use Rattle.yarn_check.specs.Pass.{Coming, Walked, Ended, Faulted, pass, shapes_in, look, if_none, first_of, look_node, and_shapes, and_node, pass_nodes, behind_look, check}
use Rattle.yarn_check.specs.PassLaws.{AgreeAll, IsCheckOf, CheckIsExact}
use Rattle.yarn_check.proofs.Exact.{exact, agrees_clean, one_first}
use Rattle.yarn_check.proofs.Look.{exact_look}

all_at : {A : Type 0} (P : A → Type 0) (xs : List A) → ((q : ℕ) (x : A) → slice_get xs q ≡ Some x → P x) → All P xs
all_at P [] f = All-nil P
all_at P (x ∷ xs) f = All-cons P x xs (f 0 x refl) (all_at P xs (λ q y e. f (suc q) y e))

at_all : {A : Type 0} (P : A → Type 0) (xs : List A) → All P xs → (q : ℕ) (x : A) → slice_get xs q ≡ Some x → P x
at_all P [] h q x e = absurd cc
at_all P (y ∷ xs) h zero x e = let same : y ≡ x = cc in subst P same (All-head P y xs h)
at_all P (y ∷ xs) h (suc q) x e = at_all P xs (All-tail P y xs h) q x e

-- ---- the first of a list

module _ {A : Type 0} (fault : ℕ → A → Option CheckFault) where
  first_none : (i : ℕ) (xs : List A) → first_of fault i xs ≡ None → (q : ℕ) (x : A) → slice_get xs q ≡ Some x → (m : ℕ) → m ≡ i + q → fault m x ≡ None
  first_none i [] e q x at m is = absurd cc
  first_none i (y ∷ xs) e q x at m is = by_head (first_none (i + 1) xs) q at is (fault i y) refl e
    where
      by_head : (first_of fault (i + 1) xs ≡ None → (q : ℕ) (x : A) → slice_get xs q ≡ Some x → (m : ℕ) → m ≡ i + 1 + q → fault m x ≡ None) → (q : ℕ) → slice_get (y ∷ xs) q ≡ Some x → m ≡ i + q →
          (o : Option CheckFault) → fault i y ≡ o → if_none o (first_of fault (i + 1) xs) ≡ None → fault m x ≡ None
      by_head more q at is (Some f) has e = absurd cc
      by_head more zero at is None has e = let same : y ≡ x = cc in let there : i ≡ m = omega (arith, is) in subst (λ k. fault k x ≡ None) there (subst (λ z. fault i z ≡ None) same has)
      by_head more (suc q) at is None has e = more e q x at m (omega (arith, is))

  pub record IsFirstOf (i : ℕ) (xs : List A) (f : CheckFault) : Type 0 where
    pub q : ℕ
    pub x : A
    pub stands : slice_get xs q ≡ Some x
    pub here : (m : ℕ) → m ≡ i + q → fault m x ≡ Some f
    pub before : (r : ℕ) (y : A) → r < q → slice_get xs r ≡ Some y → (m : ℕ) → m ≡ i + r → fault m y ≡ None

  first_some : (i : ℕ) (xs : List A) (f : CheckFault) → first_of fault i xs ≡ Some f → IsFirstOf i xs f
  first_some i [] f e = absurd cc
  first_some i (y ∷ xs) f e = by_head (first_some (i + 1) xs f) (fault i y) refl e
    where
      by_head : (first_of fault (i + 1) xs ≡ Some f → IsFirstOf (i + 1) xs f) → (o : Option CheckFault) → fault i y ≡ o → if_none o (first_of fault (i + 1) xs) ≡ Some f → IsFirstOf i (y ∷ xs) f
      by_head more (Some g) has e =
          let same : g ≡ f = cc in
          record {
            q = 0;
            x = y;
            stands = refl;
            here = λ m is. let there : i ≡ m = omega (arith, is) in subst (λ k. fault k y ≡ Some f) there (has ∙ ap (λ z. Some z) same);
            before = λ r z lt at m is. absurd (omega (arith, lt));
          }
      by_head more None has e =
          let rest = more e in
          record { q = suc rest.q; x = rest.x; stands = rest.stands; here = λ m is. rest.here m (omega (arith, is)); before = before rest }
        where
          before : (rest : IsFirstOf (i + 1) xs f) (r : ℕ) (z : A) → r < suc rest.q → slice_get (y ∷ xs) r ≡ Some z → (m : ℕ) → m ≡ i + r → fault m z ≡ None
          before rest zero z lt at m is = let same : y ≡ z = cc in let there : i ≡ m = omega (arith, is) in subst (λ k. fault k z ≡ None) there (subst (λ w. fault i w ≡ None) same has)
          before rest (suc r) z lt at m is = rest.before r z (omega (arith, lt)) at m (omega (arith, is))

-- ---- the shapes of all nodes

module _ (p : Program) where
  -- how the pass over that node ends
  pub record EndsAt (all : List Shapes) (q : ℕ) (n : CodeNode) : Type 0 where
    pub cells : List Coming
    pub ends : pass p n ≡ Ended cells
    pub has : slice_get all q ≡ Some (shapes_in cells)

  pub record AllEnd (ns : List CodeNode) (all : List Shapes) : Type 0 where
    pub counted : length all ≡ length ns
    pub each : (q : ℕ) (n : CodeNode) → slice_get ns q ≡ Some n → EndsAt all q n

  nodes_ok : (i : ℕ) (ns : List CodeNode) (all : List Shapes) → pass_nodes p i ns ≡ Ok all → AllEnd ns all
  nodes_ok i [] all e =
      let same : [] ≡ all = cc in
      record { counted = ap length (sym same); each = λ q n at. absurd cc }
  nodes_ok i (n ∷ ns) all e = by_pass (nodes_ok (i + 1) ns) (pass p n) refl e
    where
      by_rest : (cells : List Coming) → pass p n ≡ Ended cells → ((all : List Shapes) → pass_nodes p (i + 1) ns ≡ Ok all → AllEnd ns all) → (r : Result (List Shapes) CheckFault) → pass_nodes p (i + 1) ns ≡ r → and_shapes (shapes_in cells) r ≡ Ok all → AllEnd (n ∷ ns) all
      by_rest cells ends more (Err f) is e = absurd cc
      by_rest cells ends more (Ok rest) is e =
          let same : shapes_in cells ∷ rest ≡ all = cc in
          let end = more rest is in
          subst (AllEnd (n ∷ ns)) same (record { counted = ap suc end.counted; each = each end })
        where
          each : AllEnd ns rest → (q : ℕ) (m : CodeNode) → slice_get (n ∷ ns) q ≡ Some m → EndsAt (shapes_in cells ∷ rest) q m
          each end zero m at = let same : n ≡ m = cc in subst (EndsAt (shapes_in cells ∷ rest) 0) same (record { cells = cells; ends = ends; has = refl })
          each end (suc q) m at = let r = end.each q m at in record { cells = r.cells; ends = r.ends; has = r.has }

      by_pass : ((all : List Shapes) → pass_nodes p (i + 1) ns ≡ Ok all → AllEnd ns all) → (w : Walked) → pass p n ≡ w → and_node i w (pass_nodes p (i + 1) ns) ≡ Ok all → AllEnd (n ∷ ns) all
      by_pass more (Faulted f place) is e = absurd cc
      by_pass more (Ended cells) is e = by_rest cells is more (pass_nodes p (i + 1) ns) refl e

  pub record Ends (n : CodeNode) : Type 0 where
    pub cells : List Coming
    pub ends : pass p n ≡ Ended cells

  pub record StopsAt (i : ℕ) (ns : List CodeNode) (f : CheckFault) : Type 0 where
    pub q : ℕ
    pub n : CodeNode
    pub what : NodeFault
    pub place : ℕ
    pub stands : slice_get ns q ≡ Some n
    pub stops : pass p n ≡ Faulted what place
    pub is : f ≡ told what (i + q) place
    pub before : (r : ℕ) (m : CodeNode) → r < q → slice_get ns r ≡ Some m → Ends m

  nodes_err : (i : ℕ) (ns : List CodeNode) (f : CheckFault) → pass_nodes p i ns ≡ Err f → StopsAt i ns f
  nodes_err i [] f e = absurd cc
  nodes_err i (n ∷ ns) f e = by_pass (nodes_err (i + 1) ns) (pass p n) refl e
    where
      told_at : (what : NodeFault) (a b place : ℕ) → a ≡ b → told what a place ≡ told what b place
      told_at what a b place e = ap (λ m. told what m place) e

      by_rest : (cells : List Coming) → pass p n ≡ Ended cells → ((f : CheckFault) → pass_nodes p (i + 1) ns ≡ Err f → StopsAt (i + 1) ns f) → (r : Result (List Shapes) CheckFault) → pass_nodes p (i + 1) ns ≡ r → and_shapes (shapes_in cells) r ≡ Err f → StopsAt i (n ∷ ns) f
      by_rest cells ends more (Ok rest) is e = absurd cc
      by_rest cells ends more (Err g) is e =
          let same : g ≡ f = cc in
          let s = more f (is ∙ ap (λ k. Err k) same) in
          record { q = suc s.q; n = s.n; what = s.what; place = s.place; stands = s.stands; stops = s.stops; is = s.is ∙ told_at s.what (i + 1 + s.q) (i + suc s.q) s.place (omega arith); before = before s }
        where
          before : (s : StopsAt (i + 1) ns f) (r : ℕ) (m : CodeNode) → r < suc s.q → slice_get (n ∷ ns) r ≡ Some m → Ends m
          before s zero m lt at = let same : n ≡ m = cc in subst Ends same (record { cells = cells; ends = ends })
          before s (suc r) m lt at = s.before r m (omega (arith, lt)) at

      by_pass : ((f : CheckFault) → pass_nodes p (i + 1) ns ≡ Err f → StopsAt (i + 1) ns f) → (w : Walked) → pass p n ≡ w → and_node i w (pass_nodes p (i + 1) ns) ≡ Err f → StopsAt i (n ∷ ns) f
      by_pass more (Faulted what place) is e =
          let same : told what i place ≡ f = cc in
          record { q = 0; n = n; what = what; place = place; stands = refl; stops = is; is = sym same ∙ told_at what i (i + 0) place (omega arith); before = λ r m lt at. absurd (omega (arith, lt)) }
      by_pass more (Ended cells) is e = by_rest cells is more (pass_nodes p (i + 1) ns) refl e

  -- ---- one first fault

  IsClear : Type 0
  IsClear = (a b : ℕ) (g : CheckFault) → IsLookAt p a b g → ⊥

  trichotomy : (a b : ℕ) → (a < b → ⊥) → (b < a → ⊥) → a ≡ b
  trichotomy a b x y = omega (arith, x, y)

  same_look : (f g : CheckFault) → IsFirstLook p f → IsFirstLook p g → f ≡ g
  same_look f g x y =
      let node : x.node ≡ y.node = trichotomy x.node y.node (λ lt. y.first x.node x.place f (inl lt) x.here) (λ lt. x.first y.node y.place g (inl lt) y.here) in
      let place : x.place ≡ y.place = trichotomy x.place y.place (λ lt. y.first x.node x.place f (inr (node, lt)) x.here) (λ lt. x.first y.node y.place g (inr (sym node, lt)) y.here) in
      let n : x.here.n ≡ y.here.n = cc (x.here.stands, y.here.stands, node) in
      let c : x.here.c ≡ y.here.c = cc (x.here.within, y.here.within, n, place) in
      let a = (exact_look p x.here.n x.node x.place x.here.c.instr).first f x.here.wrong in
      let b = (exact_look p y.here.n y.node y.place y.here.c.instr).first g y.here.wrong in
      cc (a, b, node, place, n, c)

  same_shape_fault : (f g : CheckFault) → IsFirstShape p f → IsFirstShape p g → f ≡ g
  same_shape_fault f g x y =
      let node : x.node ≡ y.node = trichotomy x.node y.node (λ lt. y.first x.node x.place x.n x.what lt x.stands x.here.here) (λ lt. x.first y.node y.place y.n y.what lt y.stands y.here.here) in
      let n : x.n ≡ y.n = cc (x.stands, y.stands, node) in
      let same = one_first p y.n x.place y.place x.what y.what (subst (λ m. IsFirstAt p m x.place x.what) n x.here) y.here in
      x.is ∙ ap (λ k. told k x.node x.place) same.1 ∙ ap (λ m. told y.what m x.place) node ∙ ap (λ m. told y.what y.node m) same.0 ∙ sym y.is

  one_fault : (f g : CheckFault) → IsFirstFault p f → IsFirstFault p g → f ≡ g
  one_fault f g (inl x) (inl y) = same_look f g x y
  one_fault f g (inl x) (inr y) = absurd (y.0 x.node x.place f x.here)
  one_fault f g (inr x) (inl y) = absurd (x.0 y.node y.place g y.here)
  one_fault f g (inr x) (inr y) = same_shape_fault f g x.1 y.1

  -- ---- a valid program has no fault

  no_look : IsValid p → (a b : ℕ) (g : CheckFault) → IsLookAt p a b g → ⊥
  no_look v a b g at =
      let node = at_all (IsValidNode p) p.nodes v a at.n at.stands in
      let x = exact_look p at.n a b at.c.instr in
      let none = x.none (node.fine b at.c at.within) in
      let some = x.first g at.wrong in
      absurd (cc (none, some))

  no_fault : IsValid p → (f : CheckFault) → IsFirstFault p f → ⊥
  no_fault v f (inl x) = no_look v x.node x.place f x.here
  no_fault v f (inr x) =
      let node = at_all (IsValidNode p) p.nodes v x.1.node x.1.n x.1.stands in
      agrees_clean p x.1.n node.shapes node.agrees x.1.place x.1.what x.1.here.here

  -- ---- the first look over all

  looked : (o : Option CheckFault) → first_of (look_node p) 0 p.nodes ≡ None → (a b : ℕ) (n : CodeNode) (c : Coded) → slice_get p.nodes a ≡ Some n → slice_get n.code b ≡ Some c → look p n a b c.instr ≡ None
  looked o e a b n c at within = first_none (λ place (c : Coded). look p n a place c.instr) 0 n.code (first_none (look_node p) 0 p.nodes e a n at a (omega arith)) b c within b (omega arith)

  clear : first_of (look_node p) 0 p.nodes ≡ None → (a b : ℕ) (g : CheckFault) → IsLookAt p a b g → ⊥
  clear e a b g at =
      let none = looked None e a b at.n at.c at.stands at.within in
      let some = (exact_look p at.n a b at.c.instr).first g at.wrong in
      absurd (cc (none, some))

  look_first : (f : CheckFault) → first_of (look_node p) 0 p.nodes ≡ Some f → IsFirstLook p f
  look_first f e = by_node (first_some (look_node p) 0 p.nodes f e)
    where
      by_node : IsFirstOf (look_node p) 0 p.nodes f → IsFirstLook p f
      by_node r = by_place (first_some (λ place (c : Coded). look p r.x r.q place c.instr) 0 r.x.code f (r.here r.q (omega arith)))
        where
          by_place : IsFirstOf (λ place (c : Coded). look p r.x r.q place c.instr) 0 r.x.code f → IsFirstLook p f
          by_place s = record {
            node = r.q;
            place = s.q;
            here = record { n = r.x; c = s.x; stands = r.stands; within = s.stands; wrong = (exact_look p r.x r.q s.q s.x.instr).fault f (s.here s.q (omega arith)) };
            first = first;
          }
            where
              first : (a b : ℕ) (g : CheckFault) → (a < r.q) ⊎ ((a ≡ r.q) × (b < s.q)) → IsLookAt p a b g → ⊥
              first a b g (inl lt) at =
                  let none = first_none (λ place (c : Coded). look p at.n a place c.instr) 0 at.n.code (r.before a at.n lt at.stands a (omega arith)) b at.c at.within b (omega arith) in
                  let some = (exact_look p at.n a b at.c.instr).first g at.wrong in
                  absurd (cc (none, some))
              first a b g (inr lt) at =
                  let n : at.n ≡ r.x = cc (at.stands, r.stands, lt.0) in
                  let within : slice_get r.x.code b ≡ Some at.c = subst (λ (m : CodeNode). slice_get m.code b ≡ Some at.c) n at.within in
                  let none = s.before b at.c lt.1 within b (omega arith) in
                  let some = (exact_look p at.n a b at.c.instr).first g at.wrong in
                  absurd (cc (none, some, n, lt.0))

  -- ---- the check

  module _ (some : All (λ n. 0 < length n.code) p.nodes) where
    is_some : (q : ℕ) (n : CodeNode) → slice_get p.nodes q ≡ Some n → 0 < length n.code
    is_some q n at = at_all (λ n. 0 < length n.code) p.nodes some q n at

    valid_all : (all : List Shapes) → first_of (look_node p) 0 p.nodes ≡ None → pass_nodes p 0 p.nodes ≡ Ok all → IsValid p × AgreeAll p all
    valid_all all e ok = (all_at (IsValidNode p) p.nodes valid_node, record { counted = ends.counted; agree = agree })
      where
        ends : AllEnd p.nodes all
        ends = nodes_ok 0 p.nodes all ok

        valid_node : (q : ℕ) (n : CodeNode) → slice_get p.nodes q ≡ Some n → IsValidNode p n
        valid_node q n at =
            let end = ends.each q n at in
            record {
              fine = λ place c within. (exact_look p n q place c.instr).fine (looked None e q place n c at within);
              shapes = shapes_in end.cells;
              agrees = (exact p n (is_some q n at)).agrees end.cells end.ends;
            }

        agree : (node : ℕ) (n : CodeNode) (shapes : Shapes) → slice_get p.nodes node ≡ Some n → slice_get all node ≡ Some shapes → Agrees p n shapes
        agree node n shapes at has =
            let end = ends.each node n at in
            let same : shapes_in end.cells ≡ shapes = cc (end.has, has) in
            subst (Agrees p n) same ((exact p n (is_some node n at)).agrees end.cells end.ends)

    shape_first : (f : CheckFault) → pass_nodes p 0 p.nodes ≡ Err f → IsFirstShape p f
    shape_first f e =
        let s = nodes_err 0 p.nodes f e in
        record {
          node = s.q;
          n = s.n;
          place = s.place;
          what = s.what;
          stands = s.stands;
          here = (exact p s.n (is_some s.q s.n s.stands)).faults s.what s.place s.stops;
          first = first s;
          is = s.is ∙ (let there : 0 + s.q ≡ s.q = omega arith in ap (λ m. told s.what m s.place) there);
        }
      where
        first : (s : StopsAt 0 p.nodes f) (a b : ℕ) (m : CodeNode) (g : NodeFault) → a < s.q → slice_get p.nodes a ≡ Some m → IsFaultAt p m b g → ⊥
        first s a b m g lt at wrong =
            let end = s.before a m lt at in
            agrees_clean p m (shapes_in end.cells) ((exact p m (is_some a m at)).agrees end.cells end.ends) b g wrong

    check_ok : (all : List Shapes) → check p ≡ Ok all → IsValid p × AgreeAll p all
    check_ok all = by_look (first_of (look_node p) 0 p.nodes) refl
      where
        by_look : (o : Option CheckFault) → first_of (look_node p) 0 p.nodes ≡ o → behind_look o (pass_nodes p 0 p.nodes) ≡ Ok all → IsValid p × AgreeAll p all
        by_look None is e = valid_all all is e
        by_look (Some f) is e = absurd cc

    check_err : (f : CheckFault) → check p ≡ Err f → IsFirstFault p f
    check_err f = by_look (first_of (look_node p) 0 p.nodes) refl
      where
        by_look : (o : Option CheckFault) → first_of (look_node p) 0 p.nodes ≡ o → behind_look o (pass_nodes p 0 p.nodes) ≡ Err f → IsFirstFault p f
        by_look None is e = inr (clear is, shape_first f e)
        by_look (Some g) is e = let same : g ≡ f = cc in inl (look_first f (is ∙ ap (λ k. Some k) same))

    valid_ok : IsValid p → (r : Result (List Shapes) CheckFault) → check p ≡ r → (all : List Shapes) × (check p ≡ Ok all)
    valid_ok v (Ok all) e = (all, e)
    valid_ok v (Err f) e = absurd (no_fault v f (check_err f e))

    fault_err : (f : CheckFault) → IsFirstFault p f → (r : Result (List Shapes) CheckFault) → check p ≡ r → check p ≡ Err f
    fault_err f x (Ok all) e = absurd (no_fault (check_ok all e).0 f x)
    fault_err f x (Err g) e = e ∙ ap (λ k. Err k) (one_fault g f (check_err g e) x)

    exact_check : IsCheckOf p
    exact_check = record {
      valid = check_ok;
      ok = λ v. valid_ok v (check p) refl;
      fault = check_err;
      first = λ f x. fault_err f x (check p) refl;
    }

pub check_is_exact : CheckIsExact
check_is_exact p some = exact_check p some
