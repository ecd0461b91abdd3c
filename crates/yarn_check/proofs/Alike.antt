-- The pass goes on alike from cells that are alike from a place on.
use Rattle.std.proofs.Common.{◌≡◌, ℕ, zero, suc, ◌+◌, ◌-◌, ◌<◌, ◌≤◌, List, [], ◌∷◌, length, get_or, set, drop, take, Bool, true, false, ltb, if◌then◌else◌, Option, Some, None, refl, sym, ap, ◌∙◌, arith}
use Rattle.std.specs.Prelude.{slice_get}
use Rattle.std.specs.Option.{option_map, option_and_then}
use Rattle.std.proofs.lemmas.Bool.{ltb-true}
use Rattle.yarn_code.specs.declared.program.Instr.{Instr}
use Rattle.yarn_code.specs.declared.program.Coded.{Coded}
use Rattle.yarn_code.specs.declared.program.Program.{Program}
use Rattle.yarn_check.specs.Shapes.{Shape, Goal, Flow, flow}
use Rattle.yarn_check.specs.Faults.{NodeFault, Deep}
use Rattle.yarn_check.specs.Pass.{Coming, Nothing, Alone, Several, and_shape, put_there, put, put_all, is_small, sized, Stepped, Moved, Stopped, step, Walked, Ended, Faulted, go_on, walk}
use Rattle.yarn_check.specs.declared.coming.Coming.{Coming as Cell}
use Rattle.yarn_check.specs.Views.{coming_of, cells_of, stepped_from, walked_from}

module _ {A : Type 0} where
  drop_nil : (m : ℕ) → drop {A = A} m [] ≡ []
  drop_nil zero = refl
  drop_nil (suc m) = refl

  drop_drop : (xs : List A) (i j : ℕ) → drop (i + j) xs ≡ drop j (drop i xs)
  drop_drop xs zero j = let at : 0 + j ≡ j = omega arith in ap (λ m. drop m xs) at
  drop_drop [] (suc i) j = drop_nil (suc i + j) ∙ sym (drop_nil j)
  drop_drop (x ∷ xs) (suc i) j = let at : suc i + j ≡ suc (i + j) = omega arith in ap (λ m. drop m (x ∷ xs)) at ∙ drop_drop xs i j

  get_drop : (xs : List A) (i j : ℕ) → slice_get xs (i + j) ≡ slice_get (drop i xs) j
  get_drop xs zero j = let at : 0 + j ≡ j = omega arith in ap (slice_get xs) at
  get_drop [] (suc i) j = refl
  get_drop (x ∷ xs) (suc i) j = let at : suc i + j ≡ suc (i + j) = omega arith in ap (slice_get (x ∷ xs)) at ∙ get_drop xs i j

  or_drop : (xs : List A) (i : ℕ) (d : A) → get_or xs i d ≡ get_or (drop i xs) 0 d
  or_drop xs zero d = refl
  or_drop [] (suc i) d = refl
  or_drop (x ∷ xs) (suc i) d = or_drop xs i d

  set_drop : (xs : List A) (i j : ℕ) (a : A) → drop i (set xs (i + j) a) ≡ set (drop i xs) j a
  set_drop xs zero j a = let at : 0 + j ≡ j = omega arith in ap (λ m. set xs m a) at
  set_drop [] (suc i) j a = refl
  set_drop (x ∷ xs) (suc i) j a = let at : suc i + j ≡ suc (i + j) = omega arith in ap (λ m. drop (suc i) (set (x ∷ xs) m a)) at ∙ set_drop xs i j a

  -- an item before a place is of no account from there on
  pub set_before : (xs : List A) (i : ℕ) (a : A) → drop (i + 1) (set xs i a) ≡ drop (i + 1) xs
  set_before [] i a = refl
  set_before (x ∷ xs) zero a = refl
  set_before (x ∷ xs) (suc i) a = let at : suc i + 1 ≡ suc (i + 1) = omega arith in ap (λ m. drop m (x ∷ set xs i a)) at ∙ set_before xs i a ∙ ap (λ m. drop m (x ∷ xs)) (sym at)

  pub drop_short : (xs : List A) (i end : ℕ) → length xs ≤ end → i ≤ end → i + length (drop i xs) ≤ end
  drop_short xs zero end short within = omega (arith, short)
  drop_short [] (suc i) end short within = omega (arith, within)
  drop_short (x ∷ xs) (suc i) zero short within = absurd (omega (arith, within))
  drop_short (x ∷ xs) (suc i) (suc end) short within = let more = drop_short xs i end (omega (arith, short)) (omega (arith, within)) in omega (arith, more)

  pub take_short : (n : ℕ) (xs : List A) → length (take n xs) ≤ n
  take_short zero xs = omega arith
  take_short (suc n) [] = omega arith
  take_short (suc n) (x ∷ xs) = let more = take_short n xs in omega (arith, more)

  pub drop_take : (xs : List A) (i end : ℕ) (x : A) → i < end → i < length xs → x ≡ get_or xs i x → drop i (take end xs) ≡ x ∷ drop (i + 1) (take end xs)
  drop_take xs i zero x lt within e = absurd (omega (arith, lt))
  drop_take [] i (suc end) x lt within e = absurd (omega (arith, within))
  drop_take (y ∷ xs) zero (suc end) x lt within e = ap (λ z. z ∷ take end xs) (sym e)
  drop_take (y ∷ xs) (suc i) (suc end) x lt within e =
      let at : suc i + 1 ≡ suc (i + 1) = omega arith in
      drop_take xs i end x (omega (arith, lt)) (omega (arith, within)) e ∙ ap (λ m. x ∷ drop m (y ∷ take end xs)) (sym at)

  pub drop_all : (xs : List A) (i : ℕ) → length xs ≤ i → drop i xs ≡ []
  drop_all [] zero le = refl
  drop_all [] (suc i) le = refl
  drop_all (x ∷ xs) zero le = absurd (omega (arith, le))
  drop_all (x ∷ xs) (suc i) le = drop_all xs i (omega (arith, le))

  pub take_all : (xs : List A) → take (length xs) xs ≡ xs
  take_all [] = refl
  take_all (x ∷ xs) = ap (λ l. x ∷ l) (take_all xs)

abbrev from_next : ℕ → Option (List Coming) → Option (List Coming)
from_next q o = option_map (drop (q + 1)) o

module _ (q : ℕ) (a b : List Coming) (same : drop (q + 1) a ≡ drop (q + 1) b) where
  same_cell : (i : ℕ) → q < i → slice_get a i ≡ slice_get b i
  same_cell i lt =
      let at : i ≡ (q + 1) + (i - (q + 1)) = omega (arith, lt) in
      ap (slice_get a) at ∙ get_drop a (q + 1) (i - (q + 1)) ∙ ap (λ l. slice_get l (i - (q + 1))) same ∙ sym (get_drop b (q + 1) (i - (q + 1))) ∙ sym (ap (slice_get b) at)

  same_set : (i : ℕ) (x : Coming) → q < i → drop (q + 1) (set a i x) ≡ drop (q + 1) (set b i x)
  same_set i x lt =
      let at : i ≡ (q + 1) + (i - (q + 1)) = omega (arith, lt) in
      ap (λ m. drop (q + 1) (set a m x)) at ∙ set_drop a (q + 1) (i - (q + 1)) x ∙ ap (λ l. set l (i - (q + 1)) x) same ∙ sym (set_drop b (q + 1) (i - (q + 1)) x) ∙ sym (ap (λ m. drop (q + 1) (set b m x)) at)

  put_alike : (g : Goal) → from_next q (put q g a) ≡ from_next q (put q g b)
  put_alike g = by_test (ltb q g.place) refl
    where
      by_cell : (c d : Option Coming) → c ≡ d → q < g.place → from_next q (put_there g a c) ≡ from_next q (put_there g b d)
      by_cell None None e lt = refl
      by_cell (Some x) (Some y) e lt = let one : x ≡ y = cc in ap Some (same_set g.place (and_shape g.shape x) lt ∙ ap (λ z. drop (q + 1) (set b g.place (and_shape g.shape z))) one)
      by_cell None (Some y) e lt = absurd cc
      by_cell (Some x) None e lt = absurd cc

      by_test : (t : Bool) → ltb q g.place ≡ t → from_next q (if t then put_there g a (slice_get a g.place) else None) ≡ from_next q (if t then put_there g b (slice_get b g.place) else None)
      by_test true e = let lt = ltb-true q g.place e in by_cell (slice_get a g.place) (slice_get b g.place) (same_cell g.place lt) lt
      by_test false e = refl

then_alike : (q : ℕ) (go : List Coming → Option (List Coming)) → ((a b : List Coming) → drop (q + 1) a ≡ drop (q + 1) b → from_next q (go a) ≡ from_next q (go b)) →
    (x y : Option (List Coming)) → from_next q x ≡ from_next q y → from_next q (option_and_then go x) ≡ from_next q (option_and_then go y)
then_alike q go more None None e = refl
then_alike q go more (Some a) (Some b) e = let same : drop (q + 1) a ≡ drop (q + 1) b = cc in more a b same
then_alike q go more None (Some b) e = absurd cc
then_alike q go more (Some a) None e = absurd cc

all_alike : (q : ℕ) (gs : List Goal) (a b : List Coming) → drop (q + 1) a ≡ drop (q + 1) b → from_next q (put_all q gs a) ≡ from_next q (put_all q gs b)
all_alike q [] a b same = ap Some same
all_alike q (g ∷ gs) a b same = then_alike q (λ after. put_all q gs after) (all_alike q gs) (put q g a) (put q g b) (put_alike q a b same g)

sized_alike : (q : ℕ) (s : Shape) (x y : Option (List Coming)) → from_next q x ≡ from_next q y → stepped_from (q + 1) (sized s x) ≡ stepped_from (q + 1) (sized s y)
sized_alike q s None None e = refl
sized_alike q s (Some a) (Some b) e = by_test (is_small s)
  where
    by_test : (t : Bool) → stepped_from (q + 1) (if t then Moved a else Stopped Deep) ≡ stepped_from (q + 1) (if t then Moved b else Stopped Deep)
    by_test true = let same : drop (q + 1) a ≡ drop (q + 1) b = cc in ap Moved same
    by_test false = refl
sized_alike q s None (Some b) e = absurd cc
sized_alike q s (Some a) None e = absurd cc

-- an instruction that runs on its shape
pub run_alike : (q : ℕ) (s : Shape) (f : Flow) (a b : List Coming) → drop (q + 1) a ≡ drop (q + 1) b →
    stepped_from (q + 1) (sized s (option_and_then (λ goals. put_all q goals a) f)) ≡ stepped_from (q + 1) (sized s (option_and_then (λ goals. put_all q goals b) f))
run_alike q s None a b same = refl
run_alike q s (Some gs) a b same = sized_alike q s (put_all q gs a) (put_all q gs b) (all_alike q gs a b same)

drop_next : (q : ℕ) (a b : List Coming) → drop q a ≡ drop q b → drop (q + 1) a ≡ drop (q + 1) b
drop_next q a b same = drop_drop a q 1 ∙ ap (drop 1) same ∙ sym (drop_drop b q 1)

step_alike : (p : Program) (i : Instr) (q : ℕ) (a b : List Coming) (k : Coming) → drop (q + 1) a ≡ drop (q + 1) b → stepped_from (q + 1) (step p i q a k) ≡ stepped_from (q + 1) (step p i q b k)
step_alike p i q a b Nothing same = ap Moved same
step_alike p i q a b (Alone s) same = run_alike q s (flow p i q s.entries s.pending) a b same
step_alike p i q a b Several same = refl

pub go_alike : (q end : ℕ) (go : List Coming → Walked) → ((a b : List Coming) → drop (q + 1) a ≡ drop (q + 1) b → walked_from end (go a) ≡ walked_from end (go b)) →
    (x y : Stepped) → stepped_from (q + 1) x ≡ stepped_from (q + 1) y → walked_from end (go_on q x go) ≡ walked_from end (go_on q y go)
go_alike q end go more (Moved a) (Moved b) e = let same : drop (q + 1) a ≡ drop (q + 1) b = cc in more a b same
go_alike q end go more (Stopped f) (Stopped g) e = let same : f ≡ g = cc in ap (λ h. Faulted h q) same
go_alike q end go more (Moved a) (Stopped g) e = absurd cc
go_alike q end go more (Stopped f) (Moved b) e = absurd cc

pub walk_alike : (p : Program) (cs : List Coded) (q end : ℕ) → q + length cs ≤ end → (a b : List Coming) → drop q a ≡ drop q b → walked_from end (walk p cs q a) ≡ walked_from end (walk p cs q b)
walk_alike p [] q end within a b same =
    let at : end ≡ q + (end - q) = omega (arith, within) in
    ap Ended (ap (λ m. drop m a) at ∙ drop_drop a q (end - q) ∙ ap (drop (end - q)) same ∙ sym (drop_drop b q (end - q)) ∙ sym (ap (λ m. drop m b) at))
walk_alike p (c ∷ cs) q end within a b same =
    let first : get_or a q Nothing ≡ get_or b q Nothing = or_drop a q Nothing ∙ ap (λ l. get_or l 0 Nothing) same ∙ sym (or_drop b q Nothing) in
    ap (λ k. walked_from end (go_on q (step p c.instr q a k) (λ after. walk p cs (q + 1) after))) first
    ∙ go_alike q end (λ after. walk p cs (q + 1) after) (walk_alike p cs (q + 1) end (omega (arith, within)))
    (step p c.instr q a (get_or b q Nothing)) (step p c.instr q b (get_or b q Nothing)) (step_alike p c.instr q a b (get_or b q Nothing) (drop_next q a b same))

-- ---- the loop

module _ (p : Program) (code : List Coded) (end place : ℕ) (cells : List Coming) where
  pub step_at : (c : Coded) (x : Stepped) → place < end → end ≤ length code → c ≡ get_or code place c →
      stepped_from (place + 1) x ≡ stepped_from (place + 1) (step p c.instr place cells (get_or cells place Nothing)) →
      walked_from end (go_on place x (λ after. walk p (drop (place + 1) (take end code)) (place + 1) after)) ≡ walked_from end (walk p (drop place (take end code)) place cells)
  step_at c x lt within is stepped =
      let rest = drop (place + 1) (take end code) in
      let short = drop_short (take end code) (place + 1) end (take_short end code) (omega (arith, lt)) in
      go_alike place end (λ after. walk p rest (place + 1) after) (walk_alike p rest (place + 1) end short) x (step p c.instr place cells (get_or cells place Nothing)) stepped
      ∙ sym (ap (λ l. walked_from end (walk p l place cells)) (drop_take code place end c lt (omega (arith, lt, within)) is))

  pub walk_done : end ≤ place → walked_from end (walk p (drop place (take end code)) place cells) ≡ walked_from end (Ended cells)
  walk_done le = ap (λ l. walked_from end (walk p l place cells)) (drop_all (take end code) place (let short = take_short end code in omega (arith, le, short)))

-- ---- what came to a place

pub came_at : (cells : List Cell) (place : ℕ) (came : Cell) → place < length cells → came ≡ get_or cells place came → coming_of came ≡ get_or (cells_of cells) place Nothing
came_at [] place came lt e = absurd (omega (arith, lt))
came_at (x ∷ cells) zero came lt e = ap coming_of e
came_at (x ∷ cells) (suc place) came lt e = came_at cells place came (omega (arith, lt)) e
