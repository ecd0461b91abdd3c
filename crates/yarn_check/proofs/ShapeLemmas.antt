-- The shape of an instruction is what came to it when the pass stood there.
use Rattle.std.proofs.Common.{◌≡◌, ℕ, zero, suc, ◌+◌, ◌<◌, ◌≤◌, List, [], ◌∷◌, length, get_or, map, take, drop, Option, Some, None, Result, Ok, Err, IfOk, Bool, true, false, if◌then◌else◌, refl, sym, ap, subst, ltb, ◌∙◌, arith}
use Rattle.std.specs.Prelude.{slice_get}
use Rattle.std.specs.Option.{option_map, option_and_then}
use Rattle.std.proofs.lemmas.Option.{slice_get-map, slice_get_past}
use Rattle.std.proofs.lemmas.Bool.{ltb-true, ltb-false}
use Rattle.yarn_code.specs.declared.program.Instr.{Instr}
use Rattle.yarn_code.specs.declared.program.Coded.{Coded}
use Rattle.yarn_code.specs.declared.program.CodeNode.{CodeNode}
use Rattle.yarn_code.specs.declared.program.Program.{Program}
use Rattle.yarn_check.specs.Shapes.{Shape, Goal, Flow, flow, Shapes, Agrees}
use Rattle.yarn_check.specs.Faults.{Deep}
use Rattle.yarn_check.specs.Pass.{Coming, Nothing, Alone, Several, and_shape, put, put_all, Stepped, Moved, Stopped, is_small, sized, step, Walked, Ended, Faulted, go_on, walk, beginning, pass, the_shape, shapes_in, came_at, came_to}
use Rattle.yarn_base.specs.declared.memory.Memory.{Memory}
use Rattle.yarn_check.specs.declared.coming.Coming.{Coming as Cell}
use Rattle.yarn_check.specs.declared.shape.Shape.{Shape as Told}
use Rattle.yarn_check.specs.ShapeAt.{shape_of, if_there, IsShapeAt}
use Rattle.yarn_check.specs.Views.{cells_of, walked_from}
use Rattle.yarn_check.proofs.Cells.{put_some, slice_get_set_other}
use Rattle.yarn_check.proofs.Exact.{pass_is_exact}

-- ---- a cell

cell_told : (cells : List Coming) (at : ℕ) → the_shape (get_or cells at Nothing) ≡ if_there (option_map the_shape (slice_get cells at))
cell_told [] at = refl
cell_told (cell ∷ cells) zero = refl
cell_told (cell ∷ cells) (suc at) = cell_told cells at

from_drop : (cells : List Coming) (at : ℕ) → get_or cells at Nothing ≡ get_or (drop at cells) 0 Nothing
from_drop cells zero = refl
from_drop [] (suc at) = refl
from_drop (cell ∷ cells) (suc at) = from_drop cells at

-- what came to a place is the same for walks that leave the same from there on
pub came_same : (at : ℕ) (a b : Walked) → walked_from at a ≡ walked_from at b → came_at a at ≡ came_at b at
came_same at (Ended cells) (Ended others) e =
    let same : drop at cells ≡ drop at others = cc in
    ap the_shape (from_drop cells at ∙ ap (λ l. get_or l 0 Nothing) same ∙ sym (from_drop others at))
came_same at (Ended cells) (Faulted f place) e = absurd cc
came_same at (Faulted f place) (Ended cells) e = absurd cc
came_same at (Faulted f place) (Faulted g other) e = refl

-- ---- what a walk leaves as it was

put_keeps : (place : ℕ) (g : Goal) (cells after : List Coming) (at : ℕ) → put place g cells ≡ Some after → at ≤ place → slice_get after at ≡ slice_get cells at
put_keeps place g cells after at e before =
    let here = put_some place g cells after e in
    ap (λ l. slice_get l at) here.is ∙ slice_get_set_other cells g.place at (and_shape g.shape here.cell) (λ same. omega (arith, before, here.later, same))

put_all_keeps : (place : ℕ) (goals : List Goal) (cells after : List Coming) (at : ℕ) → put_all place goals cells ≡ Some after → at ≤ place → slice_get after at ≡ slice_get cells at
put_all_keeps place [] cells after at e before = let same : cells ≡ after = cc in ap (λ l. slice_get l at) (sym same)
put_all_keeps place (g ∷ gs) cells after at e before = by_put (λ next. put_all_keeps place gs next after at) (put place g cells) refl e
  where
    by_put : ((next : List Coming) → put_all place gs next ≡ Some after → at ≤ place → slice_get after at ≡ slice_get next at) →
        (o : Option (List Coming)) → put place g cells ≡ o → option_and_then (λ next. put_all place gs next) o ≡ Some after → slice_get after at ≡ slice_get cells at
    by_put more None is e = absurd cc
    by_put more (Some next) is e = more next e before ∙ put_keeps place g cells next at is before

module _ (p : Program) where
  step_keeps : (i : Instr) (place : ℕ) (cells after : List Coming) (came : Coming) (at : ℕ) → step p i place cells came ≡ Moved after → at ≤ place → slice_get after at ≡ slice_get cells at
  step_keeps i place cells after Nothing at e before = let same : cells ≡ after = cc in ap (λ l. slice_get l at) (sym same)
  step_keeps i place cells after Several at e before = absurd cc
  step_keeps i place cells after (Alone s) at e before = by_flow (flow p i place s.entries s.pending) e
    where
      by_small : (next : List Coming) (b : Bool) → (if b then Moved next else Stopped Deep) ≡ Moved after → next ≡ after
      by_small next true e = cc
      by_small next false e = absurd cc

      by_put : (goals : List Goal) (o : Option (List Coming)) → put_all place goals cells ≡ o → sized s o ≡ Moved after → slice_get after at ≡ slice_get cells at
      by_put goals None is e = absurd cc
      by_put goals (Some next) is e =
          ap (λ l. slice_get l at) (sym (by_small next (is_small s) e)) ∙ put_all_keeps place goals cells next at is before

      by_flow : (f : Flow) → sized s (option_and_then (λ goals. put_all place goals cells) f) ≡ Moved after → slice_get after at ≡ slice_get cells at
      by_flow None e = absurd cc
      by_flow (Some goals) e = by_put goals (put_all place goals cells) refl e

  walk_keeps : (cs : List Coded) (place : ℕ) (cells last : List Coming) (at : ℕ) → walk p cs place cells ≡ Ended last → at ≤ place → slice_get last at ≡ slice_get cells at
  walk_keeps [] place cells last at e before = let same : cells ≡ last = cc in ap (λ l. slice_get l at) (sym same)
  walk_keeps (c ∷ cs) place cells last at e before = by_step (λ after. walk_keeps cs (place + 1) after last at) (step p c.instr place cells came) refl e
    where
      came : Coming
      came = get_or cells place Nothing

      by_step : ((after : List Coming) → walk p cs (place + 1) after ≡ Ended last → at ≤ place + 1 → slice_get last at ≡ slice_get after at) →
          (s : Stepped) → step p c.instr place cells came ≡ s → go_on place s (λ after. walk p cs (place + 1) after) ≡ Ended last → slice_get last at ≡ slice_get cells at
      by_step more (Moved after) is e = more after e (omega (arith, before)) ∙ step_keeps c.instr place cells after came at is before
      by_step more (Stopped f) is e = absurd cc

  -- ---- a walk that is cut in two

  abbrev then_walk : List Coded → ℕ → Walked → Walked
  then_walk cs place (Ended cells) = walk p cs place cells
  then_walk cs place (Faulted f at) = Faulted f at

  walk_cut : (k : ℕ) (cs : List Coded) (place : ℕ) (cells : List Coming) → then_walk (drop k cs) (place + k) (walk p (take k cs) place cells) ≡ walk p cs place cells
  walk_cut zero cs place cells = let same : place + 0 ≡ place = omega arith in ap (λ q. walk p cs q cells) same
  walk_cut (suc k) [] place cells = refl
  walk_cut (suc k) (c ∷ cs) place cells = by_step (walk_cut k cs (place + 1)) (step p c.instr place cells (get_or cells place Nothing))
    where
      by_step : ((after : List Coming) → then_walk (drop k cs) (place + 1 + k) (walk p (take k cs) (place + 1) after) ≡ walk p cs (place + 1) after) →
          (s : Stepped) → then_walk (drop k cs) (place + suc k) (go_on place s (λ after. walk p (take k cs) (place + 1) after)) ≡ go_on place s (λ after. walk p cs (place + 1) after)
      by_step rest (Moved after) =
          let same : place + suc k ≡ place + 1 + k = omega arith in
          ap (λ q. then_walk (drop k cs) q (walk p (take k cs) (place + 1) after)) same ∙ rest after
      by_step rest (Stopped f) = refl

  came_there : (n : CodeNode) (shapes : Shapes) (at : ℕ) → at < length n.code → Agrees p n shapes → came_to p n.code at ≡ if_there (slice_get shapes at)
  came_there n shapes at within agrees =
      let ends = (pass_is_exact p n (omega (arith, within))).ends shapes agrees in
      by_front ends.0 ends.1 ends.2 (walk p (take at n.code) 0 (beginning (length n.code))) refl
    where
      by_front : (last : List Coming) → pass p n ≡ Ended last → shapes_in last ≡ shapes →
          (w : Walked) → walk p (take at n.code) 0 (beginning (length n.code)) ≡ w → came_at w at ≡ if_there (slice_get shapes at)
      by_front last e same (Ended cells) is =
          let whole : walk p (drop at n.code) (0 + at) cells ≡ Ended last =
          sym (ap (then_walk (drop at n.code) (0 + at)) is) ∙ walk_cut at n.code 0 (beginning (length n.code)) ∙ e in
          let kept : slice_get last at ≡ slice_get cells at = walk_keeps (drop at n.code) (0 + at) cells last at whole (omega arith) in
          cell_told cells at ∙ ap (λ o. if_there (option_map the_shape o)) (sym kept)
          ∙ ap if_there (sym (slice_get-map the_shape last at)) ∙ ap (λ l. if_there (slice_get l at)) same
      by_front last e same (Faulted f place) is =
          let whole : Faulted f place ≡ Ended last =
          sym (ap (then_walk (drop at n.code) (0 + at)) is) ∙ walk_cut at n.code 0 (beginning (length n.code)) ∙ e in
          absurd cc

  -- ---- what is told

  pub shape_told : (node at : ℕ) (n : CodeNode) (told : Option Shape) → slice_get p.nodes node ≡ Some n →
      (at < length n.code → told ≡ came_to p n.code at) → (length n.code ≤ at → told ≡ None) → IsShapeAt p node at told
  shape_told node at n told is inside past = record { there = there; absent = λ none. absurd cc }
    where
      within : (m : CodeNode) (shapes : Shapes) → m ≡ n → Agrees p m shapes → (b : Bool) → ltb at (length m.code) ≡ b → told ≡ if_there (slice_get shapes at)
      within m shapes same agrees true less =
          let lt : at < length n.code = subst (λ (l : CodeNode). at < length l.code) same (ltb-true at (length m.code) less) in
          inside lt ∙ came_there n shapes at lt (subst (λ (l : CodeNode). Agrees p l shapes) same agrees)
      within m shapes same agrees false more =
          let ge = ltb-false at (length m.code) more in
          let far : length n.code ≤ at = subst (λ (l : CodeNode). length l.code ≤ at) same ge in
          past far ∙ sym (ap if_there (slice_get_past shapes at (omega (arith, ge, agrees.counted))))

      there : (m : CodeNode) (shapes : Shapes) → slice_get p.nodes node ≡ Some m → Agrees p m shapes → told ≡ if_there (slice_get shapes at)
      there m shapes stands agrees = let same : m ≡ n = cc in within m shapes same agrees (ltb at (length m.code)) refl

  pub shape_absent : (node at : ℕ) → slice_get p.nodes node ≡ None → IsShapeAt p node at None
  shape_absent node at none = record { there = λ n shapes is agrees. absurd cc; absent = λ e. refl }

-- ---- what the calls answer

module _ (p : Program) where
  -- of cells that a walk to the place left
  pub in_cells : (code : List Coded) (at : ℕ) (cells : List Cell) (result : Result (Option Told) Memory) →
      walked_from at (Ended (cells_of cells)) ≡ walked_from at (walk p (take at code) 0 (beginning (length code))) →
      IfOk result (λ told. option_map shape_of told ≡ the_shape (get_or (cells_of cells) at Nothing)) →
      IfOk result (λ told. at < length code → option_map shape_of told ≡ came_to p code at)
  in_cells code at cells (Ok told) same is = λ lt. is ∙ came_same at (Ended (cells_of cells)) (walk p (take at code) 0 (beginning (length code))) same
  in_cells code at cells (Err m) same is = tt

  -- of the code of a node
  pub in_node : (node at : ℕ) (n : CodeNode) (result : Result (Option Told) Memory) → slice_get p.nodes node ≡ Some n →
      IfOk result (λ told. at < length n.code → option_map shape_of told ≡ came_to p n.code at) →
      IfOk result (λ told. length n.code ≤ at → told ≡ None) →
      IfOk result (λ told. IsShapeAt p node at (option_map shape_of told))
  in_node node at n (Ok told) is inside past = shape_told p node at n (option_map shape_of told) is inside (λ far. ap (option_map shape_of) (past far))
  in_node node at n (Err m) is inside past = tt
