-- A node whose code is one part is valid.
use Rattle.std.proofs.Common.{◌≡◌, ℕ, zero, suc, ◌+◌, ◌<◌, List, [], ◌∷◌, ◌++◌, length, Option, Some, None, refl, ap, ◌∙◌, subst, arith, append_assoc, length-append, inl, inr}
use Rattle.std.specs.Prelude.{slice_get}
use Rattle.std.proofs.Math.Seq.{get_or-append_seam}
use Rattle.std.proofs.lemmas.Option.{slice_get-get_or}
use Rattle.yarn_code.specs.declared.program.Instr.{Instr}
use Rattle.yarn_code.specs.declared.program.Coded.{Coded}
use Rattle.yarn_code.specs.declared.program.CodeNode.{CodeNode}
use Rattle.yarn_code.specs.declared.program.Program.{Program}
use Rattle.yarn_check.specs.Shapes.{Shape, shape, PassesFirstLook, Shapes, CanRun, IsEntered, IsValidNode}
use Rattle.yarn_compile.proofs.Parts.{StandAt, AreFine, Comes, ComesIf, RunsIf, RunAll, ComeAll, Part}

module _ {A : Type 0} where
  stand_behind : (xs front : List A) → StandAt (front ++ xs) (length front) xs
  stand_behind [] front = tt
  stand_behind (x ∷ xs) front =
      let within : length front < length (front ++ x ∷ xs) = omega (arith, length-append front (x ∷ xs)) in
      let here = slice_get-get_or (front ++ x ∷ xs) (length front) x within ∙ ap Some (get_or-append_seam front x xs x) in
      let long : length (front ++ x ∷ []) ≡ length front + 1 = omega (arith, length-append front (x ∷ [])) in
      let rest = subst (λ l. StandAt l (length (front ++ x ∷ [])) xs) (append_assoc front (x ∷ []) xs) (stand_behind xs (front ++ x ∷ [])) in
      (here, subst (λ m. StandAt (front ++ x ∷ xs) m xs) long rest)

  pub stand_all : (xs : List A) → StandAt xs 0 xs
  stand_all xs = stand_behind xs []

module _ (p : Program) (n : CodeNode) where
  fine_at : (at : ℕ) (cs : List Coded) (i : ℕ) (c : Coded) → AreFine p n at cs → slice_get cs i ≡ Some c → PassesFirstLook p n (at + i) c.instr
  fine_at at [] i c h e = absurd cc
  fine_at at (x ∷ cs) zero c h e =
      let same : x ≡ c = cc in
      subst (λ y. PassesFirstLook p n (at + 0) y.instr) same (subst (λ m. PassesFirstLook p n m x.instr) (omega arith) h.0)
  fine_at at (x ∷ cs) (suc i) c h e = subst (λ m. PassesFirstLook p n m c.instr) (omega arith) (fine_at (at + 1) cs i c h.1 e)

  run_here : (shapes : Shapes) (at : ℕ) (i : Instr) (o : Option Shape) (s : Shape) → o ≡ Some s → RunsIf p n shapes at i o → CanRun p n shapes at i s
  run_here shapes at i None s e h = absurd cc
  run_here shapes at i (Some t) s e h = let same : t ≡ s = cc in subst (λ y. CanRun p n shapes at i y) same h

  run_at : (shapes : Shapes) (at : ℕ) (cs : List Coded) (os : Shapes) (i : ℕ) (c : Coded) (s : Shape) → RunAll p n shapes at cs os → slice_get cs i ≡ Some c → slice_get os i ≡ Some (Some s) → CanRun p n shapes (at + i) c.instr s
  run_at shapes at [] os i c s h e f = absurd cc
  run_at shapes at (x ∷ cs) [] i c s h e f = absurd cc
  run_at shapes at (x ∷ cs) (o ∷ os) zero c s h e f =
      let same : x ≡ c = cc in
      let is : o ≡ Some s = cc in
      subst (λ y. CanRun p n shapes (at + 0) y.instr s) same (subst (λ m. CanRun p n shapes m x.instr s) (omega arith) (run_here shapes at x.instr o s is h.0))
  run_at shapes at (x ∷ cs) (o ∷ os) (suc i) c s h e f = subst (λ m. CanRun p n shapes m c.instr s) (omega arith) (run_at shapes (at + 1) cs os i c s h.1 e f)

  come_here : (shapes : Shapes) (at : ℕ) (o : Option Shape) (s : Shape) → o ≡ Some s → ComesIf p n shapes at o → Comes p n shapes at
  come_here shapes at None s e h = absurd cc
  come_here shapes at (Some t) s e h = h

  come_at : (shapes : Shapes) (at : ℕ) (os : Shapes) (i : ℕ) (s : Shape) → ComeAll p n shapes at os → slice_get os i ≡ Some (Some s) → Comes p n shapes (at + i)
  come_at shapes at [] i s h f = absurd cc
  come_at shapes at (o ∷ os) zero s h f = let is : o ≡ Some s = cc in subst (Comes p n shapes) (omega arith) (come_here shapes at o s is h.0)
  come_at shapes at (o ∷ os) (suc i) s h f = subst (Comes p n shapes) (omega arith) (come_at shapes (at + 1) os i s h.1 f)

  entered : (shapes : Shapes) (place : ℕ) → Comes p n shapes (suc place) → IsEntered p n shapes (suc place)
  entered shapes place (inl e) = absurd (omega (arith, e))
  entered shapes place (inr e) = e

  pub valid_node : Part p n 0 n.code (Some (shape [] [])) None [] → IsValidNode p n
  valid_node x =
      let st = stand_all x.shapes_in in
      let run = x.runs x.shapes_in x.counted st tt tt in
      let come = x.comes x.shapes_in (stand_all n.code) st (inl refl) in
      record {
        fine = λ place c e. subst (λ m. PassesFirstLook p n m c.instr) (omega arith) (fine_at 0 n.code place c x.fine e);
        shapes = x.shapes_in;
        agrees = record {
          counted = x.counted;
          begins = x.begins x.shapes_in st tt;
          runs = λ place c s e f. subst (λ m. CanRun p n x.shapes_in m c.instr s) (omega arith) (run_at x.shapes_in 0 n.code x.shapes_in place c s run e f);
          entered = λ place s f. entered x.shapes_in place (subst (Comes p n x.shapes_in) (omega arith) (come_at x.shapes_in 0 x.shapes_in (suc place) s come.0 f));
        };
      }
