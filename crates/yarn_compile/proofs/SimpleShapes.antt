-- Statements that are one line, and how a node is left.
use Rattle.std.proofs.Common.{◌≡◌, ℕ, suc, ◌+◌, ◌≤◌, List, [], ◌∷◌, ◌++◌, length, pos, codes, if◌then◌else◌, Option, Some, None, is_some, refl, sym, ap, ◌∙◌, arith, Bool, true, false, ◌&&◌}
use Rattle.std.specs.List.{list_all}
use Rattle.yarn_value.specs.declared.value.Kind.{Kind}
use Rattle.yarn_value.specs.declared.value.Kind.TheVariants as kind
use Rattle.yarn_expr.specs.declared.tree.BinaryOp.{BinaryOp}
use Rattle.yarn_expr.specs.declared.tree.BinaryOp.TheVariants.{Add}
use Rattle.yarn_expr.specs.declared.tree.Expr.{Expr}
use Rattle.yarn_blocks.specs.declared.entry.Simple.{Simple}
use Rattle.yarn_blocks.specs.declared.entry.Simple.TheVariants as simple
use Rattle.yarn_blocks.specs.declared.tree.LineText.{LineText}
use Rattle.yarn_types.specs.Typings.{kinds_in}
use Rattle.yarn_types.specs.Units.{kind_set}
use Rattle.yarn_types.proofs.KindLemmas.{same_kind_self}
use Rattle.yarn_types.specs.Fits.{joined, kind_of}
use Rattle.yarn_value.specs.Visits.{count_name}
use Rattle.yarn_meaning.specs.Texts.{said_by}
use Rattle.yarn_code.specs.declared.program.Instr.TheVariants as code
use Rattle.yarn_code.specs.declared.program.Instr.{Instr}
use Rattle.yarn_code.specs.declared.program.Coded.{Coded}
use Rattle.yarn_code.specs.Parts.{coded}
use Rattle.yarn_code.specs.declared.program.CodeNode.{CodeNode}
use Rattle.yarn_code.specs.declared.program.Program.{Program}
use Rattle.yarn_compile.specs.Code.{Terms, expr_code, exprs_code, kind_of_name, binary_name, exit_code, stop_code, store_code, set_code, simple_code}
use Rattle.yarn_kinds.specs.Typed.{variables_in}
use Rattle.yarn_kinds.proofs.Fitting.{FitsSimple}
use Rattle.yarn_check.specs.Shapes.{ShapeEntry, Of, Shape, shape, flow, on_known, on_kind, goes_on, kind_under, holes_under, IsSmall}
use Rattle.yarn_compile.proofs.Parts.{Each, each_front, each_back, Part, plain, then_plain, part_code, nothing}
use Rattle.yarn_compile.proofs.Calls.{eq_kinds, its_kind_only, operator_call}
use Rattle.yarn_compile.proofs.ExpressionShapes.{need, pushed, pushed-length, take_pushed, call_part, AreVariables, IsKnown, AreKnown, expr_part}
use Rattle.yarn_compile.proofs.Room.{needs_of, needs-length, set_need, simple_need}

abbrev pub after_if : Bool → Shape → Option Shape
after_if true s = Some s
after_if false s = None

-- the program knows the line
abbrev pub HasLine : Program → LineText → Type 0
HasLine p text = holes_under p.lines text.id ≡ Some (length text.holes)

module _ (p : Program) (n : CodeNode) where
  -- statements that end with the shape with which they begin, or don't go on
  pub record Ran (at : ℕ) (cs : List Coded) (s : Shape) : Type 0 where
    pub through : Bool
    pub part : Part p n at cs (Some s) (after_if through s) []

module _ (p : Program) (n : CodeNode) (terms : Terms) (variables : AreVariables terms p) where
  -- ---- lists of expressions

  pub record AllPushed (at line : ℕ) (es : List Expr) (stack : List ShapeEntry) (pending : List ℕ) : Type 0 where
    pub kinds : List Kind
    pub many : length kinds ≡ length es
    pub part : Part p n at (exprs_code terms line es) (Some (shape stack pending)) (Some (shape (pushed kinds stack) pending)) []

  abbrev its_kind : Expr → Option Kind
  its_kind = kind_of terms.signatures (variables_in terms.entries) (kinds_in terms.entries)

  and_pushed : (at line : ℕ) (e : Expr) (es : List Expr) (stack : List ShapeEntry) (pending : List ℕ) (k : Kind) → its_kind e ≡ Some k →
      AreKnown terms.signatures p (expr_code terms line e ++ exprs_code terms line es) → length stack + needs_of (e ∷ es) ≤ 2048 → length pending ≤ 64 →
      AllPushed (at + length (expr_code terms line e)) line es (Of k ∷ stack) pending → AllPushed at line (e ∷ es) stack pending
  and_pushed at line e es stack pending k is known room few more =
      let ce = expr_code terms line e in
      let cs = exprs_code terms line es in
      let room1 : length stack + need e ≤ 2048 = omega (arith, room) in
      record {
        kinds = k ∷ more.kinds;
        many = ap suc more.many;
        part = then_plain p n at ce cs (expr_part p n terms variables line e at k stack pending is (each_front (λ c. IsKnown terms.signatures p c.instr) ce cs known) room1 few) more.part;
      }

  pub exprs_part : (es : List Expr) (at line : ℕ) (stack : List ShapeEntry) (pending : List ℕ) → list_all (λ e. is_some (its_kind e)) es ≡ true → AreKnown terms.signatures p (exprs_code terms line es) →
      length stack + needs_of es ≤ 2048 → length pending ≤ 64 → AllPushed at line es stack pending
  exprs_part [] at line stack pending fits known room few = record { kinds = []; many = refl; part = nothing p n (Some (shape stack pending)) }
  exprs_part (e ∷ es) at line stack pending fits known room few =
      by_kind (its_kind e) refl fits (λ k more. exprs_part es (at + length (expr_code terms line e)) line (Of k ∷ stack) pending more
      (each_back (λ c. IsKnown terms.signatures p c.instr) (expr_code terms line e) (exprs_code terms line es) known) (omega (arith, room)) few)
    where
      by_kind : (o : Option Kind) → its_kind e ≡ o → (is_some o && list_all (λ x. is_some (its_kind x)) es) ≡ true →
          ((k : Kind) → list_all (λ x. is_some (its_kind x)) es ≡ true → AllPushed (at + length (expr_code terms line e)) line es (Of k ∷ stack) pending) → AllPushed at line (e ∷ es) stack pending
      by_kind None is fit more = absurd cc
      by_kind (Some k) is fit more = and_pushed at line e es stack pending k is known room few (more k fit)

  -- ---- single instructions with nothing pending

  small : (stack : List ShapeEntry) → length stack ≤ 2048 → IsSmall (shape stack [])
  small stack room = record { entries = room; pending = omega arith }

  pub pop_part : {at : ℕ} (line : ℕ) (e : ShapeEntry) (stack : List ShapeEntry) → length stack + 1 ≤ 2048 → Part p n at (coded line code.Pop ∷ []) (Some (shape (e ∷ stack) [])) (Some (shape stack [])) []
  pop_part line e stack room = plain p n (coded line code.Pop) tt (small (e ∷ stack) (omega (arith, room))) refl

  store_part : {at : ℕ} (line : ℕ) (name : List ℕ) (k : Kind) (stack : List ShapeEntry) → kind_under p name ≡ Some k → length stack + 1 ≤ 2048 →
      Part p n at (store_code terms line name) (Some (shape (Of k ∷ stack) [])) (Some (shape stack [])) []
  store_part {at = at} line name k stack is room =
      let store = coded line (code.StoreVariable name) in
      let can : flow p (code.StoreVariable name) at (Of k ∷ stack) [] ≡ goes_on at (Of k ∷ stack) [] =
      ap (λ o. on_known o (λ x. on_kind x (Of k ∷ stack) (λ rest. goes_on at (Of k ∷ stack) []))) is ∙ ap (λ b. if b then goes_on at (Of k ∷ stack) [] else None) (same_kind_self k) in
      then_plain p n at (store ∷ []) (coded line code.Pop ∷ []) (plain p n store (record { kind = k; known = is }) (small (Of k ∷ stack) (omega (arith, room))) can)
      (pop_part line (Of k) stack room)

  variable_part : {at : ℕ} (line : ℕ) (name : List ℕ) (k : Kind) (stack : List ShapeEntry) → kind_under p name ≡ Some k → length stack + 1 ≤ 2048 →
      Part p n at (coded line (code.PushVariable name) ∷ []) (Some (shape stack [])) (Some (shape (Of k ∷ stack) [])) []
  variable_part {at = at} line name k stack is room =
      plain p n (coded line (code.PushVariable name)) (record { kind = k; known = is }) (small stack (omega (arith, room))) (ap (λ o. on_known o (λ x. goes_on at (Of x ∷ stack) [])) is)

  -- ---- how a node is left

  module _ (title : List ℕ) (counted : kind_under p (count_name title) ≡ Some kind.Number) where
    pub exit_part : {at : ℕ} (line : ℕ) (stack : List ShapeEntry) → length stack + 2 ≤ 2048 → Part p n at (exit_code terms title line) (Some (shape stack [])) (Some (shape stack [])) []
    exit_part {at = at} line stack room =
        let name = count_name title in
        let push = coded line (code.PushVariable name) in
        let one = coded line (code.PushFloat (pos 1)) in
        let call = coded line (code.CallFunc 2 (codes "#add")) in
        let store = coded line (code.StoreVariable name) ∷ coded line code.Pop ∷ [] in
        let room1 : length stack + 1 ≤ 2048 = omega (arith, room) in
        let fits : length (pushed (kind.Number ∷ kind.Number ∷ []) stack) ≤ 2048 = omega (arith, room) in
        then_plain p n at (push ∷ []) (one ∷ call ∷ store) (variable_part line name kind.Number stack counted room1)
        (then_plain p n (at + 1) (one ∷ []) (call ∷ store) (plain p n one tt (small (Of kind.Number ∷ stack) (omega (arith, room))) refl)
        (then_plain p n (at + 1 + 1) (call ∷ []) store
        (call_part p n (codes "#add") 2 (kind.Number ∷ kind.Number ∷ []) kind.Number stack [] refl (operator_call p Add kind.Number kind.Number kind.Number refl) fits (omega arith))
        (store_part line name kind.Number stack counted room1)))

    -- STOP and RUN_NODE go nowhere
    stop_here : {at : ℕ} (line : ℕ) (stack : List ShapeEntry) → length stack ≤ 2048 → Part p n at (coded line code.Stop ∷ []) (Some (shape stack [])) None []
    stop_here line stack room = plain p n (coded line code.Stop) tt (small stack room) refl

    enter_here : {at : ℕ} (line : ℕ) (stack : List ShapeEntry) → length stack + 1 ≤ 2048 → Part p n at (coded line code.RunNode ∷ []) (Some (shape (Of kind.Str ∷ stack) [])) None []
    enter_here line stack room = plain p n (coded line code.RunNode) tt (small (Of kind.Str ∷ stack) (omega (arith, room))) refl

    pub stop_part : {at : ℕ} (line : ℕ) (stack : List ShapeEntry) → length stack + 2 ≤ 2048 → Part p n at (stop_code terms title line) (Some (shape stack [])) None []
    stop_part {at = at} line stack room =
        then_plain p n at (exit_code terms title line) (coded line code.Stop ∷ []) (exit_part line stack room) (stop_here line stack (omega (arith, room)))

    -- ---- lines

    line_part : (text : LineText) (at : ℕ) (stack : List ShapeEntry) (i : Instr) →
        ((to : ℕ) (kinds : List Kind) → length kinds ≡ length text.holes → Part p n to (coded text.line i ∷ []) (Some (shape (pushed kinds stack) [])) (Some (shape stack [])) []) →
        list_all (λ e. is_some (its_kind e)) text.holes ≡ true → AreKnown terms.signatures p (exprs_code terms text.line text.holes ++ coded text.line i ∷ []) →
        length stack + needs_of text.holes ≤ 2048 → Ran p n at (exprs_code terms text.line text.holes ++ coded text.line i ∷ []) (shape stack [])
    line_part text at stack i last fits known room =
        let cs = exprs_code terms text.line text.holes in
        let all = exprs_part text.holes at text.line stack [] fits (each_front (λ c. IsKnown terms.signatures p c.instr) cs (coded text.line i ∷ []) known) room (omega arith) in
        record { through = true; part = then_plain p n at cs (coded text.line i ∷ []) all.part (last (at + length cs) all.kinds all.many) }

    taken : (text : LineText) (stack : List ShapeEntry) → length stack + needs_of text.holes ≤ 2048 → (kinds : List Kind) → length kinds ≡ length text.holes → length (pushed kinds stack) ≤ 2048
    taken text stack room kinds many = omega (arith, pushed-length kinds stack, needs-length text.holes, room, many)

    set_part : (op : Option BinaryOp) (name : List ℕ) (e : Expr) (line at : ℕ) (stack : List ShapeEntry) (k : Kind) → length stack + 3 ≤ 2048 → kind_of_name terms name ≡ Some k →
        kind_set terms.signatures (variables_in terms.entries) (kinds_in terms.entries) name op e ≡ Some k → AreKnown terms.signatures p (set_code terms line name op e) →
        length stack + set_need op e ≤ 2048 → Part p n at (set_code terms line name op e) (Some (shape stack [])) (Some (shape (Of k ∷ stack) [])) []
    set_part None name e line at stack k room0 is fits known room = expr_part p n terms variables line e at k stack [] fits known room (omega arith)
    set_part (Some op) name e line at stack k room0 is fits known room = by_kind (its_kind e) refl fits
      where
        by_kind : (o : Option Kind) → its_kind e ≡ o → joined op (kind_of_name terms name) o ≡ Some k →
            Part p n at (set_code terms line name (Some op) e) (Some (shape stack [])) (Some (shape (Of k ∷ stack) [])) []
        by_kind None has fit = absurd (no_kind (kind_of_name terms name) fit)
          where
            no_kind : (a : Option Kind) → joined op a None ≡ Some k → ⊥
            no_kind None fit = cc
            no_kind (Some a) fit = cc
        by_kind (Some b) has fit =
            let push = coded line (code.PushVariable name) in
            let ce = expr_code terms line e in
            let call = coded line (code.CallFunc 2 (binary_name op (Some k))) in
            let known1 = each_front (λ c. IsKnown terms.signatures p c.instr) ce (coded line (code.CallFunc 2 (binary_name op (kind_of_name terms name))) ∷ []) known.1 in
            let fit1 = ap (λ o. joined op o (Some b)) (sym is) ∙ fit in
            let room1 : length stack + 1 ≤ 2048 = omega (arith, room) in
            let room2 : length (Of k ∷ stack) + need e ≤ 2048 = omega (arith, room) in
            let fits2 : length (pushed (k ∷ b ∷ []) stack) ≤ 2048 = omega (arith, room0) in
            part_code p n (push ∷ (ce ++ call ∷ [])) (set_code terms line name (Some op) e) (ap (λ o. push ∷ (ce ++ coded line (code.CallFunc 2 (binary_name op o)) ∷ [])) (sym is))
            (then_plain p n at (push ∷ []) (ce ++ call ∷ []) (variable_part line name k stack (variables name k is) room1)
            (then_plain p n (at + 1) ce (call ∷ []) (expr_part p n terms variables line e (at + 1) b (Of k ∷ stack) [] has known1 room2 (omega arith))
            (call_part p n (binary_name op (Some k)) 2 (k ∷ b ∷ []) k stack [] refl (operator_call p op k b k fit1) fits2 (omega arith))))

    pub simple_part : (s : Simple) (at : ℕ) (stack : List ShapeEntry) → FitsSimple terms.signatures terms.entries s → AreKnown terms.signatures p (simple_code terms title s) → Each (HasLine p) (said_by s) →
        length stack + 3 ≤ 2048 → length stack + simple_need s ≤ 2048 → Ran p n at (simple_code terms title s) (shape stack [])
    simple_part (simple.Line text) at stack fits known lines room0 room =
        line_part text at stack (code.RunLine (length text.holes) text.id)
        (λ to kinds many. plain p n (coded text.line (code.RunLine (length text.holes) text.id)) lines.0 (small (pushed kinds stack) (taken text stack room kinds many))
        (take_pushed kinds (length text.holes) stack (λ ks rest. goes_on to rest []) many)) fits known room
    simple_part (simple.Command text) at stack fits known lines room0 room =
        line_part text at stack (code.RunCommand (length text.holes) text.text)
        (λ to kinds many. plain p n (coded text.line (code.RunCommand (length text.holes) text.text)) tt (small (pushed kinds stack) (taken text stack room kinds many))
        (take_pushed kinds (length text.holes) stack (λ ks rest. goes_on to rest []) many)) fits known room
    simple_part (simple.Set head name op e) at stack fits known lines room0 room =
        let one = eq_kinds (kind_of_name terms name) (kind_set terms.signatures (variables_in terms.entries) (kinds_in terms.entries) name op e) fits in
        let set = set_code terms head.line name op e in
        let store = store_code terms head.line name in
        let first = set_part op name e head.line at stack one.kind room0 one.first one.second (each_front (λ c. IsKnown terms.signatures p c.instr) set store known) room in
        record { through = true; part = then_plain p n at set store first (store_part head.line name one.kind stack (variables name one.kind one.first) (omega (arith, room0))) }
    simple_part (simple.Declare head name value kind) at stack fits known lines room0 room = record { through = true; part = nothing p n (Some (shape stack [])) }
    simple_part (simple.Jump head to) at stack fits known lines room0 room =
        let exit = exit_code terms title head.line in
        let push = coded head.line (code.PushString to) in
        let go = coded head.line code.RunNode in
        record {
          through = false;
          part = then_plain p n at exit (push ∷ go ∷ []) (exit_part head.line stack (omega (arith, room0)))
              (then_plain p n (at + length exit) (push ∷ []) (go ∷ []) (plain p n push tt (small stack (omega (arith, room0))) refl) (enter_here head.line stack (omega (arith, room0))));
        }
    simple_part (simple.JumpTo head e) at stack fits known lines room0 room =
        let ce = expr_code terms head.line e in
        let exit = exit_code terms title head.line in
        let go = coded head.line code.RunNode in
        let known1 = each_front (λ c. IsKnown terms.signatures p c.instr) ce (exit ++ go ∷ []) known in
        let room1 : length stack + need e ≤ 2048 = omega (arith, room) in
        let room2 : length (Of kind.Str ∷ stack) + 2 ≤ 2048 = omega (arith, room0) in
        let first = expr_part p n terms variables head.line e at kind.Str stack [] (its_kind_only kind.Str (its_kind e) fits) known1 room1 (omega arith) in
        record {
          through = false;
          part = then_plain p n at ce (exit ++ go ∷ []) first
              (then_plain p n (at + length ce) exit (go ∷ []) (exit_part head.line (Of kind.Str ∷ stack) room2) (enter_here head.line stack (omega (arith, room0))));
        }
    simple_part (simple.Stop head) at stack fits known lines room0 room = record { through = false; part = stop_part head.line stack (omega (arith, room0)) }
    simple_part (simple.Call head e) at stack fits known lines room0 room = by_kind (its_kind e) refl fits
      where
        by_kind : (o : Option Kind) → its_kind e ≡ o → is_some o ≡ true → Ran p n at (expr_code terms head.line e ++ coded head.line code.Pop ∷ []) (shape stack [])
        by_kind None is fit = absurd cc
        by_kind (Some k) is fit =
            let ce = expr_code terms head.line e in
            let pop = coded head.line code.Pop in
            let first = expr_part p n terms variables head.line e at k stack [] is (each_front (λ c. IsKnown terms.signatures p c.instr) ce (pop ∷ []) known) room (omega arith) in
            record { through = true; part = then_plain p n at ce (pop ∷ []) first (pop_part head.line (Of k) stack (omega (arith, room0))) }
