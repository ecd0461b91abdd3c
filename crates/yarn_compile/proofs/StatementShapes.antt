-- Groups, clauses and bodies.
use Rattle.std.proofs.Common.{◌≡◌, ℕ, suc, ◌+◌, ◌<◌, ◌≤◌, List, [], ◌∷◌, ◌++◌, length, map, Option, Some, None, is_some, refl, sym, ap, ◌∙◌, subst, arith, append_assoc, append-nil, length-append, Bool, true, false, ◌||◌}
use Rattle.std.specs.List.{list_all}
use Rattle.std.proofs.lemmas.Bool.{and_parts}
use Rattle.yarn_value.specs.declared.value.Kind.{Kind}
use Rattle.yarn_value.specs.declared.value.Kind.TheVariants as kind
use Rattle.yarn_expr.specs.declared.tree.Expr.{Expr}
use Rattle.yarn_blocks.specs.declared.tree.LineText.{LineText}
use Rattle.yarn_blocks.specs.Tree as T
use Rattle.yarn_blocks.specs.Tree.{Leaf, Group, Choice, Nil, Cons, NoOptions, AndOption, NoClauses, AndClause, NoElse, ElseOf, Offered}
use Rattle.yarn_types.specs.Typings.{kinds_in}
use Rattle.yarn_types.specs.Fits.{kind_of}
use Rattle.yarn_value.specs.Visits.{count_name}
use Rattle.yarn_meaning.specs.Does.{group_line}
use Rattle.yarn_meaning.specs.Texts.{said_in, said_in_one, said_in_options, said_in_clauses, said_in_last}
use Rattle.yarn_code.specs.declared.program.Instr.TheVariants as code
use Rattle.yarn_code.specs.declared.program.Coded.{Coded}
use Rattle.yarn_code.specs.Parts.{coded}
use Rattle.yarn_code.specs.declared.program.CodeNode.{CodeNode}
use Rattle.yarn_code.specs.declared.program.Program.{Program}
use Rattle.yarn_compile.specs.Code.{Terms, expr_code, exprs_code, condition_code, head_size, heads_size, ask_size, size, size_all, bodies_size, clauses_size, last_size, head_code, heads_code, ask_code, stmt_code, stmts_code, bodies_code, clauses_code, last_code}
use Rattle.yarn_kinds.specs.Typed.{variables_in}
use Rattle.yarn_kinds.proofs.Fitting.{FitsLine, offer_asks, FitsAll, FitsOne, FitsOptions, FitsClauses, FitsLast}
use Rattle.yarn_check.specs.Shapes.{ShapeEntry, Of, Destination, Shape, shape, Goal, goal, goes_on, kind_under, PassesFirstLook}
use Rattle.yarn_compile.proofs.Parts.{Each, each_append, each_front, each_back, Part, SameGoals, single, plain, then_part, then_plain, land, part_code, part_at, part_exits, part_ends, part_meets, dead, unreached, nothing}
use Rattle.yarn_compile.proofs.Calls.{its_kind_only}
use Rattle.yarn_compile.proofs.ExpressionShapes.{need, pushed, pushed-length, take_pushed, AreVariables, IsKnown, AreKnown, expr_part}
use Rattle.yarn_compile.proofs.Room.{needs_of, needs-length, offered_need, offered-positive, option_count, HasRoom, HasRoomOne, HasRoomOptions, HasRoomClauses, HasRoomLast}
use Rattle.yarn_compile.proofs.SimpleShapes.{after_if, HasLine, Ran, exprs_part, pop_part, simple_part}
use Rattle.yarn_compile.proofs.CodeSizes.{length-head, length-heads, length-ask, length-stmt, length-stmts, length-bodies, length-clauses, length-last}

-- ---- jumps to the end

-- whether that place is a goal
abbrev pub ends : Bool → ℕ → Shape → List Goal
ends true end s = goal end s ∷ []
ends false end s = []

same_ends : (g : List Goal) (a b : Bool) (end : ℕ) (s : Shape) → SameGoals ((g ++ ends a end s) ++ ends b end s) (g ++ ends (a || b) end s)
same_ends g a b end s = record {
  there = λ P h.
      let x = each_front P (g ++ ends a end s) (ends b end s) h in
      let y = each_back P (g ++ ends a end s) (ends b end s) h in
      each_append P g (ends (a || b) end s) (each_front P g (ends a end s) x) (either P a b (each_back P g (ends a end s) x) y);
  back = λ P h.
      let both = each_back P g (ends (a || b) end s) h in
      each_append P (g ++ ends a end s) (ends b end s) (each_append P g (ends a end s) (each_front P g (ends (a || b) end s) h) (first P a b both)) (second P a b both);
}
  where
    either : (P : Goal → Type 0) (a b : Bool) → Each P (ends a end s) → Each P (ends b end s) → Each P (ends (a || b) end s)
    either P true b x y = x
    either P false b x y = y

    first : (P : Goal → Type 0) (a b : Bool) → Each P (ends (a || b) end s) → Each P (ends a end s)
    first P true b h = h
    first P false b h = tt

    second : (P : Goal → Type 0) (a b : Bool) → Each P (ends (a || b) end s) → Each P (ends b end s)
    second P true true h = h
    second P true false h = tt
    second P false b h = h

-- the places of bodies, of which the first is at that place
module _ (terms : Terms) (title : List ℕ) where
  abbrev pub labels_of : ℕ → T.Options → List ℕ
  labels_of at NoOptions = []
  labels_of at (AndOption n body os) = at ∷ labels_of (at + (size_all terms title body + 1)) os

  labels-length : (at : ℕ) (os : T.Options) → length (labels_of at os) ≡ option_count os
  labels-length at NoOptions = refl
  labels-length at (AndOption n body os) = ap suc (labels-length (at + (size_all terms title body + 1)) os)

module _ (p : Program) (n : CodeNode) where
  -- a jump to the end, where it is reached
  leap : {at : ℕ} (line end : ℕ) (t : Bool) (stack : List ShapeEntry) → at < end → end < length n.code → length stack ≤ 2048 →
      Part p n at (coded line (code.JumpTo end) ∷ []) (after_if t (shape stack [])) None (ends t end (shape stack []))
  leap line end true stack later within room = single p n (coded line (code.JumpTo end)) (record { later = later; within = within }) (record { entries = room; pending = omega arith }) refl
  leap line end false stack later within room = dead p n (record { later = later; within = within }, tt)

  -- the second of two lists of statements, where the first is over or not
  both_ran : {s : Shape} (at : ℕ) (a b : List Coded) → Ran p n at a s → Ran p n (at + length a) b s → Ran p n at (a ++ b) s
  both_ran {s = s} at a b x y = by_through x.through x.part
    where
      by_through : (t : Bool) → Part p n at a (Some s) (after_if t s) [] → Ran p n at (a ++ b) s
      by_through true first = record { through = y.through; part = then_plain p n at a b first y.part }
      by_through false first = record { through = false; part = then_plain p n at a b first (unreached p n y.part) }

  ran_at : {cs : List Coded} {s : Shape} (at to : ℕ) → at ≡ to → Ran p n at cs s → Ran p n to cs s
  ran_at {cs = cs} {s = s} at to e x = subst (λ m. Ran p n m cs s) e x

  module _ (terms : Terms) (variables : AreVariables terms p) (title : List ℕ)
      (counted : kind_under p (count_name title) ≡ Some kind.Number) where
    abbrev Known : List Coded → Type 0
    Known = AreKnown terms.signatures p

    known_front : (a b : List Coded) → Known (a ++ b) → Known a
    known_front a b h = each_front (λ c. IsKnown terms.signatures p c.instr) a b h

    known_back : (a b : List Coded) → Known (a ++ b) → Known b
    known_back a b h = each_back (λ c. IsKnown terms.signatures p c.instr) a b h

    abbrev Lines : List LineText → Type 0
    Lines = Each (HasLine p)

    lines_front : (a b : List LineText) → Lines (a ++ b) → Lines a
    lines_front a b h = each_front (HasLine p) a b h

    lines_back : (a b : List LineText) → Lines (a ++ b) → Lines b
    lines_back a b h = each_back (HasLine p) a b h

    abbrev own_kind : Expr → Option Kind
    own_kind = kind_of terms.signatures (variables_in terms.entries) (kinds_in terms.entries)

    -- ---- an option before its body

    condition_part : (c : Option Expr) (line : ℕ) (at : ℕ) (count : ℕ) (id : List ℕ) (label : ℕ) (ks : List Kind) (stack : List ShapeEntry) (pending : List ℕ) →
        length ks ≡ count → ((e : Expr) → c ≡ Some e → own_kind e ≡ Some kind.Truth) → Known (condition_code terms line c ++ coded line (code.AddOption count id label (is_some c)) ∷ []) →
        PassesFirstLook p n (at + length (condition_code terms line c)) (code.AddOption count id label (is_some c)) →
        ((e : Expr) → c ≡ Some e → length (pushed ks stack) + need e ≤ 2048) → length (pushed ks stack) + 1 ≤ 2048 → length pending ≤ 64 →
        Part p n at (condition_code terms line c ++ coded line (code.AddOption count id label (is_some c)) ∷ []) (Some (shape (pushed ks stack) pending)) (Some (shape stack (pending ++ label ∷ []))) []
    condition_part None line at count id label ks stack pending many truth known fine room0 room few =
        let e : at + 0 ≡ at = omega arith in
        part_at p n (at + 0) at e (plain p n (coded line (code.AddOption count id label false)) fine (record { entries = omega (arith, room); pending = few })
        (take_pushed ks count stack (λ kinds rest. goes_on (at + 0) rest (pending ++ label ∷ [])) many))
    condition_part (Some c) line at count id label ks stack pending many truth known fine room0 room few =
        let ce = expr_code terms line c in
        let add = coded line (code.AddOption count id label true) in
        let to : ℕ = at + length ce in
        then_plain p n at ce (add ∷ []) (expr_part p n terms variables line c at kind.Truth (pushed ks stack) pending (truth c refl) (known_front ce (add ∷ []) known) (room0 c refl) few)
        (plain p n add fine (record { entries = omega (arith, room); pending = few })
        (take_pushed ks count stack (λ kinds rest. goes_on to rest (pending ++ label ∷ [])) many))

    -- what an option line asks
    holes_fit : (holes : List Expr) (c : Option Expr) → FitsLine terms.signatures terms.entries (offer_asks holes c) → list_all (λ e. is_some (own_kind e)) holes ≡ true
    holes_fit holes None fits = fits
    holes_fit holes (Some c) fits = (and_parts (list_all (λ e. is_some (own_kind e)) holes) _ fits).0

    condition_fits : (holes : List Expr) (c : Option Expr) → FitsLine terms.signatures terms.entries (offer_asks holes c) → (e : Expr) → c ≡ Some e → own_kind e ≡ Some kind.Truth
    condition_fits holes None fits e is = absurd cc
    condition_fits holes (Some c) fits e is =
        let same : c ≡ e = cc in
        ap own_kind (sym same) ∙ its_kind_only kind.Truth (own_kind c) ((and_parts (list_all (λ x. is_some (own_kind x)) holes) _ fits).1)

    holes_room : (depth : ℕ) (holes : List Expr) (c : Option Expr) → depth + offered_need holes c ≤ 2048 → depth + needs_of holes ≤ 2048
    holes_room depth holes None room = room
    holes_room depth holes (Some c) room = omega (arith, room)

    condition_room : (depth : ℕ) (holes : List Expr) (c : Option Expr) → depth + offered_need holes c ≤ 2048 → (e : Expr) → c ≡ Some e → depth + (length holes + need e) ≤ 2048
    condition_room depth holes None room e is = absurd cc
    condition_room depth holes (Some c) room e is =
        let same : c ≡ e = cc in
        subst (λ x. depth + (length holes + need x) ≤ 2048) same (omega (arith, room))

    head_part : (o : Offered) (at label : ℕ) (stack : List ShapeEntry) (pending : List ℕ) → FitsLine terms.signatures terms.entries (offer_asks o.text.holes o.condition) →
        Known (head_code terms title label o) → HasLine p o.text → suc (length stack) + offered_need o.text.holes o.condition ≤ 2048 → length pending ≤ 64 →
        at + head_size terms o ≤ label → label < length n.code →
        Part p n at (head_code terms title label o) (Some (shape stack pending)) (Some (shape stack (pending ++ label ∷ []))) []
    head_part o at label stack pending fits known line room few later within =
        let holes = o.text.holes in
        let cs = exprs_code terms o.text.line holes in
        let cond = condition_code terms o.text.line o.condition in
        let add = coded o.text.line (code.AddOption (length holes) o.text.id label (is_some o.condition)) in
        let room1 : length stack + needs_of holes ≤ 2048 = omega (arith, holes_room (suc (length stack)) holes o.condition room) in
        let all = exprs_part p n terms variables holes at o.text.line stack pending (holes_fit holes o.condition fits) (known_front cs (cond ++ add ∷ []) known) room1 few in
        let long = pushed-length all.kinds stack in
        let many = all.many in
        let count = needs-length holes in
        let room2 = holes_room (suc (length stack)) holes o.condition room in
        then_plain p n at cs (cond ++ add ∷ []) all.part
        (condition_part o.condition o.text.line (at + length cs) (length holes) o.text.id label all.kinds stack pending all.many (condition_fits holes o.condition fits)
        (known_back cs (cond ++ add ∷ []) known) (record { later = omega (arith, later); within = within }, line)
        (λ e is. omega (arith, condition_room (suc (length stack)) holes o.condition room e is, long, many)) (omega (arith, room2, count, long, many)) few)

    -- options before their bodies
    heads_part : (os : T.Options) (at bodies : ℕ) (stack : List ShapeEntry) (pending : List ℕ) → FitsOptions terms.signatures terms.entries os → Known (heads_code terms title bodies os) →
        Lines (said_in_options os) → HasRoomOptions (length stack) os → length pending + option_count os ≤ 64 →
        at + heads_size terms os ≤ bodies → bodies + bodies_size terms title os < length n.code →
        Part p n at (heads_code terms title bodies os) (Some (shape stack pending)) (Some (shape stack (pending ++ labels_of terms title bodies os))) []
    heads_part NoOptions at bodies stack pending fits known lines room few later within =
        subst (λ l. Part p n at [] (Some (shape stack pending)) (Some (shape stack l)) []) (sym (append-nil pending)) (nothing p n (Some (shape stack pending)))
    heads_part (AndOption o body os) at bodies stack pending fits known lines room few later within =
        let next : ℕ = bodies + (size_all terms title body + 1) in
        let head = head_code terms title bodies o in
        let heads = heads_code terms title next os in
        let lh = length-head terms title bodies o in
        let more : List ℕ = pending ++ bodies ∷ [] in
        let count : length more ≡ length pending + 1 = length-append pending (bodies ∷ []) in
        let rest = heads_part os (at + length head) next stack more fits.2 (known_back head heads known) (lines_back (said_in body) (said_in_options os) lines.1) room.2 (omega (arith, few, count))
        (omega (arith, later, lh)) (omega (arith, within)) in
        then_plain p n at head heads
        (head_part o at bodies stack pending fits.0 (known_front head heads known) lines.0 room.0 (omega (arith, few)) (omega (arith, later)) (omega (arith, within)))
        (subst (λ l. Part p n (at + length head) heads (Some (shape stack more)) (Some (shape stack l)) []) (append_assoc pending (bodies ∷ []) (labels_of terms title next os)) rest)

    -- ---- bodies of options

    -- code that goes nowhere but to that place, with that shape
    record Ended (at : ℕ) (cs : List Coded) (before : Option Shape) (end : ℕ) (s : Shape) : Type 0 where
      some : Bool
      part : Part p n at cs before None (ends some end s)

    ended_code : (at : ℕ) (a b : List Coded) {before : Option Shape} {end : ℕ} {s : Shape} → a ≡ b → Ended at a before end s → Ended at b before end s
    ended_code at a b {before = before} {end = end} {s = s} e x = subst (λ l. Ended at l before end s) e x

    abbrev chosen : List ℕ → List ShapeEntry → Shape
    chosen labels stack = shape (Destination labels ∷ stack) []

    abbrev goals_at : List ℕ → Shape → List Goal
    goals_at labels s = map (λ l. goal l s) labels

    -- SHOW_OPTIONS and JUMP
    show_part : (os : T.Options) (at line first : ℕ) (stack : List ShapeEntry) → 1 ≤ option_count os → option_count os ≤ 64 → suc (length stack) ≤ 2048 →
        Part p n at (coded line code.ShowOptions ∷ coded line code.Jump ∷ []) (Some (shape stack (labels_of terms title first os))) None
        (goals_at (labels_of terms title first os) (chosen (labels_of terms title first os) stack) ++ [])
    show_part NoOptions at line first stack some few room = absurd (omega (arith, some))
    show_part (AndOption o body os) at line first stack some few room =
        let labels = labels_of terms title first (AndOption o body os) in
        let long = labels-length terms title first (AndOption o body os) in
        let goals = goals_at labels (chosen labels stack) in
        then_plain p n at (coded line code.ShowOptions ∷ []) (coded line code.Jump ∷ [])
        (plain p n (coded line code.ShowOptions) tt (record { entries = omega (arith, room); pending = omega (arith, long, few) }) refl)
        (single p n (coded line code.Jump) tt (record { entries = room; pending = omega arith }) (ap (λ l. Some l) (sym (append-nil goals) ∙ sym (append-nil (goals ++ [])))))

    -- the body of one option joins what stands before it
    body_joins : (start at end line : ℕ) (x b rest : List Coded) (s : Shape) (before : Option Shape) (g : List Goal) (some : Bool) (stack : List ShapeEntry) → s ≡ shape stack [] → length stack ≤ 2048 →
        at ≡ start + length x → at + length b < end → end < length n.code → Ran p n at b s → Part p n start x before None ((goal at s ∷ g) ++ ends some end s) →
        (t : Bool) × Part p n start (x ++ (b ++ coded line (code.JumpTo end) ∷ [])) before None (g ++ ends t end s)
    body_joins start at end line x b rest s before g some stack is room here later within y first =
        let jump = coded line (code.JumpTo end) in
        let goes = subst (λ z. Part p n (at + length b) (jump ∷ []) (after_if y.through z) None (ends y.through end z)) (sym is) (leap line end y.through stack later within room) in
        let own = part_at p n at (start + length x) here (then_plain p n at b (jump ∷ []) y.part goes) in
        (some || y.through, part_exits p n ((g ++ ends some end s) ++ ends y.through end s) (g ++ ends (some || y.through) end s) (same_ends g some y.through end s) (land p n start x (b ++ jump ∷ []) at here first own))

    choice_ran : (at end : ℕ) (a b : List Coded) (s : Shape) (some through : Bool) → end ≡ at + length (a ++ b) → Part p n at a (Some s) (Some s) (ends some end s) →
        Part p n (at + length a) b (Some s) (after_if through s) [] → Ran p n at (a ++ b) s
    choice_ran at end a b s true true e x y = record { through = true; part = part_meets p n s end e (then_part p n at a b {eb = []} x y) }
    choice_ran at end a b s true false e x y = record { through = true; part = part_ends p n s end e (then_part p n at a b {eb = []} x y) }
    choice_ran at end a b s false through e x y = record { through = through; part = then_plain p n at a b x y }

    group_ran : (at end line : ℕ) (x : List Coded) (e : ShapeEntry) (stack : List ShapeEntry) (s : Shape) → s ≡ shape (e ∷ stack) [] → length stack + 1 ≤ 2048 → end ≡ at + length x →
        Ended at x (Some (shape stack [])) end s → Ran p n at (x ++ coded line code.Pop ∷ []) (shape stack [])
    group_ran at end line x e stack s is room here y = by_some y.some y.part
      where
        by_some : (t : Bool) → Part p n at x (Some (shape stack [])) None (ends t end s) → Ran p n at (x ++ coded line code.Pop ∷ []) (shape stack [])
        by_some true part =
            let pop = subst (λ z. Part p n (at + length x) (coded line code.Pop ∷ []) (Some z) (Some (shape stack [])) []) (sym is) (pop_part p n terms variables line e stack room) in
            record { through = true; part = land p n at x (coded line code.Pop ∷ []) {ea = []} end here part pop }
        by_some false part = record { through = false; part = then_plain p n at x (coded line code.Pop ∷ []) part (dead p n (tt, tt)) }

    -- a condition, and the POP behind it
    ask_part : (a : T.Asked) (at otherwise : ℕ) (stack : List ShapeEntry) → own_kind a.condition ≡ Some kind.Truth → Known (ask_code terms title otherwise a) → length stack + 1 ≤ 2048 → length stack + need a.condition ≤ 2048 →
        at + ask_size terms a ≤ otherwise → otherwise < length n.code →
        Part p n at (ask_code terms title otherwise a) (Some (shape stack [])) (Some (shape stack [])) (goal otherwise (shape (Of kind.Truth ∷ stack) []) ∷ [])
    ask_part a at otherwise stack is known room1 room later within =
        let ce = expr_code terms a.head.line a.condition in
        let test = coded a.head.line (code.JumpIfFalse otherwise) in
        let pop = coded a.head.line code.Pop in
        then_plain p n at ce (test ∷ pop ∷ []) (expr_part p n terms variables a.head.line a.condition at kind.Truth stack [] is (known_front ce (test ∷ pop ∷ []) known) room (omega arith))
        (then_part p n (at + length ce) (test ∷ []) (pop ∷ []) {ea = goal otherwise (shape (Of kind.Truth ∷ stack) []) ∷ []} {eb = []}
        (single p n test (record { later = omega (arith, later); within = within }) (record { entries = omega (arith, room1); pending = omega arith }) refl)
        (pop_part p n terms variables a.head.line (Of kind.Truth) stack room1))

    record Clauses (at : ℕ) (cs : List Coded) (s : Shape) (end : ℕ) : Type 0 where
      some : Bool
      part : Part p n at cs (Some s) (Some s) (ends some end s)

    clause_joins : (at end otherwise next line : ℕ) (ask b rest : List Coded) (stack : List ShapeEntry) → length stack + 1 ≤ 2048 → otherwise ≡ at + (length ask + (length b + 1)) → next ≡ otherwise + 1 → otherwise ≤ end → end < length n.code →
        Part p n at ask (Some (shape stack [])) (Some (shape stack [])) (goal otherwise (shape (Of kind.Truth ∷ stack) []) ∷ []) → Ran p n (at + length ask) b (shape stack []) → Clauses next rest (shape stack []) end →
        Clauses at (ask ++ (b ++ coded line (code.JumpTo end) ∷ coded line code.Pop ∷ rest)) (shape stack []) end
    clause_joins at end otherwise next line ask b rest stack room here after before within asks body more =
        let s = shape stack [] in
        let t = shape (Of kind.Truth ∷ stack) [] in
        let jump = coded line (code.JumpTo end) in
        let pop = coded line code.Pop in
        let x = ask ++ (b ++ jump ∷ []) in
        let long : length x ≡ length ask + (length b + 1) = omega (arith, length-append ask (b ++ jump ∷ []), length-append b (jump ∷ [])) in
        let later : at + length ask + length b < end = omega (arith, here, before) in
        let deep : length stack ≤ 2048 = omega (arith, room) in
        let goes = leap line end body.through stack later within deep in
        let first : Part p n at x (Some s) None (goal otherwise t ∷ ends body.through end s) =
        then_part p n at ask (b ++ jump ∷ []) {ea = goal otherwise t ∷ []} {eb = ends body.through end s} asks (then_plain p n (at + length ask) b (jump ∷ []) body.part goes) in
        let lands : otherwise ≡ at + length x = omega (arith, here, long) in
        let behind : next ≡ at + length x + 1 = omega (arith, lands, after) in
        let second : Part p n (at + length x) (pop ∷ rest) (Some t) (Some s) (ends more.some end s) =
        then_plain p n (at + length x) (pop ∷ []) rest (pop_part p n terms variables line (Of kind.Truth) stack room) (part_at p n next (at + length x + 1) behind more.part) in
        let whole = land p n at x (pop ∷ rest) {ea = ends body.through end s} {eb = ends more.some end s} otherwise lands first second in
        record {
          some = body.through || more.some;
          part = part_exits p n (ends body.through end s ++ ends more.some end s) (ends (body.through || more.some) end s) (same_ends [] body.through more.some end s)
              (part_code p n (x ++ pop ∷ rest) (ask ++ (b ++ jump ∷ pop ∷ rest)) (append_assoc ask (b ++ jump ∷ []) (pop ∷ rest) ∙ ap (λ l. ask ++ l) (append_assoc b (jump ∷ []) (pop ∷ rest))) whole);
        }

    abbrev all_size : T.Stmts → ℕ
    all_size = size_all terms title

    -- ---- statements

    mutual
      pub stmt_ran : (s : T.Stmt) (at : ℕ) (stack : List ShapeEntry) → FitsOne terms.signatures terms.entries s → Known (stmt_code terms title at s) → Lines (said_in_one s) →
          HasRoomOne (length stack) s → length stack + 1 ≤ 2048 → at + size terms title s < length n.code → Ran p n at (stmt_code terms title at s) (shape stack [])
      stmt_ran (Leaf s) at stack fits known lines room space within =
          simple_part p n terms variables title counted s at stack fits known lines room.0 room.1
      stmt_ran (Group os) at stack fits known lines room space within =
          let first : ℕ = at + heads_size terms os + 2 in
          let end : ℕ = at + heads_size terms os + 2 + bodies_size terms title os in
          let labels = labels_of terms title first os in
          let line = group_line os in
          let heads = heads_code terms title first os in
          let bodies = bodies_code terms title first end os in
          let show = coded line code.ShowOptions ∷ coded line code.Jump ∷ [] in
          let pop = coded line code.Pop ∷ [] in
          let long = length-heads terms title first os in
          let known1 = known_back heads (show ++ (bodies ++ pop)) known in
          let head = heads_part os at first stack [] fits (known_front heads (show ++ (bodies ++ pop)) known) lines room.2 (omega (arith, room.1)) (omega arith) (omega (arith, within)) in
          let deep : suc (length stack) ≤ 2048 = omega (arith, space) in
          let x = heads ++ show in
          let lx : first ≡ at + length x = omega (arith, length-append heads show, long) in
          let begun = then_plain p n at heads show head (show_part os (at + length heads) line first stack room.0 room.1 deep) in
          let all = bodies_ran os at first end x stack labels false (Some (shape stack [])) lx (omega arith) (omega (arith, within)) fits (known_front bodies pop known1.1.1) lines room.2 deep begun in
          let le : end ≡ at + length (x ++ bodies) = omega (arith, length-append x bodies, lx, length-bodies terms title first end os) in
          let whole = group_ran at end line (x ++ bodies) (Destination labels) stack (chosen labels stack) refl space le all in
          subst (λ l. Ran p n at l (shape stack [])) (append_assoc x bodies pop ∙ append_assoc heads show (bodies ++ pop)) whole
      stmt_ran (Choice cs last e) at stack fits known lines room space within =
          let middle : ℕ = at + clauses_size terms title cs in
          let end : ℕ = at + clauses_size terms title cs + last_size terms title last in
          let a = clauses_code terms title at end cs in
          let b = last_code terms title middle last in
          let la = length-clauses terms title at end cs in
          let lb = length-last terms title middle last in
          let c = clauses_ran cs at end stack fits.0 (known_front a b known) (lines_front (said_in_clauses cs) (said_in_last last) lines) room.0 space (omega arith) (omega (arith, within)) in
          let l = ran_at middle (at + length a) (omega (arith, la)) (last_ran last middle stack fits.1 (known_back a b known) (lines_back (said_in_clauses cs) (said_in_last last) lines) room.1 space (omega (arith, within))) in
          choice_ran at end a b (shape stack []) c.some l.through (omega (arith, length-append a b, la, lb)) c.part l.part

      pub stmts_ran : (b : T.Stmts) (at : ℕ) (stack : List ShapeEntry) → FitsAll terms.signatures terms.entries b → Known (stmts_code terms title at b) → Lines (said_in b) →
          HasRoom (length stack) b → length stack + 1 ≤ 2048 → at + size_all terms title b < length n.code → Ran p n at (stmts_code terms title at b) (shape stack [])
      stmts_ran Nil at stack fits known lines room space within = record { through = true; part = nothing p n (Some (shape stack [])) }
      stmts_ran (Cons s b) at stack fits known lines room space within =
          let next : ℕ = at + size terms title s in
          let a = stmt_code terms title at s in
          let c = stmts_code terms title next b in
          let la = length-stmt terms title at s in
          both_ran at a c
          (stmt_ran s at stack fits.0 (known_front a c known) (lines_front (said_in_one s) (said_in b) lines) room.0 space (omega (arith, within)))
          (ran_at next (at + length a) (omega (arith, la)) (stmts_ran b next stack fits.1 (known_back a c known) (lines_back (said_in_one s) (said_in b) lines) room.1 space (omega (arith, within))))

      bodies_ran : (os : T.Options) (start at end : ℕ) (x : List Coded) (stack : List ShapeEntry) (labels : List ℕ) (some : Bool) (before : Option Shape) → at ≡ start + length x →
          at + bodies_size terms title os ≤ end → end < length n.code → FitsOptions terms.signatures terms.entries os → Known (bodies_code terms title at end os) → Lines (said_in_options os) →
          HasRoomOptions (length stack) os → suc (length stack) ≤ 2048 →
          Part p n start x before None (goals_at (labels_of terms title at os) (chosen labels stack) ++ ends some end (chosen labels stack)) →
          Ended start (x ++ bodies_code terms title at end os) before end (chosen labels stack)
      bodies_ran NoOptions start at end x stack labels some before here inside within fits known lines room deep first =
          record { some = some; part = part_code p n x (x ++ []) (sym (append-nil x)) first }
      bodies_ran (AndOption o body os) start at end x stack labels some before here inside within fits known lines room deep first =
          let s = chosen labels stack in
          let next : ℕ = at + (size_all terms title body + 1) in
          let b = stmts_code terms title at body in
          let jump = coded o.text.line (code.JumpTo end) in
          let rest = bodies_code terms title next end os in
          let lb = length-stmts terms title at body in
          let y = stmts_ran body at (Destination labels ∷ stack) fits.1 (known_front b (jump ∷ rest) known) (lines_front (said_in body) (said_in_options os) lines.1) room.1 (omega (arith, room.0, offered-positive o.text.holes o.condition)) (omega (arith, inside, within)) in
          let goals = goals_at (labels_of terms title next os) s in
          let joined = body_joins start at end o.text.line x b rest s before goals some (Destination labels ∷ stack) refl deep here (omega (arith, inside, lb)) within y first in
          let z = x ++ (b ++ jump ∷ []) in
          let lz : next ≡ start + length z = omega (arith, length-append x (b ++ jump ∷ []), length-append b (jump ∷ []), lb, here) in
          let r = bodies_ran os start next end z stack labels joined.0 before lz (omega (arith, inside)) within fits.2 (known_back b (jump ∷ rest) known).1 (lines_back (said_in body) (said_in_options os) lines.1) room.2 deep joined.1 in
          ended_code start (z ++ rest) (x ++ (b ++ jump ∷ rest)) (append_assoc x (b ++ jump ∷ []) rest ∙ ap (λ l. x ++ l) (append_assoc b (jump ∷ []) rest)) r

      clauses_ran : (cs : T.Clauses) (at end : ℕ) (stack : List ShapeEntry) → FitsClauses terms.signatures terms.entries cs → Known (clauses_code terms title at end cs) → Lines (said_in_clauses cs) →
          HasRoomClauses (length stack) cs → length stack + 1 ≤ 2048 → at + clauses_size terms title cs ≤ end → end < length n.code →
          Clauses at (clauses_code terms title at end cs) (shape stack []) end
      clauses_ran NoClauses at end stack fits known lines room space inside within = record { some = false; part = nothing p n (Some (shape stack [])) }
      clauses_ran (AndClause a body cs) at end stack fits known lines room space inside within =
          let sized : ℕ = ask_size terms a in
          let bsize : ℕ = size_all terms title body in
          let otherwise : ℕ = at + ask_size terms a + size_all terms title body + 1 in
          let next : ℕ = at + ask_size terms a + size_all terms title body + 2 in
          let inner : ℕ = at + ask_size terms a in
          let ask = ask_code terms title otherwise a in
          let b = stmts_code terms title inner body in
          let rest = clauses_code terms title next end cs in
          let jump = coded a.head.line (code.JumpTo end) in
          let pop = coded a.head.line code.Pop in
          let la = length-ask terms title otherwise a in
          let lb = length-stmts terms title inner body in
          let known1 = known_back ask (b ++ jump ∷ pop ∷ rest) known in
          let asks = ask_part a at otherwise stack (its_kind_only kind.Truth (own_kind a.condition) fits.0) (known_front ask (b ++ jump ∷ pop ∷ rest) known) space room.0 (omega arith) (omega (arith, inside, within)) in
          let ran = stmts_ran body inner stack fits.1 (known_front b (jump ∷ pop ∷ rest) known1) (lines_front (said_in body) (said_in_clauses cs) lines) room.1 space (omega (arith, inside, within)) in
          let more = clauses_ran cs next end stack fits.2 (known_back b (jump ∷ pop ∷ rest) known1).1.1 (lines_back (said_in body) (said_in_clauses cs) lines) room.2 space (omega (arith, inside)) within in
          clause_joins at end otherwise next a.head.line ask b rest stack space (omega (arith, la, lb)) (omega arith) (omega (arith, inside)) within asks (ran_at inner (at + length ask) (omega (arith, la)) ran) more

      last_ran : (last : T.Last) (at : ℕ) (stack : List ShapeEntry) → FitsLast terms.signatures terms.entries last → Known (last_code terms title at last) → Lines (said_in_last last) →
          HasRoomLast (length stack) last → length stack + 1 ≤ 2048 → at + last_size terms title last < length n.code → Ran p n at (last_code terms title at last) (shape stack [])
      last_ran NoElse at stack fits known lines room space within = record { through = true; part = nothing p n (Some (shape stack [])) }
      last_ran (ElseOf head body) at stack fits known lines room space within = stmts_ran body at stack fits known lines room space within
