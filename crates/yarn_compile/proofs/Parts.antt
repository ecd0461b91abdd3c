-- Parts of a node's code with their shapes, and how they are put together.
use Rattle.std.proofs.Common.{◌≡◌, ℕ, suc, ◌+◌, ◌<◌, ◌≤◌, List, [], ◌∷◌, ◌++◌, length, Option, Some, None, refl, sym, ap, ◌∙◌, subst, arith, append_assoc, length-append, ◌⊎◌, inr}
use Rattle.std.specs.Prelude.{slice_get, All}
use Rattle.std.proofs.lemmas.List.Elements.{All-nil, All-cons}
use Rattle.std.proofs.lemmas.Option.{slice_get_within}
use Rattle.yarn_code.specs.declared.program.Instr.{Instr}
use Rattle.yarn_code.specs.declared.program.Coded.{Coded}
use Rattle.yarn_code.specs.declared.program.CodeNode.{CodeNode}
use Rattle.yarn_code.specs.declared.program.Program.{Program}
use Rattle.yarn_check.specs.Shapes.{Shape, Goal, goal, flow, PassesFirstLook, IsSmall, Shapes, HasShape, IsReached, CanRun, IsEntered}

-- these items stand in the list from a place on
abbrev pub StandAt : {A : Type 0} → List A → ℕ → List A → Type 0
StandAt all at [] = Unit {0}
StandAt all at (x ∷ xs) = (slice_get all at ≡ Some x) × StandAt all (at + 1) xs

module _ {A : Type 0} where
  pub stand_moved : (all : List A) (at to : ℕ) (xs : List A) → at ≡ to → StandAt all at xs → StandAt all to xs
  stand_moved all at to xs e h = subst (λ n. StandAt all n xs) e h

  pub stand_front : (all : List A) (at : ℕ) (a b : List A) → StandAt all at (a ++ b) → StandAt all at a
  stand_front all at [] b h = tt
  stand_front all at (x ∷ a) b h = (h.0, stand_front all (at + 1) a b h.1)

  pub stand_back : (all : List A) (at : ℕ) (a b : List A) → StandAt all at (a ++ b) → StandAt all (at + length a) b
  stand_back all at [] b h = stand_moved all at (at + 0) b (omega arith) h
  stand_back all at (x ∷ a) b h = stand_moved all (at + 1 + length a) (at + length (x ∷ a)) b (omega arith) (stand_back all (at + 1) a b h.1)

-- a fact of each item
abbrev pub Each : {A : Type 0} → (A → Type 0) → List A → Type 0
Each P [] = Unit {0}
Each P (x ∷ xs) = P x × Each P xs

module _ {A : Type 0} (P : A → Type 0) where
  pub each_append : (a b : List A) → Each P a → Each P b → Each P (a ++ b)
  each_append [] b h g = g
  each_append (x ∷ a) b h g = (h.0, each_append a b h.1 g)

  pub each_front : (a b : List A) → Each P (a ++ b) → Each P a
  each_front [] b h = tt
  each_front (x ∷ a) b h = (h.0, each_front a b h.1)

  pub each_back : (a b : List A) → Each P (a ++ b) → Each P b
  each_back [] b h = h
  each_back (x ∷ a) b h = each_back a b h.1

  pub each_all : (a : List A) → Each P a → All P a
  each_all [] h = All-nil P
  each_all (x ∷ a) h = All-cons P x a h.0 (each_all a h.1)

  -- of each item of a list, by the places where it stands
  cut_more : (all before a : List A) → before ++ a ≡ all → ((front : List A) (x : A) (behind : List A) → front ++ x ∷ behind ≡ all → P x) → Each P a
  cut_more all before [] e f = tt
  cut_more all before (x ∷ a) e f = (f before x a e, cut_more all (before ++ x ∷ []) a (append_assoc before (x ∷ []) a ∙ e) f)

  pub each_cut : (a : List A) → ((front : List A) (x : A) (behind : List A) → front ++ x ∷ behind ≡ a → P x) → Each P a
  each_cut a f = cut_more a [] a refl f

pub each_weaker : {A : Type 0} (P Q : A → Type 0) → ((x : A) → P x → Q x) → (xs : List A) → Each P xs → Each Q xs
each_weaker P Q f [] h = tt
each_weaker P Q f (x ∷ xs) h = (f x h.0, each_weaker P Q f xs h.1)

-- lists of the same goals
pub record SameGoals (a b : List Goal) : Type 1 where
  pub there : (P : Goal → Type 0) → Each P a → Each P b
  pub back : (P : Goal → Type 0) → Each P b → Each P a

-- where a shape comes out, it is at that place
abbrev pub Next : Shapes → ℕ → Option Shape → Type 0
Next shapes place None = Unit {0}
Next shapes place (Some s) = HasShape shapes place s

-- the goal of going on, where a shape comes out
abbrev pub onward : ℕ → Option Shape → List Goal
onward place None = []
onward place (Some s) = goal place s ∷ []

module _ (p : Program) (n : CodeNode) where
  -- each instruction passes the first look
  abbrev pub AreFine : ℕ → List Coded → Type 0
  AreFine at [] = Unit {0}
  AreFine at (c ∷ cs) = PassesFirstLook p n at c.instr × AreFine (at + 1) cs

  -- the place is the first one, or is entered
  abbrev pub Comes : Shapes → ℕ → Type 0
  Comes shapes place = (place ≡ 0) ⊎ IsEntered p n shapes place

  abbrev pub ComesIf : Shapes → ℕ → Option Shape → Type 0
  ComesIf shapes place None = Unit {0}
  ComesIf shapes place (Some s) = Comes shapes place

  abbrev pub RunsIf : Shapes → ℕ → Instr → Option Shape → Type 0
  RunsIf shapes place i None = Unit {0}
  RunsIf shapes place i (Some s) = CanRun p n shapes place i s

  abbrev pub RunAll : Shapes → ℕ → List Coded → Shapes → Type 0
  RunAll shapes at [] os = Unit {0}
  RunAll shapes at (c ∷ cs) [] = Unit {0}
  RunAll shapes at (c ∷ cs) (o ∷ os) = RunsIf shapes at c.instr o × RunAll shapes (at + 1) cs os

  abbrev pub ComeAll : Shapes → ℕ → Shapes → Type 0
  ComeAll shapes at [] = Unit {0}
  ComeAll shapes at (o ∷ os) = ComesIf shapes at o × ComeAll shapes (at + 1) os

  -- a goal has its shape, and isn't before that place
  pub record IsAhead (shapes : Shapes) (end : ℕ) (g : Goal) : Type 0 where
    pub ahead : end ≤ g.place
    pub has : HasShape shapes g.place g.shape

  -- a part of the code from a place on: the shape before it, the shape with which it goes on, and the other goals to which it goes
  pub record Part (at : ℕ) (cs : List Coded) (before after : Option Shape) (exits : List Goal) : Type 0 where
    pub fine : AreFine at cs
    pub shapes_in : Shapes
    pub counted : length shapes_in ≡ length cs
    pub begins : (shapes : Shapes) → StandAt shapes at shapes_in → Next shapes (at + length cs) after → Next shapes at before
    pub runs : (shapes : Shapes) → length shapes ≡ length n.code → StandAt shapes at shapes_in → Next shapes (at + length cs) after →
        Each (IsAhead shapes (at + length cs)) exits → RunAll shapes at cs shapes_in
    pub comes : (shapes : Shapes) → StandAt n.code at cs → StandAt shapes at shapes_in → ComesIf shapes at before →
        ComeAll shapes at shapes_in × ComesIf shapes (at + length cs) after × Each (λ g. Comes shapes g.place) exits

  -- ---- lists behind one another

  pub fine_append : (at : ℕ) (a b : List Coded) → AreFine at a → AreFine (at + length a) b → AreFine at (a ++ b)
  fine_append at [] b h g = subst (λ m. AreFine m b) (omega arith) g
  fine_append at (c ∷ a) b h g =
      let e : at + length (c ∷ a) ≡ at + 1 + length a = omega arith in
      (h.0, fine_append (at + 1) a b h.1 (subst (λ m. AreFine m b) e g))

  run_append : (shapes : Shapes) (at : ℕ) (a b : List Coded) (sa sb : Shapes) → length sa ≡ length a → RunAll shapes at a sa → RunAll shapes (at + length a) b sb → RunAll shapes at (a ++ b) (sa ++ sb)
  run_append shapes at [] b [] sb e h g = subst (λ m. RunAll shapes m b sb) (omega arith) g
  run_append shapes at [] b (o ∷ sa) sb e h g = absurd (omega (arith, e))
  run_append shapes at (c ∷ a) b [] sb e h g = absurd (omega (arith, e))
  run_append shapes at (c ∷ a) b (o ∷ sa) sb e h g =
      let l : at + length (c ∷ a) ≡ at + 1 + length a = omega arith in
      (h.0, run_append shapes (at + 1) a b sa sb (omega (arith, e)) h.1 (subst (λ m. RunAll shapes m b sb) l g))

  come_append : (shapes : Shapes) (at : ℕ) (sa sb : Shapes) → ComeAll shapes at sa → ComeAll shapes (at + length sa) sb → ComeAll shapes at (sa ++ sb)
  come_append shapes at [] sb h g = subst (λ m. ComeAll shapes m sb) (omega arith) g
  come_append shapes at (o ∷ sa) sb h g =
      let l : at + length (o ∷ sa) ≡ at + 1 + length sa = omega arith in
      (h.0, come_append shapes (at + 1) sa sb h.1 (subst (λ m. ComeAll shapes m sb) l g))

  -- ---- parts behind one another

  module _ (at : ℕ) (a b : List Coded) where
    end_same : at + length a + length b ≡ at + length (a ++ b)
    end_same = omega (arith, length-append a b)

    -- what a second part needs of the whole
    second_stands : {A : Type 0} (all sa sb : List A) → length sa ≡ length a → StandAt all at (sa ++ sb) → StandAt all (at + length a) sb
    second_stands all sa sb e h = stand_moved all (at + length sa) (at + length a) sb (ap (λ m. at + m) e) (stand_back all at sa sb h)

    next_same : (shapes : Shapes) (o : Option Shape) → Next shapes (at + length (a ++ b)) o → Next shapes (at + length a + length b) o
    next_same shapes o h = subst (λ m. Next shapes m o) (sym end_same) h

    ahead_first : (shapes : Shapes) (exits : List Goal) → Each (IsAhead shapes (at + length (a ++ b))) exits → Each (IsAhead shapes (at + length a)) exits
    ahead_first shapes exits h =
        each_weaker (IsAhead shapes (at + length (a ++ b))) (IsAhead shapes (at + length a)) (λ g r. record { ahead = omega (arith, r.ahead, end_same); has = r.has }) exits h

    ahead_second : (shapes : Shapes) (exits : List Goal) → Each (IsAhead shapes (at + length (a ++ b))) exits → Each (IsAhead shapes (at + length a + length b)) exits
    ahead_second shapes exits h = subst (λ m. Each (IsAhead shapes m) exits) (sym end_same) h

    -- the first goes on to the second
    pub then_part : {before mid after : Option Shape} {ea eb : List Goal} → Part at a before mid ea → Part (at + length a) b mid after eb → Part at (a ++ b) before after (ea ++ eb)
    then_part {before = before} {mid = mid} {after = after} {ea = ea} {eb = eb} x y = record {
      fine = fine_append at a b x.fine y.fine;
      shapes_in = x.shapes_in ++ y.shapes_in;
      counted = length-append x.shapes_in y.shapes_in ∙ ap (λ m. m + length y.shapes_in) x.counted ∙ ap (λ m. length a + m) y.counted ∙ sym (length-append a b);
      begins = λ shapes st next.
          x.begins shapes (stand_front shapes at x.shapes_in y.shapes_in st)
          (y.begins shapes (second_stands shapes x.shapes_in y.shapes_in x.counted st) (next_same shapes after next));
      runs = λ shapes long st next ahead.
          let sy = second_stands shapes x.shapes_in y.shapes_in x.counted st in
          run_append shapes at a b x.shapes_in y.shapes_in x.counted
          (x.runs shapes long (stand_front shapes at x.shapes_in y.shapes_in st) (y.begins shapes sy (next_same shapes after next))
          (each_front (IsAhead shapes (at + length a)) ea eb (ahead_first shapes (ea ++ eb) ahead)))
          (y.runs shapes long sy (next_same shapes after next) (each_back (IsAhead shapes (at + length a + length b)) ea eb (ahead_second shapes (ea ++ eb) ahead)));
      comes = λ shapes sc st come.
          let first = x.comes shapes (stand_front n.code at a b sc) (stand_front shapes at x.shapes_in y.shapes_in st) come in
          let second = y.comes shapes (stand_back n.code at a b sc) (second_stands shapes x.shapes_in y.shapes_in x.counted st) first.1 in (
            come_append shapes at x.shapes_in y.shapes_in first.0 (subst (λ m. ComeAll shapes (at + m) y.shapes_in) (sym x.counted) second.0),
            subst (λ m. ComesIf shapes m after) end_same second.1,
            each_append (λ g. Comes shapes g.place) ea eb first.2 second.2,
          );
    }

    -- the first goes to the second by its first goal alone
    pub land : {before after : Option Shape} {s : Shape} {ea eb : List Goal} (label : ℕ) → label ≡ at + length a → Part at a before None (goal label s ∷ ea) → Part (at + length a) b (Some s) after eb → Part at (a ++ b) before after (ea ++ eb)
    land {before = before} {after = after} {s = s} {ea = ea} {eb = eb} label lands x y = record {
      fine = fine_append at a b x.fine y.fine;
      shapes_in = x.shapes_in ++ y.shapes_in;
      counted = length-append x.shapes_in y.shapes_in ∙ ap (λ m. m + length y.shapes_in) x.counted ∙ ap (λ m. length a + m) y.counted ∙ sym (length-append a b);
      begins = λ shapes st next. x.begins shapes (stand_front shapes at x.shapes_in y.shapes_in st) tt;
      runs = λ shapes long st next ahead.
          let sy = second_stands shapes x.shapes_in y.shapes_in x.counted st in
          let here : HasShape shapes (at + length a) s = y.begins shapes sy (next_same shapes after next) in
          let there : IsAhead shapes (at + length a) (goal label s) = record { ahead = omega (arith, lands); has = subst (λ m. HasShape shapes m s) (sym lands) here } in
          run_append shapes at a b x.shapes_in y.shapes_in x.counted
          (x.runs shapes long (stand_front shapes at x.shapes_in y.shapes_in st) tt
          (there, each_front (IsAhead shapes (at + length a)) ea eb (ahead_first shapes (ea ++ eb) ahead)))
          (y.runs shapes long sy (next_same shapes after next) (each_back (IsAhead shapes (at + length a + length b)) ea eb (ahead_second shapes (ea ++ eb) ahead)));
      comes = λ shapes sc st come.
          let first = x.comes shapes (stand_front n.code at a b sc) (stand_front shapes at x.shapes_in y.shapes_in st) come in
          let here : Comes shapes (at + length a) = subst (Comes shapes) lands first.2.0 in
          let second = y.comes shapes (stand_back n.code at a b sc) (second_stands shapes x.shapes_in y.shapes_in x.counted st) here in (
            come_append shapes at x.shapes_in y.shapes_in first.0 (subst (λ m. ComeAll shapes (at + m) y.shapes_in) (sym x.counted) second.0),
            subst (λ m. ComesIf shapes m after) end_same second.1,
            each_append (λ g. Comes shapes g.place) ea eb first.2.1 second.2,
          );
    }

  -- ---- other names

  pub part_code : {at : ℕ} {before after : Option Shape} {exits : List Goal} (a b : List Coded) → a ≡ b → Part at a before after exits → Part at b before after exits
  part_code {at = at} {before = before} {after = after} {exits = exits} a b e x = subst (λ l. Part at l before after exits) e x

  pub part_at : {cs : List Coded} {before after : Option Shape} {exits : List Goal} (at to : ℕ) → at ≡ to → Part at cs before after exits → Part to cs before after exits
  part_at {cs = cs} {before = before} {after = after} {exits = exits} at to e x = subst (λ m. Part m cs before after exits) e x

  pub part_exits : {at : ℕ} {cs : List Coded} {before after : Option Shape} (a b : List Goal) → SameGoals a b → Part at cs before after a → Part at cs before after b
  part_exits {at = at} {cs = cs} a b same x = record {
    fine = x.fine;
    shapes_in = x.shapes_in;
    counted = x.counted;
    begins = x.begins;
    runs = λ shapes long st next ahead. x.runs shapes long st next (same.back (IsAhead shapes (at + length cs)) ahead);
    comes = λ shapes sc st come. let r = x.comes shapes sc st come in (r.0, r.1, same.there (λ g. Comes shapes g.place) r.2);
  }

  -- where a part goes on is a goal of it
  pub part_ends : {at : ℕ} {cs : List Coded} {before : Option Shape} (s : Shape) (label : ℕ) → label ≡ at + length cs → Part at cs before None (goal label s ∷ []) → Part at cs before (Some s) []
  part_ends {at = at} {cs = cs} s label lands x = record {
    fine = x.fine;
    shapes_in = x.shapes_in;
    counted = x.counted;
    begins = λ shapes st next. x.begins shapes st tt;
    runs = λ shapes long st next ahead.
        x.runs shapes long st tt (record { ahead = omega (arith, lands); has = subst (λ m. HasShape shapes m s) (sym lands) next }, tt);
    comes = λ shapes sc st come. let r = x.comes shapes sc st come in (r.0, subst (Comes shapes) lands r.2.0, tt);
  }

  -- where it also goes on by itself
  pub part_meets : {at : ℕ} {cs : List Coded} {before : Option Shape} (s : Shape) (label : ℕ) → label ≡ at + length cs → Part at cs before (Some s) (goal label s ∷ []) → Part at cs before (Some s) []
  part_meets {at = at} {cs = cs} s label lands x = record {
    fine = x.fine;
    shapes_in = x.shapes_in;
    counted = x.counted;
    begins = x.begins;
    runs = λ shapes long st next ahead.
        x.runs shapes long st next (record { ahead = omega (arith, lands); has = subst (λ m. HasShape shapes m s) (sym lands) next }, tt);
    comes = λ shapes sc st come. let r = x.comes shapes sc st come in (r.0, r.1, tt);
  }

  -- ---- code that isn't reached

  abbrev no_shapes : List Coded → Shapes
  no_shapes [] = []
  no_shapes (c ∷ cs) = None ∷ no_shapes cs

  no_shapes-length : (cs : List Coded) → length (no_shapes cs) ≡ length cs
  no_shapes-length [] = refl
  no_shapes-length (c ∷ cs) = ap suc (no_shapes-length cs)

  none_runs : (shapes : Shapes) (at : ℕ) (cs : List Coded) → RunAll shapes at cs (no_shapes cs)
  none_runs shapes at [] = tt
  none_runs shapes at (c ∷ cs) = (tt, none_runs shapes (at + 1) cs)

  none_comes : (shapes : Shapes) (at : ℕ) (cs : List Coded) → ComeAll shapes at (no_shapes cs)
  none_comes shapes at [] = tt
  none_comes shapes at (c ∷ cs) = (tt, none_comes shapes (at + 1) cs)

  pub dead : {at : ℕ} {cs : List Coded} → AreFine at cs → Part at cs None None []
  dead {at = at} {cs = cs} fine = record {
    fine = fine;
    shapes_in = no_shapes cs;
    counted = no_shapes-length cs;
    begins = λ shapes st next. tt;
    runs = λ shapes long st next ahead. none_runs shapes at cs;
    comes = λ shapes sc st come. (none_comes shapes at cs, tt, tt);
  }

  -- a part that would be fine, and isn't reached
  pub unreached : {at : ℕ} {cs : List Coded} {before after : Option Shape} {exits : List Goal} → Part at cs before after exits → Part at cs None None []
  unreached x = dead x.fine

  pub nothing : {at : ℕ} (s : Option Shape) → Part at [] s s []
  nothing {at = at} s = record {
    fine = tt;
    shapes_in = [];
    counted = refl;
    begins = λ shapes st next. subst (λ m. Next shapes m s) (omega arith) next;
    runs = λ shapes long st next ahead. tt;
    comes = λ shapes sc st come. (tt, subst (λ m. ComesIf shapes m s) (omega arith) come, tt);
  }

  -- ---- one instruction

  onward-ahead : (shapes : Shapes) (at : ℕ) (after : Option Shape) → Next shapes (at + 1) after → Each (IsAhead shapes (at + 1)) (onward (at + 1) after)
  onward-ahead shapes at None next = tt
  onward-ahead shapes at (Some s) next = (record { ahead = omega arith; has = next }, tt)

  onward-comes : (shapes : Shapes) (at : ℕ) (after : Option Shape) → Each (λ g. Comes shapes g.place) (onward (at + 1) after) → ComesIf shapes (at + 1) after
  onward-comes shapes at None h = tt
  onward-comes shapes at (Some s) h = h.0

  -- its goals are the exits, and then the next place
  pub single : {at : ℕ} {s : Shape} {after : Option Shape} {exits : List Goal} (c : Coded) → PassesFirstLook p n at c.instr → IsSmall s →
      flow p c.instr at s.entries s.pending ≡ Some (exits ++ onward (at + 1) after) → Part at (c ∷ []) (Some s) after exits
  single {at = at} {s = s} {after = after} {exits = exits} c fine small can = record {
    fine = (fine, tt);
    shapes_in = Some s ∷ [];
    counted = refl;
    begins = λ shapes st next. st.0;
    runs = λ shapes long st next ahead.
        let goals = exits ++ onward (at + 1) after in
        let all = each_append (IsAhead shapes (at + 1)) exits (onward (at + 1) after) ahead (onward-ahead shapes at after next) in
        let reached : (g : Goal) → IsAhead shapes (at + 1) g → IsReached n shapes at g =
        λ g r. record { later = record { later = omega (arith, r.ahead); within = subst (λ m. g.place < m) long (slice_get_within shapes g.place (Some g.shape) r.has) }; has = r.has } in
        (record { small = small; goals = goals; can = can; reached = each_all (IsReached n shapes at) goals (each_weaker (IsAhead shapes (at + 1)) (IsReached n shapes at) reached goals all) }, tt);
    comes = λ shapes sc st come.
        let goals = exits ++ onward (at + 1) after in
        let all = each_cut (λ g. Comes shapes g.place) goals (λ front g behind e. inr (record {
          from = at;
          c = c;
          s = s;
          stands = sc.0;
          has = st.0;
          before = front;
          into = g;
          behind = behind;
          can = can ∙ ap (λ l. Some l) (sym e);
          there = refl;
        })) in (
          (come, tt),
          onward-comes shapes at after (each_back (λ g. Comes shapes g.place) exits (onward (at + 1) after) all),
          each_front (λ g. Comes shapes g.place) exits (onward (at + 1) after) all,
        );
  }

  -- the same, where the first goes nowhere else
  pub then_plain : {before mid after : Option Shape} {eb : List Goal} (at : ℕ) (a b : List Coded) → Part at a before mid [] → Part (at + length a) b mid after eb → Part at (a ++ b) before after eb
  then_plain at a b x y = then_part at a b {ea = []} x y

  pub plain : {at : ℕ} {s : Shape} {after : Option Shape} (c : Coded) → PassesFirstLook p n at c.instr → IsSmall s → flow p c.instr at s.entries s.pending ≡ Some (onward (at + 1) after) → Part at (c ∷ []) (Some s) after []
  plain c fine small can = single {exits = []} c fine small can
