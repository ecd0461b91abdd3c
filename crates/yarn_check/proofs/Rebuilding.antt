-- A state whose parts fit is shaped, and the parts of each shaped state that rests fit.
use Rattle.std.proofs.Common.{◌≡◌, ℕ, zero, suc, ◌+◌, List, [], ◌∷◌, length, Some, refl, sym, ap, ◌∙◌, subst}
use Rattle.yarn_value.specs.declared.value.Kind.{Kind}
use Rattle.yarn_code.specs.declared.program.Instr.{Instr}
use Rattle.yarn_code.specs.declared.program.Instr.TheVariants as code
use Rattle.yarn_code.specs.declared.program.CodeNode.{CodeNode}
use Rattle.yarn_code.specs.declared.program.Program.{Program}
use Rattle.yarn_code.specs.Moments.{State}
use Rattle.yarn_code.specs.Parts.{coded}
use Rattle.yarn_code.specs.MachineState.{Stack, Offer, Stop, To, Rest, Line, Options, Command, Starts, Ends, Rests, here_in, MachineState, machine}
use Rattle.yarn_check.specs.Shapes as s
use Rattle.yarn_check.specs.Shapes.{ShapeEntry, Shape, shape, HasShape, Goal, goal, Flow, IsReached, take_kinds, goes_on, flow, IsValidNode}
use Rattle.yarn_check.specs.Shaped.{HasEntries, HasOffers, HasShapeAt, Behind, IsIn, IsPlaced}
use Rattle.yarn_check.specs.Fits.{Parts, FitsRest, parts_of, rebuilt}
use Rattle.yarn_check.specs.Laws.{IsRunnable, RebuildsShaped, PartsFit}
use Rattle.yarn_check.proofs.OneShapes.{one_shapes}
use Rattle.yarn_check.proofs.Places.{of_titled, one_of, something_is, no_offers}

-- ---- behind an instruction that gives something nothing is pending

kinds_leave : (count : ℕ) (ks : List Kind) (es : List ShapeEntry) (go : List Kind → List ShapeEntry → Flow) (goals : List Goal) →
    take_kinds count ks es go ≡ Some goals →
    (ks1 : List Kind) × (rest : List ShapeEntry) × (go ks1 rest ≡ Some goals)
kinds_leave zero ks es go goals can = (ks, es, can)
kinds_leave (suc n) ks (s.Of k ∷ es) go goals can = kinds_leave n (k ∷ ks) es go goals can
kinds_leave (suc n) ks (s.Null ∷ es) go goals can = absurd cc
kinds_leave (suc n) ks (s.Destination labels ∷ es) go goals can = absurd cc
kinds_leave (suc n) ks [] go goals can = absurd cc

module _ (p : Program) where
  abbrev Clears : Instr → Type 0
  Clears instr = (at : ℕ) (es : List ShapeEntry) (ls : List ℕ) (goals : List Goal) →
      flow p instr at es ls ≡ Some goals → (rest : List ShapeEntry) × (goes_on at rest [] ≡ Some goals)

  taken_clears : (count at : ℕ) (es : List ShapeEntry) (ls : List ℕ) (goals : List Goal) →
      s.if_nothing ls (take_kinds count [] es (λ kinds rest. goes_on at rest ls)) ≡ Some goals →
      (rest : List ShapeEntry) × (goes_on at rest [] ≡ Some goals)
  taken_clears count at es [] goals can = let left = kinds_leave count [] es (λ kinds rest. goes_on at rest []) goals can in (left.1, left.2)
  taken_clears count at es (l ∷ ls) goals can = absurd cc

  line_clears : (count : ℕ) (id : List ℕ) → Clears (code.RunLine count id)
  line_clears count id at es ls goals can = taken_clears count at es ls goals can

  command_clears : (count : ℕ) (text : List ℕ) → Clears (code.RunCommand count text)
  command_clears count text at es ls goals can = taken_clears count at es ls goals can

  options_clear : Clears code.ShowOptions
  options_clear at es ls goals can = (s.Destination ls ∷ es, something_is ls (goes_on at (s.Destination ls ∷ es) []) goals can)

  nothing_behind : (n : CodeNode) (place : ℕ) (instr : Instr) (sh : Shape) → Clears instr → Behind p n place instr → HasShapeAt p n place sh → sh.pending ≡ []
  nothing_behind n place instr sh clears behind at =
      let st = behind.stands in
      let runs = st.has.agrees.runs behind.before (coded st.line instr) st.shape st.stands st.has.has in
      let left = clears behind.before st.shape.entries st.shape.pending runs.goals runs.can in
      let reached = one_of (IsReached n st.has.shapes behind.before) (goal (behind.before + 1) (shape left.0 [])) [] runs.goals left.1 runs.reached in
      let here : HasShape st.has.shapes place (shape left.0 []) = subst (λ k. HasShape st.has.shapes k (shape left.0 [])) (sym behind.next) reached.has in
      let there : HasShape at.shapes place (shape left.0 []) =
      subst (λ all. HasShape all place (shape left.0 [])) (one_shapes p n st.has.shapes at.shapes st.has.agrees at.agrees) here in
      let both : Some (Some sh) ≡ Some (Some (shape left.0 [])) = sym at.has ∙ there in
      let same : sh ≡ shape left.0 [] = cc in
      ap (λ x. x.pending) same

  first_shape : (n : CodeNode) (place : ℕ) (sh : Shape) → place ≡ 0 → HasShapeAt p n place sh → sh ≡ shape [] []
  first_shape n place sh first at =
      let here : HasShape at.shapes 0 sh = subst (λ k. HasShape at.shapes k sh) first at.has in
      let begins = at.agrees.begins in
      cc

  -- ---- what is rebuilt

  nothing_offered : (labels : List ℕ) → labels ≡ [] → HasOffers p labels []
  nothing_offered labels e = subst (λ ls. HasOffers p ls []) (sym e) tt

  module _ (runnable : IsRunnable p) (parts : Parts) (st : State) where
    abbrev again : Rest → MachineState
    again rest = machine (here_in parts.node) parts.place parts.stack [] (Rests rest) st

    rebuilds : (rest : Rest) → IsIn p parts.node (λ n. FitsRest p n rest parts) → IsPlaced p (Rests rest) (again rest)
    rebuilds (Line id values) is =
        let f = is.holds in
        let stack = f.stack_fits in
        let nothing = nothing_behind is.node parts.place (code.RunLine (length values) id) stack.shape (line_clears (length values) id) f.behind stack.has in
        record {
          node = is.node;
          named = is.named;
          holds = record {
            behind = record {
              behind = f.behind;
              shaped = record {
                entries = stack.shape.entries;
                labels = stack.shape.pending;
                has = stack.has;
                entered = stack.entered;
                offered = nothing_offered stack.shape.pending nothing;
              };
            };
            fits = f.values_fit;
          };
        }
    rebuilds (Command text) is =
        let f = is.holds in
        let stack = f.stack_fits in
        let nothing = nothing_behind is.node parts.place (code.RunCommand f.count f.text) stack.shape (command_clears f.count f.text) f.behind stack.has in
        record {
          node = is.node;
          named = is.named;
          holds = record {
            count = f.count;
            text = f.text;
            behind = record {
              behind = f.behind;
              shaped = record {
                entries = stack.shape.entries;
                labels = stack.shape.pending;
                has = stack.has;
                entered = stack.entered;
                offered = nothing_offered stack.shape.pending nothing;
              };
            };
          };
        }
    rebuilds (Options offers) is =
        let f = is.holds in
        let nothing = nothing_behind is.node parts.place code.ShowOptions (shape (s.Destination f.labels ∷ f.entries) f.pending) options_clear f.behind f.has in
        record {
          node = is.node;
          named = is.named;
          holds = record {
            behind = f.behind;
            labels = f.labels;
            entries = f.entries;
            has = subst (λ ls. HasShapeAt p is.node parts.place (shape (s.Destination f.labels ∷ f.entries) ls)) nothing f.has;
            entered = f.entered;
            offered = f.offered;
            nothing = refl;
          };
        }
    rebuilds Starts is =
        let valid = of_titled (IsValidNode p) parts.node p.nodes is.node runnable.valid is.named in
        record {
          node = is.node;
          named = is.named;
          holds = record {
            first = is.holds.first;
            shaped = record {
              entries = [];
              labels = [];
              has = record { shapes = valid.shapes; agrees = valid.agrees; has = subst (λ k. HasShape valid.shapes k (shape [] [])) (sym is.holds.first) valid.agrees.begins };
              entered = subst (HasEntries []) (sym is.holds.no_entries) tt;
              offered = tt;
            };
          };
        }
    rebuilds (Ends Stop) is =
        record { node = is.node; named = is.named; holds = record { stands = is.holds.stands; empty = record { no_entries = is.holds.no_entries; no_offers = refl } } }
    rebuilds (Ends (To title)) is = record {
      node = is.node;
      named = is.named;
      holds = (record { stands = is.holds.0.stands; empty = record { no_entries = is.holds.0.no_entries; no_offers = refl } }, is.holds.1);
    }

  -- ---- the parts of a state

  no_entries : (stack : Stack) → HasEntries [] stack → stack ≡ []
  no_entries [] has = refl
  no_entries (x ∷ xs) has = absurd has

  none_offered : (labels : List ℕ) (pending : List Offer) → labels ≡ [] → HasOffers p labels pending → pending ≡ []
  none_offered labels pending e has = no_offers p pending (subst (λ ls. HasOffers p ls pending) e has)

  -- what it rests on fits, and nothing is pending
  abbrev IsWhole : Rest → MachineState → Type 0
  IsWhole rest w = IsIn p w.here.node (λ n. FitsRest p n rest (parts_of rest w)) × (w.pending ≡ [])

  whole : (rest : Rest) (w : MachineState) → IsPlaced p (Rests rest) w → IsWhole rest w
  whole (Line id values) w placed =
      let at = placed.holds.behind in
      let sh = at.shaped in (
        record {
          node = placed.node;
          named = placed.named;
          holds = record {
            behind = at.behind;
            stack_fits = record { shape = shape sh.entries sh.labels; has = sh.has; entered = sh.entered };
            values_fit = placed.holds.fits;
          };
        },
        none_offered sh.labels w.pending
            (nothing_behind placed.node w.place (code.RunLine (length values) id) (shape sh.entries sh.labels) (line_clears (length values) id) at.behind sh.has) sh.offered,
      )
  whole (Command text) w placed =
      let at = placed.holds in
      let sh = at.behind.shaped in (
        record {
          node = placed.node;
          named = placed.named;
          holds = record {
            count = at.count;
            text = at.text;
            behind = at.behind.behind;
            stack_fits = record { shape = shape sh.entries sh.labels; has = sh.has; entered = sh.entered };
          };
        },
        none_offered sh.labels w.pending
            (nothing_behind placed.node w.place (code.RunCommand at.count at.text) (shape sh.entries sh.labels) (command_clears at.count at.text) at.behind.behind sh.has) sh.offered,
      )
  whole Starts w placed =
      let sh = placed.holds.shaped in
      let first = first_shape placed.node w.place (shape sh.entries sh.labels) placed.holds.first sh.has in (
        record {
          node = placed.node;
          named = placed.named;
          holds = record { first = placed.holds.first; no_entries = no_entries w.stack (subst (λ es. HasEntries es w.stack) (ap (λ x. x.entries) first) sh.entered) };
        },
        none_offered sh.labels w.pending (ap (λ x. x.pending) first) sh.offered,
      )
  whole (Options offers) w placed =
      let at = placed.holds in (
        record {
          node = placed.node;
          named = placed.named;
          holds = record { behind = at.behind; labels = at.labels; entries = at.entries; pending = []; has = at.has; entered = at.entered; offered = at.offered };
        },
        at.nothing,
      )
  whole (Ends Stop) w placed =
      let at = placed.holds in
      (record { node = placed.node; named = placed.named; holds = record { stands = at.stands; no_entries = at.empty.no_entries } }, at.empty.no_offers)
  whole (Ends (To title)) w placed =
      let at = placed.holds.0 in (
        record { node = placed.node; named = placed.named; holds = (record { stands = at.stands; no_entries = at.empty.no_entries }, placed.holds.1) },
        at.empty.no_offers,
      )

pub rebuilds_shaped : RebuildsShaped
rebuilds_shaped p parts answers tape runnable fits stored =
    record { placed = rebuilds p runnable parts (rebuilt parts answers tape).state parts.rest fits; stored = stored }

pub parts_fit : PartsFit
parts_fit p w rest runnable shaped is =
    let it = whole p rest w (subst (λ d. IsPlaced p d w) is shaped.placed) in
    record {
      fits = it.0;
      stored = shaped.stored;
      again = ap (λ os. machine w.here w.place w.stack os (Rests rest) w.state) (sym it.1) ∙ ap (λ d. machine w.here w.place w.stack w.pending d w.state) (sym is);
    }
