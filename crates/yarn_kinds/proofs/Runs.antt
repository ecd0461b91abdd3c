-- A run keeps the kinds of the store, and its counts as numbers.
use Rattle.std.proofs.Common.{◌≡◌, ℕ, zero, suc, pos, ◌+ℤ◌, List, [], ◌∷◌, nat_eq, Bool, true, false, if◌then◌else◌, Some, Result, Ok, Err, All, map}
use Rattle.std.specs.Cmp.Lexicographic.{pointwise}
use Rattle.std.proofs.lemmas.List.Elements.{All-nil, All-cons, All-head, All-tail, All-append}
use Rattle.yarn_value.specs.declared.value.Value.{Value}
use Rattle.yarn_value.specs.declared.value.Kind.TheVariants as kind
use Rattle.yarn_value.specs.declared.fault.RunFault.{RunFault}
use Rattle.yarn_value.specs.declared.fault.RunFault.TheVariants as run
use Rattle.yarn_value.specs.declared.signature.Signature.{Signature}
use Rattle.yarn_value.specs.Operations.{number}
use Rattle.yarn_tree.specs.Trees.{NodeTree, FileTree}
use Rattle.yarn_tree.specs.Checks.{is_reserved_name}
use Rattle.yarn_types.specs.declared.typed.TypedName.{TypedName}
use Rattle.yarn_code.specs.declared.event.Event.TheVariants as event
use Rattle.yarn_code.specs.Moments.{State, Moment, Stand, Waits, Behaviour, Outcome, stands, emit, emit_all, finishes, moment, with_value}
use Rattle.yarn_code.specs.Moments as moments
use Rattle.yarn_value.specs.Visits.{count_name, visits}
use Rattle.yarn_meaning.specs.Does.{Exit, Through, Jumps, Stops, Halted, Waiting, does_all}
use Rattle.yarn_meaning.specs.First.{Placed, Piece, Going, nodes_at, nodes_from, first_titled, find, at_node, faults_at, halts_at, counted, leaves, enters, entered, exits_of, left, in_node, scope_of, starting, from}
use Rattle.yarn_kinds.proofs.Fitting.{FitsAll}
use Rattle.yarn_kinds.specs.Kept.{RunsKeep}
use Rattle.yarn_kinds.proofs.Operations.{IsResult, number_gives}
use Rattle.yarn_kinds.proofs.Stores.{count_sound}
use Rattle.yarn_kinds.proofs.Typed.{files_fit}
use Rattle.yarn_kinds.proofs.Statements.{Sound_at, Shown, one_shown, all_keep}

module _ (entries : List TypedName) (titles : List (List ℕ)) where
  pub record KeptBy (o : Outcome) : Type 0 where
    pub shown : Shown entries titles o.moments
    pub left : Sound_at entries titles o.state

  abbrev pub Keeping : Behaviour → Type 0
  Keeping b = (k : ℕ) → KeptBy (b k)

  none_shown : Shown entries titles []
  none_shown = All-nil (λ (m : Moment). Sound_at entries titles m.state)

  stands_keeps : (s : Stand) (st : State) → Sound_at entries titles st → Keeping (stands s st)
  stands_keeps s st sound k = record { shown = none_shown; left = sound }

  finishes_keeps : (st : State) → Sound_at entries titles st → Keeping (finishes st)
  finishes_keeps st sound k = record { shown = one_shown entries titles event.End st sound; left = sound }

  emit_keeps : (m : Moment) (b : Behaviour) → Sound_at entries titles m.state → Keeping b → Keeping (emit m b)
  emit_keeps m b sound keeps zero = record { shown = one_shown entries titles m.event m.state sound; left = sound }
  emit_keeps m b sound keeps (suc k) =
      let rest = keeps k in
      record { shown = All-cons (λ (m : Moment). Sound_at entries titles m.state) m (b k).moments sound rest.shown; left = rest.left }

  emits_keep : (ms : List Moment) (b : Behaviour) → Shown entries titles ms → Keeping b → Keeping (emit_all ms b)
  emits_keep [] b shown keeps = keeps
  emits_keep (m ∷ ms) b shown keeps =
      emit_keeps m (emit_all ms b) (All-head (λ (m : Moment). Sound_at entries titles m.state) m ms shown)
      (emits_keep ms b (All-tail (λ (m : Moment). Sound_at entries titles m.state) m ms shown) keeps)

  module _ (unreserved : All (λ entry. is_reserved_name entry.name ≡ false) entries) where
    -- ---- how a node is left

    counted_keeps : (n : Placed) (line : ℕ) (st : State) (count : Result Value RunFault) (next : State → Behaviour) → IsResult kind.Number count → Sound_at entries titles st →
        ((st1 : State) → Sound_at entries titles st1 → Keeping (next st1)) → Keeping (counted n line st count next)
    counted_keeps n line st (Ok count) next is sound follows =
        let after = count_sound entries titles unreserved st.store n.node.title count is sound in
        emit_keeps (moment (event.NodeEnd n.node.title) (with_value (count_name n.node.title) count st)) (next (with_value (count_name n.node.title) count st)) after
        (follows (with_value (count_name n.node.title) count st) after)
    counted_keeps n line st (Err fault) next is sound follows = stands_keeps (faults_at n line fault) st sound

    leaves_keeps : (n : Placed) (line : ℕ) (st : State) (next : State → Behaviour) → Sound_at entries titles st → ((st1 : State) → Sound_at entries titles st1 → Keeping (next st1)) →
        Keeping (leaves n line st next)
    leaves_keeps n line st next sound follows =
        counted_keeps n line st (number (visits st.store n.node.title +ℤ pos 1)) next (number_gives (visits st.store n.node.title +ℤ pos 1)) sound follows

    abbrev GoingKeeps : (Placed → Type 0) → Going → Type 0
    GoingKeeps Fits go = (piece : Piece) (st : State) → Fits piece.node → Sound_at entries titles st → Keeping (go piece st)

    module _ (signatures : List Signature) where
      abbrev FitsPlaced : Placed → Type 0
      FitsPlaced n = FitsAll signatures entries n.node.body

      -- ---- the node of a title is one of the files'

      placed_fit : (file : ℕ) (ns : List NodeTree) → All (λ node. FitsAll signatures entries node.body) ns → All FitsPlaced (nodes_at file ns)
      placed_fit file [] all = All-nil FitsPlaced
      placed_fit file (n ∷ ns) all =
          All-cons FitsPlaced (record { node = n; file = file }) (nodes_at file ns) (All-head (λ (n : NodeTree). FitsAll signatures entries n.body) n ns all)
          (placed_fit file ns (All-tail (λ (n : NodeTree). FitsAll signatures entries n.body) n ns all))

      all_fit : (file : ℕ) (fs : List FileTree) → All (λ f. All (λ node. FitsAll signatures entries node.body) f.nodes) fs → All FitsPlaced (nodes_from file fs)
      all_fit file [] all = All-nil FitsPlaced
      all_fit file (f ∷ fs) all =
          All-append FitsPlaced (nodes_at file f.nodes) (nodes_from (suc file) fs)
          (placed_fit file f.nodes (All-head (λ (f : FileTree). All (λ node. FitsAll signatures entries node.body) f.nodes) f fs all))
          (all_fit (suc file) fs (All-tail (λ (f : FileTree). All (λ node. FitsAll signatures entries node.body) f.nodes) f fs all))

      titled_keeps : (title : List ℕ) (ns : List Placed) (none : Behaviour) (some : Placed → Behaviour) → All FitsPlaced ns → Keeping none → ((n : Placed) → FitsPlaced n → Keeping (some n)) →
          Keeping (at_node (first_titled title ns) none some)
      titled_keeps title [] none some all hn hs = hn
      titled_keeps title (n ∷ ns) none some all hn hs =
          by_test (titled_keeps title ns none some (All-tail FitsPlaced n ns all) hn hs) (pointwise nat_eq n.node.title title)
        where
          by_test : Keeping (at_node (first_titled title ns) none some) → (b : Bool) → Keeping (at_node (if b then Some n else first_titled title ns) none some)
          by_test later true = hs n (All-head FitsPlaced n ns all)
          by_test later false = later

      node_keeps : (go : Going) (piece : Piece) (st : State) → FitsPlaced piece.node → GoingKeeps FitsPlaced go → Sound_at entries titles st → Keeping (in_node go piece st)
      node_keeps go piece st fits goes sound = emit_keeps (moment (event.NodeStart piece.node.node.title) st) (go piece st) sound (goes piece st fits sound)

      module _ (files : List FileTree) (fit : All FitsPlaced (nodes_from 0 files)) where
        enters_keeps : (go : Going) (n : Placed) (line : ℕ) (title : List ℕ) (piece : Piece) (st : State) → GoingKeeps FitsPlaced go → Sound_at entries titles st →
            Keeping (enters files go n line title piece st)
        enters_keeps go n line title piece st goes sound =
            titled_keeps title (nodes_from 0 files) (stands (faults_at n line (run.UnknownNode title)) st) (λ to. in_node go (entered piece to) st) fit
            (stands_keeps (faults_at n line (run.UnknownNode title)) st sound) (λ to fits. node_keeps go (entered piece to) st fits goes sound)

        left_keeps : (go : Going) (piece : Piece) (exit : Exit) (st : State) → GoingKeeps FitsPlaced go → Sound_at entries titles st → Keeping (left exit st (exits_of files go piece))
        left_keeps go piece Through st goes sound = leaves_keeps piece.node piece.node.node.end_line st finishes sound finishes_keeps
        left_keeps go piece (Jumps line title) st goes sound =
            leaves_keeps piece.node line st _ sound (λ st1 sound1. enters_keeps go piece.node line title piece st1 goes sound1)
        left_keeps go piece (Stops line) st goes sound = leaves_keeps piece.node line st finishes sound finishes_keeps
        left_keeps go piece (Halted line halt) st goes sound = stands_keeps (halts_at piece.node line halt) st sound
        left_keeps go piece Waiting st goes sound = stands_keeps Waits st sound

        from_keeps : (fuel : ℕ) → GoingKeeps FitsPlaced (from signatures files fuel)
        from_keeps zero piece st fits sound = stands_keeps moments.Limit st sound
        from_keeps (suc fuel) piece st fits sound =
            let kept = all_keep entries titles (scope_of signatures piece) unreserved piece.node.node.body st fits sound in
            let d = does_all (scope_of signatures piece) piece.node.node.body st in
            emits_keep d.moments (left d.exit d.state (exits_of files (from signatures files fuel) piece)) kept.shown
            (left_keeps (from signatures files fuel) piece d.exit d.state (from_keeps fuel) kept.left)

        first_keeps : (fuel : ℕ) (start : List ℕ) (st : State) → Sound_at entries titles st →
            Keeping (at_node (find start files) (stands moments.Ended st) (λ n. in_node (from signatures files fuel) (starting signatures files n) st))
        first_keeps fuel start st sound =
            titled_keeps start (nodes_from 0 files) (stands moments.Ended st) (λ n. in_node (from signatures files fuel) (starting signatures files n) st) fit
            (stands_keeps moments.Ended st sound) (λ n fits. node_keeps (from signatures files fuel) (starting signatures files n) st fits (from_keeps fuel) sound)

pub runs_keep : RunsKeep
runs_keep signatures entries titles files start st zero typed sound = record { shown = All-nil (λ (m : Moment). Sound_at entries titles m.state); left = sound }
runs_keep signatures entries titles files start st (suc k) typed sound =
    let kept = first_keeps entries titles typed.unreserved signatures files (all_fit entries titles typed.unreserved signatures 0 files (files_fit signatures entries 0 files typed.fits)) k start st sound k in
    record { shown = kept.shown; left = kept.left }
