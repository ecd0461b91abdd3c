-- What holds of a run with room for so many pieces and of one with room for one piece more.
use Rattle.std.proofs.Common.{ℕ, zero, suc, pos, ◌+ℤ◌, List, [], ◌∷◌, Option, Some, None, Result, Ok, Err}
use Rattle.yarn_value.specs.declared.value.Value.{Value}
use Rattle.yarn_value.specs.declared.fault.RunFault.{RunFault}
use Rattle.yarn_value.specs.declared.fault.RunFault.TheVariants as run
use Rattle.yarn_value.specs.declared.signature.Signature.{Signature}
use Rattle.yarn_value.specs.Operations.{number}
use Rattle.yarn_code.specs.declared.event.Event.TheVariants as event
use Rattle.yarn_code.specs.Moments.{State, Moment, moment, Stand, Waits, Behaviour, stands, emit, emit_all, finishes, with_value}
use Rattle.yarn_tree.specs.Trees.{FileTree}
use Rattle.yarn_value.specs.Evaluation.{Halt}
use Rattle.yarn_value.specs.Visits.{count_name, visits}
use Rattle.yarn_meaning.specs.Does.{Done, Exit, Through, Jumps, Stops, Halted, Waiting, does_all}
use Rattle.yarn_meaning.specs.First.{Placed, Piece, Going, Exits, find, at_node, faults_at, halts_at, counted, leaves, scope_of, entered, in_node, enters, exits_of, left, after, in_piece, from}

-- a relation of behaviours within the next n events
module _ (R : ℕ → Behaviour → Behaviour → Type 0) (none : (b c : Behaviour) → R zero b c) (fewer : (n : ℕ) (b c : Behaviour) → R (suc n) b c → R n b c) (emits : (n : ℕ) (m : Moment) (b c : Behaviour) → R n b c → R (suc n) (emit m b) (emit m c)) (stood : (n : ℕ) (s : Stand) (st : State) → R n (stands s st) (stands s st)) (finished : (n : ℕ) (st : State) → R n (finishes st) (finishes st)) where
  emits_all : (n : ℕ) (ms : List Moment) (b c : Behaviour) → R n b c → R n (emit_all ms b) (emit_all ms c)
  emits_all n [] b c r = r
  emits_all n (m ∷ ms) b c r = fewer n (emit m (emit_all ms b)) (emit m (emit_all ms c)) (emits n m (emit_all ms b) (emit_all ms c) (emits_all n ms b c r))

  related_counted : (n : ℕ) (node : Placed) (line : ℕ) (st : State) (count : Result Value RunFault) (next later : State → Behaviour) →
      ((st1 : State) → R n (next st1) (later st1)) → R (suc n) (counted node line st count next) (counted node line st count later)
  related_counted n node line st (Ok count) next later r =
      emits n (moment (event.NodeEnd node.node.title) (with_value (count_name node.node.title) count st)) _ _ (r (with_value (count_name node.node.title) count st))
  related_counted n node line st (Err fault) next later r = stood (suc n) (faults_at node line fault) st

  related_leaves : (n : ℕ) (node : Placed) (line : ℕ) (st : State) (next later : State → Behaviour) →
      ((st1 : State) → R n (next st1) (later st1)) → R (suc n) (leaves node line st next) (leaves node line st later)
  related_leaves n node line st next later r = related_counted n node line st (number (visits st.store node.node.title +ℤ pos 1)) next later r

  -- exits that are related
  record AreRelated (n : ℕ) (x y : Exits) : Type 0 where
    through : (st : State) → R n (x.through st) (y.through st)
    jumps : (line : ℕ) (title : List ℕ) (st : State) → R n (x.jumps line title st) (y.jumps line title st)
    stops : (line : ℕ) (st : State) → R n (x.stops line st) (y.stops line st)
    halts : (line : ℕ) (h : Halt) (st : State) → R n (x.halts line h st) (y.halts line h st)

  related_left : (n : ℕ) (x y : Exits) → AreRelated n x y → (exit : Exit) (st : State) → R n (left exit st x) (left exit st y)
  related_left n x y r Through st = r.through st
  related_left n x y r (Jumps line title) st = r.jumps line title st
  related_left n x y r (Stops line) st = r.stops line st
  related_left n x y r (Halted line halt) st = r.halts line halt st
  related_left n x y r Waiting st = stood n Waits st

  related_after : (n : ℕ) (x y : Exits) → AreRelated n x y → (d : Done) → R n (after d x) (after d y)
  related_after n x y r d = emits_all n d.moments _ _ (related_left n x y r d.exit d.state)

  module _ (files : List FileTree) (n : ℕ) (go later : Going) (goes : (piece : Piece) (st : State) → R n (go piece st) (later piece st)) where
    pub related_node : (piece : Piece) (st : State) → R (suc n) (in_node go piece st) (in_node later piece st)
    related_node piece st = emits n (moment (event.NodeStart piece.node.node.title) st) _ _ (goes piece st)

    related_at : (o : Option Placed) (s : Stand) (piece : Piece) (st : State) →
        R (suc n) (at_node o (stands s st) (λ to. in_node go (entered piece to) st)) (at_node o (stands s st) (λ to. in_node later (entered piece to) st))
    related_at None s piece st = stood (suc n) s st
    related_at (Some to) s piece st = related_node (entered piece to) st

    related_enters : (node : Placed) (line : ℕ) (title : List ℕ) (piece : Piece) (st : State) →
        R (suc n) (enters files go node line title piece st) (enters files later node line title piece st)
    related_enters node line title piece st = related_at (find title files) (faults_at node line (run.UnknownNode title)) piece st

    related_exits : (piece : Piece) → AreRelated (suc n) (exits_of files go piece) (exits_of files later piece)
    related_exits piece = record {
      through = λ st. related_leaves n piece.node piece.node.node.end_line st finishes finishes (λ st1. finished n st1);
      jumps = λ line title st. related_leaves n piece.node line st _ _ (λ st1. fewer n _ _ (related_enters piece.node line title piece st1));
      stops = λ line st. related_leaves n piece.node line st finishes finishes (λ st1. finished n st1);
      halts = λ line halt st. stood (suc n) (halts_at piece.node line halt) st;
    }

    -- what follows statements of a piece
    pub related_behind : (piece : Piece) (d : Done) → R (suc n) (after d (exits_of files go piece)) (after d (exits_of files later piece))
    related_behind piece d = related_after (suc n) _ _ (related_exits piece) d

    related_piece : (functions : List Signature) (piece : Piece) (st : State) → R (suc n) (in_piece functions files go piece st) (in_piece functions files later piece st)
    related_piece functions piece st = related_behind piece (does_all (scope_of functions piece) piece.node.node.body st)

  pub related_from : (functions : List Signature) (files : List FileTree) (n : ℕ) (piece : Piece) (st : State) →
      R n (from functions files n piece st) (from functions files (suc n) piece st)
  related_from functions files zero piece st = none _ _
  related_from functions files (suc n) piece st =
      related_piece files n (from functions files n) (from functions files (suc n)) (λ piece1 st1. related_from functions files n piece1 st1) functions piece st

  related_start : (functions : List Signature) (files : List FileTree) (n : ℕ) (o : Option Placed) (s : Stand) (start : Placed → Piece) (st : State) →
      R (suc n) (at_node o (stands s st) (λ to. in_node (from functions files n) (start to) st)) (at_node o (stands s st) (λ to. in_node (from functions files (suc n)) (start to) st))
  related_start functions files n None s start st = stood (suc n) s st
  related_start functions files n (Some to) s start st =
      related_node files n (from functions files n) (from functions files (suc n)) (λ piece1 st1. related_from functions files n piece1 st1) (start to) st

  pub related_first : (functions : List Signature) (files : List FileTree) (n : ℕ) (title : List ℕ) (s : Stand) (start : Placed → Piece) (st : State) →
      R (suc n) (at_node (find title files) (stands s st) (λ to. in_node (from functions files n) (start to) st)) (at_node (find title files) (stands s st) (λ to. in_node (from functions files (suc n)) (start to) st))
  related_first functions files n title s start st = related_start functions files n (find title files) s start st
