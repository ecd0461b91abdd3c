-- Room for one piece more changes nothing.
use Rattle.std.proofs.Common.{◌≡◌, ℕ, zero, suc, ◌<◌, List, [], Result, Ok, Err, refl, sym, ap, arith}
use Rattle.yarn_value.specs.declared.value.Value.{Value}
use Rattle.yarn_value.specs.declared.fault.RunFault.{RunFault}
use Rattle.yarn_tree.specs.Trees.{FileTree}
use Rattle.yarn_code.specs.declared.event.Event.TheVariants as event
use Rattle.yarn_code.specs.Moments.{State, Moment, Stand, Behaviour, moment, stands, with_moment, emit, finishes}
use Rattle.yarn_meaning.specs.Does.{Done}
use Rattle.yarn_meaning.specs.First.{Placed, Piece, counted, leaves, after, exits_of, in_node, from}
use Rattle.yarn_meaning.proofs.Fuel.{related_from, related_behind, related_node}
use Rattle.yarn_walker.specs.States.{no_hosts}
use Rattle.yarn_walker.specs.Walk.{piece_of, in_body}

-- the same within n events
record Agree (n : ℕ) (b c : Behaviour) : Type 0 where
  by : (k : ℕ) → k < n → b k ≡ c k

none : (b c : Behaviour) → Agree zero b c
none b c = record { by = λ k lt. absurd (omega arith) }

fewer : (n : ℕ) (b c : Behaviour) → Agree (suc n) b c → Agree n b c
fewer n b c g = record { by = λ k lt. g.by k (omega arith) }

emits_at : (n : ℕ) (m : Moment) (b c : Behaviour) → Agree n b c → (k : ℕ) → k < suc n → emit m b k ≡ emit m c k
emits_at n m b c g zero lt = refl
emits_at n m b c g (suc k) lt = ap (with_moment m) (g.by k (omega arith))

emits : (n : ℕ) (m : Moment) (b c : Behaviour) → Agree n b c → Agree (suc n) (emit m b) (emit m c)
emits n m b c g = record { by = emits_at n m b c g }

stood : (n : ℕ) (s : Stand) (st : State) → Agree n (stands s st) (stands s st)
stood n s st = record { by = λ k lt. refl }

finished : (n : ℕ) (st : State) → Agree n (finishes st) (finishes st)
finished n st = record { by = λ k lt. refl }

from_agrees : (files : List FileTree) (n : ℕ) (piece : Piece) (st : State) → Agree n (from [] files n piece st) (from [] files (suc n) piece st)
from_agrees = related_from Agree none fewer emits stood finished []

-- what follows statements of a node is the same where there is room for one piece more
pub after_agrees : (files : List FileTree) (n : Placed) (d : Done) (k : ℕ) →
    after d (exits_of files (from [] files (suc k)) (piece_of n)) k ≡ after d (exits_of files (from [] files k) (piece_of n)) k
after_agrees files n d k =
    sym ((related_behind Agree none fewer emits stood finished files k (from [] files k) (from [] files (suc k)) (from_agrees files k) (piece_of n) d).by
    k (omega arith))

-- so is a node from its start on
pub node_agrees : (files : List FileTree) (n : Placed) (st : State) (k : ℕ) →
    in_node (from [] files (suc k)) (piece_of n) st k ≡ in_node (from [] files k) (piece_of n) st k
node_agrees files n st k =
    sym ((related_node Agree none fewer emits stood finished files k (from [] files k) (from [] files (suc k)) (from_agrees files k) (piece_of n) st).by
    k (omega arith))

-- behind the start of a node its body is done
pub node_starts : (files : List FileTree) (n : Placed) (st : State) (k : ℕ) →
    in_node (from [] files k) (piece_of n) st k ≡ emit (moment (event.NodeStart n.node.title) st) (λ j. in_body files j n n.node.body st j) k
node_starts files n st zero = refl
node_starts files n st (suc k) = refl

-- an event, and what follows it with that room
pub emit_agrees : (m : Moment) (b : ℕ → Behaviour) (c : Behaviour) → ((k : ℕ) → b (suc k) k ≡ c k) → (k : ℕ) → emit m (b k) k ≡ emit m c k
emit_agrees m b c same zero = refl
emit_agrees m b c same (suc k) = ap (with_moment m) (same k)

pub emit_after : (files : List FileTree) (n : Placed) (m : Moment) (d : Done) (k : ℕ) →
    emit m (after d (exits_of files (from [] files k) (piece_of n))) k ≡ emit m (λ j. after d (exits_of files (from [] files j) (piece_of n)) j) k
emit_after files n m d k =
    emit_agrees m (λ fuel. after d (exits_of files (from [] files fuel) (piece_of n))) (λ j. after d (exits_of files (from [] files j) (piece_of n)) j)
    (after_agrees files n d) k

-- behind the end of a node one event less is left
counted_same : (n : Placed) (line : ℕ) (st : State) (count : Result Value RunFault) (f g : State → Behaviour) (k : ℕ) →
    ((st1 : State) (j : ℕ) → k ≡ suc j → f st1 j ≡ g st1 j) → counted n line st count f k ≡ counted n line st count g k
counted_same n line st (Ok count) f g zero same = refl
counted_same n line st (Ok count) f g (suc k) same = ap (with_moment _) (same _ k refl)
counted_same n line st (Err fault) f g k same = refl

pub leaves_same : (n : Placed) (line : ℕ) (st : State) (f g : State → Behaviour) (k : ℕ) →
    ((st1 : State) (j : ℕ) → k ≡ suc j → f st1 j ≡ g st1 j) → leaves n line st f k ≡ leaves n line st g k
leaves_same n line st f g k same = counted_same n line st _ f g k same
