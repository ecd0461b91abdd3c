-- The first k events are the front of the first k + 1.
use Rattle.std.proofs.Common.{ℕ, zero, suc, ◌+◌, ◌<◌, List, [], ◌∷◌, refl, ap, arith, append-nil, add-one}
use Rattle.yarn_value.specs.declared.signature.Signature.{Signature}
use Rattle.yarn_tree.specs.Trees.{FileTree}
use Rattle.yarn_code.specs.Moments.{State, Moment, Stand, Ended, Outcome, Behaviour, stands, emit, finishes}
use Rattle.yarn_meaning.specs.First.{starting, first_of}
use Rattle.yarn_meaning.specs.Prefix.{IsPrefix}
use Rattle.yarn_meaning.proofs.Fuel.{related_first}

-- for fewer than n + 1 events
record Grow (n : ℕ) (b c : Behaviour) : Type 0 where
  by : (k : ℕ) → k < n → IsPrefix (b k) (c (suc k))

same : (o : Outcome) → IsPrefix o o
same o = record { rest = []; joins = append-nil o.moments }

none : (b c : Behaviour) → Grow zero b c
none b c = record { by = λ k lt. absurd (omega arith) }

fewer : (n : ℕ) (b c : Behaviour) → Grow (suc n) b c → Grow n b c
fewer n b c g = record { by = λ k lt. g.by k (omega arith) }

emits_at : (n : ℕ) (m : Moment) (b c : Behaviour) → Grow n b c → (k : ℕ) → k < suc n → IsPrefix (emit m b k) (emit m c (suc k))
emits_at n m b c g zero lt = record { rest = (c 0).moments; joins = refl }
emits_at n m b c g (suc k) lt = let r = g.by k (omega arith) in record { rest = r.rest; joins = ap (λ l. m ∷ l) r.joins }

emits : (n : ℕ) (m : Moment) (b c : Behaviour) → Grow n b c → Grow (suc n) (emit m b) (emit m c)
emits n m b c g = record { by = emits_at n m b c g }

stood : (n : ℕ) (s : Stand) (st : State) → Grow n (stands s st) (stands s st)
stood n s st = record { by = λ k lt. same (stands s st 0) }

finished : (n : ℕ) (st : State) → Grow n (finishes st) (finishes st)
finished n st = record { by = λ k lt. same (finishes st 0) }

pub first_prefix : (functions : List Signature) (files : List FileTree) (start : List ℕ) (st : State) (k : ℕ) →
    IsPrefix (first_of functions files start st k) (first_of functions files start st (k + 1))
first_prefix functions files start st zero = record { rest = (first_of functions files start st 1).moments; joins = refl }
first_prefix functions files start st (suc k) =
    rw add-one ((related_first Grow none fewer emits stood finished functions files k start Ended (starting functions files) st).by k (omega arith))
