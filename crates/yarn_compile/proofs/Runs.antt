-- Two runs of one machine come to the same.
use Rattle.std.proofs.Common.{◌≡◌, ℕ, zero, suc, ◌+◌, ◌∷◌, Option, Some, None, refl, ap}
use Rattle.yarn_code.specs.Moments.{Moment, moment}
use Rattle.yarn_code.specs.declared.program.Program.{Program}
use Rattle.yarn_code.specs.MachineState.{MachineState}
use Rattle.yarn_code.specs.Machine.{Stepped, Quiet, Shows, Finishes, StandsAt, Stuck, next}
use Rattle.yarn_code.specs.Runs.{Course, ticks, with_first, with_count, follow, run}

both_first : (m : Moment) (a b : Option Course) (r r' : Course) → with_first m a ≡ Some r → with_first m b ≡ Some r' → ((x y : Course) →
    a ≡ Some x → b ≡ Some y → x ≡ y) → r ≡ r'
both_first m None b r r' e e' same = absurd cc
both_first m (Some x) None r r' e e' same = absurd cc
both_first m (Some x) (Some y) r r' e e' same =
    let q : Some (record x { moments = m ∷ x.moments }) ≡ Some (record y { moments = m ∷ y.moments }) =
    ap (λ (z : Course). Some (record z { moments = m ∷ z.moments })) (same x y refl refl) in
    cc

both_counted : (n : ℕ) (a b : Option Course) (r r' : Course) → with_count n a ≡ Some r → with_count n b ≡ Some r' → ((x y : Course) →
    a ≡ Some x → b ≡ Some y → x ≡ y) → r ≡ r'
both_counted n None b r r' e e' same = absurd cc
both_counted n (Some x) None r r' e e' same = absurd cc
both_counted n (Some x) (Some y) r r' e e' same =
    let q : Some (record x { count = n + x.count }) ≡ Some (record y { count = n + y.count }) =
    ap (λ (z : Course). Some (record z { count = n + z.count })) (same x y refl refl) in
    cc

agree_on : (go go' : MachineState → ℕ → Option Course) → ((w : MachineState) (k : ℕ) (r r' : Course) → go w k ≡ Some r → go' w k ≡ Some r' → r ≡ r') →
    (x : Stepped) (k : ℕ) (r r' : Course) → follow go x k ≡ Some r → follow go' x k ≡ Some r' → r ≡ r'
agree_on go go' same (Quiet w) k r r' e e' = same w k r r' e e'
agree_on go go' same (Shows ev w) zero r r' e e' = cc
agree_on go go' same (Shows ev w) (suc k) r r' e e' = both_first (moment ev w.state) (go w k) (go' w k) r r' e e' (λ x y a b. same w k x y a b)
agree_on go go' same (Finishes w) k r r' e e' = cc
agree_on go go' same (StandsAt s w) k r r' e e' = cc
agree_on go go' same Stuck k r r' e e' = absurd cc

module _ (p : Program) where
  pub agree : (m n : ℕ) (w : MachineState) (k : ℕ) (r r' : Course) → run p m w k ≡ Some r → run p n w k ≡ Some r' → r ≡ r'
  agree zero n w k r r' e e' = absurd cc
  agree (suc m) zero w k r r' e e' = absurd cc
  agree (suc m) (suc n) w k r r' e e' =
      both_counted (ticks w.doing) (follow (run p m) (next p w) k) (follow (run p n) (next p w) k) r r' e e'
      (λ x y a b. agree_on (run p m) (run p n) (λ w1 k1 x1 y1 a1 b1. agree m n w1 k1 x1 y1 a1 b1) (next p w) k x y a b)
