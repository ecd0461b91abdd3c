-- What the loops of the reader keep.
use Rattle.std.proofs.Common.{◌≡◌, ℕ, zero, suc, max, ◌+◌, ◌-◌, ◌≤◌, ◌<◌, List, [], ◌∷◌, ◌++◌, length, Option, Some, None, refl, sym, ap, ◌∙◌, arith, append_assoc, length-append}
use Rattle.std.proofs.Common.{true, false, nat_lt}
use Rattle.std.proofs.lemmas.Bool.Decides.{nat_tests}
use Rattle.std.specs.Prelude.{Result, Err}
use Rattle.yarn_expr.specs.declared.refusal.Refusal.{Refusal}
use Rattle.yarn_expr.specs.declared.refusal.Refusal.TheVariants as refusal
use Rattle.yarn_expr.specs.Gives.{Gives, Refuses}
use Rattle.yarn_expr.specs.declared.token.Token.{Token}
use Rattle.yarn_expr.specs.declared.tree.BinaryOp.{BinaryOp}
use Rattle.yarn_expr.specs.declared.tree.Expr.{Expr}
use Rattle.yarn_expr.specs.Reading.{Found, FoundAll, Reader, ◌>>=◌, operator_at, joined, chain, at_level, reads, prefix, some_arguments, with_first, last_one, behind, is_close, is_comma}
use Rattle.yarn_expr.proofs.Steps.{chain-ends, chain-steps}
use Rattle.yarn_expr.proofs.Only.{comma}
use Rattle.yarn_expr.proofs.Sound.{reads-sound, behind-some, is_comma-comma}

-- the levels of the reading, by the limit of the code
pub reads-none : (limit n : ℕ) (ts : List Token) → limit ≡ 0 → reads limit n ts ≡ None
unfolding reads
reads-none limit n ts e = rw e refl

pub reads-prefix : (limit : ℕ) (ts : List Token) → 1 ≤ limit → reads limit 1 ts ≡ prefix (reads (limit - 1) 1) (reads (limit - 1) 6) ts
unfolding reads at_level
reads-prefix zero ts h = absurd (omega arith)
reads-prefix (suc most) ts h = let same : suc most - 1 ≡ most = omega arith in rw same refl

pub reads-chain : (limit n : ℕ) (ts : List Token) → 1 ≤ limit → 2 ≤ n → reads limit n ts ≡ (reads limit (n - 1) ts >>= chain limit (limit - 1) (reads (limit - 1) (n - 1)) n)
unfolding reads at_level
reads-chain zero n ts h k = absurd (omega arith)
reads-chain (suc most) zero ts h k = absurd (omega arith)
reads-chain (suc most) (suc zero) ts h k = absurd (omega arith)
reads-chain (suc most) (suc (suc n)) ts h k = let same : suc most - 1 ≡ most = omega arith in let lower : suc (suc n) - 1 ≡ suc n = omega arith in rw (same, lower) refl

pub ruleset levels = (reads-none, reads-prefix, reads-chain)

-- operators were read so far, and there is room for more as long as the tree isn't too deep
pub record IsChaining (limit level : ℕ) (first left : Found) : Type 0 where
  pub steps : ℕ
  pub same : chain limit (limit - 1) (reads (limit - 1) (level - 1)) level first ≡ chain steps (limit - 1) (reads (limit - 1) (level - 1)) level left
  pub room : limit ≤ steps + left.depth
  pub shallow : left.depth ≤ limit

pub IsChaining-start : (limit level : ℕ) (first : Found) → first.depth ≤ limit → IsChaining limit level first first
IsChaining-start limit level first le = record { steps = limit; same = refl; room = omega arith; shallow = le }

pub IsChaining-end : (limit level : ℕ) (first left : Found) → IsChaining limit level first left → operator_at level left.rest ≡ None →
    chain limit (limit - 1) (reads (limit - 1) (level - 1)) level first ≡ Some left
IsChaining-end limit level first left so_far none = so_far.same ∙ chain-ends so_far.steps (limit - 1) (reads (limit - 1) (level - 1)) level left none

pub chain-too_deep : (k most : ℕ) (right : Reader) (n : ℕ) (left : Found) (found : BinaryOp × List Token) → operator_at n left.rest ≡ Some found → most < left.depth → chain k most right n left ≡ None
unfolding chain
chain-too_deep zero most right n left found e lt = let deep : nat_lt most left.depth ≡ true = grind (arith, nat_tests) in rw e (rw deep refl)
chain-too_deep (suc k) most right n left found e lt = let deep : nat_lt most left.depth ≡ true = grind (arith, nat_tests) in rw e (rw deep refl)

chain-no_right : (k most : ℕ) (right : Reader) (n : ℕ) (left : Found) (found : BinaryOp × List Token) → operator_at n left.rest ≡ Some found → left.depth ≤ most → right found.1 ≡ None → chain k most right n left ≡ None
unfolding chain
chain-no_right zero most right n left found e le none = let shallow : nat_lt most left.depth ≡ false = grind (arith, nat_tests) in rw e (rw shallow (rw none refl))
chain-no_right (suc k) most right n left found e le none = let shallow : nat_lt most left.depth ≡ false = grind (arith, nat_tests) in rw e (rw shallow (rw none refl))

pub IsChaining-deep : (limit level : ℕ) (first left : Found) (found : BinaryOp × List Token) → IsChaining limit level first left → operator_at level left.rest ≡ Some found →
    1 ≤ limit → limit ≤ left.depth → chain limit (limit - 1) (reads (limit - 1) (level - 1)) level first ≡ None
IsChaining-deep limit level first left found so_far stands some deep = so_far.same ∙ chain-too_deep so_far.steps (limit - 1) (reads (limit - 1) (level - 1)) level left found stands (omega arith)

pub IsChaining-no_right : (limit level : ℕ) (first left : Found) (found : BinaryOp × List Token) → IsChaining limit level first left → operator_at level left.rest ≡ Some found →
    left.depth < limit → reads (limit - 1) (level - 1) found.1 ≡ None → chain limit (limit - 1) (reads (limit - 1) (level - 1)) level first ≡ None
IsChaining-no_right limit level first left found so_far stands lt none = so_far.same ∙ chain-no_right so_far.steps (limit - 1) (reads (limit - 1) (level - 1)) level left found stands (omega arith) none

pub IsChaining-step : (limit level : ℕ) (first left right : Found) (op : BinaryOp) (after : List Token) → IsChaining limit level first left → operator_at level left.rest ≡ Some (op, after) →
    left.depth < limit → reads (limit - 1) (level - 1) after ≡ Some right → right.depth ≤ limit - 1 → IsChaining limit level first (joined op left right)
IsChaining-step limit level first left right op after so_far stands lt read le = one_less so_far.steps so_far.same so_far.room
  where
    one_less : (k : ℕ) → chain limit (limit - 1) (reads (limit - 1) (level - 1)) level first ≡ chain k (limit - 1) (reads (limit - 1) (level - 1)) level left → limit ≤ k + left.depth → IsChaining limit level first (joined op left right)
    one_less zero same room = absurd (omega arith)
    one_less (suc k) same room = record {
      steps = k;
      same = same ∙ chain-steps k (limit - 1) (reads (limit - 1) (level - 1)) level left right op after stands (omega arith) read;
      room = omega arith;
      shallow = omega arith;
    }

pub reads-shorter : (most n : ℕ) (ts : List Token) (f : Found) → reads most n ts ≡ Some f → length f.rest ≤ length ts
reads-shorter most n ts f e = let t = reads-sound most n ts f e in omega (arith, ap length t.split, length-append t.front f.rest)

-- arguments that were read, before those that are read on
abbrev pub onto : List Expr → ℕ → Option FoundAll → Option FoundAll
onto exprs depth None = None
onto exprs depth (Some all) = Some (record { exprs = exprs ++ all.exprs; depth = max depth all.depth; rest = all.rest })

-- arguments were read so far, each with its comma
pub record IsGathering (limit : ℕ) (inner : Reader) (tokens rest : List Token) (exprs : List Expr) (depth : ℕ) : Type 0 where
  pub steps : ℕ
  pub same : some_arguments (suc (length tokens)) inner tokens ≡ onto exprs depth (some_arguments steps inner rest)
  pub enough : length rest < steps
  pub shallow : depth < limit

pub IsGathering-start : (limit : ℕ) (inner : Reader) (tokens : List Token) → 1 ≤ limit → IsGathering limit inner tokens tokens [] 0
IsGathering-start limit inner tokens some = record { steps = suc (length tokens); same = all_of (some_arguments (suc (length tokens)) inner tokens); enough = omega arith; shallow = omega arith }
  where
    all_of : (o : Option FoundAll) → o ≡ onto [] 0 o
    all_of None = refl
    all_of (Some all) = let zero_least : max 0 all.depth ≡ all.depth = omega arith in rw zero_least refl

pub IsGathering-none : (limit : ℕ) (inner : Reader) (tokens rest : List Token) (exprs : List Expr) (depth : ℕ) → IsGathering limit inner tokens rest exprs depth → inner rest ≡ None →
    some_arguments (suc (length tokens)) inner tokens ≡ None
unfolding some_arguments
IsGathering-none limit inner tokens rest exprs depth so_far none = so_far.same ∙ ap (onto exprs depth) (no_more so_far.steps)
  where
    no_more : (k : ℕ) → some_arguments k inner rest ≡ None
    no_more zero = refl
    no_more (suc k) = rw none refl

pub IsGathering-last : (limit : ℕ) (inner : Reader) (tokens rest after : List Token) (exprs : List Expr) (depth : ℕ) (f : Found) → IsGathering limit inner tokens rest exprs depth → inner rest ≡ Some f →
    behind is_close f.rest ≡ Some after → some_arguments (suc (length tokens)) inner tokens ≡ Some (record { exprs = exprs ++ f.expr ∷ []; depth = max depth f.depth; rest = after })
unfolding some_arguments
IsGathering-last limit inner tokens rest after exprs depth f so_far read closed = so_far.same ∙ ap (onto exprs depth) (at_last so_far.steps so_far.enough)
  where
    at_last : (k : ℕ) → length rest < k → some_arguments k inner rest ≡ Some (last_one f after)
    at_last zero lt = absurd (omega arith)
    at_last (suc k) lt = rw read (rw closed refl)

pub IsGathering-no_comma : (limit : ℕ) (inner : Reader) (tokens rest : List Token) (exprs : List Expr) (depth : ℕ) (f : Found) → IsGathering limit inner tokens rest exprs depth → inner rest ≡ Some f →
    behind is_close f.rest ≡ None → behind is_comma f.rest ≡ None → some_arguments (suc (length tokens)) inner tokens ≡ None
unfolding some_arguments
IsGathering-no_comma limit inner tokens rest exprs depth f so_far read closed none = so_far.same ∙ ap (onto exprs depth) (no_more so_far.steps)
  where
    no_more : (k : ℕ) → some_arguments k inner rest ≡ None
    no_more zero = refl
    no_more (suc k) = rw read (rw closed (rw none refl))

pub IsGathering-step : (limit : ℕ) (inner : Reader) (tokens rest after : List Token) (exprs : List Expr) (depth : ℕ) (f : Found) → IsGathering limit inner tokens rest exprs depth → inner rest ≡ Some f →
    behind is_close f.rest ≡ None → behind is_comma f.rest ≡ Some after → length f.rest ≤ length rest → f.depth < limit →
    IsGathering limit inner tokens after (exprs ++ f.expr ∷ []) (max depth f.depth)
unfolding some_arguments
IsGathering-step limit inner tokens rest after exprs depth f so_far read closed next shorter shallow = one_less so_far.steps so_far.same so_far.enough
  where
    regrouped : (o : Option FoundAll) → onto exprs depth (o >>= λ all. Some (with_first f all)) ≡ onto (exprs ++ f.expr ∷ []) (max depth f.depth) o
    regrouped None = refl
    regrouped (Some all) =
        let deepest : max depth (max f.depth all.depth) ≡ max (max depth f.depth) all.depth = omega arith in
        rw deepest (ap (λ es. Some (record { exprs = es; depth = max (max depth f.depth) all.depth; rest = all.rest })) (sym (append_assoc exprs (f.expr ∷ []) all.exprs)))

    one_less : (k : ℕ) → some_arguments (suc (length tokens)) inner tokens ≡ onto exprs depth (some_arguments k inner rest) → length rest < k → IsGathering limit inner tokens after (exprs ++ f.expr ∷ []) (max depth f.depth)
    one_less zero same lt = absurd (omega arith)
    one_less (suc k) same lt = record {
      steps = k;
      same = (let more : some_arguments (suc k) inner rest ≡ (some_arguments k inner after >>= λ all. Some (with_first f all)) = rw read (rw closed (rw next refl)) in same ∙ ap (onto exprs depth) more ∙ regrouped (some_arguments k inner after));
      enough = omega (arith, ap length (behind-some is_comma comma is_comma-comma f.rest after next));
      shallow = let h = so_far.shallow in omega arith;
    }

-- a refusal of a part refuses the whole
pub refused : {X Y Z : Type 0} (view : X → Y) (r : Result X Refusal) (e : Refusal) (read : Option Z) (whole : Option Y) →
    r ≡ Err e → Refuses e read → (read ≡ None → whole ≡ None) → Gives view r whole
refused view r refusal.NotExpr read whole is none on = rw is (on none)
refused view r refusal.Memory read whole is none on = rw is tt

pub next-shorter : (most n : ℕ) (ts after : List Token) (f : Found) → reads most n ts ≡ Some f → behind is_comma f.rest ≡ Some after → length after < length ts
next-shorter most n ts after f e next = omega (arith, reads-shorter most n ts f e, ap length (behind-some is_comma comma is_comma-comma f.rest after next))
